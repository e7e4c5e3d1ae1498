use Rattle.std.proofs.Common.{◌<◌, ◌≤◌, ◌^◌, All, length, subst}
use Rattle.std.proofs.lemmas.List.{take_all}
use Rattle.std.proofs.lemmas.List.Elements.{All-more}
use Rattle.lvdc_map.specs.Address.{IsAddress}
use Rattle.lvdc_model.specs.declared.repair.Repair.{Repair}
use Rattle.lvdc_lines.specs.Noted.{repair_line}
use Rattle.lvdc_lines.proofs.LineLists.{lines_of_more, lines_of_done}
use Rattle.lvdc_lines.proofs.repairs.put_repairs.Goals as goal

pub loop-repair-preserved : goal.loop-repair-preserved
loop-repair-preserved c =
    let short = λ (r : Repair). r.step < 10 ^ 7 → length (repair_line r) ≤ 35 in
    let at = λ (r : Repair). IsAddress r.at in
    record {
      lines = lines_of_more repair_line c.loop-repair.repair-index c.args.repairs.now c.repair-item.result c.loop-repair.out.items c.put_repair_line.new.out.items _
          c.loop-repair-test.true c.repair-item.is c.in_ok-put_repair_line.ensures.line c.loop-repair.invariant.lines;
      short = All-more short c.args.repairs.now c.loop-repair.repair-index c.repair-item.result c.loop-repair-test.true c.loop-repair.invariant.short
          (subst short c.repair-item.is c.in_ok-put_repair_line.ensures.short);
      at = All-more at c.args.repairs.now c.loop-repair.repair-index c.repair-item.result c.loop-repair-test.true c.loop-repair.invariant.at
          (subst at c.repair-item.is c.in_ok-put_repair_line.ensures.at);
    }

pub returns-clause-lines : goal.returns-clause-lines
returns-clause-lines c =
    lines_of_done repair_line c.loop-repair.repair-index c.args.repairs.now c.loop-repair.out.items _ c.loop-repair-test.false
    c.loop-repair.invariant.lines

pub returns-clause-short : goal.returns-clause-short
returns-clause-short c =
    subst (All (λ (r : Repair). r.step < 10 ^ 7 → length (repair_line r) ≤ 35)) (take_all c.loop-repair.repair-index c.args.repairs.now c.loop-repair-test.false)
    c.loop-repair.invariant.short

pub returns-clause-at : goal.returns-clause-at
returns-clause-at c =
    subst (All (λ (r : Repair). IsAddress r.at)) (take_all c.loop-repair.repair-index c.args.repairs.now c.loop-repair-test.false) c.loop-repair.invariant.at
