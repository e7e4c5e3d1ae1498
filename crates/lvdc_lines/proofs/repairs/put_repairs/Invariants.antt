use Rattle.std.proofs.Common.{◌≡◌, ◌<◌, ◌≤◌, ◌^◌, ◌++◌, All, drop, take, length}
use Rattle.lvdc_map.specs.Address.{IsAddress}
use Rattle.lvdc_model.specs.declared.repair.Repair.{Repair}
use Rattle.lvdc_lines.specs.Noted.{lines_of, repair_line}
use Rattle.lvdc_lines.proofs.repairs.put_repairs.Given as goal

abbrev pub invariant-loop-repair : goal.invariant-loop-repair
invariant-loop-repair l = record {
  lines : l.out.items ++ lines_of repair_line (drop l.repair-index l.repairs) ≡ l.initial.out.items ++ lines_of repair_line l.repairs;
  short : All (λ (r : Repair). r.step < 10 ^ 7 → length (repair_line r) ≤ 35) (take l.repair-index l.repairs);
  at : All (λ (r : Repair). IsAddress r.at) (take l.repair-index l.repairs);
}
