-- A sector without words has no line.
use Rattle.std.proofs.Common.{◌≡◌, ◌+◌, ◌*◌, ◌++◌, length, sym, ap, ◌∙◌, arith}
use Rattle.lvdc_machine.specs.Resumed.{state_from}
use Rattle.lvdc_lines.specs.Noted.{lines_below}
use Rattle.lvdc_lines.proofs.LineLists.{lines_below_none, lines_below_blank}
use Rattle.lvdc_report.specs.Voted.{shown_line}
use Rattle.lvdc_report.proofs.words.put_shown_memory.Goals as goal
use Rattle.lvdc_report.proofs.words.put_shown_memory.Goals.{then-has_words+in_ok-put_shown_sector, else-has_words}

pub loop-sector-init : goal.loop-sector-init
loop-sector-init c = record {
  lines = λ o first n ds s.
      lines_below_none (shown_line c.args.machine.now.banks o (state_from c.args.machine.now.end c.args.machine.now.mode o first n)) c.args.out.now.items;
  short = omega arith;
}

pub loop-sector-preserved : goal.loop-sector-preserved
loop-sector-preserved c =
    let sector = c.loop-sector.sector in
    let next : 256 * sector + 256 ≡ 256 * (sector + 1) = omega arith in
    elim c.if-has_words.branch [
      | then-has_words+in_ok-put_shown_sector w ↦ record {
        lines = λ o first n ds s.
            let v = state_from c.args.machine.now.end c.args.machine.now.mode o first n in
            ap (λ v. v.items) w.out-is ∙ w.in_ok-put_shown_sector.ensures.lines o first n ds s c.args.out.now.items (c.loop-sector.invariant.lines o first n ds s)
            ∙ ap (λ k. c.args.out.now.items ++ lines_below (shown_line c.args.machine.now.banks o v) k) next;
        short = omega (arith, ap (λ v. length v.items) w.out-is, w.in_ok-put_shown_sector.ensures.short, c.loop-sector.invariant.short);
      }
      | else-has_words w ↦ record {
        lines = λ o first n ds s.
            let v = state_from c.args.machine.now.end c.args.machine.now.mode o first n in
            let line = shown_line c.args.machine.now.banks o v in
            let none = lines_below_blank line (256 * sector) 256 (λ i less.
            c.has_words.ensures w.if-has_words.false o first n ds s (256 * sector + i) (omega (arith, less))) in
            ap (λ v. v.items) w.out-is ∙ c.loop-sector.invariant.lines o first n ds s ∙ ap (λ text. c.args.out.now.items ++ text) (sym none)
            ∙ ap (λ k. c.args.out.now.items ++ lines_below line k) next;
        short = omega (arith, ap (λ v. length v.items) w.out-is, c.loop-sector.invariant.short);
      }
    ]

pub returns-clause-lines : goal.returns-clause-lines
returns-clause-lines c = λ o first n ds s.
    let v = state_from c.args.machine.now.end c.args.machine.now.mode o first n in
    let all : 256 * c.loop-sector.sector ≡ 32768 = omega arith in
    c.loop-sector.invariant.lines o first n ds s
    ∙ ap (λ k. c.args.out.now.items ++ lines_below (shown_line c.args.machine.now.banks o v) k) all
