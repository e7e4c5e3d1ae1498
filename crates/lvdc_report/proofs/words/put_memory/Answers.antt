-- A sector in which every word is 0 has no line.
use Rattle.std.proofs.Common.{◌≡◌, ◌+◌, ◌*◌, ◌++◌, length, true, sym, ap, ◌∙◌, arith, rules}
use Rattle.lvdc_lines.specs.Noted.{lines_below}
use Rattle.lvdc_lines.proofs.LineLists.{lines_below_none, lines_below_blank}
use Rattle.lvdc_report.specs.Report.{plain_line}
use Rattle.lvdc_report.proofs.Blanks.{plain-blank}
use Rattle.lvdc_report.proofs.words.put_memory.Goals as goal
use Rattle.lvdc_report.proofs.words.put_memory.Goals.{then-not-is_blank+in_ok-put_sector, else-not-is_blank}

pub loop-sector-init : goal.loop-sector-init
loop-sector-init c = record {
  lines = λ m is. lines_below_none (plain_line c.args.plain.now.banks m) c.args.out.now.items;
  short = omega arith;
}

pub loop-sector-preserved : goal.loop-sector-preserved
loop-sector-preserved c =
    let sector = c.loop-sector.sector in
    let next : 256 * sector + 256 ≡ 256 * (sector + 1) = omega arith in
    elim c.if-not-is_blank.branch [
      | then-not-is_blank+in_ok-put_sector w ↦ record {
        lines = λ m is.
            ap (λ v. v.items) w.out-is ∙ w.in_ok-put_sector.ensures.lines m is c.args.out.now.items (c.loop-sector.invariant.lines m is)
            ∙ ap (λ n. c.args.out.now.items ++ lines_below (plain_line c.args.plain.now.banks m) n) next;
        short = omega (arith, ap (λ v. length v.items) w.out-is, w.in_ok-put_sector.ensures.short, c.loop-sector.invariant.short);
      }
      | else-not-is_blank w ↦ record {
        lines = λ m is.
            let blank : c.is_blank.result ≡ true = search rules in
            let line = plain_line c.args.plain.now.banks m in
            let none = lines_below_blank line (256 * sector) 256 (λ i less. plain-blank c.args.plain.now.banks c.args.plain.now.words m (256 * sector + i)
            (omega (arith, less, c.loop-sector-test.true)) is (c.is_blank.ensures blank (256 * sector + i) (omega (arith, less, c.loop-sector-test.true)) (omega (arith, less)))) in
            ap (λ v. v.items) w.out-is ∙ c.loop-sector.invariant.lines m is ∙ ap (λ text. c.args.out.now.items ++ text) (sym none)
            ∙ ap (λ n. c.args.out.now.items ++ lines_below line n) next;
        short = omega (arith, ap (λ v. length v.items) w.out-is, c.loop-sector.invariant.short);
      }
    ]

pub returns-clause-lines : goal.returns-clause-lines
returns-clause-lines c = λ m is.
    let all : 256 * c.loop-sector.sector ≡ 32768 = omega arith in
    c.loop-sector.invariant.lines m is ∙ ap (λ n. c.args.out.now.items ++ lines_below (plain_line c.args.plain.now.banks m) n) all
