-- A word that is 0 and known has no line.
use Rattle.std.proofs.Common.{◌≡◌, ◌+◌, ◌*◌, ◌++◌, ◌<◌, true, length, sym, ◌∙◌, ap, arith, rules}
use Rattle.std.proofs.lemmas.List.{append-nil}
use Rattle.lvdc_map.specs.Address.{spot_at}
use Rattle.lvdc_machine.specs.Resumed.{state_from}
use Rattle.lvdc_lines.specs.Noted.{lines_below}
use Rattle.lvdc_lines.proofs.LineLists.{lines_below_more}
use Rattle.lvdc_report.specs.Voted.{shown_line}
use Rattle.lvdc_report.proofs.Blanks.{address, number-back, shown-blank}
use Rattle.lvdc_report.proofs.words.put_shown_sector.Goals as goal
use Rattle.lvdc_report.proofs.words.put_shown_sector.Goals.{then-not-is_zero+in_ok-put_shown_line, else-not-is_zero}

pub loop-number-init : goal.loop-number-init
loop-number-init c = record { lines = λ o first n ds s before so_far. so_far; short = omega arith; from = omega arith }

pub loop-number-preserved : goal.loop-number-preserved
loop-number-preserved c = elim c.if-not-is_zero.branch [
  | then-not-is_zero+in_ok-put_shown_line w ↦ record {
    lines = λ o first n ds s before so_far.
        let v = state_from c.args.machine.now.end c.args.machine.now.mode o first n in
        ap (λ v. v.items) w.out-is ∙ lines_below_more (shown_line c.args.machine.now.banks o v) c.loop-number.number
        before c.loop-number.out.items w.put_shown_line.new.out.items
        (c.loop-number.invariant.lines o first n ds s before so_far) (rw w.numbered.ensures at (w.in_ok-put_shown_line.ensures.line o first n ds s));
    short = omega (arith, ap (λ v. length v.items) w.out-is, w.in_ok-put_shown_line.ensures.short, c.loop-number.invariant.short, c.loop-number.invariant.from);
    from = omega (arith, c.loop-number.invariant.from);
  }
  | else-not-is_zero w ↦ record {
    lines = λ o first n ds s before so_far.
        let v = state_from c.args.machine.now.end c.args.machine.now.mode o first n in
        let number = c.loop-number.number in
        let zero : c.is_zero.result ≡ true = search rules in
        let small : number < 32768 = omega (arith, c.loop-number-test.true, c.requires) in
        let none = shown-blank c.args.machine.now.banks o v number
        (c.is_zero.ensures zero o first n ds s (spot_at number) (address number small) (number-back number)) in
        ap (λ v. v.items) w.out-is ∙ lines_below_more (shown_line c.args.machine.now.banks o v) number before c.loop-number.out.items c.loop-number.out.items
        (c.loop-number.invariant.lines o first n ds s before so_far)
        (sym (append-nil c.loop-number.out.items) ∙ ap (λ text. c.loop-number.out.items ++ text) (sym none));
    short = omega (arith, ap (λ v. length v.items) w.out-is, c.loop-number.invariant.short, c.loop-number.invariant.from);
    from = omega (arith, c.loop-number.invariant.from);
  }
]

pub returns-clause-lines : goal.returns-clause-lines
returns-clause-lines c = λ o first n ds s before so_far.
    let v = state_from c.args.machine.now.end c.args.machine.now.mode o first n in
    let all : c.loop-number.number ≡ 256 * c.args.sector + 256 = omega (arith, c.loop-number.invariant.from) in
    c.loop-number.invariant.lines o first n ds s before so_far
    ∙ ap (λ k. before ++ lines_below (shown_line c.args.machine.now.banks o v) k) all
