use Rattle.std.proofs.Common.{sym, subst, ◌∙◌}
use Rattle.lvdc_forces.specs.Parts.{IsRightAt}
use Rattle.lvdc_forces.specs.declared.known.Known.{Known}
use Rattle.lvdc_forces.proofs.PartLaws.{known_by, known_none}
use Rattle.lvdc_forces.proofs.known.Known.of_parts.Goals as goal

pub returns-then-not-name_any : goal.returns-then-not-name_any
returns-then-not-name_any c script step events right =
    subst (IsRightAt script step) (sym c.none.ensures) (known_none script step c.args.parts.now (sym c.name_any.ensures ∙ c.if-not-name_any.true) right)

pub returns : goal.returns
returns c script step events right =
    let known : Known = record { force = record { any = c.any_of.result; deaf = c.any_deaf.result; marks = c.marks_of-marks.result; copies = c.copies_of-copies.result }; wrong = c.lowest_of.result } in
    known_by script step known c.totals-shares.result (λ n h. c.totals-shares.ensures n h ∙ right n h) c.marks_of-marks.ensures c.copies_of-copies.ensures c.any_of.ensures c.any_deaf.ensures
    c.lowest_of.ensures
