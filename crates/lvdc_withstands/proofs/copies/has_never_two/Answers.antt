use Rattle.std.proofs.Common.{ℕ, ap, ◌∙◌, arith, ⊎_elim}
use Rattle.std.proofs.lemmas.Bool.{cases_eq}
use Rattle.lvdc_fault.specs.Script.{two_wrong}
use Rattle.lvdc_withstands.proofs.copies.has_never_two.Goals as goal

pub returns-then-not-has_never_two_of : goal.returns-then-not-has_never_two_of
returns-then-not-has_never_two_of c =
    record { number = c.loop-number.number; low = omega arith; high = omega arith; two = c.if-not-has_never_two_of.ensures }

pub loop-number-preserved : goal.loop-number-preserved
loop-number-preserved c m low high =
    ⊎_elim (λ e step. ap (λ (k : ℕ). two_wrong c.args.lines.now step k) e ∙ c.if-not-has_never_two_of.ensures step)
    (λ other. c.loop-number.invariant m low (omega arith)) (cases_eq m c.loop-number.number)

pub returns : goal.returns
returns c m low high = c.loop-number.invariant m low (omega arith)
