use Rattle.std.proofs.Common.{sym, arith, ◌∙◌}
use Rattle.lvdc_fault.proofs.Lowest.{first_found, none_found, fails_next}
use Rattle.lvdc_forces.proofs.PartLaws.{two_marked}
use Rattle.lvdc_forces.proofs.known.lowest_of.Goals as goal

pub returns-then-has_two : goal.returns-then-has_two
returns-then-has_two c =
    sym (first_found (two_marked c.args.marks.now) 1 7 c.loop-number.number (omega arith) (omega arith) c.loop-number.invariant (sym c.has_two.ensures ∙ c.if-has_two.true))

pub loop-number-preserved : goal.loop-number-preserved
loop-number-preserved c =
    fails_next (two_marked c.args.marks.now) 1 c.loop-number.number c.loop-number.invariant (sym c.has_two.ensures ∙ c.if-has_two.false)

pub returns : goal.returns
returns c = sym (none_found (two_marked c.args.marks.now) 1 7 (λ j low high. c.loop-number.invariant j low (omega arith)))
