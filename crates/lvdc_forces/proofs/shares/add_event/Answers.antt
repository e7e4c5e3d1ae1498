use Rattle.std.proofs.Common.{◌+◌, ◌/◌, ◌%◌, ap, sym, ◌∙◌, rules}
use Rattle.lvdc_fault.specs.Script.{is_number}
use Rattle.lvdc_forces.specs.Shares.{share_at}
use Rattle.lvdc_forces.proofs.Joins.{idle_next}
use Rattle.lvdc_forces.proofs.PartLaws.{added}
use Rattle.lvdc_forces.proofs.shares.add_event.Goals as goal

pub returns-in-Some-clause-shares : goal.returns-in-Some-clause-shares
returns-in-Some-clause-shares c n h =
    added c.args.step n c.in-Some.number c.args.shares.now c.args.event.now c.and.result _ (search rules) c.in-Some.ensures.within
    (c.number_of_copy.ensures.acts n h ∙ ap (is_number n) c.in-Some.is) c.and.ensures

pub returns-in-None-clause-shares : goal.returns-in-None-clause-shares
returns-in-None-clause-shares c n h =
    sym (idle_next c.args.step (n / 3 + 1) (n % 3 + 1) (share_at c.args.shares.now n) c.args.event.now (c.number_of_copy.ensures.acts n h ∙ ap (is_number n) c.in-None.is))
