use Rattle.std.proofs.Common.{◌≡◌, List, subst, sym}
use Rattle.lvdc_fault.specs.declared.event.Event.{Event}
use Rattle.lvdc_fault.specs.declared.verdict.Verdict.TheVariants.{Admissible}
use Rattle.lvdc_laws_phases.specs.Standing.{Standing}
use Rattle.lvdc_model.specs.Judging.{first_bad_below}
use Rattle.lvdc_laws_voted.proofs.Unhurt.{without_events, none-bad}
use Rattle.lvdc_laws_voted.proofs.no_faults_no_verdict.Goals as goal

pub returns : goal.returns
returns c o ok empty n =
    let law = c.laws_of_a_step.ensures in
    subst (λ (script : List Event). first_bad_below (record { opening = o.opening; script = script }) n ≡ Admissible) (sym empty)
    (none-bad Standing law.steps o.opening (law.opens (without_events o.opening) ok) n)
