use Rattle.lvdc_laws_runs.proofs.Staying.{stays-joined}
use Rattle.lvdc_laws_runs.proofs.joined.joined_runs_stay_joined.Goals as goal

pub returns : goal.returns
returns c = λ o step opens joined.
    let law = c.laws_of_a_step.ensures in
    stays-joined law.steps c.two_are_the_vote.ensures c.banks_are_held.ensures.duplex o (law.opens o opens) step joined
