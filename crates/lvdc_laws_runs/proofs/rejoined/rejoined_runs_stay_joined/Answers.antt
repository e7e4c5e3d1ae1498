use Rattle.std.proofs.Common.{refl}
use Rattle.lvdc_laws_runs.specs.Early.{fault_free}
use Rattle.lvdc_laws_runs.proofs.Rejoining.{stays-rejoined}
use Rattle.lvdc_laws_runs.proofs.rejoined.rejoined_runs_stay_joined.Goals as goal

pub returns : goal.returns
returns c = λ o times opens events joined later le.
    let law = c.laws_of_a_step.ensures in
    let free = fault_free o in
    stays-rejoined law.steps c.two_are_the_vote.ensures c.banks_are_held.ensures.duplex o (law.opens free opens)
    (λ n. c.no_faults_no_verdict.ensures free opens refl n) times events joined
    (λ v later f. c.following_shows.ensures.shows free later v f)
    (λ v later f. c.following_shows.ensures.end free later v f)
    (λ v later f. c.following_shows.ensures.steps free later v f)
    later le
