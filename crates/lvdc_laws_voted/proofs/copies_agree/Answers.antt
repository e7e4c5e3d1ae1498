use Rattle.std.proofs.Common.{ℕ, List, map, subst}
use Rattle.lvdc_vote.specs.Copies.{vote_of}
use Rattle.lvdc_modules.specs.Rows.{rows, bus_of}
use Rattle.lvdc_fault.specs.Script.{is_wrong}
use Rattle.lvdc_laws_phases.specs.States.{after_phase}
use Rattle.lvdc_model.specs.Voted.{next_copies}
use Rattle.lvdc_laws_voted.specs.Copies.{Agree}
use Rattle.lvdc_laws_voted.proofs.Copies.{votes-states, step-agrees}
use Rattle.lvdc_laws_voted.proofs.copies_agree.Goals as goal

pub returns-clause-votes : goal.returns-clause-votes
returns-clause-votes c = votes-states c.two_are_the_vote.ensures

pub returns-clause-latch : goal.returns-clause-latch
returns-clause-latch c script step wrong copies states memory port fits logic g =
    subst (λ (s : List (List ℕ)). Agree (is_wrong script step) 1 (next_copies script step 1 rows copies copies (bus_of (map vote_of copies) memory port)) (after_phase s memory port))
    (votes-states c.two_are_the_vote.ensures wrong 1 copies states g)
    (step-agrees c.none_wrong.ensures script step wrong copies states (bus_of (map vote_of copies) memory port) fits logic g)
