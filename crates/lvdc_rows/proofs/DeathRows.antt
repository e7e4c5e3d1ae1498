-- Worked memories with a dead twin: it shows 0, which is no good cell, whatever it stores.
use Rattle.std.proofs.Common.{◌≡◌, ℕ, List, [], ◌∷◌, true, false, Ok, Some, is_err, refl}
use Rattle.lvdc_word.specs.Cell.{code_of, is_good, with_stuck}
use Rattle.lvdc_map.specs.Address.{Spot}
use Rattle.lvdc_map.specs.Hop.{hop_of}
use Rattle.lvdc_fault.specs.Damage.{shown_of}
use Rattle.lvdc_fault.specs.declared.event.Event.{Event}
use Rattle.lvdc_fault.specs.declared.event.Event.TheVariants.{Stick, Dead}
use Rattle.lvdc_model.specs.Trial.{Trial}
use Rattle.lvdc_model.specs.Twins.{twins_at_start, read_answer}

-- location 000 of sector 01 of a pair
place : ℕ → Spot
place pair = record { pair = pair; sector = 1; loc = 0 }

-- a word 5 there in pair 0, and nothing else, under a script
trial : List Event → Trial
trial script =
    record {
      opening = record { image = record { at = place 0; word = 5 } ∷ []; banks = 0; start = hop_of 0o16; unplugs = []; devices = [] };
      script = script;
    }

-- ---- what a twin shows

the_cell_0_is_bad : (is_good 0 ≡ false) × (is_good 0o1000020000 ≡ true) × (code_of 0 ≡ 0o1000020000)
the_cell_0_is_bad = (refl, refl, refl)

a_dead_twin_shows_0 : shown_of (Dead 1 0 2 4 ∷ []) 2 1 (place 0) (code_of 5) ≡ 0
unfolding place
a_dead_twin_shows_0 = refl

-- stuck bits of a dead twin don't show
a_dead_twin_with_stuck_bits : shown_of (Stick 1 (place 0) 0 9 0o1000020000 0o1000020000 ∷ Dead 1 0 2 4 ∷ []) 4 1 (place 0) (code_of 5) ≡ 0
unfolding place with_stuck
a_dead_twin_with_stuck_bits = refl

-- of the bits of the mask those of the value are stuck at 1, the others at 0
stuck_bits : (with_stuck 5 3 1 ≡ 5) × (with_stuck 5 3 2 ≡ 6) × (with_stuck 5 3 0 ≡ 4) × (with_stuck 4 3 3 ≡ 7)
unfolding with_stuck
stuck_bits = (refl, refl, refl, refl)

alive_again : shown_of (Dead 1 0 2 4 ∷ []) 5 1 (place 0) (code_of 5) ≡ code_of 5
unfolding place with_stuck
alive_again = refl

the_other_twin_and_the_other_pairs : (shown_of (Dead 1 0 2 4 ∷ []) 3 0 (place 0) (code_of 5) ≡ code_of 5) × (shown_of (Dead 1 0 2 4 ∷ []) 3 1 (place 1) (code_of 5) ≡ code_of 5)
unfolding place with_stuck
the_other_twin_and_the_other_pairs = (refl, refl)

-- ---- what a read finds

-- the selected twin is dead: the other one answers, and is selected from then on
the_other_twin_answers : read_answer (trial (Dead 0 0 0 9 ∷ [])) 1 (twins_at_start (trial [])) (place 0) ≡ Ok (record { word = 5; repaired = Some 0; switched = true })
unfolding trial place with_stuck
the_other_twin_answers = refl

-- both are dead, or one is and the other is damaged
no_twin_answers : is_err (read_answer (trial (Dead 0 0 0 9 ∷ Dead 1 0 1 1 ∷ [])) 1 (twins_at_start (trial [])) (place 0)) ≡ true
unfolding trial place with_stuck
no_twin_answers = refl

-- a word that is 0 isn't there either
no_twin_answers_a_zero : is_err (read_answer (trial (Dead 0 0 0 9 ∷ Dead 1 0 1 1 ∷ [])) 1 (twins_at_start (trial [])) (record { pair = 0; sector = 2; loc = 0 })) ≡ true
unfolding trial place with_stuck
no_twin_answers_a_zero = refl
