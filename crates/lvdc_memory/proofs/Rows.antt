-- Worked rows of what a script puts in force.
use Rattle.std.proofs.Common.{◌≡◌, true, false, [], ◌∷◌, None, Some, refl}
use Rattle.lvdc_word.specs.Cell.{with_stuck}
use Rattle.lvdc_map.specs.Address.{Spot}
use Rattle.lvdc_fault.specs.declared.event.Event.TheVariants.{Damage, Stick, Dead}
use Rattle.lvdc_fault.specs.Damage.{stuck_beside}
use Rattle.lvdc_memory.specs.Faults.{is_dead_since, sticks_at, kills_in}
use Rattle.lvdc_memory.specs.News.{is_new}
use Rattle.lvdc_memory.specs.Order.{number_of_event}
use Rattle.lvdc_memory.specs.Parts.{stuck_first, is_first_dead}

abbrev place : Spot
place = record { pair = 2; sector = 3; loc = 4 }

-- where they meet, the bits that stuck later count
later_bits_count : stuck_beside (record { mask = 0b0110; value = 0b0010 }) 0b0011 0b0001 ≡ record { mask = 0b0111; value = 0b0001 }
unfolding with_stuck
later_bits_count = refl

-- an event sticks bits at its twin and place alone
stuck_here : (sticks_at 1 place (Stick 1 place 5 9 3 1) ≡ true) × (sticks_at 0 place (Stick 1 place 5 9 3 1) ≡ false)
    × (sticks_at 1 (record place { loc = 5 }) (Stick 1 place 5 9 3 1) ≡ false) × (sticks_at 1 place (Damage 1 place 5 3) ≡ false)
stuck_here = (refl, refl, refl, refl)

-- and kills its twin of its pair alone
killed_here : (kills_in 1 2 (Dead 1 2 5 9) ≡ true) × (kills_in 0 2 (Dead 1 2 5 9) ≡ false) × (kills_in 1 3 (Dead 1 2 5 9) ≡ false)
killed_here = (refl, refl, refl)

-- dead is what the step in force kills; where none is in force nothing is
dead_in_a_step : (is_dead_since (Some 9) (Dead 1 2 5 9 ∷ []) 1 2 ≡ true) × (is_dead_since (Some 10) (Dead 1 2 5 9 ∷ []) 1 2 ≡ false)
    × (is_dead_since None (Dead 1 2 5 9 ∷ []) 1 2 ≡ false)
dead_in_a_step = (refl, refl, refl)

-- an event is new where it begins, and at the step after its last one; damage is at its step
new_in_a_step : (is_new None 5 (Stick 1 place 5 9 3 1) ≡ true) × (is_new (Some 5) 6 (Stick 1 place 5 9 3 1) ≡ false)
    × (is_new (Some 9) 10 (Stick 1 place 5 9 3 1) ≡ true) × (is_new (Some 4) 5 (Damage 1 place 5 3) ≡ true) × (is_new (Some 5) 6 (Damage 1 place 5 3) ≡ false)
new_in_a_step = (refl, refl, refl, refl, refl)

-- damage comes first in the order, then the twins of pairs, then the places
numbers : (number_of_event (Damage 1 place 5 3) ≡ 0) × (number_of_event (Dead 1 2 5 9) ≡ 7) × (number_of_event (Stick 0 place 5 9 3 1) ≡ 17937)
    × (number_of_event (Stick 1 place 5 9 3 1) ≡ 17938)
numbers = (refl, refl, refl, refl)

-- a part tells what its events stick where the first of them does
told_where_the_first_sticks : (stuck_first (Stick 1 place 5 9 0b0110 0b0010 ∷ Stick 1 place 7 9 0b0011 0b0001 ∷ []) 7 ≡ record { mask = 0b0111; value = 0b0001 })
    × (stuck_first (Stick 1 place 5 9 0b0110 0b0010 ∷ Stick 0 place 5 9 0b0011 0b0001 ∷ []) 7 ≡ record { mask = 0b0110; value = 0b0010 })
    × (stuck_first (Stick 1 place 5 6 0b0110 0b0010 ∷ []) 7 ≡ record { mask = 0; value = 0 })
unfolding with_stuck
told_where_the_first_sticks = (refl, refl, refl)

-- and whether the twin is dead that the first of them kills
told_of_the_first_dead : (is_first_dead (Dead 0 1 5 9 ∷ Dead 0 1 20 30 ∷ []) 20 ≡ true) × (is_first_dead (Dead 0 1 5 9 ∷ Dead 1 1 20 30 ∷ []) 20 ≡ false)
told_of_the_first_dead = (refl, refl)
