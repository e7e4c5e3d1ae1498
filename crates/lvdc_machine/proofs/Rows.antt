-- Worked rows of the voted machine: its room, its counts of steps, and what it notes.
use Rattle.std.proofs.Common.{◌≡◌, ℕ, true, false, [], ◌∷◌, None, Some, refl}
use Rattle.lvdc_map.specs.Address.{Spot}
use Rattle.lvdc_fault.specs.declared.verdict.Verdict.TheVariants.{Logic}
use Rattle.lvdc_model.specs.declared.outcome.Outcome.TheVariants.{Done, Inadmissible}
use Rattle.lvdc_machine.specs.Resumed.{steps_after, steps_since}
use Rattle.lvdc_machine.specs.Room.{pace_of, exchanges_left, repairs_left}
use Rattle.lvdc_machine.specs.Stands.{shown_by}
use Rattle.lvdc_machine.specs.Steps.{repair_noted, noted}
use Rattle.lvdc_machine.specs.View.{answer_of_end}
use Rattle.lvdc_machine.specs.declared.mode.Mode.TheVariants.{Guarded, Through}
use Rattle.lvdc_machine.specs.declared.shown.Shown.TheVariants.{Known, Unknown}

-- four steps of ten times are made, so one time is: nine exchanges are left where the machine judges, and 26 through every fault
exchanges_of_ten_times : (exchanges_left (pace_of Guarded) 4 10 ≡ 9) × (exchanges_left (pace_of Through) 4 10 ≡ 26)
exchanges_of_ten_times = (refl, refl)

-- two repairs in a time, and the third step of a time brings none; or one in each step
repairs_of_ten_times :
    (repairs_left (pace_of Guarded) 0 10 ≡ 20) × (repairs_left (pace_of Guarded) 2 10 ≡ 18) × (repairs_left (pace_of Guarded) 3 10 ≡ 18)
    × (repairs_left (pace_of Guarded) 4 10 ≡ 17) × (repairs_left (pace_of Through) 4 10 ≡ 26)
repairs_of_ten_times = (refl, refl, refl, refl, refl)

-- from a state in which nine steps were made
steps_of_a_resumed_run : (steps_after 9 4 ≡ 13) × (steps_since 9 13 ≡ 4) × (steps_after 0 4 ≡ 4) × (steps_since 0 4 ≡ 4)
steps_of_a_resumed_run = (refl, refl, refl, refl)

abbrev place : Spot
place = record { pair = 0; sector = 1; loc = 2 }

-- a read that rewrites a twin is noted behind the others
a_repair : noted {A = ℕ} (1 ∷ []) (Some 2) ≡ 1 ∷ 2 ∷ []
a_repair = refl

no_repair : (noted {A = ℕ} (1 ∷ []) None ≡ 1 ∷ []) × (repair_noted None 7 place true ≡ None)
    × (repair_noted (Some 1) 7 place false ≡ Some (record { step = 7; at = place; twin = 1; switched = false }))
no_repair = (refl, refl, refl)

-- no end is told as Done
told_end : (answer_of_end None ≡ Done) × (answer_of_end (Some (Inadmissible (Logic 4 3))) ≡ Inadmissible (Logic 4 3))
told_end = (refl, refl)

told_word : (shown_by true 5 ≡ Known 5) × (shown_by false 5 ≡ Unknown)
told_word = (refl, refl)
