-- Worked values of the definitions.
use Rattle.std.proofs.Common.{◌≡◌, refl, List, [], ◌∷◌, true, false, Some, None}
use Rattle.lvdc_word.specs.Cell.{code_of, with_stuck}
use Rattle.lvdc_map.specs.Address.{Spot}
use Rattle.lvdc_fault.specs.declared.event.Event.{Event}
use Rattle.lvdc_fault.specs.declared.event.Event.TheVariants.{Flip, Force, Lag, Deaf, Damage, Stick, Dead}
use Rattle.lvdc_fault.specs.Script.{wrong_module, is_wrong, is_deaf, active_events}
use Rattle.lvdc_fault.specs.Damage.{damaged, stuck, is_dead, shown_of}
use Rattle.lvdc_fault.specs.Recoverable.{is_recovered, shown_by}

-- a place in pair 0, another one of its sector, one of another sector, and one of another pair
abbrev here : Spot
here = record { pair = 0; sector = 1; loc = 0 }

abbrev next : Spot
next = record { pair = 0; sector = 1; loc = 1 }

abbrev below : Spot
below = record { pair = 0; sector = 2; loc = 0 }

abbrev beyond : Spot
beyond = record { pair = 2; sector = 1; loc = 0 }

-- ---- memory

-- two STICK lines that meet in bits 1 and 2, from step 3 to 5
abbrev sticks : List Event
sticks = Stick 0 here 0 5 0o17 0o5 ∷ Stick 0 here 3 9 0o6 0o2 ∷ []

one_stick : stuck sticks 2 0 here ≡ record { mask = 0o17; value = 0o5 }
unfolding with_stuck
one_stick = refl

a_later_stick_over_an_earlier_one : stuck sticks 3 0 here ≡ record { mask = 0o17; value = 0o3 }
unfolding with_stuck
a_later_stick_over_an_earlier_one = refl

the_later_stick_alone : stuck sticks 6 0 here ≡ record { mask = 0o6; value = 0o2 }
unfolding with_stuck
the_later_stick_alone = refl

nothing_after_the_last_step : stuck sticks 10 0 here ≡ record { mask = 0; value = 0 }
nothing_after_the_last_step = refl

the_other_twin_is_free : stuck sticks 3 1 here ≡ record { mask = 0; value = 0 }
the_other_twin_is_free = refl

the_next_location_is_free : stuck sticks 3 0 next ≡ record { mask = 0; value = 0 }
the_next_location_is_free = refl

another_sector_is_free : stuck sticks 3 0 below ≡ record { mask = 0; value = 0 }
another_sector_is_free = refl

another_pair_is_free : stuck sticks 3 0 beyond ≡ record { mask = 0; value = 0 }
another_pair_is_free = refl

the_place_in_another_pair_sticks : stuck (Stick 1 beyond 0 5 0o17 0o5 ∷ []) 2 1 beyond ≡ record { mask = 0o17; value = 0o5 }
unfolding with_stuck
the_place_in_another_pair_sticks = refl

a_stuck_cell_is_shown : shown_of sticks 3 0 here 0o74 ≡ 0o63
unfolding with_stuck
a_stuck_cell_is_shown = refl

-- two DAMAGE lines of one step, and one of the next
damage_adds_up : damaged 4 1 here (Damage 1 here 4 0o3 ∷ Damage 1 here 5 0o10 ∷ Damage 1 here 4 0o6 ∷ []) 0 ≡ 0o5
damage_adds_up = refl

the_other_twin_is_whole : damaged 4 0 here (Damage 1 here 4 0o3 ∷ []) 0 ≡ 0
the_other_twin_is_whole = refl

the_next_location_is_whole : damaged 4 1 next (Damage 1 here 4 0o3 ∷ []) 0 ≡ 0
the_next_location_is_whole = refl

another_pair_is_whole : damaged 4 1 beyond (Damage 1 here 4 0o3 ∷ []) 0 ≡ 0
another_pair_is_whole = refl

a_place_in_another_pair_is_damaged : damaged 4 0 beyond (Damage 0 beyond 4 0o3 ∷ []) 0o1 ≡ 0o2
a_place_in_another_pair_is_damaged = refl

a_dead_twin_shows_zero : shown_of (Dead 1 0 2 4 ∷ []) 4 1 here (code_of 5) ≡ 0
a_dead_twin_shows_zero = refl

it_is_dead_at_every_place : shown_of (Dead 1 0 2 4 ∷ []) 2 1 below (code_of 5) ≡ 0
it_is_dead_at_every_place = refl

it_is_not_dead_before : is_dead (Dead 1 0 2 4 ∷ []) 1 1 0 ≡ false
it_is_not_dead_before = refl

its_twin_lives : is_dead (Dead 1 0 2 4 ∷ []) 3 0 0 ≡ false
its_twin_lives = refl

dead_in_its_pair_alone : is_dead (Dead 1 0 2 4 ∷ []) 3 1 2 ≡ false
dead_in_its_pair_alone = refl

dead_in_another_pair : is_dead (Dead 0 2 2 4 ∷ []) 3 0 2 ≡ true
dead_in_another_pair = refl

it_lives_again : shown_of (Dead 1 0 2 4 ∷ []) 5 1 here (code_of 5) ≡ code_of 5
unfolding with_stuck
it_lives_again = refl

-- ---- copies

-- a mask of 0 is a fault
a_flip_of_no_bit_is_wrong : is_wrong (Flip 3 1 4 4 0 0 ∷ []) 4 3 1 ≡ true
a_flip_of_no_bit_is_wrong = refl

two_copies_in_one_step : wrong_module (Flip 3 1 4 4 0 0o1000 ∷ Flip 3 2 4 4 0 0o1000 ∷ []) 4 ≡ Some 3
two_copies_in_one_step = refl

copies_one_and_three : wrong_module (Lag 6 1 0 9 ∷ Force 6 3 4 4 0 1 0 ∷ []) 4 ≡ Some 6
copies_one_and_three = refl

copies_two_and_three : wrong_module (Force 7 3 4 4 0 1 1 ∷ Flip 7 2 4 4 0 1 ∷ []) 4 ≡ Some 7
copies_two_and_three = refl

a_deaf_second_copy : wrong_module (Flip 3 1 4 4 0 1 ∷ Deaf 3 2 2 4 ∷ []) 4 ≡ Some 3
a_deaf_second_copy = refl

one_step_later : wrong_module (Flip 3 1 4 5 0 1 ∷ Deaf 3 2 2 4 ∷ []) 5 ≡ None
one_step_later = refl

one_step_before_the_first : wrong_module (Flip 3 1 4 5 0 1 ∷ Lag 3 2 5 5 ∷ []) 4 ≡ None
one_step_before_the_first = refl

the_lowest_of_two_modules : wrong_module (Lag 5 1 4 4 ∷ Lag 5 2 4 4 ∷ Lag 2 2 4 4 ∷ Lag 2 3 4 4 ∷ []) 4 ≡ Some 2
the_lowest_of_two_modules = refl

the_second_copy_is_deaf : is_deaf (Deaf 3 2 2 4 ∷ []) 4 3 2 ≡ true
the_second_copy_is_deaf = refl

the_first_hears : is_deaf (Deaf 3 2 2 4 ∷ []) 4 3 1 ≡ false
the_first_hears = refl

a_copy_that_lags_hears : is_deaf (Lag 3 2 2 4 ∷ []) 4 3 2 ≡ false
a_copy_that_lags_hears = refl

-- of a lag from 2 to 4, damage at 3 and a dead twin from 3
abbrev three : List Event
three = Lag 3 2 2 4 ∷ Damage 0 here 3 1 ∷ Dead 1 0 3 9 ∷ []

all_are_active_at_step_three : active_events three 3 ≡ three
all_are_active_at_step_three = refl

damage_is_of_one_step : active_events three 4 ≡ Lag 3 2 2 4 ∷ Dead 1 0 3 9 ∷ []
damage_is_of_one_step = refl

two_modules_with_one_each : wrong_module (Flip 3 1 4 4 0 0o1000 ∷ Flip 5 2 4 4 0 0o1000 ∷ []) 4 ≡ None
two_modules_with_one_each = refl

the_same_copy_twice : wrong_module (Flip 3 1 4 4 0 1 ∷ Deaf 3 1 4 4 ∷ []) 4 ≡ None
the_same_copy_twice = refl

-- ---- recovery

-- 05 and a flipped bit in each twin of a duplex pair
both_are_bad : is_recovered 0 here 5 (shown_by 0 0) ≡ false
both_are_bad = refl

one_is_bad : is_recovered 0 here 5 (shown_by 0 (code_of 5)) ≡ true
one_is_bad = refl

two_good_cells_that_differ : is_recovered 0 here 5 (shown_by (code_of 5) (code_of 6)) ≡ false
two_good_cells_that_differ = refl

the_other_module_of_a_simplex_pair : is_recovered 1 (record { pair = 4; sector = 1; loc = 0 }) 5 (shown_by 0 (code_of 5)) ≡ true
the_other_module_of_a_simplex_pair = refl

a_simplex_pair_has_no_other_twin : is_recovered 1 here 5 (shown_by 0 (code_of 5)) ≡ false
a_simplex_pair_has_no_other_twin = refl
