-- Worked values of the definitions.
use Rattle.std.proofs.Common.{◌≡◌, refl, [], ◌∷◌, true, false, None, Some}
use Rattle.lvdc_map.specs.Address.{Spot}
use Rattle.lvdc_fault.specs.declared.event.Event.TheVariants.{Flip, Lag, Deaf, Damage, Stick, Dead}
use Rattle.lvdc_withstands.specs.Form.{masks, first_unmet}
use Rattle.lvdc_withstands.specs.declared.condition.Condition.TheVariants.{Copies, Pairs, Places, Deaths}

abbrev here : Spot
here = record { pair = 0; sector = 1; loc = 0 }

abbrev there : Spot
there = record { pair = 0; sector = 1; loc = 1 }

abbrev beyond : Spot
beyond = record { pair = 1; sector = 1; loc = 0 }

-- ---- copies

-- copy 1 of module 3 is wrong up to step 4, and copy 2 from step 5 on
one_after_the_other : masks (Lag 3 1 0 4 ∷ Deaf 3 2 5 9 ∷ []) 0 4 ≡ true
one_after_the_other = refl

two_in_one_step : masks (Lag 3 1 0 5 ∷ Deaf 3 2 5 9 ∷ []) 0 4 ≡ false
two_in_one_step = refl

-- a run of one time has the steps 0 to 2
two_after_the_end : masks (Lag 3 1 0 5 ∷ Deaf 3 2 3 9 ∷ []) 0 1 ≡ true
two_after_the_end = refl

two_in_the_last_step : masks (Lag 3 1 0 5 ∷ Deaf 3 2 2 9 ∷ []) 0 1 ≡ false
two_in_the_last_step = refl

one_copy_of_each_module : masks (Lag 3 1 0 9 ∷ Flip 4 2 0 9 0 1 ∷ Flip 3 1 2 2 0 0 ∷ []) 0 3 ≡ true
one_copy_of_each_module = refl

-- ---- memory

odd_in_both_halves : masks (Damage 0 here 4 0o1000000001 ∷ []) 0 4 ≡ true
odd_in_both_halves = refl

odd_in_one_half : masks (Damage 0 here 4 0o40003 ∷ []) 0 4 ≡ true
odd_in_one_half = refl

-- an odd number of bits in a cell is one in a half, and an even one may be odd in both halves
two_in_one_half : masks (Damage 0 here 4 0o3 ∷ []) 0 4 ≡ false
two_in_one_half = refl

one_stuck_in_each_half : masks (Stick 0 here 0 9 0o1000000001 0 ∷ []) 0 4 ≡ true
one_stuck_in_each_half = refl

-- two stuck bits of one half may both change
two_stuck_in_one_half : masks (Stick 0 here 0 9 0o3 0 ∷ []) 0 4 ≡ false
two_stuck_in_one_half = refl

-- of three stuck bits of one half two may change
three_stuck_in_one_half : masks (Stick 0 here 0 9 0o7 0 ∷ []) 0 4 ≡ false
three_stuck_in_one_half = refl

a_simplex_pair : masks (Damage 0 here 4 1 ∷ []) 1 4 ≡ false
a_simplex_pair = refl

another_pair_is_simplex : masks (Damage 0 here 4 1 ∷ []) 2 4 ≡ true
another_pair_is_simplex = refl

two_places : masks (Damage 0 here 4 1 ∷ Stick 1 there 0 9 1 0 ∷ []) 0 4 ≡ true
two_places = refl

one_place_of_two_twins : masks (Damage 0 here 4 1 ∷ Stick 1 here 8 9 1 0 ∷ []) 0 4 ≡ false
one_place_of_two_twins = refl

one_place_of_one_twin : masks (Damage 0 here 4 1 ∷ Damage 0 here 5 1 ∷ []) 0 4 ≡ false
one_place_of_one_twin = refl

the_second_after_the_end : masks (Damage 0 here 4 1 ∷ Stick 1 here 12 13 1 0 ∷ []) 0 4 ≡ true
the_second_after_the_end = refl

-- ---- dead twins

dead_to_the_end : masks (Dead 1 0 5 11 ∷ []) 0 4 ≡ true
dead_to_the_end = refl

dead_to_the_end_less_one_step : masks (Dead 1 0 5 10 ∷ []) 0 4 ≡ false
dead_to_the_end_less_one_step = refl

damage_beside_a_dead_twin : masks (Damage 0 here 2 1 ∷ Dead 1 0 5 11 ∷ []) 0 4 ≡ false
damage_beside_a_dead_twin = refl

damage_in_a_dead_twin : masks (Damage 1 here 2 1 ∷ Dead 1 0 5 11 ∷ []) 0 4 ≡ true
damage_in_a_dead_twin = refl

both_twins_dead : masks (Dead 0 0 5 11 ∷ Dead 1 0 8 11 ∷ []) 0 4 ≡ false
both_twins_dead = refl

one_twin_of_each_pair : masks (Dead 0 0 5 11 ∷ Dead 1 1 8 11 ∷ []) 0 4 ≡ true
one_twin_of_each_pair = refl

-- ---- which condition is told

-- a run of two times has the steps 0 to 5: two lines of one copy, damage of a dead twin, a bit in each half, and a line after the run
all_met : first_unmet (Flip 5 1 0 9 0 1 ∷ Lag 5 1 2 3 ∷ Lag 4 2 0 5 ∷ Dead 0 1 3 5 ∷ Damage 0 beyond 4 1 ∷ Damage 0 here 2 0o40001
    ∷ Stick 1 there 0 2 0o40001 0 ∷ Damage 1 here 6 3 ∷ []) 0 2 ≡ None
all_met = refl

two_copies : first_unmet (Flip 5 1 0 3 0 1 ∷ Lag 5 2 3 9 ∷ []) 0 2 ≡ Some Copies
two_copies = refl

-- the pair is named by a death that ends early, too
simplex_before_a_death : first_unmet (Damage 0 here 0 1 ∷ Dead 0 1 0 1 ∷ []) 1 2 ≡ Some Pairs
simplex_before_a_death = refl

two_lines_at_a_place : first_unmet (Damage 0 here 0 1 ∷ Stick 1 here 5 5 0 0 ∷ []) 0 2 ≡ Some Places
two_lines_at_a_place = refl

unseen_damage : first_unmet (Damage 0 here 0 3 ∷ []) 0 2 ≡ Some Places
unseen_damage = refl

unseen_stuck_bits : first_unmet (Stick 0 here 0 5 7 0 ∷ []) 0 2 ≡ Some Places
unseen_stuck_bits = refl

back_in_the_last_step : first_unmet (Dead 0 1 3 4 ∷ []) 0 2 ≡ Some Deaths
back_in_the_last_step = refl

other_twin_before_the_death : first_unmet (Dead 0 1 3 5 ∷ Damage 1 beyond 0 1 ∷ []) 0 2 ≡ Some Deaths
other_twin_before_the_death = refl

-- where none is met the first one is told, and so on
none_met : first_unmet (Lag 3 1 0 5 ∷ Deaf 3 2 5 9 ∷ Damage 0 here 4 3 ∷ Dead 0 1 0 1 ∷ []) 1 2 ≡ Some Copies
none_met = refl

all_but_copies : first_unmet (Damage 0 here 4 3 ∷ Dead 0 1 0 1 ∷ []) 1 2 ≡ Some Pairs
all_but_copies = refl

places_before_deaths : first_unmet (Damage 0 here 4 3 ∷ Dead 0 1 0 1 ∷ []) 0 2 ≡ Some Places
places_before_deaths = refl
