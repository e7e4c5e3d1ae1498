-- Worked scripts that mask by form, and some that don't.
use Rattle.std.proofs.Common.{◌≡◌, ℕ, [], ◌∷◌, true, false, None, Some, refl}
use Rattle.lvdc_map.specs.Address.{Spot}
use Rattle.lvdc_fault.specs.declared.event.Event.TheVariants.{Damage, Stick, Dead}
use Rattle.lvdc_withstands.specs.Form.{is_odd, is_single, is_seen, none_twice, names_twin, masks, first_unmet}
use Rattle.lvdc_withstands.specs.declared.condition.Condition.TheVariants.{Pairs, Places, Deaths}

-- location 005 of a pair and a sector
place : ℕ → ℕ → Spot
place pair sector = record { pair = pair; sector = sector; loc = 5 }

-- one location of two sectors, and of two pairs, are two places
two_sectors : masks (Damage 0 (place 0 1) 4 1 ∷ Damage 0 (place 0 2) 5 1 ∷ []) 0 4 ≡ true
unfolding place
two_sectors = refl

two_pairs : masks (Damage 0 (place 0 1) 4 1 ∷ Damage 1 (place 1 1) 5 1 ∷ []) 0 4 ≡ true
unfolding place
two_pairs = refl

-- two locations of one sector too
two_locations : masks (Damage 0 (place 0 1) 4 1 ∷ Damage 0 (record { pair = 0; sector = 1; loc = 6 }) 5 1 ∷ []) 0 4 ≡ true
unfolding place
two_locations = refl

-- a twin that dies at step 7 and stays dead; one that is back before the last step, 11
dead_from_7 : first_unmet (Dead 1 0 7 11 ∷ []) 0 4 ≡ None
dead_from_7 = refl

dead_from_7_to_10 : first_unmet (Dead 1 0 7 10 ∷ []) 0 4 ≡ Some Deaths
dead_from_7_to_10 = refl

-- damage of the other twin before the death
other_twin_before : first_unmet (Damage 0 (place 0 1) 2 1 ∷ Dead 1 0 7 11 ∷ []) 0 4 ≡ Some Deaths
unfolding place
other_twin_before = refl

-- with pair 0 simplex: nothing of pair 0, and anything of pair 1
pair_0_simplex : first_unmet (Damage 0 (place 0 1) 4 1 ∷ []) 0b0001 4 ≡ Some Pairs
unfolding place
pair_0_simplex = refl

stuck_in_simplex_0 : first_unmet (Stick 1 (place 0 1) 4 9 1 0 ∷ []) 0b0001 4 ≡ Some Pairs
unfolding place
stuck_in_simplex_0 = refl

dead_in_simplex_0 : first_unmet (Dead 1 0 7 11 ∷ []) 0b0001 4 ≡ Some Pairs
dead_in_simplex_0 = refl

pair_1_beside_simplex_0 : first_unmet (Damage 0 (place 1 1) 4 1 ∷ Dead 0 1 7 11 ∷ []) 0b0001 4 ≡ None
unfolding place
pair_1_beside_simplex_0 = refl

-- with pair 3 simplex
pair_3_simplex : first_unmet (Damage 0 (place 3 1) 4 1 ∷ []) 0b1000 4 ≡ Some Pairs
unfolding place
pair_3_simplex = refl

-- ---- damage and stuck bits, as a reader of parity sees them

three_bits : is_odd 7 ≡ true
three_bits = refl

no_half : is_single 16384 ≡ false
no_half = refl

-- three bits of the lower half, two of the upper one, and two stuck bits of the upper one
seen_by_halves : is_seen (Damage 0 (place 0 1) 4 28) ∷ is_seen (Damage 0 (place 0 1) 4 49152) ∷ is_seen (Stick 0 (place 0 1) 4 9 49152 0) ∷ []
    ≡ true ∷ false ∷ false ∷ []
unfolding place
seen_by_halves = refl

the_last_two_places : none_twice (place 0 1 ∷ place 0 2 ∷ place 0 2 ∷ []) ≡ false
unfolding place
the_last_two_places = refl

twins_of_pair_0 : names_twin 0 1 (Stick 1 (place 0 1) 4 9 1 0) ∷ names_twin 0 1 (Stick 0 (place 0 1) 4 9 1 0) ∷ [] ≡ true ∷ false ∷ []
unfolding place
twins_of_pair_0 = refl
