-- Worked scripts that mask by form, and some that don't: parity bits, the two halves of a cell, and each of the four pairs.
use Rattle.std.proofs.Common.{◌≡◌, ℕ, List, [], ◌∷◌, true, None, Option, Some, refl}
use Rattle.lvdc_map.specs.Address.{Spot}
use Rattle.lvdc_fault.specs.declared.event.Event.{Event}
use Rattle.lvdc_fault.specs.declared.event.Event.TheVariants.{Damage, Stick, Dead}
use Rattle.lvdc_withstands.specs.Form.{masks, first_unmet}
use Rattle.lvdc_withstands.specs.declared.condition.Condition.{Condition}
use Rattle.lvdc_withstands.specs.declared.condition.Condition.TheVariants.{Pairs, Places, Deaths}

-- location 005 of sector 01 of a pair
place : ℕ → Spot
place pair = record { pair = pair; sector = 1; loc = 5 }

-- ---- damage of a cell: bits 12 to 0 are a half with the parity bit 13, and bits 26 to 14 one with the parity bit 27

damage : ℕ → List Event
damage mask = Damage 0 (place 0) 4 mask ∷ []

-- a parity bit alone
parity_bit_13 : masks (damage 0o20000) 0 4 ≡ true
unfolding damage place
parity_bit_13 = refl

parity_bit_27 : masks (damage 0o1000000000) 0 4 ≡ true
unfolding damage place
parity_bit_27 = refl

-- with another bit of its half it isn't seen
bits_13_and_12 : first_unmet (damage 0o30000) 0 4 ≡ Some Places
unfolding damage place
bits_13_and_12 = refl

bits_27_and_26 : first_unmet (damage 0o1400000000) 0 4 ≡ Some Places
unfolding damage place
bits_27_and_26 = refl

-- bits 13 and 14 are of two halves
bits_14_and_13 : masks (damage 0o60000) 0 4 ≡ true
unfolding damage place
bits_14_and_13 = refl

-- two bits of each half
two_of_each_half : first_unmet (damage 0o140003) 0 4 ≡ Some Places
unfolding damage place
two_of_each_half = refl

-- two of the lower half, and one of the upper; all of the upper half are fourteen, an even number
two_below_and_one_above : masks (damage 0o40003) 0 4 ≡ true
unfolding damage place
two_below_and_one_above = refl

all_of_the_upper_half : first_unmet (damage 0o1777740000) 0 4 ≡ Some Places
unfolding damage place
all_of_the_upper_half = refl

-- no bit at all
no_bit : first_unmet (damage 0) 0 4 ≡ Some Places
unfolding damage place
no_bit = refl

-- ---- stuck bits: at most one of each half

stuck : ℕ → List Event
stuck mask = Stick 1 (place 0) 0 9 mask 0 ∷ []

stuck_13_and_12 : first_unmet (stuck 0o30000) 0 4 ≡ Some Places
unfolding stuck place
stuck_13_and_12 = refl

stuck_27_and_26 : first_unmet (stuck 0o1400000000) 0 4 ≡ Some Places
unfolding stuck place
stuck_27_and_26 = refl

stuck_14_and_13 : masks (stuck 0o60000) 0 4 ≡ true
unfolding stuck place
stuck_14_and_13 = refl

stuck_27_and_0 : masks (stuck 0o1000000001) 0 4 ≡ true
unfolding stuck place
stuck_27_and_0 = refl

-- ---- each of the four pairs

-- damage of a pair's twin 0 in a run where the pairs of these bits are simplex
damaged_in : ℕ → ℕ → Option Condition
damaged_in banks pair = first_unmet (Damage 0 (place pair) 4 1 ∷ []) banks 4

-- a pair that is simplex itself, and one beside three simplex pairs
each_simplex_pair : damaged_in 0b0001 0 ∷ damaged_in 0b0010 1 ∷ damaged_in 0b0100 2 ∷ damaged_in 0b1000 3 ∷ []
    ≡ Some Pairs ∷ Some Pairs ∷ Some Pairs ∷ Some Pairs ∷ []
unfolding damaged_in place
each_simplex_pair = refl

each_duplex_pair : damaged_in 0b1110 0 ∷ damaged_in 0b1101 1 ∷ damaged_in 0b1011 2 ∷ damaged_in 0b0111 3 ∷ [] ≡ None ∷ None ∷ None ∷ None ∷ []
unfolding damaged_in place
each_duplex_pair = refl

-- a pair's twin 1 dies for good, and its twin 0 was damaged
one_twin_dies : ℕ → Option Condition
one_twin_dies pair = first_unmet (Damage 0 (place pair) 2 1 ∷ Dead 1 pair 7 11 ∷ []) 0 4

each_pair_with_a_death : one_twin_dies 0 ∷ one_twin_dies 1 ∷ one_twin_dies 2 ∷ one_twin_dies 3 ∷ [] ≡ Some Deaths ∷ Some Deaths ∷ Some Deaths ∷ Some Deaths ∷ []
unfolding one_twin_dies place
each_pair_with_a_death = refl

-- a pair's twin 0 dies, and its twin 1 has a stuck bit
other_twin_dies : ℕ → Option Condition
other_twin_dies pair = first_unmet (Dead 0 pair 7 11 ∷ Stick 1 (place pair) 2 5 1 0 ∷ []) 0 4

each_pair_with_the_other_death : other_twin_dies 0 ∷ other_twin_dies 1 ∷ other_twin_dies 2 ∷ other_twin_dies 3 ∷ [] ≡ Some Deaths ∷ Some Deaths ∷ Some Deaths ∷ Some Deaths ∷ []
unfolding other_twin_dies place
each_pair_with_the_other_death = refl

-- in one pair twin 1 dies, and in the next twin 0 is damaged
one_twin_of_two_pairs : first_unmet (Dead 1 2 7 11 ∷ Damage 0 (place 3) 2 1 ∷ []) 0 4 ≡ None
unfolding place
one_twin_of_two_pairs = refl
