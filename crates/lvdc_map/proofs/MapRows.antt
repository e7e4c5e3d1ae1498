-- Worked values of the definitions.
use Rattle.std.proofs.Common.{◌≡◌, ℕ, refl, true, false, ◌∷◌, []}
use Rattle.lvdc_map.specs.Address.{Spot}
use Rattle.lvdc_map.specs.Banks.{union, bank_of, is_there, home, holds, held_at}
use Rattle.lvdc_map.specs.Hop.{hop_of, word_of_hop, after}
use Rattle.lvdc_map.specs.Memory.{word_at, filled_with, memory_of, are_rising}
use Rattle.lvdc_map.specs.Place.{a9, place_of}
use Rattle.lvdc_map.specs.declared.place.Place.TheVariants as place
use Rattle.lvdc_map.specs.declared.placed.Placed.{Placed}

-- an address in sector 03
abbrev in_three : ℕ → ℕ → Spot
in_three pair loc = record { pair = pair; sector = 3; loc = loc }

-- a word there
abbrev placed : ℕ → ℕ → ℕ → Placed
placed pair loc w = record { at = in_three pair loc; word = w }

-- ---- HOP constants

-- the constant of place 0/0/0/0 with data module 0 and sector 1 is 000000016, and after location 003 it is 000010016
after_three : word_of_hop (after (record (hop_of 0o16) { loc = 3 })) ≡ 0o10016
after_three = refl

the_fields_again : word_of_hop (hop_of 0o20016) ≡ 0o20016
the_fields_again = refl

-- 101 1011 1 10101010 011 0110 1 0 1
each_field : hop_of 0o267524665 ≡ record { imod = 5; isec = 11; syl = 1; loc = 0o252; dmod = 3; dsec = 6; dupin = true; dupdn = false }
each_field = refl

-- ---- banks

simplex_in_one_or_the_other : union 5 4 ≡ 5
simplex_in_one_or_the_other = refl

simplex_in_each : union 1 8 ≡ 9
simplex_in_each = refl

odd_module_of_a_duplex_pair : bank_of 0 5 ≡ 2
odd_module_of_a_duplex_pair = refl

odd_module_of_a_simplex_pair : bank_of 4 5 ≡ 6
odd_module_of_a_simplex_pair = refl

bank_six_is_there : is_there 4 (record { pair = 6; sector = 1; loc = 0 }) ≡ true
bank_six_is_there = refl

bank_five_is_not : is_there 4 (record { pair = 5; sector = 1; loc = 0 }) ≡ false
bank_five_is_not = refl

place_of_bank_six : home (in_three 6 0o41) ≡ in_three 2 0o41
place_of_bank_six = refl

twin_one_of_a_duplex_pair : holds 2 1 (in_three 3 0) ≡ true
twin_one_of_a_duplex_pair = refl

no_bank_seven_of_a_duplex_pair : holds 2 1 (in_three 7 0) ≡ false
no_bank_seven_of_a_duplex_pair = refl

even_bank_in_twin_zero : holds 2 0 (in_three 1 0) ≡ true
even_bank_in_twin_zero = refl

even_bank_in_twin_one : holds 2 1 (in_three 1 0) ≡ false
even_bank_in_twin_one = refl

odd_bank_in_twin_zero : holds 2 0 (in_three 5 0) ≡ false
odd_bank_in_twin_zero = refl

odd_bank_in_twin_one : holds 2 1 (in_three 5 0) ≡ true
odd_bank_in_twin_one = refl

held_by_twin_one_of_a_simplex_pair : held_at 2 1 (in_three 1 0o41) ≡ in_three 5 0o41
held_by_twin_one_of_a_simplex_pair = refl

held_by_twin_zero_of_a_simplex_pair : held_at 2 0 (in_three 1 0o41) ≡ in_three 1 0o41
held_by_twin_zero_of_a_simplex_pair = refl

held_by_twin_one_of_a_duplex_pair : held_at 2 1 (in_three 3 0o41) ≡ in_three 3 0o41
held_by_twin_one_of_a_duplex_pair = refl

-- ---- images

rising_over_a_pair : are_rising (placed 0 0o377 1 ∷ placed 1 0 1 ∷ placed 1 1 1 ∷ []) ≡ true
rising_over_a_pair = refl

the_same_address_twice : are_rising (placed 0 5 1 ∷ placed 0 5 2 ∷ []) ≡ false
the_same_address_twice = refl

the_third_falls : are_rising (placed 0 5 1 ∷ placed 0 7 1 ∷ placed 0 6 1 ∷ []) ≡ false
the_third_falls = refl

the_later_word_of_two : word_at (memory_of (placed 0 5 1 ∷ placed 0 6 2 ∷ placed 0 5 3 ∷ [])) (in_three 0 5) ≡ 3
the_later_word_of_two = refl

zero_where_no_word_is : word_at (memory_of (placed 0 5 1 ∷ [])) (in_three 1 5) ≡ 0
zero_where_no_word_is = refl

one_word_everywhere : word_at (filled_with 7) (in_three 1 5) ≡ 7
one_word_everywhere = refl

-- ---- operand addresses, in data module 3 and sector 06

highest_of_nine_bits : a9 0o400 ≡ true
highest_of_nine_bits = refl

eight_bits : a9 0o377 ≡ false
eight_bits = refl

in_the_data_sector : place_of 0 (hop_of 0o267524665) 0o101 ≡ place.Memory (record { pair = 1; sector = 6; loc = 0o101 })
in_the_data_sector = refl

in_the_residual_sector : place_of 2 (hop_of 0o267524665) 0o774 ≡ place.Memory (record { pair = 5; sector = 15; loc = 0o374 })
in_the_residual_sector = refl

product_quotient : place_of 0 (hop_of 0o267524665) 0o775 ≡ place.Pq
product_quotient = refl

saver_of_776 : place_of 0 (hop_of 0o267524665) 0o776 ≡ place.Saver (record { pair = 1; sector = 15; loc = 0o376 })
saver_of_776 = refl

saver_of_777 : place_of 0 (hop_of 0o267524665) 0o777 ≡ place.Saver (record { pair = 1; sector = 15; loc = 0o377 })
saver_of_777 = refl

no_saver_in_the_data_sector : place_of 0 (hop_of 0o267524665) 0o376 ≡ place.Memory (record { pair = 1; sector = 6; loc = 0o376 })
no_saver_in_the_data_sector = refl
