-- Worked places: where an instruction is fetched, which syllable of the word it is, and what comes after it.
use Rattle.std.proofs.Common.{◌≡◌, refl, true, false}
use Rattle.lvdc_map.specs.Hop.{HopConstant, hop_of, word_of_hop, after, fetch_of, syllable_at}
use Rattle.lvdc_map.specs.Place.{jumped, with_data, data_spot}

-- instruction module 5, sector 13 (octal), syllable 1, location 252; data module 3, sector 6; DUPIN 1, DUPDN 0
both_modules : HopConstant
both_modules = hop_of 0o267524665

-- ---- the syllable of a word: 1 is its upper half, 0 its lower

the_upper_half : syllable_at both_modules 0o123456701 ≡ 0o5162
unfolding both_modules
the_upper_half = refl

the_lower_half : syllable_at (record both_modules { syl = 0 }) 0o123456701 ≡ 0o16701
unfolding both_modules
the_lower_half = refl

-- ---- the next location: after 377 comes 000 of the same sector and syllable

after_377 : after (record both_modules { loc = 0o377 }) ≡ record both_modules { loc = 0 }
unfolding both_modules
after_377 = refl

after_376 : after (record both_modules { loc = 0o376 }) ≡ record both_modules { loc = 0o377 }
unfolding both_modules
after_376 = refl

-- sector 03, syllable 1
the_word_after_377 : word_of_hop (after (hop_of 0o7776016)) ≡ 0o7000016
the_word_after_377 = refl

-- ---- the fetch goes by the instruction module, and the operand by the data module

fetched_by_the_instruction_module : fetch_of 0 both_modules ≡ record { pair = 2; sector = 11; loc = 0o252 }
unfolding both_modules
fetched_by_the_instruction_module = refl

read_by_the_data_module : data_spot 0 both_modules 0o101 ≡ record { pair = 1; sector = 6; loc = 0o101 }
unfolding both_modules
read_by_the_data_module = refl

-- with pair 2 simplex an odd module has a bank of its own; a simplex pair of the data module changes nothing of the fetch
fetched_from_a_simplex_pair : fetch_of 0b0100 both_modules ≡ record { pair = 6; sector = 11; loc = 0o252 }
unfolding both_modules
fetched_from_a_simplex_pair = refl

fetched_beside_a_simplex_pair : fetch_of 0b0010 both_modules ≡ record { pair = 2; sector = 11; loc = 0o252 }
unfolding both_modules
fetched_beside_a_simplex_pair = refl

-- ---- a transfer keeps module and sector, and CDS sets all three data fields

a_transfer_to_syllable_0 : jumped both_modules 0o007 ≡ record both_modules { syl = 0; loc = 0o007 }
unfolding both_modules
a_transfer_to_syllable_0 = refl

a_transfer_to_syllable_1 : jumped (record both_modules { syl = 0 }) 0o407 ≡ record both_modules { syl = 1; loc = 0o007 }
unfolding both_modules
a_transfer_to_syllable_1 = refl

data_fields_with_a9 : with_data both_modules 0o533 ≡ record both_modules { dmod = 5; dsec = 11; dupdn = true }
unfolding both_modules
data_fields_with_a9 = refl

data_fields_without_a9 : with_data (record both_modules { dupdn = true }) 0o133 ≡ record both_modules { dmod = 5; dsec = 11; dupdn = false }
unfolding both_modules
data_fields_without_a9 = refl
