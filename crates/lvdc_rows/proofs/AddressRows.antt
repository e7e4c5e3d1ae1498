-- Worked addresses beyond those of lvdc_map: the order of all, banks of duplex and simplex pairs, and which twin holds what.
use Rattle.std.proofs.Common.{◌≡◌, ℕ, ◌+◌, ◌*◌, ◌^◌, [], ◌∷◌, true, false, map, refl}
use Rattle.lvdc_map.specs.Address.{Spot, number_of, spot_at}
use Rattle.lvdc_map.specs.Banks.{is_simplex, bank_of, is_there, holds}
use Rattle.lvdc_map.specs.Hop.{hop_of, after, fetch_of, syllable_at}
use Rattle.lvdc_map.specs.Memory.{are_rising}
use Rattle.lvdc_map.specs.Place.{operand_kind}
use Rattle.lvdc_map.specs.declared.operand.OperandKind.TheVariants as kinds

-- location 000 of sector 00 of a bank
bank : ℕ → Spot
bank pair = record { pair = pair; sector = 0; loc = 0 }

-- ---- what an address names

saver_of_777 : operand_kind 0o777 ≡ kinds.Saver
saver_of_777 = refl

-- ---- the order of all addresses

the_first_and_the_last : (spot_at 0 ≡ bank 0) × (spot_at 32767 ≡ record { pair = 7; sector = 15; loc = 255 })
unfolding bank
the_first_and_the_last = (refl, refl)

-- 256 locations a sector, 16 sectors a bank
ends_of_sectors_and_banks : (spot_at 255 ≡ record { pair = 0; sector = 0; loc = 255 }) × (spot_at 256 ≡ record { pair = 0; sector = 1; loc = 0 })
    × (spot_at 4095 ≡ record { pair = 0; sector = 15; loc = 255 }) × (spot_at 4096 ≡ bank 1)
unfolding bank
ends_of_sectors_and_banks = (refl, refl, refl, refl)

-- 5 * 4096 + 3 * 256 + 9
one_between : (number_of (record { pair = 5; sector = 3; loc = 9 }) ≡ 21257) × (spot_at 21257 ≡ record { pair = 5; sector = 3; loc = 9 })
one_between = (refl, refl)

no_address_rises : are_rising [] ≡ true
no_address_rises = refl

-- ---- banks, where pairs 0 and 2 are simplex: bits 0 and 2

pairs_by_bits : map (is_simplex 5) (0 ∷ 1 ∷ 2 ∷ 3 ∷ []) ≡ true ∷ false ∷ true ∷ false ∷ []
pairs_by_bits = refl

all_pairs : map (is_simplex 15) (0 ∷ 1 ∷ 2 ∷ 3 ∷ []) ≡ true ∷ true ∷ true ∷ true ∷ []
all_pairs = refl

-- the odd module of a simplex pair has a bank of its own
banks_of_modules : map (bank_of 5) (0 ∷ 1 ∷ 2 ∷ 3 ∷ 4 ∷ 5 ∷ 6 ∷ 7 ∷ []) ≡ 0 ∷ 4 ∷ 1 ∷ 1 ∷ 2 ∷ 6 ∷ 3 ∷ 3 ∷ []
banks_of_modules = refl

banks_that_are_there : map (λ pair. is_there 5 (bank pair)) (0 ∷ 1 ∷ 2 ∷ 3 ∷ 4 ∷ 5 ∷ 6 ∷ 7 ∷ [])
    ≡ true ∷ true ∷ true ∷ true ∷ true ∷ false ∷ true ∷ false ∷ []
unfolding bank
banks_that_are_there = refl

-- twin 0 has banks 0 to 3, twin 1 those of duplex pairs, and 4 and 6
banks_of_twins : (map (λ pair. holds 5 0 (bank pair)) (0 ∷ 1 ∷ 2 ∷ 3 ∷ 4 ∷ 5 ∷ 6 ∷ []) ≡ true ∷ true ∷ true ∷ true ∷ false ∷ false ∷ false ∷ [])
    × (map (λ pair. holds 5 1 (bank pair)) (0 ∷ 1 ∷ 2 ∷ 3 ∷ 4 ∷ 5 ∷ 6 ∷ []) ≡ false ∷ true ∷ false ∷ true ∷ true ∷ false ∷ true ∷ [])
unfolding bank
banks_of_twins = (refl, refl)

-- bank 3 of a simplex pair 3 is in twin 0 alone, and of a duplex pair 0 there is no bank 4
the_last_pair : (holds 8 0 (bank 3) ≡ true) × (holds 8 1 (bank 3) ≡ false) × (holds 8 1 (bank 7) ≡ true) × (holds 8 0 (bank 4) ≡ false)
unfolding bank
the_last_pair = (refl, refl, refl, refl)

-- ---- HOP constants: 101 1011 1 10101010 011 0110 1 0 1, instruction module 5 and data module 3

-- an instruction is fetched from the instruction module, here the odd one of a simplex pair 2
fetched_from : fetch_of 4 (hop_of 0o267524665) ≡ record { pair = 6; sector = 11; loc = 0o252 }
fetched_from = refl

-- syllable 1 is the upper half
the_halves : (syllable_at (hop_of 0o267524665) (0o12345 * 2 ^ 13 + 0o06543) ≡ 0o12345)
    × (syllable_at (record (hop_of 0o267524665) { syl = 0 }) (0o12345 * 2 ^ 13 + 0o06543) ≡ 0o06543)
the_halves = (refl, refl)

-- after location 377 of a sector comes its location 000
round_the_sector : after (record (hop_of 0o267524665) { loc = 255 }) ≡ record (hop_of 0o267524665) { loc = 0 }
round_the_sector = refl
