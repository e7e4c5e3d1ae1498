-- Worked slots of the assembler: their order, their ranges, sets of them, and literals that are the same.
use Rattle.std.proofs.Common.{◌≡◌, ℕ, ◌+◌, ◌*◌, [], ◌∷◌, true, false, not, ◌==◌, ◌&&◌, Some, map, refl}
use Rattle.lvdc_place.specs.Slot.{Slot, is_slot, is_same, number_of, slot_at}
use Rattle.lvdc_place.specs.Slots.{with_saver, least, pool_place, with_word}
use Rattle.lvdc_asm.specs.Pool.{is_same_literal}

-- ---- a pair has 8,192 syllables, a sector 512, and each half of it 256

one_between : (number_of (record { pair = 3; sector = 9; syl = 1; loc = 5 }) ≡ 3 * 8192 + 9 * 512 + 256 + 5)
    × (slot_at (3 * 8192 + 9 * 512 + 256 + 5) ≡ record { pair = 3; sector = 9; syl = 1; loc = 5 })
one_between = (refl, refl)

first_ones : map slot_at (0 ∷ 256 ∷ 512 ∷ 8192 ∷ [])
    ≡ record { pair = 0; sector = 0; syl = 0; loc = 0 } ∷ record { pair = 0; sector = 0; syl = 1; loc = 0 } ∷ record { pair = 0; sector = 1; syl = 0; loc = 0 }
    ∷ record { pair = 1; sector = 0; syl = 0; loc = 0 } ∷ []
first_ones = refl

last_ones : map slot_at (255 ∷ 511 ∷ 8191 ∷ 32767 ∷ [])
    ≡ record { pair = 0; sector = 0; syl = 0; loc = 255 } ∷ record { pair = 0; sector = 0; syl = 1; loc = 255 } ∷ record { pair = 0; sector = 15; syl = 1; loc = 255 }
    ∷ record { pair = 3; sector = 15; syl = 1; loc = 255 } ∷ []
last_ones = refl

the_greatest_and_no_slots : map is_slot (record { pair = 3; sector = 15; syl = 1; loc = 255 } ∷ record { pair = 4; sector = 15; syl = 1; loc = 255 } ∷ record { pair = 3; sector = 16; syl = 1; loc = 255 } ∷ record { pair = 3; sector = 15; syl = 2; loc = 255 } ∷ record { pair = 3; sector = 15; syl = 1; loc = 256 } ∷ [])
    ≡ true ∷ false ∷ false ∷ false ∷ false ∷ []
the_greatest_and_no_slots = refl

only_itself : map (is_same (record { pair = 3; sector = 9; syl = 1; loc = 5 })) (record { pair = 3; sector = 9; syl = 1; loc = 5 } ∷ record { pair = 2; sector = 9; syl = 1; loc = 5 } ∷ record { pair = 3; sector = 8; syl = 1; loc = 5 } ∷ record { pair = 3; sector = 9; syl = 0; loc = 5 } ∷ record { pair = 3; sector = 9; syl = 1; loc = 4 } ∷ [])
    ≡ true ∷ false ∷ false ∷ false ∷ false ∷ []
only_itself = refl

-- ---- sets of slots

slot : ℕ → ℕ → Slot
slot syl loc = record { pair = 0; sector = 1; syl = syl; loc = loc }

-- STO fills locations 376 and 377 of sector 17
the_saver : map (with_saver (λ it. false)) (record { pair = 2; sector = 15; syl = 0; loc = 253 } ∷ record { pair = 2; sector = 15; syl = 0; loc = 254 } ∷ record { pair = 2; sector = 15; syl = 1; loc = 255 } ∷ record { pair = 2; sector = 14; syl = 1; loc = 255 } ∷ [])
    ≡ false ∷ true ∷ true ∷ false ∷ []
the_saver = refl

a_pooled_word_takes_both : map (with_word (λ it. false) (Some (record { pair = 0; sector = 1; loc = 7 }))) (slot 0 7 ∷ slot 1 7 ∷ slot 0 6 ∷ [])
    ≡ true ∷ true ∷ false ∷ []
unfolding slot
a_pooled_word_takes_both = refl

-- a word of the pool has one location, up to the last of its sector
between_taken_ones : pool_place (λ it. not (it.pair == 0 && it.sector == 1 && it.loc == 7)) 0 1 ≡ Some (record { pair = 0; sector = 1; loc = 7 })
unfolding least
between_taken_ones = refl

the_last_location : pool_place (λ it. not (it.pair == 0 && it.sector == 1 && it.loc == 255)) 0 1 ≡ Some (record { pair = 0; sector = 1; loc = 255 })
unfolding least
the_last_location = refl

-- ---- a literal is pooled once for each data pair and sector

the_same_literal : map (is_same_literal (record { pair = 1; sector = 9; word = 5 })) (record { pair = 1; sector = 9; word = 5 } ∷ record { pair = 2; sector = 9; word = 5 } ∷ record { pair = 1; sector = 8; word = 5 } ∷ record { pair = 1; sector = 9; word = 4 } ∷ [])
    ≡ true ∷ false ∷ false ∷ false ∷ []
the_same_literal = refl
