-- Worked rows of cells that are stuck, damaged as they are read, dead, or in bank 4.
use Rattle.std.proofs.Common.{◌≡◌, ℕ, refl, true, false, List, [], ◌∷◌, ◌++◌, bit_xor}
use Rattle.lvdc_word.specs.Cell.{code_of, with_stuck}
use Rattle.lvdc_map.specs.Address.{Spot}
use Rattle.lvdc_map.specs.Hop.{hop_of}
use Rattle.lvdc_map.specs.Memory as memory
use Rattle.lvdc_vote.specs.Bits.{majority, flipped}
use Rattle.lvdc_fault.specs.declared.event.Event.{Event}
use Rattle.lvdc_fault.specs.declared.event.Event.TheVariants.{Damage, Stick, Dead}
use Rattle.lvdc_fault.specs.declared.verdict.Verdict.TheVariants as verdicts
use Rattle.lvdc_model.specs.CellsBefore.{cell_before, shown_at, shown_with}
use Rattle.lvdc_model.specs.Judging.{first_bad}
use Rattle.lvdc_model.specs.Runs.{guarded}
use Rattle.lvdc_model.specs.Trial.{Trial}
use Rattle.lvdc_model.specs.Twins.{cell_at}
use Rattle.lvdc_model.proofs.LedgerRows.{placed, at, load}
use Rattle.lvdc_model.proofs.VotedRows.{a_of}

-- ---- stuck bits, while the word 5 is loaded in the steps 1 and 7

-- one bit sticks: the read goes to the other twin, and the next one begins there
a_stuck_bit : ((guarded (load (Stick 0 (at 1 0) 1 7 1 0 ∷ [])) 8).repairs
    ≡ record { step = 1; at = at 1 0; twin = 0; switched = true } ∷ record { step = 7; at = at 1 0; twin = 0; switched = false } ∷ [])
    × (a_of (guarded (load (Stick 0 (at 1 0) 1 7 1 0 ∷ [])) 3) ≡ 5)
unfolding with_stuck majority flipped
a_stuck_bit = (refl, refl)

-- what sticks is shown, and not stored
the_cell_beneath : (shown_at (load (Stick 0 (at 1 0) 1 7 1 0 ∷ [])) 0 (at 1 0) 1 ≡ bit_xor (code_of 5) 1)
    × (cell_before (load (Stick 0 (at 1 0) 1 7 1 0 ∷ [])) 0 (at 1 0) 1 ≡ code_of 5)
unfolding with_stuck majority flipped
the_cell_beneath = (refl, refl)

two_stuck_bits_of_a_half : first_bad (load (Stick 0 (at 1 0) 1 1 0o3 0o2 ∷ [])) 1 ≡ verdicts.Memory 1 (at 1 0)
unfolding with_stuck majority flipped
two_stuck_bits_of_a_half = refl

stuck_after_the_read : first_bad (load (Stick 0 (at 1 0) 2 6 0o3 0o2 ∷ [])) 2 ≡ verdicts.Admissible
unfolding with_stuck majority flipped
stuck_after_the_read = refl

-- ---- damage in the very step of a read

abbrev damaged_as_read : Trial
damaged_as_read = load (Damage 0 (at 1 0) 1 1 ∷ [])

damage_meets_the_read_of_its_step : (cell_before damaged_as_read 0 (at 1 0) 1 ≡ code_of 5) × (shown_at damaged_as_read 0 (at 1 0) 1 ≡ bit_xor (code_of 5) 1)
    × (cell_before damaged_as_read 0 (at 1 0) 2 ≡ code_of 5)
unfolding with_stuck majority flipped
damage_meets_the_read_of_its_step = (refl, refl, refl)

it_is_mended_there : (guarded damaged_as_read 2).repairs ≡ record { step = 1; at = at 1 0; twin = 0; switched = true } ∷ []
unfolding with_stuck majority flipped
it_is_mended_there = refl

-- ---- a dead twin

-- its repair is noted, and what it stores stays damaged
abbrev dead_as_read : Trial
dead_as_read = load (Damage 0 (at 1 0) 0 1 ∷ Dead 0 0 1 1 ∷ [])

a_dead_twin_is_repaired : ((guarded dead_as_read 2).repairs ≡ record { step = 1; at = at 1 0; twin = 0; switched = true } ∷ [])
    × (cell_at (guarded dead_as_read 2).twins 0 (at 1 0) ≡ bit_xor (code_of 5) 1)
    × (cell_before dead_as_read 0 (at 1 0) 2 ≡ bit_xor (code_of 5) 1)
unfolding with_stuck majority flipped
a_dead_twin_is_repaired = (refl, refl, refl)

-- ---- bank 4

abbrev in_bank_4 : ℕ → Spot
in_bank_4 loc = record { pair = 4; sector = 1; loc = loc }

-- pair 0 is simplex; code in bank 0, and data module 1 with the word 7: it is loaded in step 1, and stored in step 5
abbrev bank_4 : List Event → Trial
bank_4 script =
    record {
      opening = record {
        image = placed 0 0 (0o17000 ∷ 0o13001 ∷ []) ++ record { at = in_bank_4 0; word = 7 } ∷ [];
        banks = 1;
        start = hop_of 0o216;
        unplugs = [];
        devices = [];
      };
      script = script;
    }

a_word_of_bank_4 : (a_of (guarded (bank_4 []) 3) ≡ 7) × (cell_before (bank_4 []) 1 (in_bank_4 0) 0 ≡ code_of 7)
unfolding with_stuck majority flipped
a_word_of_bank_4 = (refl, refl)

-- twin 1 holds it, at the place of pair 0
it_stands_in_twin_1 : (first_bad (bank_4 (Damage 1 (at 1 0) 0 1 ∷ [])) 1 ≡ verdicts.Memory 1 (in_bank_4 0))
    × (first_bad (bank_4 (Damage 0 (at 1 0) 0 1 ∷ [])) 1 ≡ verdicts.Admissible)
unfolding with_stuck majority flipped
it_stands_in_twin_1 = (refl, refl)

it_is_stored_in_twin_1 : (memory.word_at (guarded (bank_4 []) 6).intended (in_bank_4 1) ≡ 7)
    × (cell_at (guarded (bank_4 []) 6).twins 1 (in_bank_4 1) ≡ code_of 7) × (cell_at (guarded (bank_4 []) 6).twins 0 (at 1 1) ≡ code_of 0)
unfolding with_stuck majority flipped
it_is_stored_in_twin_1 = (refl, refl, refl)

-- what sticks in twin 1 at the place of pair 0 is shown of bank 4
it_is_shown_by_twin_1 : shown_with (bank_4 (Stick 1 (at 1 0) 0 9 1 0 ∷ [])) 1 1 (in_bank_4 0) (code_of 7) ≡ bit_xor (code_of 7) 1
unfolding with_stuck
it_is_shown_by_twin_1 = refl
