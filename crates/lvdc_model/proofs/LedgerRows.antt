-- Worked rows of stored cells and verdicts, by computing.
use Rattle.std.proofs.Common.{◌≡◌, ℕ, ◌+◌, refl, true, false, List, [], ◌∷◌, ◌++◌, bit_xor}
use Rattle.lvdc_word.specs.Cell.{code_of}
use Rattle.lvdc_map.specs.Address.{Spot}
use Rattle.lvdc_map.specs.Hop.{hop_of}
use Rattle.lvdc_map.specs.declared.placed.Placed.{Placed}
use Rattle.lvdc_fault.specs.declared.event.Event.{Event}
use Rattle.lvdc_fault.specs.declared.event.Event.TheVariants.{Flip, Damage, Dead}
use Rattle.lvdc_fault.specs.declared.verdict.Verdict.TheVariants as verdicts
use Rattle.lvdc_model.specs.CellsBefore.{cell_before}
use Rattle.lvdc_model.specs.Judging.{is_recoverable, is_recoverable_after, first_bad}
use Rattle.lvdc_model.specs.Trial.{Trial}
use Rattle.lvdc_word.specs.Cell.{with_stuck}
use Rattle.lvdc_vote.specs.Bits.{majority, flipped}

-- words at the locations of a sector of bank 0, from one location on
abbrev pub placed : ℕ → ℕ → List ℕ → List Placed
placed sector loc [] = []
placed sector loc (w ∷ ws) = record { at = record { pair = 0; sector = sector; loc = loc }; word = w } ∷ placed sector (loc + 1) ws

-- code in sector 0, words in sector 1, no devices, and this script
abbrev pub trial : List ℕ → List ℕ → List Event → Trial
trial codes words script =
    record {
      opening = record { image = placed 0 0 codes ++ placed 1 0 words; banks = 0; start = hop_of 0o16; unplugs = []; devices = [] };
      script = script;
    }

-- a location of bank 0
abbrev pub at : ℕ → ℕ → Spot
at sector loc = record { pair = 0; sector = sector; loc = loc }

-- a sum that wraps at the sign, under a script
abbrev pub sum : List Event → Trial
sum script = trial (0o17000 ∷ 0o07001 ∷ 0o13002 ∷ 0o10003 ∷ []) (0o177777777 ∷ 1 ∷ []) script

two_wrong_decoders : first_bad (sum (Flip 3 1 4 4 0 0o1000 ∷ Flip 3 2 4 4 0 0o1000 ∷ [])) 3 ≡ verdicts.Logic 4 3
unfolding with_stuck majority flipped
two_wrong_decoders = refl

wrong_copies_of_two_modules : first_bad (sum (Flip 3 1 4 4 0 0o1000 ∷ Flip 5 2 4 4 0 0o1000 ∷ [])) 3 ≡ verdicts.Admissible
unfolding with_stuck majority flipped
wrong_copies_of_two_modules = refl

-- a loop that loads the word 5, under a script
abbrev pub load : List Event → Trial
load script = trial (0o17000 ∷ 0o10000 ∷ []) (5 ∷ []) script

abbrev pub both_damaged : List Event
both_damaged = Damage 0 (at 1 0) 0 1 ∷ Damage 1 (at 1 0) 4 1 ∷ []

before_damage : cell_before (load both_damaged) 0 (at 1 0) 0 ≡ code_of 5
unfolding with_stuck majority flipped
before_damage = refl

-- damaged before step 0, and mended by the read of step 1
damaged_and_mended : (cell_before (load both_damaged) 0 (at 1 0) 1 ≡ bit_xor (code_of 5) 1) × (cell_before (load both_damaged) 0 (at 1 0) 2 ≡ code_of 5)
unfolding with_stuck majority flipped
damaged_and_mended = (refl, refl)

-- the other twin is damaged before step 4, and mended by the read of step 7
other_twin_mended : (cell_before (load both_damaged) 1 (at 1 0) 7 ≡ bit_xor (code_of 5) 1) × (cell_before (load both_damaged) 1 (at 1 0) 8 ≡ code_of 5)
unfolding with_stuck majority flipped
other_twin_mended = (refl, refl)

both_damaged_one_after_another : first_bad (load both_damaged) 3 ≡ verdicts.Admissible
unfolding with_stuck majority flipped
both_damaged_one_after_another = refl

-- two bits of one half: the parity is good, and the twins differ
two_bits_of_a_half : first_bad (load (Damage 0 (at 1 0) 0 3 ∷ [])) 1 ≡ verdicts.Memory 1 (at 1 0)
unfolding with_stuck majority flipped
two_bits_of_a_half = refl

damage_that_no_read_meets : (first_bad (load (Damage 0 (at 1 7) 0 3 ∷ [])) 1 ≡ verdicts.Admissible) × (is_recoverable_after (load (Damage 0 (at 1 7) 0 3 ∷ [])) 3 (at 1 7) ≡ false)
unfolding with_stuck majority flipped
damage_that_no_read_meets = (refl, refl)

-- a bit of each half: each half's parity tells
a_bit_of_each_half : first_bad (load (Damage 0 (at 1 0) 0 0o40001 ∷ [])) 1 ≡ verdicts.Admissible
unfolding with_stuck majority flipped
a_bit_of_each_half = refl

unknown_word : is_recoverable (load (Damage 0 (at 1 0) 0 3 ∷ [])) 1 (at 1 0) ≡ false
unfolding with_stuck majority flipped
unknown_word = refl

-- a word is stored and loaded again, under a script
abbrev pub store_and_load : List Event → Trial
store_and_load script = trial (0o17000 ∷ 0o13002 ∷ 0o17002 ∷ 0o10003 ∷ []) (5 ∷ []) script

-- a twin that is dead when the word is stored keeps a stale word with good parity
stale_twin : first_bad (store_and_load (Dead 0 0 5 5 ∷ [])) 3 ≡ verdicts.Memory 7 (at 1 2)
unfolding with_stuck majority flipped
stale_twin = refl

abbrev pub damaged_before_store : Trial
damaged_before_store = store_and_load (Damage 0 (at 1 2) 0 1 ∷ Damage 1 (at 1 2) 0 1 ∷ [])

store_over_damage : (is_recoverable_after damaged_before_store 3 (at 1 2) ≡ false) × (is_recoverable_after damaged_before_store 9 (at 1 2) ≡ true) × (first_bad damaged_before_store 3 ≡ verdicts.Admissible)
unfolding with_stuck majority flipped
store_over_damage = (refl, refl, refl)
