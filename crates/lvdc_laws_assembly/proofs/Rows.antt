-- Worked examples, computed.
use Rattle.std.proofs.Common.{◌≡◌, ℕ, true, false, List, [], ◌∷◌, None, Some, codes, refl}
use Rattle.lvdc_map.specs.Address.{Spot}
use Rattle.lvdc_map.specs.declared.placed.Placed.{Placed}
use Rattle.lvdc_isa.specs.declared.op.Op.TheVariants.{Cla, Tra}
use Rattle.lvdc_source.specs.declared.item.Body.TheVariants as says
use Rattle.lvdc_source.specs.declared.item.Constant.TheVariants.{Oct}
use Rattle.lvdc_source.specs.declared.item.Operand.TheVariants.{Number}
use Rattle.lvdc_asm.specs.DataPlace.{first_data}
use Rattle.lvdc_asm.specs.Hop.{hop_at}
use Rattle.lvdc_laws_assembly.specs.Images.{word_at, half_of, fetched}
use Rattle.lvdc_laws_assembly.specs.Lines.{assumed_after, fills}
use Rattle.lvdc_laws_assembly.specs.Shown.{Shown, text_shown, word_shown}

at : ℕ → ℕ → ℕ → Spot
at pair sector loc = record { pair = pair; sector = sector; loc = loc }

holds : ℕ → ℕ → ℕ → ℕ → Placed
holds pair sector loc w = record { at = record { pair = pair; sector = sector; loc = loc }; word = w }

-- ---- images

-- a word is found by its address, and no other one has it
found : (word_at (holds 0 0 1 5 ∷ holds 1 0 1 6 ∷ []) (at 1 0 1) ≡ Some 6) × (word_at (holds 0 0 1 5 ∷ holds 1 0 1 6 ∷ []) (at 0 1 1) ≡ None)
unfolding at holds
found = (refl, refl)

-- syllable 1 is the upper half
halves : (half_of 1 0o210000017 ≡ 0o10400) × (half_of 0 0o210000017 ≡ 0o00017)
halves = (refl, refl)

-- code in both syllables of a word
both_fetched : (fetched (holds 2 3 4 0o210017005 ∷ []) (hop_at (at 2 3 4) 1 first_data) ≡ Some (record { op = Tra; address = 0o400 }))
    × (fetched (holds 2 3 4 0o210017005 ∷ []) (hop_at (at 2 3 4) 0 first_data) ≡ Some (record { op = Cla; address = 0o005 }))
    × (fetched (holds 2 3 4 0o210017005 ∷ []) (hop_at (at 2 3 5) 0 first_data) ≡ None)
unfolding at holds
both_fetched = (refl, refl, refl)

-- ---- lines

-- the last USE counts
used : (assumed_after first_data [] ≡ record { pair = 0; sector = 1 })
    × (assumed_after first_data (record { line = 1; label = []; body = says.Sector 1 2 } ∷ record { line = 2; label = []; body = says.Sector 3 4 } ∷ record { line = 3; label = []; body = says.Code } ∷ [])
    ≡ record { pair = 3; sector = 4 })
used = (refl, refl)

-- an instruction fills its syllable, a constant both, and room none
filled : (fills (says.Instruction Cla (Number 5)) (record { at = at 0 0 1; syl = Some 1 }) (at 0 0 1) 1 ≡ true)
    × (fills (says.Instruction Cla (Number 5)) (record { at = at 0 0 1; syl = Some 1 }) (at 0 0 1) 0 ≡ false)
    × (fills (says.Instruction Cla (Number 5)) (record { at = at 0 0 1; syl = Some 1 }) (at 0 0 2) 1 ≡ false)
    × (fills (says.Constant (Oct 5)) (record { at = at 0 0 1; syl = None }) (at 0 0 1) 0 ≡ true)
    × (fills (says.Room 5) (record { at = at 0 0 1; syl = None }) (at 0 0 1) 0 ≡ false)
unfolding at
filled = (refl, refl, refl, refl, refl)

-- ---- listings

-- lines with and without a field, room, a pooled word, and names
read_back : text_shown (codes "      1                              ORG   0,00,1,000\n      2 0 00 1 000 17000     BEGIN   CLA   X\n      3 2 17 - 377 312345670 X       OCT   5\n      4 0 01 - 001           Y       BSS   2\nPOOL 3 01 003 000000001\nNAME X 2 17 - 377\nPOOL 0 01 004 000000001\n")
    ≡ record { at = at 0 0 0; syl = Some 1; value = 0o17000 } ∷ record { at = at 2 15 255; syl = None; value = 0o312345670 } ∷ record { at = at 3 1 3; syl = None; value = 1 } ∷ []
unfolding at
read_back = refl

-- a word of two lines, of one, and of none
shown : List Shown
shown = record { at = at 0 0 0; syl = Some 1; value = 0o10400 } ∷ record { at = at 0 0 0; syl = Some 0; value = 0o00017 } ∷ record { at = at 0 0 1; syl = Some 0; value = 0o17000 }
    ∷ record { at = at 0 0 2; syl = None; value = 0o200000001 } ∷ []

words_shown : (word_shown shown (at 0 0 0) ≡ Some 0o210000017) × (word_shown shown (at 0 0 1) ≡ Some 0o000017000) × (word_shown shown (at 0 0 2) ≡ Some 0o200000001) × (word_shown shown (at 0 0 3) ≡ None)
unfolding at shown
words_shown = (refl, refl, refl, refl)
