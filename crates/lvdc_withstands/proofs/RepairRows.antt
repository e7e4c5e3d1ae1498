-- Worked rows of the conditions of repair and of what reads find, by computing. The program reads a word, and goes round: it fetches at
-- the steps 0, 3, 6 .., and reads the word at the steps 1, 7, 13 .. Another one stores the word in place of that: at the steps 2, 8 ..
use Rattle.std.proofs.Common.{◌≡◌, ℕ, zero, suc, ◌+◌, ◌≤◌, Bool, true, false, ◌||◌, List, [], ◌∷◌, ◌⊎◌, inl, inr, refl, sym, subst, arith}
use Rattle.std.specs.Prelude.{map}
use Rattle.std.proofs.lemmas.Bool.{or_cases}
use Rattle.lvdc_map.specs.Address.{Spot, is_same}
use Rattle.lvdc_map.proofs.Addresses.{same-spot}
use Rattle.lvdc_map.specs.Hop.{hop_of}
use Rattle.lvdc_fault.specs.declared.event.Event.{Event}
use Rattle.lvdc_fault.specs.declared.event.Event.TheVariants.{Flip, Damage, Stick, Dead}
use Rattle.lvdc_model.specs.Trial.{Trial}
use Rattle.lvdc_withstands.specs.Touches.{touches, touches_from, touches_between}
use Rattle.lvdc_withstands.specs.Repairs.{repairs, are_apart, each_two}
use Rattle.lvdc_withstands.specs.Scrubs.{are_steps_apart, Scrubs}
use Rattle.lvdc_withstands.specs.Findings.{findings}

abbrev at : ℕ → ℕ → Spot
at sector loc = record { pair = 0; sector = sector; loc = loc }

-- the word at 0 01 000
abbrev word : Spot
word = at 1 0

-- a program of this instruction and TRA 000, with these simplex pairs
abbrev program : ℕ → ℕ → List Event → Trial
program instruction banks script =
    record {
      opening = record {
        image = record { at = at 0 0; word = instruction } ∷ record { at = at 0 1; word = 0o10000 } ∷ record { at = word; word = 5 } ∷ [];
        banks = banks;
        start = hop_of 0o16;
        unplugs = [];
        devices = [];
      };
      script = script;
    }

-- CLA 000
abbrev reader : List Event → Trial
reader script = program 0o17000 0 script

-- STO 000
abbrev writer : List Event → Trial
writer script = program 0o13000 0 script

abbrev hit : ℕ → ℕ → Event
hit twin step = Damage twin word step 1

-- ---- reads and stores

touched-reader : map (λ step. touches (reader []) step word) (0 ∷ 1 ∷ 2 ∷ 3 ∷ 6 ∷ 7 ∷ 8 ∷ []) ≡ false ∷ true ∷ false ∷ false ∷ false ∷ true ∷ false ∷ []
touched-reader = refl

touched-writer : map (λ step. touches (writer []) step word) (0 ∷ 1 ∷ 2 ∷ 3 ∷ 6 ∷ 7 ∷ 8 ∷ []) ≡ false ∷ false ∷ true ∷ false ∷ false ∷ false ∷ true ∷ []
touched-writer = refl

-- from the earlier step on and before the later one, whichever is told first
between : (touches_between (reader []) word 1 2 ≡ true) × (touches_between (reader []) word 2 1 ≡ true) × (touches_between (reader []) word 2 7 ≡ false)
    × (touches_between (reader []) word 1 1 ≡ false)
between = (refl, refl, refl, refl)

-- ---- the condition, and each part of it broken alone

holds : map (λ script. repairs (reader script) 3) (
    []
    ∷ (hit 0 1 ∷ hit 1 2 ∷ [])
    ∷ (hit 1 8 ∷ hit 0 1 ∷ hit 0 7 ∷ [])
    ∷ (hit 0 2 ∷ hit 1 9 ∷ [])
    ∷ (Stick 0 word 0 8 1 0 ∷ Stick 1 (at 0 0) 0 8 1 0 ∷ hit 0 9 ∷ [])
    ∷ (Dead 1 0 0 3 ∷ Dead 1 0 4 8 ∷ hit 1 5 ∷ [])
    ∷ (Dead 1 0 0 6 ∷ Dead 1 0 2 9 ∷ [])
    ∷ (Flip 1 1 0 8 0 1 ∷ Flip 1 2 9 9 0 1 ∷ [])
    ∷ [])
    ≡ true ∷ true ∷ true ∷ true ∷ true ∷ true ∷ true ∷ true ∷ []
holds = refl

-- two wrong copies; damage that parity can't see; two stuck bits of a half; the second damage at the step of the read, in the other twin
-- and in the same one; two damages in a step; bits that stick where there is damage, and in both twins; a twin that comes back in the
-- last step, and one between two deaths; damage beside a dead twin
breaks : map (λ script. repairs (reader script) 3) (
    (Flip 1 1 0 8 0 1 ∷ Flip 1 2 8 9 0 1 ∷ [])
    ∷ (Damage 0 word 0 3 ∷ [])
    ∷ (Stick 0 word 0 8 3 0 ∷ [])
    ∷ (hit 0 2 ∷ hit 1 7 ∷ [])
    ∷ (hit 0 2 ∷ hit 0 7 ∷ [])
    ∷ (hit 0 1 ∷ hit 1 1 ∷ [])
    ∷ (Stick 0 word 0 0 1 0 ∷ hit 0 7 ∷ [])
    ∷ (Stick 0 word 0 0 1 0 ∷ Stick 1 word 7 7 1 0 ∷ [])
    ∷ (Dead 1 0 0 7 ∷ [])
    ∷ (Dead 1 0 0 3 ∷ Dead 1 0 5 8 ∷ [])
    ∷ (Dead 1 0 0 8 ∷ hit 0 5 ∷ [])
    ∷ [])
    ≡ false ∷ false ∷ false ∷ false ∷ false ∷ false ∷ false ∷ false ∷ false ∷ false ∷ false ∷ []
breaks = refl

-- a line of a simplex pair
simplex : (repairs (program 0o17000 0 (hit 0 1 ∷ [])) 3 ≡ true) × (repairs (program 0o17000 1 (hit 0 1 ∷ [])) 3 ≡ false)
simplex = (refl, refl)

-- a store repairs as a read does
stores : map (λ script. repairs (writer script) 3) ((hit 0 2 ∷ hit 1 3 ∷ []) ∷ (hit 0 1 ∷ hit 1 2 ∷ []) ∷ []) ≡ true ∷ false ∷ []
stores = refl

-- ---- steps apart

spaced : map (λ every. each_two (are_apart (are_steps_apart every)) (hit 0 1 ∷ hit 1 13 ∷ hit 0 7 ∷ [])) (5 ∷ 6 ∷ 7 ∷ []) ≡ true ∷ true ∷ false ∷ []
spaced = refl

-- the reader reads the word within each 6 steps, and hits that are 6 apart are withstood for ever
scrubs : Scrubs (reader (hit 0 1 ∷ hit 1 7 ∷ [])) 3 6
scrubs = record { visits = λ at h first le. visits at first le (named at h); spaced = refl; limited = refl }
  where
    o : Trial
    o = reader (hit 0 1 ∷ hit 1 7 ∷ [])

    named : (at : Spot) → (is_same at word || (is_same at word || false)) ≡ true → at ≡ word
    named at h = by_case (or_cases (is_same at word) (is_same at word || false) h)
      where
        last : (b : Bool) → (b || false) ≡ true → b ≡ true
        last true k = refl
        last false k = k

        by_case : (is_same at word ≡ true) ⊎ ((is_same at word || false) ≡ true) → at ≡ word
        by_case (inl same) = same-spot at word same
        by_case (inr same) = same-spot at word (last (is_same at word) same)

    at_word : (first : ℕ) → first + 6 ≤ 9 → touches_from o word first (first + 6) ≡ true
    at_word zero le = refl
    at_word (suc zero) le = refl
    at_word (suc (suc zero)) le = refl
    at_word (suc (suc (suc zero))) le = refl
    at_word (suc (suc (suc (suc first)))) le = absurd (omega arith)

    visits : (at : Spot) (first : ℕ) → first + 6 ≤ 9 → at ≡ word → touches_from o at first (first + 6) ≡ true
    visits at first le e = subst (λ (s : Spot). touches_from o s first (first + 6) ≡ true) (sym e) (at_word first le)

-- within 5 steps it doesn't always
waits : touches_from (reader []) word 2 (2 + 5) ≡ false
waits = refl

-- ---- what reads find

-- what the read of step 1 meets, then that of step 7; damage of step 8 stays in the run of 9 steps, and that of 13 comes after it
found : findings (reader (hit 1 2 ∷ hit 0 1 ∷ hit 1 8 ∷ hit 0 13 ∷ [])) 9 ≡ record { step = 1; at = word; twin = 0 } ∷ record { step = 7; at = word; twin = 1 } ∷ []
found = refl

-- a store is before each read; and the code itself is read at each fetch
none-found : findings (writer (hit 1 2 ∷ hit 0 3 ∷ [])) 9 ≡ []
none-found = refl

fetched : findings (writer (Damage 1 (at 0 1) 0 1 ∷ Damage 0 (at 0 1) 9 1 ∷ [])) 12 ≡ record { step = 3; at = at 0 1; twin = 1 } ∷ record { step = 9; at = at 0 1; twin = 0 } ∷ []
fetched = refl
