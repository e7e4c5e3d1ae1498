-- The words of a memory are the list of them.
use Rattle.std.proofs.Common.{◌≡◌, ◌≢◌, ℕ, suc, ◌/◌, ◌%◌, ◌<◌, ◌≤◌, Bool, true, false, cond, not, List, [], ◌∷◌, All, get_or, refl, sym, ap, ◌∙◌, arith}
use Rattle.std.specs.Prelude.{nat_lt}
use Rattle.std.proofs.lemmas.Bool.{eq-eqb, ne_eqb, ltb-true, and_parts}
use Rattle.std.proofs.lemmas.List.Elements.{All-nil, All-cons}
use Rattle.lvdc_map.specs.Address.{Spot, IsAddress, is_same, number_of, spot_at}
use Rattle.lvdc_map.specs.Memory.{Memory, filled_with, stored, word_at, loaded, memory_of, are_rising}
use Rattle.lvdc_map.specs.declared.placed.Placed.{Placed}
use Rattle.lvdc_map.proofs.Addresses.{same-spot}
use Rattle.lvdc_twin.proofs.Places.{same-from}
use Rattle.lvdc_command_save.specs.Snapshots.{placed_at, is_other_word, placed_in}
use Rattle.lvdc_command_save.proofs.Gathering.{Rises, none_before, gathered}

-- the number of a word's address
abbrev pub number : Placed → ℕ
number p = number_of p.at

-- ---- rising words

rises_from : (least : ℕ) (p : Placed) (words : List Placed) → least ≤ number p → are_rising (p ∷ words) ≡ true → Rises number least (p ∷ words)
rises_from least p [] from rising = (from, tt)
rises_from least p (q ∷ words) from rising =
    let parts = and_parts (nat_lt (number p) (number q)) (are_rising (q ∷ words)) rising in
    (from, rises_from (suc (number p)) q words (ltb-true (number p) (number q) parts.0) parts.1)

pub words_rise : (words : List Placed) → are_rising words ≡ true → Rises number 0 words
words_rise [] rising = tt
words_rise (p ∷ words) rising = rises_from 0 p words (omega arith) rising

-- ---- what a list means

-- a word more, at another address and at its own
stored_elsewhere : (memory : Memory) (p : Placed) (at : Spot) → number p ≢ number_of at → stored memory p.at p.word at ≡ memory at
stored_elsewhere memory p at other = by_case (is_same at p.at) refl
  where
    by_case : (b : Bool) → is_same at p.at ≡ b → cond b p.word (memory at) ≡ memory at
    by_case true e = absurd (other (ap number_of (sym (same-spot at p.at e))))
    by_case false e = refl

stored_here : (memory : Memory) (p : Placed) → stored memory p.at p.word p.at ≡ p.word
stored_here memory p = ap (λ (b : Bool). cond b p.word (memory p.at)) (same-from p.at p.at refl refl refl)

-- a list leaves every address that it doesn't name
loaded_others : (words : List Placed) (memory : Memory) (at : Spot) → All (λ p. number p ≢ number_of at) words → loaded words memory at ≡ memory at
loaded_others [] memory at none = refl
loaded_others (p ∷ words) memory at none =
    loaded_others words (stored memory p.at p.word) at (λ k d less. none (suc k) d (omega (arith, less)))
    ∙ stored_elsewhere memory p at (none 0 p (omega arith))

-- and has its own words at theirs
loaded_own : (words : List Placed) (memory : Memory) (least : ℕ) → Rises number least words → All (λ p. loaded words memory p.at ≡ p.word) words
loaded_own [] memory least rises = All-nil (λ (p : Placed). memory p.at ≡ p.word)
loaded_own (p ∷ words) memory least rises =
    let next : Memory = stored memory p.at p.word in
    All-cons (λ q. loaded words next q.at ≡ q.word) p words
    (loaded_others words next p.at (none_before number (number p) (suc (number p)) words (omega arith) rises.1) ∙ stored_here memory p)
    (loaded_own words next (suc (number p)) rises.1)

-- ---- by numbers

number_is : (m : ℕ) → number_of (spot_at m) ≡ m
number_is m = omega arith

is_address : (m : ℕ) → m < 32768 → IsAddress (spot_at m)
is_address m small = record { pair = omega (arith, small); sector = omega arith; loc = omega arith }

spot_is : (at : Spot) → IsAddress at → spot_at (number_of at) ≡ at
spot_is at is =
    let pair : number_of at / 4096 ≡ at.pair = omega (arith, is.pair, is.sector, is.loc) in
    let sector : number_of at / 256 % 16 ≡ at.sector = omega (arith, is.pair, is.sector, is.loc) in
    let loc : number_of at % 256 ≡ at.loc = omega (arith, is.pair, is.sector, is.loc) in
    λ i. record { pair = pair i; sector = sector i; loc = loc i }

module _ (memory : Memory) (words : List Placed) (rises : Rises number 0 words) (addresses : All (λ p. IsAddress p.at) words)
    (same : (at : Spot) → IsAddress at → word_at memory at ≡ word_at (memory_of words) at) where
  -- each word stands at its address
  own_word : (p : Placed) → IsAddress p.at → loaded words (filled_with 0) p.at ≡ p.word → placed_at memory (number p) ≡ p
  own_word p is own =
      let a = spot_is p.at is in
      let word : word_at memory (spot_at (number p)) ≡ p.word = ap (word_at memory) a ∙ same p.at is ∙ own in
      λ i. record { at = a i; word = word i }

  -- and every other address has 0
  no_word : (m : ℕ) → m < 32768 → All (λ p. number p ≢ m) words → (placed_at memory m).word ≡ 0
  no_word m small none =
      same (spot_at m) (is_address m small)
      ∙ loaded_others words (filled_with 0) (spot_at m) (λ k d less is. none k d less (is ∙ number_is m))

  pub words_left : All (λ p. p.word ≢ 0) words → placed_in memory ≡ words
  unfolding placed_in
  words_left differ =
      gathered number (placed_at memory) is_other_word 32768 0 words rises
      (λ k d less. let is = addresses k d less in omega (arith, is.pair, is.sector, is.loc))
      (λ k d less. own_word (get_or words k d) (addresses k d less) (loaded_own words (filled_with 0) 0 rises k d less))
      (λ k d less. ap not (ne_eqb (get_or words k d).word 0 (differ k d less)))
      (λ m small none from. ap not (eq-eqb (placed_at memory m).word 0 (no_word m small none)))
