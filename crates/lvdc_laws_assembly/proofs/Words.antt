-- What the halves of an address's word are, by what its slots hold.
use Rattle.std.proofs.Common.{◌≡◌, ℕ, zero, suc, ◌^◌, ◌<◌, ◌≤◌, true, cond, ◌&&◌, Option, None, Some, is_none, unwrap_or, length, refl, sym, ap, ◌∙◌, arith, inl, inr}
use Rattle.std.specs.Prelude.{◌⊎◌}
use Rattle.std.proofs.lemmas.Bool.{cases_lt}
use Rattle.lvdc_word.specs.Word.{upper, lower, joined}
use Rattle.lvdc_map.specs.Address.{Spot}
use Rattle.lvdc_place.specs.Slot.{is_slot, slot_of}
use Rattle.lvdc_place.proofs.Tables.{is_slot-from}
use Rattle.lvdc_asm.specs.Locations.{Locations, location_at, words_of}
use Rattle.lvdc_laws_assembly.specs.Images.{half_of, word_at}
use Rattle.lvdc_laws_assembly.proofs.Held.{held}
use Rattle.lvdc_laws_assembly.proofs.Images.{word_at-words_of, word_at-outside}
use Rattle.lvdc_laws_assembly.proofs.Steps.{IsSmall}

-- the word of two slots
abbrev word_by : Option ℕ → Option ℕ → Option ℕ
word_by one zeroth = cond (is_none one && is_none zeroth) None (Some (joined (unwrap_or one 0) (unwrap_or zeroth 0)))

by-zeroth : (one : Option ℕ) (s : ℕ) → word_by one (Some s) ≡ Some (joined (unwrap_or one 0) s)
by-zeroth None s = refl
by-zeroth (Some t) s = refl

-- what an address has where its slots are in the memory
pub record IsWord (locations : Locations) (at : Spot) (syl s : ℕ) : Type 0 where
  pub word : ℕ
  pub there : word_at (words_of locations) at ≡ Some word
  pub is : half_of syl word ≡ s

small-or : (o : Option ℕ) → ((s : ℕ) → o ≡ Some s → s < 2 ^ 13) → unwrap_or o 0 < 2 ^ 13
small-or None h = omega arith
small-or (Some s) h = h s refl

-- a slot that is filled is that half of the word
pub half-is : (locations : Locations) (at : Spot) (syl s : ℕ) → length locations ≡ 16384 → IsSmall locations → is_slot (slot_of at syl) ≡ true → is_slot (slot_of at 0) ≡ true → syl < 2
    → held locations (slot_of at syl) ≡ Some s → IsWord locations at syl s
half-is locations at zero s size small inside low below h = record {
  word = joined (unwrap_or (location_at locations at).one 0) s;
  there = word_at-words_of locations at 0 size inside ∙ ap (λ (z : Option ℕ). word_by (location_at locations at).one z) h ∙ by-zeroth (location_at locations at).one s;
  is = (let few : s < 2 ^ 13 = small (slot_of at 0) s inside refl h in omega arith);
}
half-is locations at (suc zero) s size small inside low below h = record {
  word = joined s (unwrap_or (location_at locations at).zero 0);
  there = word_at-words_of locations at 1 size inside ∙ ap (λ (o : Option ℕ). word_by o (location_at locations at).zero) h;
  is = (let few : unwrap_or (location_at locations at).zero 0 < 2 ^ 13 = small-or (location_at locations at).zero (λ t e. small (slot_of at 0) t low refl e) in omega arith);
}
half-is locations at (suc (suc n)) s size small inside low below h = absurd (omega arith)

-- an address whose slots have the halves of a word has the word
pub word-is : (locations : Locations) (at : Spot) (w : ℕ) → length locations ≡ 16384 → is_slot (slot_of at 0) ≡ true
    → held locations (slot_of at 1) ≡ Some (half_of 1 w) → held locations (slot_of at 0) ≡ Some (half_of 0 w) → word_at (words_of locations) at ≡ Some w
word-is locations at w size inside high low =
    let whole : joined (upper w) (lower w) ≡ w = omega arith in
    word_at-words_of locations at 0 size inside
    ∙ ap (λ (o : Option ℕ). word_by o (location_at locations at).zero) high
    ∙ ap (λ (z : Option ℕ). word_by (Some (upper w)) z) low
    ∙ ap (λ (v : ℕ). Some v) whole

-- ---- slots that are empty

in-memory : (at : Spot) (syl : ℕ) → at.pair < 4 → at.sector < 16 → at.loc < 256 → syl < 2 → is_slot (slot_of at syl) ≡ true
in-memory at syl p s l few = is_slot-from (slot_of at syl) (record { pair = p; sector = s; syl = few; loc = l })

-- an address with two of them has no word
pub none-is : (locations : Locations) (at : Spot) → length locations ≡ 16384
    → (is_slot (slot_of at 1) ≡ true → held locations (slot_of at 1) ≡ None) → (is_slot (slot_of at 0) ≡ true → held locations (slot_of at 0) ≡ None) → word_at (words_of locations) at ≡ None
none-is locations at size high low = by_pair (cases_lt at.pair 4) (cases_lt at.sector 16) (cases_lt at.loc 256)
  where
    by_pair : ((at.pair < 4) ⊎ (4 ≤ at.pair)) → ((at.sector < 16) ⊎ (16 ≤ at.sector)) → ((at.loc < 256) ⊎ (256 ≤ at.loc)) → word_at (words_of locations) at ≡ None
    by_pair (inr far) s l = word_at-outside locations at size (λ p q r. absurd (omega arith))
    by_pair (inl p) (inr far) l = word_at-outside locations at size (λ p q r. absurd (omega arith))
    by_pair (inl p) (inl s) (inr far) = word_at-outside locations at size (λ p q r. absurd (omega arith))
    by_pair (inl p) (inl s) (inl l) =
        let one : is_slot (slot_of at 1) ≡ true = in-memory at 1 p s l (omega arith) in
        let zeroth : is_slot (slot_of at 0) ≡ true = in-memory at 0 p s l (omega arith) in
        word_at-words_of locations at 0 size zeroth
        ∙ ap (λ (o : Option ℕ). word_by o (location_at locations at).zero) (high one)
        ∙ ap (λ (z : Option ℕ). word_by None z) (low zeroth)

-- the half of an empty slot is 0
empty-low : (one zeroth : Option ℕ) (w : ℕ) → zeroth ≡ None → word_by one zeroth ≡ Some w → lower w ≡ 0
empty-low None None w e h = absurd (cc)
empty-low (Some s) None w e h = let same : joined s 0 ≡ w = cc in omega arith
empty-low one (Some t) w e h = absurd (cc)

empty-high : (one zeroth : Option ℕ) (w : ℕ) → one ≡ None → ((s : ℕ) → zeroth ≡ Some s → s < 2 ^ 13) → word_by one zeroth ≡ Some w → upper w ≡ 0
empty-high None None w e small h = absurd (cc)
empty-high None (Some t) w e small h =
    let same : joined 0 t ≡ w = cc in
    let few : t < 2 ^ 13 = small t refl in
    omega arith
empty-high (Some s) zeroth w e small h = absurd (cc)

pub empty-half : (locations : Locations) (at : Spot) (syl w : ℕ) → length locations ≡ 16384 → IsSmall locations → syl < 2
    → (is_slot (slot_of at syl) ≡ true → held locations (slot_of at syl) ≡ None) → word_at (words_of locations) at ≡ Some w → half_of syl w ≡ 0
empty-half locations at syl w size small few none h = by_pair (cases_lt at.pair 4) (cases_lt at.sector 16) (cases_lt at.loc 256)
  where
    far-off : (at.pair < 4 → at.sector < 16 → at.loc < 256 → ⊥) → half_of syl w ≡ 0
    far-off out = let nothing : word_at (words_of locations) at ≡ None = word_at-outside locations at size out in absurd (cc)

    by_syl : (k : ℕ) → k < 2 → is_slot (slot_of at 0) ≡ true → (held locations (slot_of at k) ≡ None) → half_of k w ≡ 0
    by_syl zero below low e = empty-low (location_at locations at).one (location_at locations at).zero w e (sym (word_at-words_of locations at 0 size low) ∙ h)
    by_syl (suc zero) below low e =
        empty-high (location_at locations at).one (location_at locations at).zero w e (λ s f. small (slot_of at 0) s low refl f) (sym (word_at-words_of locations at 0 size low) ∙ h)
    by_syl (suc (suc n)) below low e = absurd (omega arith)

    by_pair : ((at.pair < 4) ⊎ (4 ≤ at.pair)) → ((at.sector < 16) ⊎ (16 ≤ at.sector)) → ((at.loc < 256) ⊎ (256 ≤ at.loc)) → half_of syl w ≡ 0
    by_pair (inr far) s l = far-off (λ p q r. absurd (omega arith))
    by_pair (inl p) (inr far) l = far-off (λ p q r. absurd (omega arith))
    by_pair (inl p) (inl s) (inr far) = far-off (λ p q r. absurd (omega arith))
    by_pair (inl p) (inl s) (inl l) = by_syl syl few (in-memory at 0 p s l (omega arith)) (none (in-memory at syl p s l few))
