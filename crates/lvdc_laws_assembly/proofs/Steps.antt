-- What a pooled word and a line add to what has been assembled, and what they leave as it is.
use Rattle.std.proofs.Common.{◌≡◌, ℕ, ◌%◌, ◌^◌, ◌<◌, true, false, List, [], ◌∷◌, ◌++◌, length, slice_get, IfSome, Some, refl, sym, ap, ◌∙◌, arith, inl, inr}
use Rattle.std.specs.Map.{lookup}
use Rattle.std.proofs.lemmas.Bool.{true≢false, or_parts, false_from_ne_true, true_from_ne_false, cases_Bool}
use Rattle.std.proofs.lemmas.List.{length-set}
use Rattle.std.proofs.lemmas.Option.{IfSome_then}
use Rattle.lvdc_map.specs.Address.{Spot, number_of, is_same as is_same_spot}
use Rattle.lvdc_place.specs.Slot.{Slot, is_slot, slot_of, address_of}
use Rattle.lvdc_place.specs.Slots.{are_free}
use Rattle.lvdc_place.specs.Apart.{is_in}
use Rattle.lvdc_place.proofs.Distinct.{is_in-append, in-taken, in-free}
use Rattle.lvdc_place.proofs.Runs.{with_slots-keeps}
use Rattle.lvdc_asm.specs.DataPlace.{DataPlace}
use Rattle.lvdc_asm.specs.Locations.{Locations, both_syllables, with_code, with_word}
use Rattle.lvdc_asm.specs.Pool.{Progress, is_same_literal, literal_of, with_pooled}
use Rattle.lvdc_laws_assembly.specs.Images.{half_of}
use Rattle.lvdc_laws_assembly.proofs.Held.{held, held-code, held-word, held-word-other}
use Rattle.lvdc_laws_assembly.proofs.Pools.{each-push, each-front, each-last, lookup-front, of_word, in-word, one-is, word-zero, off-word}

-- a word is pooled here: in slots of the memory that no line of the program has, that are taken, and that hold it
pub record IsPooled (whole : List Slot) (progress : Progress) (word : ℕ) (at : Spot) : Type 0 where
  pub inside : (syl : ℕ) → syl < 2 → is_slot (slot_of at syl) ≡ true
  pub apart : (syl : ℕ) → syl < 2 → is_in (slot_of at syl) whole ≡ false
  pub taken : (syl : ℕ) → syl < 2 → progress.taken (slot_of at syl) ≡ true
  pub kept : (syl : ℕ) → syl < 2 → held progress.locations (slot_of at syl) ≡ Some (half_of syl word)

-- what stands in a slot of syllable 0 is a syllable
abbrev pub IsSmall : Locations → Type 0
IsSmall locations = (slot : Slot) (s : ℕ) → is_slot slot ≡ true → slot.syl ≡ 0 → held locations slot ≡ Some s → s < 2 ^ 13

-- what is known of what has been assembled, where these are the slots of the lines of the program
pub record Sound (whole : List Slot) (progress : Progress) : Type 0 where
  pub size : length progress.locations ≡ 16384
  pub small : IsSmall progress.locations
  pub closed : (slot : Slot) → is_slot slot ≡ false → progress.taken slot ≡ true
  pub taken : (slot : Slot) → is_in slot whole ≡ true → progress.taken slot ≡ true
  pub pooled : (index : ℕ) → IfSome (slice_get progress.pool index) (λ e. IsPooled whole progress e.0.word e.1)
  pub home : (index : ℕ) → IfSome (slice_get progress.pool index) (λ e. e.0.sector < 16 → (e.1.pair ≡ e.0.pair) × (e.1.sector ≡ e.0.sector))

-- no pooled word stands at the address of a slot
abbrev pub IsUnpooled : Progress → Slot → Type 0
IsUnpooled progress slot = (index : ℕ) → IfSome (slice_get progress.pool index) (λ e. is_same_spot e.1 (address_of slot) ≡ false)

-- one thing more was assembled, which has these slots of the program
pub record Step (own : List Slot) (before after : Progress) : Type 0 where
  pub grows : (slot : Slot) → before.taken slot ≡ true → after.taken slot ≡ true
  pub keeps : (slot : Slot) → is_slot slot ≡ true → before.taken slot ≡ true → is_in slot own ≡ false → held after.locations slot ≡ held before.locations slot
  pub finds : (assumed : DataPlace) (w : ℕ) (at : Spot) → lookup (is_same_literal (literal_of assumed w)) before.pool ≡ Some at → lookup (is_same_literal (literal_of assumed w)) after.pool ≡ Some at
  pub pools : (slot : Slot) → IsUnpooled after slot → IsUnpooled before slot
  pub bare : (slot : Slot) → is_slot slot ≡ true → is_in slot own ≡ false → IsUnpooled after slot → held after.locations slot ≡ held before.locations slot

-- nothing was
pub stays : (own : List Slot) (p : Progress) → Step own p p
stays own p = record {
  grows = λ slot t. t;
  keeps = λ slot i t n. refl;
  finds = λ assumed w at f. f;
  pools = λ slot u. u;
  bare = λ slot i n u. refl;
}

-- one after another
pub both-steps : (one two : List Slot) (p x q : Progress) → Step one p x → Step two x q → Step (one ++ two) p q
both-steps one two p x q s t = record {
  grows = λ slot h. t.grows slot (s.grows slot h);
  keeps = λ slot i h n.
      let parts = or_parts (is_in slot one) (is_in slot two) (sym (is_in-append slot one two) ∙ n) in
      t.keeps slot i (s.grows slot h) parts.1 ∙ s.keeps slot i h parts.0;
  finds = λ assumed w at f. t.finds assumed w at (s.finds assumed w at f);
  pools = λ slot u. s.pools slot (t.pools slot u);
  bare = λ slot i n u.
      let parts = or_parts (is_in slot one) (is_in slot two) (sym (is_in-append slot one two) ∙ n) in
      t.bare slot i parts.1 u ∙ s.bare slot i parts.0 (t.pools slot u);
}

-- what is known then, and what was added
pub record Stepped (whole own : List Slot) (before after : Progress) : Type 0 where
  pub sound : Sound whole after
  pub step : Step own before after

-- ---- what stands in syllable 0

-- so much is known of the slots of a list
abbrev pub IsSmallIn : List Slot → Locations → Type 0
IsSmallIn own locations = (slot : Slot) (s : ℕ) → is_slot slot ≡ true → slot.syl ≡ 0 → is_in slot own ≡ true → held locations slot ≡ Some s → s < 2 ^ 13

small-put : (own : List Slot) (before after : Locations) → ((slot : Slot) → is_slot slot ≡ true → is_in slot own ≡ false → held after slot ≡ held before slot) → IsSmallIn own after → IsSmall before → IsSmall after
small-put own before after others new old slot s i z h = elim (cases_Bool (is_in slot own)) [
  | inl mine ↦ new slot s i z mine h
  | inr other ↦ old slot s i z (sym (others slot i other) ∙ h)
]

-- the half of a word is one
small-half : (w s : ℕ) → Some (half_of 0 w) ≡ Some s → s < 2 ^ 13
small-half w s e = let same : w % 2 ^ 13 ≡ s = cc in omega arith

pub small-word : (locations : Locations) (at : Spot) (w : ℕ) → (slot : Slot) (s : ℕ) → length locations ≡ 16384 → is_slot slot ≡ true → slot.syl ≡ 0 → is_in slot (of_word at) ≡ true
    → held (with_word locations at w) slot ≡ Some s → s < 2 ^ 13
small-word locations at w slot s size i z n h =
    let here : slot ≡ slot_of at 0 = word-zero at slot n z in
    small-half w s (sym (held-word locations at w 0 size (ap is_slot (sym here) ∙ i)) ∙ ap (held (with_word locations at w)) (sym here) ∙ h)

pub small-code : (locations : Locations) (at : Spot) (syl v : ℕ) → v < 2 ^ 13 → (slot : Slot) (s : ℕ) → length locations ≡ 16384 → is_slot slot ≡ true → is_in slot (slot_of at syl ∷ []) ≡ true
    → held (with_code locations at syl v) slot ≡ Some s → s < 2 ^ 13
small-code locations at syl v small slot s size i n h =
    let here : slot ≡ slot_of at syl = one-is (slot_of at syl) slot n in
    let is : Some v ≡ Some s = sym (held-code locations at syl v size (ap is_slot (sym here) ∙ i)) ∙ ap (held (with_code locations at syl v)) (sym here) ∙ h in
    let same : v ≡ s = cc in
    omega (arith, small)

-- ---- a pooled word

pub pool-step : (whole : List Slot) (p : Progress) (assumed : DataPlace) (w : ℕ) (at : Spot) → Sound whole p → are_free p.taken (of_word at) ≡ true
    → (assumed.sector < 16 → (at.pair ≡ assumed.pair) × (at.sector ≡ assumed.sector)) → Stepped whole [] p (with_pooled p (literal_of assumed w) at)
pool-step whole p assumed w at sound free home = record {
  sound = record {
    size = length-set p.locations (number_of at) (both_syllables w) ∙ sound.size;
    small = small-put (of_word at) p.locations (with_word p.locations at w)
        (λ slot i n. held-word-other p.locations at w slot (inside 0 low) (inside 1 high) i n)
        (λ slot s i z n h. small-word p.locations at w slot s sound.size i z n h) sound.small;
    closed = λ slot h. with_slots-keeps p.taken (of_word at) slot (sound.closed slot h);
    taken = λ slot h. with_slots-keeps p.taken (of_word at) slot (sound.taken slot h);
    pooled = each-push p.pool (literal_of assumed w, at) (λ e. IsPooled whole (with_pooled p (literal_of assumed w) at) e.0.word e.1)
        (λ index. IfSome_then (slice_get p.pool index) (sound.pooled index) (λ e is. still e.0.word e.1 is)) new;
    home = each-push p.pool (literal_of assumed w, at) (λ e. e.0.sector < 16 → (e.1.pair ≡ e.0.pair) × (e.1.sector ≡ e.0.sector)) sound.home home;
  };
  step = record {
    grows = λ slot h. with_slots-keeps p.taken (of_word at) slot h;
    keeps = λ slot i t n. kept slot i t;
    finds = λ other v there f. lookup-front (is_same_literal (literal_of other v)) p.pool ((literal_of assumed w, at) ∷ []) there f;
    pools = λ slot u. each-front p.pool ((literal_of assumed w, at) ∷ []) (λ e. is_same_spot e.1 (address_of slot) ≡ false) u;
    bare = λ slot i n u. held-word-other p.locations at w slot (inside 0 low) (inside 1 high) i
        (off-word at slot (each-last p.pool (literal_of assumed w, at) (λ e. is_same_spot e.1 (address_of slot) ≡ false) u));
  };
}
  where
    low : 0 < 2
    low = omega arith

    high : 1 < 2
    high = omega arith

    free-at : (syl : ℕ) → syl < 2 → p.taken (slot_of at syl) ≡ false
    free-at syl small = in-free p.taken (of_word at) (slot_of at syl) free (in-word at syl small)

    inside : (syl : ℕ) → syl < 2 → is_slot (slot_of at syl) ≡ true
    inside syl small = true_from_ne_false (is_slot (slot_of at syl)) (λ h. true≢false (sym (sound.closed (slot_of at syl) h) ∙ free-at syl small))

    -- what was taken stays as it was
    kept : (slot : Slot) → is_slot slot ≡ true → p.taken slot ≡ true → held (with_pooled p (literal_of assumed w) at).locations slot ≡ held p.locations slot
    kept slot i t = held-word-other p.locations at w slot (inside 0 low) (inside 1 high) i
        (false_from_ne_true (is_in slot (of_word at)) (λ h. true≢false (sym t ∙ in-free p.taken (of_word at) slot free h)))

    still : (word : ℕ) (there : Spot) → IsPooled whole p word there → IsPooled whole (with_pooled p (literal_of assumed w) at) word there
    still word there is = record {
      inside = is.inside;
      apart = is.apart;
      taken = λ syl small. with_slots-keeps p.taken (of_word at) (slot_of there syl) (is.taken syl small);
      kept = λ syl small. kept (slot_of there syl) (is.inside syl small) (is.taken syl small) ∙ is.kept syl small;
    }

    new : IsPooled whole (with_pooled p (literal_of assumed w) at) w at
    new = record {
      inside = inside;
      apart = λ syl small. false_from_ne_true (is_in (slot_of at syl) whole) (λ h. true≢false (sym (sound.taken (slot_of at syl) h) ∙ free-at syl small));
      taken = λ syl small. in-taken p.taken (of_word at) (slot_of at syl) (in-word at syl small);
      kept = λ syl small. held-word p.locations at w syl sound.size (inside syl small);
    }

-- ---- a line

-- what a line puts into its own slots changes no others
pub put-step : (whole own : List Slot) (p : Progress) (locations : Locations) → Sound whole p → length locations ≡ 16384 → IsSmallIn own locations
    → ((slot : Slot) → is_slot slot ≡ true → is_in slot own ≡ false → held locations slot ≡ held p.locations slot)
    → ((slot : Slot) → is_in slot own ≡ true → is_in slot whole ≡ true) → Stepped whole own p (record p { locations = locations })
put-step whole own p locations sound size small others part = record {
  sound = record {
    size = size;
    small = small-put own p.locations locations others small sound.small;
    closed = sound.closed;
    taken = sound.taken;
    pooled = λ index. IfSome_then (slice_get p.pool index) (sound.pooled index) (λ e is. still e.0.word e.1 is);
    home = sound.home;
  };
  step = record {
    grows = λ slot t. t;
    keeps = λ slot i t n. others slot i n;
    finds = λ assumed w at f. f;
    pools = λ slot u. u;
    bare = λ slot i n u. others slot i n;
  };
}
  where
    still : (word : ℕ) (there : Spot) → IsPooled whole p word there → IsPooled whole (record p { locations = locations }) word there
    still word there is = record {
      inside = is.inside;
      apart = is.apart;
      taken = is.taken;
      kept = λ syl small.
          others (slot_of there syl) (is.inside syl small) (false_from_ne_true (is_in (slot_of there syl) own) (λ h. true≢false (sym (part (slot_of there syl) h) ∙ is.apart syl small)))
          ∙ is.kept syl small;
    }
