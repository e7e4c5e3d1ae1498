-- A text, cut at the first byte that passes a test.
use Rattle.std.proofs.Common.{◌≡◌, ℕ, ◌+◌, ◌<◌, ◌≤◌, Bool, true, false, List, ◌∷◌, [], length, take, drop, refl, sym, ap, ◌∙◌, Some, arith, take_all, All, length-drop}
use Rattle.std.specs.Prelude.{nat_lt, not, if◌then◌else◌}
use Rattle.std.specs.declared.option.Option.{Option}
use Rattle.std.specs.declared.option.Option.TheVariants.{None}
use Rattle.std.specs.List.{position, position_or_len, before_first, after_first, list_any, slice_split}
use Rattle.lvdc_source.specs.Numbers.{after_any}
use Rattle.std.proofs.lemmas.Bool.Decides.{nat_tests}
use Rattle.std.proofs.lemmas.Option.{cond_some}
use Rattle.std.proofs.lemmas.List.Folds.{list_any_at, list_any_none}
use Rattle.std.proofs.lemmas.List.Sums.{prefix_len-le-length, fails_before_first, passes_at_first}
use Rattle.std.proofs.lemmas.List.Splits.{slice_split_first, slice_split_none}

cond_none : (b : Bool) (x : ℕ) → (if b then Some x else None) ≡ None → b ≡ false
cond_none true x e = absurd (cc)
cond_none false x e = refl

module _ (p : ℕ → Bool) (xs : List ℕ) where
  -- where there is such a byte
  pub first_at : (at : ℕ) → position p xs ≡ Some at → (position_or_len p xs ≡ at) × (at < length xs)
  first_at at e =
      let parts = cond_some (nat_lt (position_or_len p xs) (length xs)) (position_or_len p xs) at e in
      let within : position_or_len p xs < length xs = grind (arith, nat_tests) in
      (parts.1, omega arith)

  pub cut_before : (at : ℕ) → position p xs ≡ Some at → take at xs ≡ before_first p xs
  cut_before at e = ap (λ n. take n xs) (sym (first_at at e).0)

  pub cut_found : (at : ℕ) → position p xs ≡ Some at → list_any p xs ≡ true
  cut_found at e =
      let place = first_at at e in
      list_any_at p xs (position_or_len p xs) 0 (omega arith) (passes_at_first p xs 0 (omega arith))

  pub cut_after : (at : ℕ) → position p xs ≡ Some at → Some (drop (at + 1) xs) ≡ after_any p xs
  cut_after at e = rw (cut_found at e) (ap (λ n. Some (drop (n + 1) xs)) (sym (first_at at e).0))

  -- where there is none
  none_at : position p xs ≡ None → position_or_len p xs ≡ length xs
  none_at e =
      let past = cond_none (nat_lt (position_or_len p xs) (length xs)) (position_or_len p xs) e in
      let least : length xs ≤ position_or_len p xs = grind (arith, nat_tests) in
      let most = prefix_len-le-length (λ x. not (p x)) xs in
      omega arith

  pub none_passes : position p xs ≡ None → All (λ x. p x ≡ false) xs
  none_passes e = λ k d l. fails_before_first p xs k d (omega (arith, none_at e))

  pub uncut_before : position p xs ≡ None → xs ≡ before_first p xs
  uncut_before e = sym (ap (λ n. take n xs) (none_at e) ∙ take_all (length xs) xs (omega arith))

  pub uncut_after : position p xs ≡ None → None ≡ after_any p xs
  uncut_after e = rw (list_any_none p xs (none_passes e)) refl

-- the fields of what is left
abbrev pub fields_left : (ℕ → Bool) → Option (List ℕ) → List (List ℕ)
fields_left p None = []
fields_left p (Some text) = slice_split p text

-- the bytes that are left, and one where a field is
abbrev pub size_left : Option (List ℕ) → ℕ
size_left None = 0
size_left (Some text) = length text + 1

module _ (p : ℕ → Bool) (xs : List ℕ) where
  split_at : (found : Option ℕ) → position p xs ≡ found → slice_split p xs ≡ before_first p xs ∷ fields_left p (after_any p xs)
  split_at (Some at) e =
      let place = first_at p xs at e in
      let lt : position_or_len p xs < length xs = omega arith in
      let same : Some (after_first p xs) ≡ after_any p xs = rw (cut_found p xs at e) refl in
      slice_split_first p xs 0 lt ∙ ap (λ (left : Option (List ℕ)). before_first p xs ∷ fields_left p left) same
  split_at None e =
      slice_split_none p xs (none_passes p xs e) ∙ ap (λ (front : List ℕ). front ∷ []) (uncut_before p xs e)
      ∙ ap (λ (left : Option (List ℕ)). before_first p xs ∷ fields_left p left) (uncut_after p xs e)

  -- the first field, and the fields of what stands after it
  pub fields_first : slice_split p xs ≡ before_first p xs ∷ fields_left p (after_any p xs)
  fields_first = split_at (position p xs) refl

  smaller_at : (found : Option ℕ) → position p xs ≡ found → size_left (after_any p xs) < length xs + 1
  smaller_at (Some at) e =
      let place = first_at p xs at e in
      rw (sym (cut_after p xs at e)) (omega (arith, length-drop (at + 1) xs))
  smaller_at None e = rw (sym (uncut_after p xs e)) (omega arith)

  -- less is left
  pub smaller : size_left (after_any p xs) < length xs + 1
  smaller = smaller_at (position p xs) refl
