-- The lines of a run, gathered one after another.
use Rattle.std.proofs.Common.{◌≡◌, ◌≤◌, ℕ, ◌+◌, ◌*◌, ◌<◌, Bool, true, false, cond, List, [], ◌∷◌, ◌++◌, length, take, None, Some, slice_get, sym, ap, ◌∙◌, ◌⊎◌, inl, inr}
use Rattle.std.specs.Prelude.{nat_lt}
use Rattle.std.proofs.lemmas.Bool.{cases_lt}
use Rattle.std.proofs.lemmas.List.Elements.{filter_more}
use Rattle.std.proofs.lemmas.Option.{get_or_from_slice_get, slice_get_past}
use Rattle.lvdc_fault.specs.Script.{first_of}
use Rattle.lvdc_fault.specs.declared.event.Event.{Event}
use Rattle.lvdc_withstands.specs.Form.{lines_in}

within : (xs : List Event) (i : ℕ) (x : Event) → slice_get xs i ≡ Some x → i < length xs
within xs i x h = by_case (cases_lt i (length xs))
  where
    by_case : (i < length xs) ⊎ (length xs ≤ i) → i < length xs
    by_case (inl below) = below
    by_case (inr past) = absurd (let none : None ≡ Some x = sym (slice_get_past xs i past) ∙ h in cc)

one-more : (count : ℕ) (xs : List Event) (i : ℕ) (x : Event) → slice_get xs i ≡ Some x
    → lines_in count (take (i + 1) xs) ≡ lines_in count (take i xs) ++ cond (nat_lt (first_of x) (3 * count)) (x ∷ []) []
one-more count xs i x h =
    filter_more (λ e. nat_lt (first_of e) (3 * count)) xs i x (within xs i x h)
    ∙ ap (λ (y : Event). lines_in count (take i xs) ++ cond (nat_lt (first_of y) (3 * count)) (y ∷ []) []) (get_or_from_slice_get xs i x x h)

-- a line that begins in the run
pub gathered-more : (count : ℕ) (xs : List Event) (i : ℕ) (x : Event) (lines new : List Event) → slice_get xs i ≡ Some x → lines ≡ lines_in count (take i xs)
    → nat_lt (first_of x) (3 * count) ≡ true → new ≡ lines ++ x ∷ [] → new ≡ lines_in count (take (i + 1) xs)
gathered-more count xs i x lines new h so_far begins is =
    is ∙ ap (λ (ys : List Event). ys ++ x ∷ []) so_far ∙ ap (λ (b : Bool). lines_in count (take i xs) ++ cond b (x ∷ []) []) (sym begins) ∙ sym (one-more count xs i x h)

append-nil : (xs : List Event) → xs ++ [] ≡ xs
append-nil [] = λ i. []
append-nil (x ∷ xs) = ap (λ (ys : List Event). x ∷ ys) (append-nil xs)

-- one that doesn't
pub gathered-same : (count : ℕ) (xs : List Event) (i : ℕ) (x : Event) (lines new : List Event) → slice_get xs i ≡ Some x → lines ≡ lines_in count (take i xs)
    → nat_lt (first_of x) (3 * count) ≡ false → new ≡ lines → new ≡ lines_in count (take (i + 1) xs)
gathered-same count xs i x lines new h so_far later is =
    is ∙ so_far ∙ sym (append-nil (lines_in count (take i xs))) ∙ ap (λ (b : Bool). lines_in count (take i xs) ++ cond b (x ∷ []) []) (sym later) ∙ sym (one-more count xs i x h)
