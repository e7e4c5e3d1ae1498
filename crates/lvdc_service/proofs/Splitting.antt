-- The part of a line up to its next space, or to its end.
use Rattle.std.proofs.Common.{◌≡◌, ℕ, ◌+◌, ◌-◌, ◌<◌, ◌≤◌, false, List, [], ◌∷◌, ◌++◌, length, drop, get_or, refl, sym, ap, ◌∙◌, append_assoc, arith, All, length-take, length-drop}
use Rattle.std.specs.List.{slice_split, slice_range}
use Rattle.std.proofs.lemmas.List.{drop_more, drop_all, get_or-take, get_or-drop, append-nil}
use Rattle.std.proofs.lemmas.List.Folds.{drop_split}
use Rattle.std.proofs.lemmas.List.Splits.{slice_split_at, slice_split_none}
use Rattle.std.proofs.lemmas.Grind.{get_or_default_zero}
use Rattle.lvdc_service.specs.Frames.{is_space}

-- no space stands from one place on before another
abbrev pub HasNoSpace : List ℕ → ℕ → ℕ → Type 0
HasNoSpace line start end = (k : ℕ) → start ≤ k → k < end → is_space (get_or line k 0) ≡ false

no_space : (line : List ℕ) (start end : ℕ) → start ≤ end → end ≤ length line → HasNoSpace line start end → All (λ b. is_space b ≡ false) (slice_range line start end)
no_space line start end o l h = λ k d w.
    let size : length (slice_range line start end) ≡ end - start = omega (arith, length-take (end - start) (drop start line), length-drop start line) in
    let inside : k < end - start = omega arith in
    let read : get_or (slice_range line start end) k 0 ≡ get_or line (start + k) 0 = get_or-take (end - start) (drop start line) k 0 inside ∙ get_or-drop start line k 0 in
    let same : get_or (slice_range line start end) k d ≡ get_or (slice_range line start end) k 0 = get_or_default_zero (slice_range line start end) k d (omega arith) in
    ap is_space (same ∙ read) ∙ h (start + k) (omega arith) (omega arith)

pub part_ended : (line : List ℕ) (start end : ℕ) → start ≤ end → end < length line → HasNoSpace line start end → get_or line end 0 ≡ 32
    → slice_split is_space (drop start line) ≡ slice_range line start end ∷ slice_split is_space (drop (end + 1) line)
part_ended line start end o l h k =
    let cut : drop start line ≡ slice_range line start end ++ (32 ∷ drop (end + 1) line) =
    drop_split line start end o ∙ ap (λ rest. slice_range line start end ++ rest) (drop_more line end 0 l ∙ ap (λ b. b ∷ drop (end + 1) line) k) in
    ap (slice_split is_space) cut ∙ slice_split_at is_space (slice_range line start end) 32 (drop (end + 1) line) (no_space line start end o (omega arith) h) refl

pub part_last : (line : List ℕ) (start end : ℕ) → start ≤ end → end ≡ length line → HasNoSpace line start end
    → slice_split is_space (drop start line) ≡ slice_range line start end ∷ []
part_last line start end o l h =
    let cut : drop start line ≡ slice_range line start end =
    drop_split line start end o ∙ ap (λ rest. slice_range line start end ++ rest) (drop_all end line (omega arith)) ∙ append-nil (slice_range line start end) in
    ap (slice_split is_space) cut ∙ slice_split_none is_space (slice_range line start end) (no_space line start end o (omega arith) h)

pub parts_more : (parts all left later : List (List ℕ)) (part : List ℕ) → parts ++ left ≡ all → left ≡ part ∷ later → (parts ++ part ∷ []) ++ later ≡ all
parts_more parts all left later part e is = append_assoc parts (part ∷ []) later ∙ ap (λ ps. parts ++ ps) (sym is) ∙ e
