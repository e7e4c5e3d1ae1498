-- Texts that grow by one line after the other.
use Rattle.std.proofs.Common.{◌≡◌, ℕ, ◌+◌, List, ◌++◌, sym, ap, ◌∙◌, append_assoc, add-one}
use Rattle.std.proofs.lemmas.List.{append-nil}
use Rattle.lvdc_lines.specs.Noted.{lines_below}

pub below_none : (line : ℕ → List ℕ) (front : List ℕ) → front ≡ front ++ lines_below line 0
unfolding lines_below
below_none line front = sym (append-nil front)

pub below_more : (line : ℕ → List ℕ) (number : ℕ) (front text next : List ℕ) → text ≡ front ++ lines_below line number
    → next ≡ text ++ line number → next ≡ front ++ lines_below line (number + 1)
unfolding lines_below
below_more line number front text next so_far more =
    rw add-one (more ∙ ap (λ t. t ++ line number) so_far ∙ append_assoc front (lines_below line number) (line number))
