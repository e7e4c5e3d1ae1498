-- The sum of the counts, one module after the other.
use Rattle.std.proofs.Common.{◌≡◌, ℕ, ◌+◌, List, refl, ap, ◌∙◌, add-one}
use Rattle.lvdc_report.specs.Voted.{three_counts, counts_below}

pub counts_below_none : (counts : List (List ℕ)) → 0 ≡ counts_below counts 0
unfolding counts_below
counts_below_none counts = refl

pub counts_below_more : (counts : List (List ℕ)) (number sum next : ℕ) → sum ≡ counts_below counts number → next ≡ sum + three_counts counts (number + 1)
    → next ≡ counts_below counts (number + 1)
unfolding counts_below
counts_below_more counts number sum next so_far more = rw add-one (more ∙ ap (λ s. s + three_counts counts (number + 1)) so_far ∙ rw add-one refl)
