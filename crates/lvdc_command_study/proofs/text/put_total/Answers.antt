use Rattle.std.proofs.Common.{◌≡◌, ℕ, List, ◌++◌, codes, decimal, length, is_none, append_assoc}
use Rattle.lvdc_study.specs.declared.row.Row.{Row}
use Rattle.lvdc_command_campaign.specs.Texts.{counts_text, admits, count_in}
use Rattle.lvdc_command_study.proofs.text.put_total.Goals as goal

-- the counts and what follows them
line : (out counts : List ℕ) (masking : ℕ) → out ++ counts ++ codes " FORM" ++ (codes " " ++ (decimal masking ++ codes "\n")) ≡ out ++ (counts ++ codes " FORM " ++ decimal masking ++ codes "\n")
line out counts masking = simp append_assoc

pub returns-clause-line : goal.returns-clause-line
returns-clause-line c =
    let rows = c.args.rows.now in
    let counts = counts_text (codes "STUDY") (length rows) (count_in (λ (row : Row). admits row.verdict) rows) (count_in (λ (row : Row). is_none row.difference) rows) in
    rw (← line c.args.out.now.items counts (count_in (λ (row : Row). row.masks) rows))
    (rw c.masking_in.ensures at (rw c.same_in.ensures at (rw c.admissible_in.ensures at (rw c.in_ok-put_counts.ensures.text at c.put_line.ensures.text))))
