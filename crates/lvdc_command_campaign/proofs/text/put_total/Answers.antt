use Rattle.std.proofs.Common.{codes, length}
use Rattle.lvdc_campaign.specs.declared.row.Row.{Row}
use Rattle.lvdc_command_campaign.specs.Texts.{counts_text, admits, count_in}
use Rattle.lvdc_lines.proofs.LineLists.{onward}
use Rattle.lvdc_command_campaign.proofs.text.put_total.Goals as goal

pub returns-clause-line : goal.returns-clause-line
returns-clause-line c =
    let rows = c.args.rows.now in
    onward _ (counts_text (codes "CAMPAIGN") (length rows) (count_in (λ (row : Row). admits row.verdict) rows) (count_in (λ (row : Row). row.same) rows)) (codes "\n") _ _
    (rw c.admissible_in.ensures at (rw c.same_in.ensures at c.in_ok-put_counts.ensures.text)) c.in_ok-extend_from_slice.ensures.items
