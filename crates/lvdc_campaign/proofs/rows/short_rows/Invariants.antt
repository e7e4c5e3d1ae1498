use Rattle.std.proofs.Common.{◌≡◌, ◌++◌, map}
use Rattle.lvdc_campaign.specs.Campaign.{short_row}
use Rattle.lvdc_campaign.proofs.rows.short_rows.Given as goal

-- the rows so far and those that are left are all
abbrev pub invariant-loop-row : goal.invariant-loop-row
invariant-loop-row l = l.rows.items ++ map short_row l.row-iterator.rest.items ≡ map short_row l.fn.studied.items
