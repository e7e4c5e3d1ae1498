use Rattle.std.proofs.Common.{◌≡◌, true}
use Rattle.std.proofs.lemmas.List.Elements.{All-map}
use Rattle.lvdc_fault.specs.declared.verdict.Verdict.TheVariants.{Admissible}
use Rattle.lvdc_campaign.specs.Campaign.{row_of}
use Rattle.lvdc_campaign.specs.declared.row.Row.{Row}
use Rattle.lvdc_campaign.proofs.laws.admissible_rows_are_same.Goals as goal

pub returns : goal.returns
returns c = λ program times scripts opens.
    All-map (λ (row : Row). row.verdict ≡ Admissible → row.same ≡ true) (row_of program times) scripts (λ k d l. c.admissible_is_same.ensures _ times opens)
