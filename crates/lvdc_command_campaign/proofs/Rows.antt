-- Worked lines of campaigns, their total, and the statuses of refusals.
use Rattle.std.proofs.Common.{◌≡◌, List, [], ◌∷◌, true, false, refl}
use Rattle.std.specs.Prelude.{codes}
use Rattle.std.specs.Fmt.{digits}
use Rattle.lvdc_text.specs.Numbers.{octal_text}
use Rattle.lvdc_fault.specs.declared.verdict.Verdict.TheVariants.{Admissible, Logic, Memory}
use Rattle.lvdc_lines.specs.Noted.{lines_of}
use Rattle.lvdc_campaign.specs.declared.row.Row.{Row}
use Rattle.lvdc_campaign_deck.specs.declared.fault.CampaignFault.TheVariants.{BadSection, BadLine, CountTooLarge, TooManyScripts, TooManyEvents}
use Rattle.lvdc_command_campaign.specs.Answers.{fault_status}
use Rattle.lvdc_command_campaign.specs.Texts.{verdict_text, campaign_text}

verdicts : (verdict_text Admissible ≡ codes "ADMISSIBLE") × (verdict_text (Logic 14 3) ≡ codes "LOGIC 14 3")
    × (verdict_text (Memory 7 (record { pair = 4; sector = 15; loc = 0o377 })) ≡ codes "MEMORY 7 4 17 377")
unfolding digits octal_text
verdicts = (refl, refl, refl)

-- an admissible script, one that isn't and differs, and one that isn't and comes to the same
three_rows : List Row
three_rows =
    record { name = codes "A"; verdict = Admissible; same = true } ∷ record { name = codes "B"; verdict = Logic 4 3; same = false }
    ∷ record { name = codes "C"; verdict = Logic 0 5; same = true } ∷ []

three_scripts : campaign_text three_rows
    ≡ codes "SCRIPT A ADMISSIBLE SAME\nSCRIPT B LOGIC 4 3 DIFFERS\nSCRIPT C LOGIC 0 5 SAME\nCAMPAIGN 3 ADMISSIBLE 1 SAME 2\n"
unfolding three_rows digits octal_text lines_of
three_scripts = refl

no_script : campaign_text [] ≡ codes "CAMPAIGN 0 ADMISSIBLE 0 SAME 0\n"
unfolding digits lines_of
no_script = refl

statuses : (fault_status (BadSection 1) ≡ 2) × (fault_status (BadLine 1) ≡ 2) × (fault_status (CountTooLarge 1) ≡ 2) × (fault_status (TooManyScripts 1) ≡ 2) × (fault_status (TooManyEvents 1) ≡ 2)
statuses = (refl, refl, refl, refl, refl)
