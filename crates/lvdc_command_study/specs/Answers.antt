-- The answer to a study: its rows, or its first refusal.
use Rattle.std.specs.Prelude.{◌≡◌, ℕ, List, ◌++◌, codes, All, Result, Ok, Err}
use Rattle.lvdc_text.specs.Numbers.{octal_text}
use Rattle.lvdc_port.specs.Device.{Device}
use Rattle.lvdc_port.specs.Devices.{HoldWords}
use Rattle.lvdc_reply.specs.Answer.{Answer, answer_with, refusal_text}
use Rattle.lvdc_command_run.specs.Trials.{trial_of}
use Rattle.lvdc_campaign_deck.specs.Faults.{name_of, line_of}
use Rattle.lvdc_campaign_deck.specs.declared.fault.CampaignFault.{CampaignFault}
use Rattle.lvdc_command_campaign.specs.Answers.{fault_status}
use Rattle.lvdc_campaign_deck.specs.Study.{study_of}
use Rattle.lvdc_campaign_deck.specs.declared.study.StudyDeck.{StudyDeck}
use Rattle.lvdc_study.specs.Study.{rows_of, KeepsLaws}
use Rattle.lvdc_study.specs.declared.row.Row.{Row}
use Rattle.lvdc_command_study.specs.Texts.{study_text}

-- the rows of a study over these devices: each run starts as that of its deck does
abbrev pub rows_in : List Device → StudyDeck → List Row
rows_in devices study = rows_of (trial_of devices study.deck).opening study.deck.count study.scripts

-- the answer to a study, or to its refusal; the devices stay as they are
abbrev pub answer_by : List Device → Result StudyDeck CampaignFault → Answer
answer_by devices (Ok study) = answer_with 0 (study_text (rows_in devices study)) devices
answer_by devices (Err fault) = answer_with (fault_status fault) (refusal_text (name_of fault) (line_of fault)) devices

-- the answer to these bytes, where no device fails
abbrev pub study_answer : List ℕ → List Device → Answer
study_answer bytes devices = answer_by devices (study_of bytes devices)

-- what is told where the device at this port fails
abbrev pub failed_text : ℕ → List ℕ
failed_text port = codes "DEVICE " ++ octal_text 3 port ++ codes "\n"

-- the answer then
abbrev pub failed_answer : List Device → ℕ → Answer
failed_answer devices port = answer_with 10 (failed_text port) devices

-- the rows of the study in the bytes, where they are one, keep the laws: over devices that hold words
abbrev pub RowsKeepLaws : List ℕ → List Device → Type 0
RowsKeepLaws bytes devices = (study : StudyDeck) → study_of bytes devices ≡ Ok study → HoldWords devices → All KeepsLaws (rows_in devices study)
