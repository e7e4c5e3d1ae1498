-- A study that can be run, and what is told of it.
use Rattle.std.specs.Prelude.{◌≡◌, ℕ, ◌≤◌, true, List, length, All}
use Rattle.lvdc_map.specs.Memory.{are_rising, AllThere}
use Rattle.lvdc_port.specs.Device.{Device}
use Rattle.lvdc_reply.specs.declared.reply.Reply.{Reply}
use Rattle.lvdc_campaign_deck.specs.Scripts.{CanRun}
use Rattle.lvdc_fault.specs.declared.TheConstants.{MOST_EVENTS}
use Rattle.lvdc_campaign_deck.specs.declared.TheConstants.{MOST_STUDY_SCRIPTS}
use Rattle.lvdc_campaign_deck.specs.declared.study.StudyDeck.{StudyDeck}
use Rattle.lvdc_fault.specs.declared.TheConstants.{MOST_TIMES}
use Rattle.lvdc_command_study.specs.Answers.{rows_in, failed_text}
use Rattle.lvdc_command_study.specs.Replies.{ExchangesIn}
use Rattle.lvdc_command_study.specs.Texts.{study_text}

-- what is true of each study that is read
pub record IsRunnable (study : StudyDeck) : Type 0 where
  pub count : study.deck.count ≤ MOST_TIMES
  pub rising : are_rising study.deck.image.words ≡ true
  pub there : AllThere study.deck.banks study.deck.image.words
  pub few : length study.scripts ≤ MOST_STUDY_SCRIPTS
  pub run : All (CanRun MOST_EVENTS) study.scripts

-- a study is told by this reply: its rows, or the failure of a device with which a run of it comes to an exchange
pub data IsStudied (devices : List Device) (study : StudyDeck) (reply : Reply) : Type 0 where
  made : reply.status ≡ 0 → reply.text ≡ study_text (rows_in devices study) → IsStudied devices study reply
  failed : (step port : ℕ) → ExchangesIn devices study step port → reply.status ≡ 10 → reply.text ≡ failed_text port → IsStudied devices study reply
