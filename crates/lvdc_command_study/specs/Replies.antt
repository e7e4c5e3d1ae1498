-- How a study is answered over devices that may fail.
use Rattle.std.specs.Prelude.{◌≡◌, ℕ, List, Ok}
use Rattle.lvdc_port.specs.Device.{Device}
use Rattle.lvdc_reply.specs.Answer.{Answer}
use Rattle.lvdc_command_run.specs.Trials.{trial_of}
use Rattle.lvdc_campaign_deck.specs.Study.{study_of}
use Rattle.lvdc_campaign_deck.specs.declared.study.StudyDeck.{StudyDeck}
use Rattle.lvdc_study.specs.Failures.{ExchangesInRuns}
use Rattle.lvdc_command_study.specs.Answers.{study_answer, failed_answer}

-- a run of a study comes in this step to an exchange with the device at this port
abbrev pub ExchangesIn : List Device → StudyDeck → ℕ → ℕ → Type 0
ExchangesIn devices study step port = ExchangesInRuns (trial_of devices study.deck).opening study.deck.count study.scripts step port

-- this is the answer where the device at this port fails in this step, and a run of the study makes that exchange
pub record FailsInStudy (bytes : List ℕ) (devices : List Device) (step port : ℕ) (reply : Answer) : Type 0 where
  pub study : StudyDeck
  pub means : study_of bytes devices ≡ Ok study
  pub exchanges : ExchangesIn devices study step port
  pub is : reply ≡ failed_answer devices port

-- How these bytes are answered over these devices, which stay as they are, since each run has some like them: with the answer that is due
-- where no device fails; or a device of a run failed in an exchange, and the answer says so.
pub data IsStudyReply (bytes : List ℕ) (devices : List Device) (reply : Answer) : Type 0 where
  answered : reply ≡ study_answer bytes devices → IsStudyReply bytes devices reply
  failed : (step port : ℕ) → FailsInStudy bytes devices step port reply → reply.status ≡ 10 → IsStudyReply bytes devices reply
