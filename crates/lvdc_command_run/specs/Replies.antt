-- How a job is answered over devices that may fail, and what a want of memory leaves of them.
use Rattle.std.specs.Prelude.{◌≡◌, ℕ, false, List, map, take, Err}
use Rattle.lvdc_port.specs.Device.{Device}
use Rattle.lvdc_port.specs.Supplies.{supplied}
use Rattle.lvdc_model.specs.Trial.{Trial}
use Rattle.lvdc_deck.specs.Deck.{deck_of}
use Rattle.lvdc_deck.specs.declared.deck.Deck.{Deck}
use Rattle.lvdc_deck.specs.declared.fault.DeckFault.{DeckFault}
use Rattle.lvdc_reply.specs.Answer.{Answer}
use Rattle.lvdc_reply.specs.Replies.{Quiet, RoseAt, OthersQuiet, IsReply}
use Rattle.lvdc_command_run.specs.declared.job.Engine.{Engine}
use Rattle.lvdc_command_run.specs.declared.job.Job.{Job}
use Rattle.lvdc_command_run.specs.declared.job.Job.TheVariants as job
use Rattle.lvdc_command_run.specs.Trials.{trial_of}
use Rattle.lvdc_command_run.specs.Refusals.{refused_answer}
use Rattle.lvdc_command_run.specs.Answers.{run_answer, failed_answer, job_answer}
use Rattle.lvdc_command_run.specs.Runs.{Means, Exchanges}

-- ---- runs

-- How a job's run of a trial ends over these devices: all is as the run says; or a device failed in an exchange of the run, and
-- no other that is left has failed.
pub data IsRun {B : Type 0} (device_of : B → Device) (faults : B → ℕ) (j : Job) (o : Trial) (n : ℕ) (old new : List B) : Answer → Type 0 where
  made : Quiet device_of faults old new → IsRun device_of faults j o n old new (run_answer j o n)
  failed : (step port : ℕ) → Exchanges j o n step port → RoseAt device_of faults port old new → OthersQuiet device_of faults port old new
      → IsRun device_of faults j o n old new (failed_answer j o step port)

-- the same of a deck's trial
abbrev pub IsRunOf : {B : Type 0} → (B → Device) → (B → ℕ) → Job → Deck → List B → List B → Answer → Type 0
IsRunOf device_of faults j deck old new due = IsRun device_of faults j (trial_of (map device_of old) deck) deck.count old new due

-- How the deck of a job is answered: it is refused, and the devices are the same objects as before; or it is run.
pub data IsAnswered {B : Type 0} (device_of : B → Device) (faults : B → ℕ) (j : Job) (bytes : List ℕ) (old new : List B) : Answer → Type 0 where
  refused : (engine : Engine) (fault : DeckFault) → j ≡ job.Deck engine → deck_of bytes (map device_of old) false ≡ Err fault → new ≡ old
      → IsAnswered device_of faults j bytes old new (refused_answer (map device_of old) fault)
  ran : (deck : Deck) (due : Answer) → Means j bytes (map device_of old) deck → IsRunOf device_of faults j deck old new due
      → IsAnswered device_of faults j bytes old new due

-- ---- the answer

-- this is the answer where the device at this port fails in this step, and the run of the job's deck makes that exchange
pub record FailsInRun (j : Job) (bytes : List ℕ) (devices : List Device) (step port : ℕ) (reply : Answer) : Type 0 where
  pub deck : Deck
  pub means : Means j bytes devices deck
  pub exchanges : Exchanges j (trial_of devices deck) deck.count step port
  pub is : reply ≡ failed_answer j (trial_of devices deck) step port

-- how a job is answered over these bytes and devices
abbrev pub IsJobReply : {B : Type 0} → (B → Device) → (B → ℕ) → Job → List ℕ → List B → List B → Answer → Type 0
IsJobReply device_of faults j bytes old new reply =
    IsReply device_of faults (job_answer j bytes (map device_of old)) (FailsInRun j bytes (map device_of old)) old new reply

-- ---- want of memory

-- What a want of memory leaves of the devices of a deck's run: words of its TAPE lines were supplied, the first so many or
-- all, and no count has grown; or the run was made, and only its report found no memory.
pub data IsUnreported {B : Type 0} (device_of : B → Device) (faults : B → ℕ) (j : Job) (deck : Deck) (old new : List B) : Type 0 where
  supplying : (count : ℕ) → map device_of new ≡ supplied (take count deck.supplies) (map device_of old) → Quiet device_of faults old new
      → IsUnreported device_of faults j deck old new
  reporting : (due : Answer) → IsRunOf device_of faults j deck old new due → map device_of new ≡ due.devices
      → IsUnreported device_of faults j deck old new

-- What it leaves of the devices of a job over these bytes: they are the same objects as before; or the run of the job's deck was
-- begun.
pub data IsUnanswered {B : Type 0} (device_of : B → Device) (faults : B → ℕ) (j : Job) (bytes : List ℕ) (old new : List B) : Type 0 where
  untouched : new ≡ old → IsUnanswered device_of faults j bytes old new
  begun : (deck : Deck) → Means j bytes (map device_of old) deck → IsUnreported device_of faults j deck old new
      → IsUnanswered device_of faults j bytes old new
