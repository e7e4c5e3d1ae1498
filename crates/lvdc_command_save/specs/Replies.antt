-- How a deck is saved over devices that may fail, and what a want of memory leaves of them.
use Rattle.std.specs.Prelude.{◌≡◌, ℕ, List, map, take, Ok, Err}
use Rattle.lvdc_port.specs.Device.{Device}
use Rattle.lvdc_port.specs.Supplies.{supplied}
use Rattle.lvdc_deck.specs.declared.deck.Deck.{Deck}
use Rattle.lvdc_deck.specs.declared.fault.DeckFault.{DeckFault}
use Rattle.lvdc_reply.specs.Answer.{Answer}
use Rattle.lvdc_reply.specs.Replies.{Quiet, RoseAt, OthersQuiet, IsReply}
use Rattle.lvdc_command_run.specs.Answers.{failed_answer}
use Rattle.lvdc_command_run.specs.Runs.{ExchangesAdmitted}
use Rattle.lvdc_command_run.specs.Refusals.{refused_answer}
use Rattle.lvdc_command_run.specs.Trials.{trial_of}
use Rattle.lvdc_command_run.specs.declared.job.Engine.TheVariants.{Guarded}
use Rattle.lvdc_command_run.specs.declared.job.Job.TheVariants as job
use Rattle.lvdc_command_save.specs.Answers.{stop_answer, deck_for, save_answer}

-- ---- runs

-- How a deck's run of so many times ends over these devices: all is as the definition says; or a device failed in an exchange of
-- these times, and no other that is left has failed.
pub data IsStop {B : Type 0} (device_of : B → Device) (faults : B → ℕ) (n : ℕ) (deck : Deck) (old new : List B) : Answer → Type 0 where
  made : Quiet device_of faults old new → IsStop device_of faults n deck old new (stop_answer (map device_of old) deck n)
  failed : (step port : ℕ) → ExchangesAdmitted (trial_of (map device_of old) deck) n step port
      → RoseAt device_of faults port old new → OthersQuiet device_of faults port old new
      → IsStop device_of faults n deck old new (failed_answer (job.Deck Guarded) (trial_of (map device_of old) deck) step port)

-- How the bytes are answered: they are refused, and the devices are the same objects as before; or their deck is run.
pub data IsAnswered {B : Type 0} (device_of : B → Device) (faults : B → ℕ) (n : ℕ) (bytes : List ℕ) (old new : List B) : Answer → Type 0 where
  refused : (fault : DeckFault) → deck_for n bytes (map device_of old) ≡ Err fault → new ≡ old
      → IsAnswered device_of faults n bytes old new (refused_answer (map device_of old) fault)
  ran : (deck : Deck) (due : Answer) → deck_for n bytes (map device_of old) ≡ Ok deck → IsStop device_of faults n deck old new due
      → IsAnswered device_of faults n bytes old new due

-- ---- the answer

-- this is the answer where the device at this port fails in this step, and the times asked for make that exchange
pub record FailsInSave (n : ℕ) (bytes : List ℕ) (devices : List Device) (step port : ℕ) (reply : Answer) : Type 0 where
  pub deck : Deck
  pub means : deck_for n bytes devices ≡ Ok deck
  pub exchanges : ExchangesAdmitted (trial_of devices deck) n step port
  pub is : reply ≡ failed_answer (job.Deck Guarded) (trial_of devices deck) step port

-- how a number of times is answered over these bytes and devices
abbrev pub IsSaveReply : {B : Type 0} → (B → Device) → (B → ℕ) → ℕ → List ℕ → List B → List B → Answer → Type 0
IsSaveReply device_of faults n bytes old new reply =
    IsReply device_of faults (save_answer n bytes (map device_of old)) (FailsInSave n bytes (map device_of old)) old new reply

-- ---- want of memory

-- What a want of memory leaves of the devices of a deck's run: they are the same objects as before; or words of its TAPE lines were
-- supplied, the first so many or all, and no count has grown; or the times were made, and only the text found no memory.
pub data IsUnwritten {B : Type 0} (device_of : B → Device) (faults : B → ℕ) (n : ℕ) (deck : Deck) (old new : List B) : Type 0 where
  unmoved : new ≡ old → IsUnwritten device_of faults n deck old new
  supplying : (count : ℕ) → map device_of new ≡ supplied (take count deck.supplies) (map device_of old) → Quiet device_of faults old new
      → IsUnwritten device_of faults n deck old new
  writing : (due : Answer) → IsStop device_of faults n deck old new due → map device_of new ≡ due.devices
      → IsUnwritten device_of faults n deck old new

-- What it leaves of the devices over these bytes: they are the same objects as before; or the run of the deck was begun.
pub data IsUnanswered {B : Type 0} (device_of : B → Device) (faults : B → ℕ) (n : ℕ) (bytes : List ℕ) (old new : List B) : Type 0 where
  untouched : new ≡ old → IsUnanswered device_of faults n bytes old new
  begun : (deck : Deck) → deck_for n bytes (map device_of old) ≡ Ok deck → IsUnwritten device_of faults n deck old new
      → IsUnanswered device_of faults n bytes old new
