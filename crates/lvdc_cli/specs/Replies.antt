-- What is promised of a command's reply to these bytes, over devices before and after.
use Rattle.std.specs.Prelude.{◌≡◌, ◌≢◌, ℕ, false, List, map, Ok}
use Rattle.std.specs.declared.option.Option.{Option}
use Rattle.lvdc_port.specs.Device.{Device}
use Rattle.lvdc_model.specs.Trial.{Trial}
use Rattle.lvdc_model.specs.declared.outcome.Outcome.{Outcome}
use Rattle.lvdc_deck.specs.Deck.{deck_of}
use Rattle.lvdc_deck.specs.declared.deck.Deck.{Deck}
use Rattle.lvdc_reply.specs.Answer.{answer_of}
use Rattle.lvdc_reply.specs.Replies.{Quiet, IsRefused}
use Rattle.lvdc_reply.specs.declared.reply.Reply.{Reply}
use Rattle.lvdc_command_run.specs.Headline.{Headline}
use Rattle.lvdc_command_run.specs.Trials.{trial_of}
use Rattle.lvdc_command_run.specs.declared.job.Engine.TheVariants.{Guarded}
use Rattle.lvdc_command_run.specs.declared.job.Job.{Job}
use Rattle.lvdc_cli.specs.declared.command.Command.{Command}
use Rattle.lvdc_cli.specs.declared.command.Command.TheVariants.{Run}
use Rattle.lvdc_cli.specs.Commands.{command_answer, RunsThat, HoldsFor, IsReplyTo}

-- in every case it is how the command is answered
abbrev pub IsReplyOf : {B : Type 0} → (B → Device) → (B → ℕ) → Command → List ℕ → List B → List B → Reply → Type 0
IsReplyOf device_of faults command bytes old new reply = IsReplyTo device_of faults command bytes old new (answer_of reply (map device_of new))

-- where no device fails, status, text and devices are those of the definition
abbrev pub IsAnswerOf : {B : Type 0} → (B → Device) → Command → List ℕ → List B → List B → Reply → Type 0
IsAnswerOf device_of command bytes old new reply =
    reply.status ≢ 10 → answer_of reply (map device_of new) ≡ command_answer command bytes (map device_of old)

-- where no device fails, the command is `run` and the bytes are a deck, the headline holds of the deck's trial
abbrev pub IsHeadlineOf : {B : Type 0} → (B → Device) → Command → List ℕ → List B → List B → Reply → Type 0
IsHeadlineOf device_of command bytes old new reply =
    reply.status ≢ 10 → (deck : Deck) → command ≡ Run Guarded → deck_of bytes (map device_of old) false ≡ Ok deck
    → Headline (trial_of (map device_of old) deck) deck.count reply.status reply.text (map device_of new)

-- what is true of the input, the devices and the reply beside the answer
abbrev pub HoldsOf : {B : Type 0} → (B → Device) → Command → List ℕ → List B → List B → Reply → Type 0
HoldsOf device_of command bytes old new reply = HoldsFor command bytes (map device_of old) (answer_of reply (map device_of new))

-- this status, 5 or 6, has its cause in the command's run: only where this is so of the run, and always where it is, unless a
-- device fails
pub record ReplyHasCause (P : Job → Trial → ℕ → Type 0) (Q : Option Outcome → Type 0) (status : ℕ) (command : Command) (bytes : List ℕ)
    (devices : List Device) (reply : Reply) : Type 0 where
  pub only : reply.status ≡ status → RunsThat P Q command bytes devices
  pub always : reply.status ≢ 10 → RunsThat P Q command bytes devices → reply.status ≡ status

-- what the reply leaves of the devices: the same objects as before where the input was refused, and no grown count of a device that
-- is left where none fails
pub record KeepsDevices {B : Type 0} (device_of : B → Device) (faults : B → ℕ) (old new : List B) (reply : Reply) : Type 0 where
  pub refused : IsRefused reply.status → new ≡ old
  pub quiet : reply.status ≢ 10 → Quiet device_of faults old new
