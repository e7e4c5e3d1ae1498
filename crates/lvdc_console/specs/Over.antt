-- How the program answers: as the top call does over devices that never fail and of which only the start is known outside.
use Rattle.std.specs.Prelude.{◌≡◌, ◌≢◌, ℕ, ◌+◌, true, false, List, [], IsSome, Ok}
use Rattle.std.specs.declared.option.Option.TheVariants.{None, Some}
use Rattle.lvdc_text.specs.Causes.{Rose}
use Rattle.lvdc_text.specs.Streams.{SourceState, SinkState}
use Rattle.lvdc_text.specs.Transfer.{TookCount, TookAtMost}
use Rattle.lvdc_port.specs.Device.{Device}
use Rattle.lvdc_deck.specs.Deck.{deck_of}
use Rattle.lvdc_deck.specs.declared.deck.Deck.{Deck}
use Rattle.lvdc_reply.specs.Answer.{answer_with}
use Rattle.lvdc_command_run.specs.declared.job.Engine.TheVariants.{Guarded}
use Rattle.lvdc_command_run.specs.Headline.{Headline}
use Rattle.lvdc_command_run.specs.Trials.{trial_of}
use Rattle.lvdc_cli.specs.declared.command.Command.{Command}
use Rattle.lvdc_cli.specs.declared.command.Command.TheVariants.{Run}
use Rattle.lvdc_cli.specs.Words.{command_of, reads, limit_for}
use Rattle.lvdc_cli.specs.Texts.{usage_text, read_fault_text, too_long_text}
use Rattle.lvdc_cli.specs.Commands.{command_answer, HoldsFor}
use Rattle.lvdc_cli.specs.Outside.{outside}
use Rattle.lvdc_cli.specs.Top.{HasRead, IsTold, CarriesHeadline}

-- A command's reply over these bytes and devices, none of which ever fails, by its status and text: with some devices that are left it
-- is the answer of the definition, and the command's law and the headline hold of it.
pub record IsReplied (devices : List Device) (command : Command) (bytes : List ℕ) (status : ℕ) (text : List ℕ) : Type 0 where
  pub left : List Device
  pub is_reply : answer_with status text left ≡ command_answer command bytes devices
  pub holds : HoldsFor command bytes devices (answer_with status text left)
  pub headline : (deck : Deck) → command ≡ Run Guarded → deck_of bytes devices false ≡ Ok deck
      → Headline (trial_of devices deck) deck.count status text left

-- The status and the text that are due over these devices, none of which ever fails, by the words and by the source before and after:
-- the cases of the top call.
pub data IsDueOver (devices : List Device) (words : List (List ℕ)) (before after : SourceState) : ℕ → List ℕ → Type 0 where
  -- the words are no command
  usage : command_of words ≡ None → after ≡ before → IsDueOver devices words before after 1 usage_text
  -- a read failed
  read_fault : reads (command_of words) ≡ true → Rose before.faults after.faults
      → TookAtMost before.left after.left (limit_for (command_of words)) → IsDueOver devices words before after 7 read_fault_text
  -- one byte too many was taken
  too_long : reads (command_of words) ≡ true → after.faults ≡ before.faults
      → TookCount before.left after.left (limit_for (command_of words) + 1) → IsDueOver devices words before after 11 too_long_text
  -- all bytes that the command asks for were taken, and this is the reply to them
  replied : (command : Command) (bytes : List ℕ) → command_of words ≡ Some command → after.faults ≡ before.faults
      → HasRead command before after bytes → HoldsFor command bytes devices (command_answer command bytes devices)
      → IsDueOver devices words before after (command_answer command bytes devices).status (command_answer command bytes devices).text
  -- memory is wanting
  wants_memory : IsSome (command_of words) → after.faults ≡ before.faults
      → TookAtMost before.left after.left (limit_for (command_of words)) → IsDueOver devices words before after 9 []

-- The status is that of the answer that is due over these devices, and its text was written; or a write failed, the status is 8, and
-- a front of that text was written.
pub record IsAnswerOver (devices : List Device) (words : List (List ℕ)) (source rest : SourceState) (sink now : SinkState)
    (status : ℕ) : Type 0 where
  pub due_status : ℕ
  pub due_text : List ℕ
  pub is_due : IsDueOver devices words source rest due_status due_text
  pub told : IsTold sink now due_status due_text status

-- no fault of the source or the sink and no want of memory is told
pub record IsUntroubled (status : ℕ) : Type 0 where
  pub no_read_fault : status ≢ 7
  pub no_write_fault : status ≢ 8
  pub memory : status ≢ 9

-- the headline holds of the run over these devices, and of some devices that are left
pub record CarriesHeadlineOver (devices : List Device) (source rest : SourceState) (sink now : SinkState) (status : ℕ) : Type 0 where
  pub left : List Device
  pub headline : CarriesHeadline (λ device. device) (outside source sink devices) (outside rest now left) status
