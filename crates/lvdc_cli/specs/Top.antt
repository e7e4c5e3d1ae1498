-- How a call of the program ends.
use Rattle.std.specs.Prelude.{◌≡◌, ℕ, ◌+◌, ◌<◌, ◌≤◌, ◌≢◌, ◌⊎◌, Bool, true, false, List, [], length, map, take, IsSome, Ok}
use Rattle.std.specs.declared.option.Option.{Option}
use Rattle.std.specs.declared.option.Option.TheVariants.{None, Some}
use Rattle.std.specs.Io.KnownBytes.{Consumes, Appends, Keeps, IsAtEnd}
use Rattle.lvdc_text.specs.Causes.{Rose}
use Rattle.lvdc_text.specs.Room.{RoomFalls}
use Rattle.lvdc_text.specs.Streams.{SourceState, SinkState}
use Rattle.lvdc_text.specs.Transfer.{TookCount, TookAtMost}
use Rattle.lvdc_port.specs.Device.{Device}
use Rattle.lvdc_model.specs.Trial.{Trial}
use Rattle.lvdc_model.specs.declared.outcome.Outcome.{Outcome}
use Rattle.lvdc_deck.specs.Deck.{deck_of}
use Rattle.lvdc_deck.specs.declared.deck.Deck.{Deck}
use Rattle.lvdc_reply.specs.Answer.{Answer, answer_with}
use Rattle.lvdc_reply.specs.Replies.{Quiet, RoseAt, OthersQuiet}
use Rattle.lvdc_command_run.specs.Trials.{trial_of}
use Rattle.lvdc_command_run.specs.Headline.{Headline}
use Rattle.lvdc_command_run.specs.declared.job.Engine.TheVariants.{Guarded}
use Rattle.lvdc_command_run.specs.declared.job.Job.{Job}
use Rattle.lvdc_cli.specs.declared.command.Command.{Command}
use Rattle.lvdc_cli.specs.declared.command.Command.TheVariants.{Run}
use Rattle.lvdc_cli.specs.Words.{command_of, reads, reads_for, limit_of, limit_for}
use Rattle.lvdc_cli.specs.Texts.{usage_text, read_fault_text, too_long_text}
use Rattle.lvdc_cli.specs.Commands.{usage_answer, read_fault_answer, too_long_answer, memory_answer, answer, input_of, Has, IsReplyTo, FailsInCommand, IsLeftUnanswered, HoldsFor}
use Rattle.lvdc_cli.specs.Outside.{Outside}

-- ---- what was read

-- these bytes were read, by whether any are asked for: all that the source had left, no more than the limit, and the source is at
-- its end; or none, and the source is as before
abbrev pub HasReadUpTo : Bool → ℕ → SourceState → SourceState → List ℕ → Type 0
HasReadUpTo true limit before after bytes = Consumes before.left after.left bytes × IsAtEnd after.left × (length bytes ≤ limit)
HasReadUpTo false limit before after bytes = (after ≡ before) × (bytes ≡ [])

-- these bytes were read for a command
abbrev pub HasRead : Command → SourceState → SourceState → List ℕ → Type 0
HasRead command before after bytes = HasReadUpTo (reads_for command) (limit_of command) before after bytes

-- these bytes are what the source has left, where the words are a command that reads; for one that doesn't any bytes will do
abbrev pub IsInput : List (List ℕ) → Option (List ℕ) → List ℕ → Type 0
IsInput words left bytes = reads (command_of words) ≡ true → left ≡ Some bytes

-- ---- what is due

-- What a want of memory leaves of the devices: it came while the bytes were read, and then they are the same objects as before;
-- or when all of the command's bytes were there.
pub data IsAbandoned {B : Type 0} (device_of : B → Device) (faults : B → ℕ) (words : List (List ℕ)) (before after : Outside B) : Type 0 where
  in_reading : after.devices ≡ before.devices → IsAbandoned device_of faults words before after
  after_reading : (command : Command) (bytes : List ℕ) → command_of words ≡ Some command
      → HasRead command before.source after.source bytes
      → IsLeftUnanswered device_of faults command bytes before.devices after.devices → IsAbandoned device_of faults words before after

-- The answer that is due, by the words, and by the source and the devices before and after; the sink has no part in it.
pub data IsDue {B : Type 0} (device_of : B → Device) (faults : B → ℕ) (words : List (List ℕ)) (before after : Outside B) : Answer → Type 0 where
  -- the words are no command
  usage : command_of words ≡ None → after.source ≡ before.source → after.devices ≡ before.devices
      → IsDue device_of faults words before after (usage_answer (map device_of after.devices))
  -- a read failed
  read_fault : reads (command_of words) ≡ true → Rose before.source.faults after.source.faults
      → TookAtMost before.source.left after.source.left (limit_for (command_of words)) → after.devices ≡ before.devices
      → IsDue device_of faults words before after (read_fault_answer (map device_of after.devices))
  -- one byte too many was taken
  too_long : reads (command_of words) ≡ true → after.source.faults ≡ before.source.faults
      → TookCount before.source.left after.source.left (limit_for (command_of words) + 1) → after.devices ≡ before.devices
      → IsDue device_of faults words before after (too_long_answer (map device_of after.devices))
  -- all bytes that the command asks for were taken, and this is the reply to them
  replied : (command : Command) (bytes : List ℕ) (reply : Answer) → command_of words ≡ Some command
      → after.source.faults ≡ before.source.faults → HasRead command before.source after.source bytes
      → IsReplyTo device_of faults command bytes before.devices after.devices reply
      → HoldsFor command bytes (map device_of before.devices) reply
      → IsDue device_of faults words before after reply
  -- memory is wanting
  wants_memory : IsSome (command_of words) → after.source.faults ≡ before.source.faults
      → TookAtMost before.source.left after.source.left (limit_for (command_of words)) → IsAbandoned device_of faults words before after
      → IsDue device_of faults words before after (memory_answer (map device_of after.devices))

-- ---- what was written

-- What was written, for a text and the status that goes with it.
pub data IsTold (before after : SinkState) (status : ℕ) (text : List ℕ) (result : ℕ) : Type 0 where
  -- the whole text
  told : result ≡ status → Appends before.written after.written text → after.faults ≡ before.faults
      → RoomFalls before.room after.room (length text) → IsTold before after status text result
  -- a write failed after so many bytes of it
  cut : result ≡ 8 → Rose before.faults after.faults → before.faults ≤ after.faults → (n : ℕ) → n < length text
      → Appends before.written after.written (take n text) → IsTold before after status text result

-- ---- the whole call

-- How a call ends: with the answer that is due, told whole or cut short by a fault.
pub record IsEnd {B : Type 0} (device_of : B → Device) (faults : B → ℕ) (words : List (List ℕ)) (before after : Outside B) (result : ℕ) : Type 0 where
  pub due : Answer
  pub is_due : IsDue device_of faults words before after due
  pub devices : map device_of after.devices ≡ due.devices
  pub told : IsTold before.sink after.sink due.status due.text result

-- The call is that of a command's reply: these bytes were read for it, and the status, the text that was written and the devices
-- are those of its reply to them. What the source doesn't tell are some bytes, and what the sink doesn't tell is some text.
pub record IsReplied {B : Type 0} (device_of : B → Device) (faults : B → ℕ) (words : List (List ℕ)) (before after : Outside B) (result : ℕ) : Type 0 where
  pub command : Command
  pub asked : command_of words ≡ Some command
  pub bytes : List ℕ
  pub read : HasRead command before.source after.source bytes
  pub text : List ℕ
  pub written : Appends before.sink.written after.sink.written text
  pub reply : IsReplyTo device_of faults command bytes before.devices after.devices (answer_with result text (map device_of after.devices))
  pub holds : HoldsFor command bytes (map device_of before.devices) (answer_with result text (map device_of after.devices))

-- The headline holds of the bytes that were read and of the text that was written: where those bytes are a deck, of its trial, of
-- the status, of that text and of the devices that are left.
pub record CarriesHeadline {B : Type 0} (device_of : B → Device) (before after : Outside B) (result : ℕ) : Type 0 where
  pub bytes : List ℕ
  pub read : HasRead (Run Guarded) before.source after.source bytes
  pub text : List ℕ
  pub written : Appends before.sink.written after.sink.written text
  pub headline : (deck : Deck) → deck_of bytes (map device_of before.devices) false ≡ Ok deck
      → Headline (trial_of (map device_of before.devices) deck) deck.count result text (map device_of after.devices)

-- ---- statuses

-- no fault and no want of memory is told
pub record IsUnhindered (result : ℕ) : Type 0 where
  pub no_read_fault : result ≢ 7
  pub no_write_fault : result ≢ 8
  pub memory : result ≢ 9
  pub no_device_fault : result ≢ 10

-- the status is that of a reply: nothing came before it or in its way
pub record IsOfReply (result : ℕ) : Type 0 where
  pub no_usage : result ≢ 1
  pub no_read_fault : result ≢ 7
  pub no_write_fault : result ≢ 8
  pub memory : result ≢ 9
  pub no_too_long : result ≢ 11

-- the words, the input or the source were refused
abbrev pub IsRefusal : ℕ → Type 0
IsRefusal result = (result ≡ 1) ⊎ (result ≡ 2) ⊎ (result ≡ 3) ⊎ (result ≡ 4) ⊎ (result ≡ 7) ⊎ (result ≡ 11)

-- ---- what a status says

-- where the status is that of a reply, the call is that of a command's reply
abbrev pub GivesReply : {B : Type 0} → (B → Device) → (B → ℕ) → List (List ℕ) → Outside B → Outside B → ℕ → Type 0
GivesReply device_of faults words before after result = IsOfReply result → IsReplied device_of faults words before after result

-- where the command is `run`, nothing fails and the input isn't too long, the headline holds
abbrev pub GivesHeadline : {B : Type 0} → (B → Device) → List (List ℕ) → Outside B → Outside B → ℕ → Type 0
GivesHeadline device_of words before after result =
    command_of words ≡ Some (Run Guarded) → IsUnhindered result → result ≢ 11 → CarriesHeadline device_of before after result

-- where the bytes of the source are told, or the command reads none, and nothing fails, status, text and devices are those of the
-- definition
abbrev pub GivesAnswer : {B : Type 0} → (B → Device) → List (List ℕ) → Outside B → Outside B → ℕ → Type 0
GivesAnswer device_of words before after result =
    (bytes : List ℕ) → IsInput words before.source.left bytes → IsUnhindered result →
    (result ≡ (answer words bytes (map device_of before.devices)).status)
    × Appends before.sink.written after.sink.written (answer words bytes (map device_of before.devices)).text
    × (map device_of after.devices ≡ (answer words bytes (map device_of before.devices)).devices)

-- 1 has its cause, words that are no command
pub record UsageHasCause (words : List (List ℕ)) (sink now : SinkState) (result : ℕ) : Type 0 where
  pub only : result ≡ 1 → command_of words ≡ None
  -- the usage text is told with it, or cut by a failing write
  pub always : command_of words ≡ None → IsTold sink now 1 usage_text result

-- for a command that reads, the source is read to its end, but for a fault, a want of memory and too many bytes
abbrev pub ReadsAll : List (List ℕ) → SourceState → ℕ → Type 0
ReadsAll words rest result =
    reads (command_of words) ≡ true → result ≢ 7 → result ≢ 8 → result ≢ 9 → result ≢ 11 → IsAtEnd rest.left

-- this status, 5 or 6, has its cause in the command's run over the bytes that the source tells, or over none: only where this is so
-- of the run, and always where it is, unless there are too many bytes, something fails or memory is wanting
pub record RunHasCause (P : Job → Trial → ℕ → Type 0) (Q : Option Outcome → Type 0) (status : ℕ) (words : List (List ℕ)) (source : SourceState)
    (devices : List Device) (result : ℕ) : Type 0 where
  pub only : (bytes : List ℕ) → IsInput words source.left bytes → result ≡ status → Has P Q (command_of words) bytes devices
  pub always : (bytes : List ℕ) → IsInput words source.left bytes → length bytes ≤ limit_for (command_of words) → IsUnhindered result
      → Has P Q (command_of words) bytes devices → result ≡ status

-- 7 has its cause, a read that failed
pub record ReadFaultHasCause (source rest : SourceState) (sink now : SinkState) (result : ℕ) : Type 0 where
  -- its text is written then
  pub only : result ≡ 7 → Rose source.faults rest.faults × Appends sink.written now.written read_fault_text
  -- unless a write of that text failed
  pub always : source.faults < rest.faults → (result ≡ 7) ⊎ (result ≡ 8)

-- a write failed, and what was written is a front of the text that was due
pub record IsCut {B : Type 0} (device_of : B → Device) (faults : B → ℕ) (words : List (List ℕ)) (before after : Outside B) : Type 0 where
  pub rose : Rose before.sink.faults after.sink.faults
  pub due : Answer
  pub is_due : IsDue device_of faults words before after due
  pub devices : map device_of after.devices ≡ due.devices
  pub count : ℕ
  pub short : count < length due.text
  pub written : Appends before.sink.written after.sink.written (take count due.text)

-- 8 has its cause, a write that failed
pub record WriteFaultHasCause {B : Type 0} (device_of : B → Device) (faults : B → ℕ) (words : List (List ℕ)) (before after : Outside B) (result : ℕ) : Type 0 where
  pub only : result ≡ 8 → IsCut device_of faults words before after
  pub always : before.sink.faults < after.sink.faults → result ≡ 8

-- memory was wanting for a command: nothing was written, no read failed, and no more was taken than is read for it
pub record IsWanting {B : Type 0} (device_of : B → Device) (faults : B → ℕ) (words : List (List ℕ)) (before after : Outside B) : Type 0 where
  pub asked : IsSome (command_of words)
  pub silent : Keeps before.sink.written after.sink.written
  pub quiet : after.source.faults ≡ before.source.faults
  pub took : TookAtMost before.source.left after.source.left (limit_for (command_of words))
  pub abandoned : IsAbandoned device_of faults words before after

-- a device failed: in an exchange of the command's run, and its own count has risen, and no other's that is left; the text and the
-- devices are of that run so far
pub record HasFailed {B : Type 0} (device_of : B → Device) (faults : B → ℕ) (words : List (List ℕ)) (bytes : List ℕ) (before after : Outside B) : Type 0 where
  pub command : Command
  pub asked : command_of words ≡ Some command
  pub step : ℕ
  pub port : ℕ
  pub reply : Answer
  pub fails : FailsInCommand command (input_of command bytes) (map device_of before.devices) step port reply
  pub rose : RoseAt device_of faults port before.devices after.devices
  pub others : OthersQuiet device_of faults port before.devices after.devices
  pub written : Appends before.sink.written after.sink.written reply.text
  pub devices : map device_of after.devices ≡ reply.devices

-- 10 has its cause, a device that failed
pub record DeviceFaultHasCause {B : Type 0} (device_of : B → Device) (faults : B → ℕ) (words : List (List ℕ)) (before after : Outside B) (result : ℕ) : Type 0 where
  pub only : (bytes : List ℕ) → IsInput words before.source.left bytes → result ≡ 10 → HasFailed device_of faults words bytes before after
  -- said of the other statuses: no count has grown of a device that is left, but for 8 and 9
  pub always : result ≢ 8 → result ≢ 9 → result ≢ 10 → Quiet device_of faults before.devices after.devices

-- 11 has its cause, one byte more than the limit that was taken
pub record TooLongHasCause (words : List (List ℕ)) (source rest : SourceState) (sink now : SinkState) (result : ℕ) : Type 0 where
  -- its text is written then
  pub only : result ≡ 11 → TookCount source.left rest.left (limit_for (command_of words) + 1) × Appends sink.written now.written too_long_text
  -- where the source tells its bytes, and unless a write of that text failed
  pub always : IsSome source.left → reads (command_of words) ≡ true → TookCount source.left rest.left (limit_for (command_of words) + 1)
      → (result ≡ 11) ⊎ (result ≡ 8)
