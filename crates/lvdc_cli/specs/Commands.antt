-- The answer to each command, by the definitions of its crate: a command has one case in each of these.
use Rattle.std.specs.Prelude.{◌≡◌, ◌≢◌, ℕ, nat_lt, List, [], length, map, if◌then◌else◌, Ok}
use Rattle.std.specs.declared.option.Option.{Option}
use Rattle.std.specs.declared.option.Option.TheVariants.{None, Some}
use Rattle.lvdc_port.specs.Device.{Device}
use Rattle.lvdc_model.specs.Trial.{Trial}
use Rattle.lvdc_model.specs.declared.outcome.Outcome.{Outcome}
use Rattle.lvdc_reply.specs.Answer.{Answer, answer_with}
use Rattle.lvdc_reply.specs.Replies.{IsReply}
use Rattle.lvdc_command_run.specs.declared.job.Engine.TheVariants.{Guarded}
use Rattle.lvdc_command_run.specs.declared.job.Job.{Job}
use Rattle.lvdc_command_run.specs.declared.job.Job.TheVariants as job
use Rattle.lvdc_command_run.specs.Answers.{job_answer}
use Rattle.lvdc_command_run.specs.Runs.{HasRunThat}
use Rattle.lvdc_command_run.specs.Replies.{FailsInRun, IsUnanswered}
use Rattle.lvdc_command_asm.specs.Answers.{source_answer}
use Rattle.lvdc_command_campaign.specs.Answers.{campaign_answer, AdmissibleAreSame}
use Rattle.lvdc_uplink.specs.Answers.{uplink_answer, IsHeard}
use Rattle.lvdc_uplink.specs.Input.{Request, request_of}
use Rattle.lvdc_command_asm.specs.Expanded.{macro_answer}
use Rattle.lvdc_debug.specs.Answers.{session_answer, HasSessionThat}
use Rattle.lvdc_debug.specs.Replies.{FailsInSession, IsUnanswered as IsSessionUnanswered}
use Rattle.lvdc_command_save.specs.Answers.{save_answer}
use Rattle.lvdc_command_save.specs.Replies.{FailsInSave, IsUnanswered as IsUnsaved}
use Rattle.lvdc_command_save.specs.Statuses.{HasSaveThat}
use Rattle.lvdc_command_save.specs.Halves.{IsSaveOf}
use Rattle.lvdc_command_resume.specs.Answers.{resume_answer}
use Rattle.lvdc_command_resume.specs.Replies.{FailsInResume, IsUnresumed}
use Rattle.lvdc_command_resume.specs.Statuses.{HasResumeThat}
use Rattle.lvdc_command_resume.specs.Reordered.{IsAnswerReordered}
use Rattle.lvdc_cli.specs.Alike.{AreAlike, AreAlikeInAnyOrder}
use Rattle.lvdc_cli.specs.declared.TheConstants.{ROOM, SESSION_ROOM, SAVED_ROOM, RESUMED_ROOM}
use Rattle.lvdc_cli.specs.declared.command.Command.{Command}
use Rattle.lvdc_cli.specs.declared.command.Command.TheVariants.{Run, Soak, Assemble, Debug, Save, Resume, Campaign, Uplink, Expand}
use Rattle.lvdc_cli.specs.Words.{command_of, reads_for, limit_of}
use Rattle.lvdc_cli.specs.Texts.{usage_text, read_fault_text, too_long_text}

-- the answer where no device fails
abbrev pub command_answer : Command → List ℕ → List Device → Answer
command_answer (Run engine) bytes devices = job_answer (job.Deck engine) bytes devices
command_answer (Soak number) bytes devices = job_answer (job.Soak number) bytes devices
command_answer (Assemble product) bytes devices = source_answer product bytes devices
command_answer Debug bytes devices = session_answer bytes devices
command_answer (Save times) bytes devices = save_answer times bytes devices
command_answer Resume bytes devices = resume_answer bytes devices
command_answer Campaign bytes devices = campaign_answer bytes devices
command_answer Uplink bytes devices = uplink_answer bytes devices
command_answer (Expand form) bytes devices = macro_answer form bytes devices

-- this is the answer where the device at this port fails in this step; a command that asks no device has none
abbrev pub FailsInCommand : Command → List ℕ → List Device → ℕ → ℕ → Answer → Type 0
FailsInCommand (Run engine) bytes devices = FailsInRun (job.Deck engine) bytes devices
FailsInCommand (Soak number) bytes devices = FailsInRun (job.Soak number) bytes devices
FailsInCommand (Assemble product) bytes devices = λ step port reply. ⊥
FailsInCommand Debug bytes devices = FailsInSession bytes devices
FailsInCommand (Save times) bytes devices = FailsInSave times bytes devices
FailsInCommand Resume bytes devices = FailsInResume bytes devices
FailsInCommand Campaign bytes devices = λ step port reply. ⊥
FailsInCommand Uplink bytes devices = λ step port reply. ⊥
FailsInCommand (Expand form) bytes devices = λ step port reply. ⊥

-- what a want of memory leaves of the devices
abbrev pub IsLeftUnanswered : {B : Type 0} → (B → Device) → (B → ℕ) → Command → List ℕ → List B → List B → Type 0
IsLeftUnanswered device_of faults (Run engine) bytes old new = IsUnanswered device_of faults (job.Deck engine) bytes old new
IsLeftUnanswered device_of faults (Soak number) bytes old new = IsUnanswered device_of faults (job.Soak number) bytes old new
IsLeftUnanswered device_of faults (Assemble product) bytes old new = new ≡ old
IsLeftUnanswered device_of faults Debug bytes old new = IsSessionUnanswered device_of faults bytes old new
IsLeftUnanswered device_of faults (Save times) bytes old new = IsUnsaved device_of faults times bytes old new
IsLeftUnanswered device_of faults Resume bytes old new = IsUnresumed device_of faults bytes old new
IsLeftUnanswered device_of faults Campaign bytes old new = new ≡ old
IsLeftUnanswered device_of faults Uplink bytes old new = new ≡ old
IsLeftUnanswered device_of faults (Expand form) bytes old new = new ≡ old

-- the command runs a deck, and this is so of its run, by the job and the times: a session runs it as `run` does, as far as its
-- commands ask, and a save so many times; or it goes on with a saved run, and this is so of its end
abbrev pub RunsThat : (Job → Trial → ℕ → Type 0) → (Option Outcome → Type 0) → Command → List ℕ → List Device → Type 0
RunsThat P Q (Run engine) bytes devices = HasRunThat P (job.Deck engine) bytes devices
RunsThat P Q (Soak number) bytes devices = HasRunThat P (job.Soak number) bytes devices
RunsThat P Q (Assemble product) bytes devices = ⊥
RunsThat P Q Debug bytes devices = HasSessionThat (P (job.Deck Guarded)) bytes devices
RunsThat P Q (Save times) bytes devices = HasSaveThat (P (job.Deck Guarded)) times bytes devices
RunsThat P Q Resume bytes devices = HasResumeThat Q bytes devices
RunsThat P Q Campaign bytes devices = ⊥
RunsThat P Q Uplink bytes devices = ⊥
RunsThat P Q (Expand form) bytes devices = ⊥

-- the room that the text of a command may take
abbrev pub room_of : Command → ℕ
room_of (Run engine) = ROOM
room_of (Soak number) = ROOM
room_of (Assemble product) = ROOM
room_of Debug = SESSION_ROOM
room_of (Save times) = SAVED_ROOM
room_of Resume = RESUMED_ROOM
room_of Campaign = ROOM
room_of Uplink = ROOM
room_of (Expand form) = ROOM

-- What is true of the input, the devices and the reply beside the answer. Each admissible row of a campaign comes to the same. The
-- image that `uplink` patches is the one that whoever hears the messages and their answers makes of the acknowledgements. From
-- what is saved the run can go on; and where such a text is resumed, over devices of the ports and kinds of those that were handed in
-- to `save`, each in its kind's first state, the reply is that of `run` to the deck, unless a device fails; and so it is, but for the
-- order of the devices that are left, where they stand in another order.
abbrev pub HoldsFor : Command → List ℕ → List Device → Answer → Type 0
HoldsFor (Run engine) bytes devices reply = Unit {0}
HoldsFor (Soak number) bytes devices reply = Unit {0}
HoldsFor (Assemble product) bytes devices reply = Unit {0}
HoldsFor Debug bytes devices reply = Unit {0}
HoldsFor (Save times) bytes devices reply = reply.status ≡ 0 → IsSaveOf times bytes devices reply.text
HoldsFor Resume bytes devices reply =
    ((times : ℕ) (deck : List ℕ) (before : List Device) → IsSaveOf times deck before bytes → AreAlike before devices → reply.status ≢ 10
    → reply ≡ job_answer (job.Deck Guarded) deck before)
    × ((times : ℕ) (deck : List ℕ) (before : List Device) → IsSaveOf times deck before bytes → AreAlikeInAnyOrder before devices → reply.status ≢ 10
    → IsAnswerReordered (job_answer (job.Deck Guarded) deck before) reply)
HoldsFor Campaign bytes devices reply = AdmissibleAreSame bytes devices
HoldsFor Uplink bytes devices reply = (request : Request) → request_of bytes ≡ Ok request → IsHeard request reply.text
HoldsFor (Expand form) bytes devices reply = Unit {0}

-- ---- of all commands

-- how a command is answered over these bytes and devices
abbrev pub IsReplyTo : {B : Type 0} → (B → Device) → (B → ℕ) → Command → List ℕ → List B → List B → Answer → Type 0
IsReplyTo device_of faults command bytes old new reply =
    IsReply device_of faults (command_answer command bytes (map device_of old)) (FailsInCommand command bytes (map device_of old)) old new reply

-- the room that words may take; no other text is longer than a report
abbrev pub room_for : Option Command → ℕ
room_for None = ROOM
room_for (Some command) = room_of command

-- what a command reads of these bytes: all of them, or none
abbrev pub input_of : Command → List ℕ → List ℕ
input_of command bytes = if reads_for command then bytes else []

-- the words are a command that runs a deck or goes on with a run, and this is so of its run
abbrev pub Has : (Job → Trial → ℕ → Type 0) → (Option Outcome → Type 0) → Option Command → List ℕ → List Device → Type 0
Has P Q None bytes devices = ⊥
Has P Q (Some command) bytes devices = RunsThat P Q command (input_of command bytes) devices

-- ---- what the words and the bytes alone decide leaves the devices as they were

-- the words are no command line
abbrev pub usage_answer : List Device → Answer
usage_answer devices = answer_with 1 usage_text devices

-- a read failed
abbrev pub read_fault_answer : List Device → Answer
read_fault_answer devices = answer_with 7 read_fault_text devices

-- the input is longer than the limit
abbrev pub too_long_answer : List Device → Answer
too_long_answer devices = answer_with 11 too_long_text devices

-- a want of memory is told by the status alone
abbrev pub memory_answer : List Device → Answer
memory_answer devices = answer_with 9 [] devices

-- ---- the whole

-- the answer to a command, or to words that are none, over these bytes and devices
abbrev pub answer_by : Option Command → List ℕ → List Device → Answer
answer_by None bytes devices = usage_answer devices
answer_by (Some command) bytes devices =
    if nat_lt (limit_of command) (length (input_of command bytes)) then too_long_answer devices
    else command_answer command (input_of command bytes) devices

-- the answer to these words over these bytes and devices, where no read, no write and no device fails
abbrev pub answer : List (List ℕ) → List ℕ → List Device → Answer
answer words bytes devices = answer_by (command_of words) bytes devices
