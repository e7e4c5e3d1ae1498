-- One frame: what is used of the source for it, and what is due.
use Rattle.std.specs.Prelude.{◌≡◌, ℕ, ◌<◌, Bool, true, false, List, [], ◌++◌, length, take}
use Rattle.std.specs.declared.option.Option.{Option}
use Rattle.std.specs.declared.option.Option.TheVariants.{None, Some}
use Rattle.std.specs.Io.KnownBytes.{Appends}
use Rattle.lvdc_text.specs.Causes.{Rose}
use Rattle.lvdc_console.specs.Commands.{too_long_text}
use Rattle.lvdc_text.specs.Streams.{SourceState, SinkState}
use Rattle.lvdc_service.specs.Frames.{Request, frame_at}
use Rattle.lvdc_service.specs.Reading.{Uses, to_come, IsShort}
use Rattle.lvdc_service.specs.declared.due.Due.{Due}
use Rattle.lvdc_service.specs.declared.due.Due.TheVariants.{Usage, TooLong, Replied, NoMemory}
use Rattle.lvdc_service.specs.declared.frame.Next.{Next}
use Rattle.lvdc_service.specs.declared.frame.Next.TheVariants.{Request as Asked, Ended, BadFrame, ReadFault}
use Rattle.lvdc_service.specs.Served.{Reply, reply_with, usage_text, bad_frame_reply, read_fault_reply, IsReplyTo, bytes_of}

-- ---- what is due to a request

-- the status that goes with it
abbrev pub due_status : Due → ℕ
due_status Usage = 1
due_status TooLong = 11
due_status (Replied reply) = reply.status
due_status NoMemory = 9

-- the text that is told
abbrev pub due_text : Due → List ℕ
due_text Usage = usage_text
due_text TooLong = too_long_text
due_text (Replied reply) = reply.text
due_text NoMemory = []

-- the reply of its status and its text
abbrev pub due_reply : Due → Reply
due_reply due = reply_with (due_status due) (due_text due)

-- ---- what stands outside: the bytes that are held, and the source

-- the bytes that are held, and the source behind them
pub record Stream : Type 0 where
  pub held : List ℕ
  pub source : SourceState

-- these bytes held, and this source
abbrev pub stream : List ℕ → SourceState → Stream
stream held source = record { held = held; source = source }

-- these bytes were used
abbrev pub Used : Stream → Stream → List ℕ → Type 0
Used before after used = Uses before.held before.source.left after.held after.source.left used

-- what is still to be used
abbrev pub rest_of : Stream → List ℕ
rest_of s = to_come s.held s.source.left

-- a read failed, and some bytes were used
pub record IsFault (before after : Stream) : Type 0 where
  pub rose : Rose before.source.faults after.source.faults
  pub used : List ℕ
  pub uses : Used before after used

-- ---- the input of a frame whose line has these words and this count

-- so many bytes were used, and this is due to the request that they are the input of
pub record IsInputUsed (words : List (List ℕ)) (count : ℕ) (before after : Stream) (due : Due) : Type 0 where
  pub input : List ℕ
  pub so_many : length input ≡ count
  pub uses : Used before after input
  pub quiet : after.source.faults ≡ before.source.faults
  pub reply : IsReplyTo (record { words = words; input = input }) (due_reply due)

-- the source ended in the input
pub record IsInputShort (count : ℕ) (before after : Stream) : Type 0 where
  pub short : IsShort before.held before.source.left after.held after.source.left count
  pub quiet : after.source.faults ≡ before.source.faults

-- what came of the input
abbrev pub IsNextInput : List (List ℕ) → ℕ → Stream → Stream → Next → Type 0
IsNextInput words count before after (Asked due) = IsInputUsed words count before after due
IsNextInput words count before after Ended = ⊥
IsNextInput words count before after BadFrame = IsInputShort count before after
IsNextInput words count before after ReadFault = IsFault before after

-- ---- a frame

-- a frame was used, whatever follows it, and this is due to its request
pub record IsFrameUsed (before after : Stream) (due : Due) : Type 0 where
  pub request : Request
  pub used : List ℕ
  pub uses : Used before after used
  pub frame : (more : List ℕ) → frame_at (used ++ more) ≡ Some (record { request = request; rest = more })
  pub quiet : after.source.faults ≡ before.source.faults
  pub reply : IsReplyTo request (due_reply due)

-- nothing is there to use
pub record IsNothing (before after : Stream) : Type 0 where
  pub uses : Used before after []
  pub nothing : rest_of after ≡ []
  pub quiet : after.source.faults ≡ before.source.faults

-- bytes are there, and they don't begin with a frame
pub record IsNoFrame (before after : Stream) : Type 0 where
  pub used : List ℕ
  pub uses : Used before after used
  pub some : 0 < length used
  pub no_frame : frame_at (used ++ rest_of after) ≡ None
  pub quiet : after.source.faults ≡ before.source.faults

-- what came of a frame
abbrev pub IsNext : Stream → Stream → Next → Type 0
IsNext before after (Asked due) = IsFrameUsed before after due
IsNext before after Ended = IsNothing before after
IsNext before after BadFrame = IsNoFrame before after
IsNext before after ReadFault = IsFault before after

-- ---- writing

-- a reply was written whole, and the sink still doesn't tell its room
pub record IsWhole (before after : SinkState) (reply : Reply) : Type 0 where
  pub appended : Appends before.written after.written (bytes_of reply)
  pub quiet : after.faults ≡ before.faults
  pub untold : after.room ≡ None

-- a write failed after so many bytes of a reply
pub record IsPart (before after : SinkState) (reply : Reply) : Type 0 where
  pub count : ℕ
  pub fewer : count < length (bytes_of reply)
  pub appended : Appends before.written after.written (take count (bytes_of reply))
  pub rose : Rose before.faults after.faults

-- a reply was written, by whether all of it was
abbrev pub IsWritten : Bool → SinkState → SinkState → Reply → Type 0
IsWritten true before after reply = IsWhole before after reply
IsWritten false before after reply = IsPart before after reply

-- the last reply was written, and its status is answered; or a write failed, and the status is 8
pub data IsFinished (before after : SinkState) (reply : Reply) : ℕ → Type 0 where
  whole : IsWhole before after reply → IsFinished before after reply reply.status
  part : IsPart before after reply → IsFinished before after reply 8

-- ---- one frame, used and answered

-- a frame was used, and its reply written
pub record GoesOn (before after : Stream) (sink now : SinkState) : Type 0 where
  pub due : Due
  pub frame : IsFrameUsed before after due
  pub written : IsWhole sink now (due_reply due)

-- The service ends at the frame of this number, with this status.
pub data IsLast (number : ℕ) (before after : Stream) (sink now : SinkState) : ℕ → Type 0 where
  reply_cut : (due : Due) → IsFrameUsed before after due → IsPart sink now (due_reply due) → IsLast number before after sink now 8
  ended : IsNothing before after → now ≡ sink → IsLast number before after sink now 0
  bad_frame : (status : ℕ) → IsNoFrame before after → IsFinished sink now (bad_frame_reply number) status
      → IsLast number before after sink now status
  read_fault : (status : ℕ) → IsFault before after → IsFinished sink now read_fault_reply status
      → IsLast number before after sink now status

-- what a turn says
abbrev pub IsTurn : ℕ → Stream → Stream → SinkState → SinkState → Option ℕ → Type 0
IsTurn number before after sink now None = GoesOn before after sink now
IsTurn number before after sink now (Some status) = IsLast number before after sink now status
