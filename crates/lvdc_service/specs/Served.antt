-- What requests are answered. No reply depends on another request.
use Rattle.std.specs.Prelude.{◌≡◌, ◌≢◌, ℕ, List, [], ◌∷◌, ◌++◌, ◌+◌, ◌<◌, ◌≤◌, nat_lt, length, map, codes, decimal, if◌then◌else◌}
use Rattle.std.specs.declared.option.Option.{Option}
use Rattle.std.specs.declared.option.Option.TheVariants.{None, Some}
use Rattle.std.specs.List.{flat_map}
use Rattle.lvdc_reply.specs.Answer.{Answer}
use Rattle.lvdc_console.specs.Commands.{Command, command_of, limit_of, read_fault_text, too_long_text, answer, input_of}
use Rattle.lvdc_console.specs.Rack.{rack}
use Rattle.lvdc_console.specs.Over.{IsReplied}
use Rattle.lvdc_console.specs.Inquired.{IsInquired}
use Rattle.lvdc_console.specs.declared.words.Inquiry.{Inquiry}
use Rattle.lvdc_console.specs.Words.{inquiry_of, most_bytes}
use Rattle.lvdc_console.specs.Replies.{inquiry_answer}
use Rattle.lvdc_service.specs.Frames.{Request, Frames, frames_of}

-- ---- a reply

-- a status and a text
pub record Reply : Type 0 where
  pub status : ℕ
  pub text : List ℕ

-- the reply of this status and this text
abbrev pub reply_with : ℕ → List ℕ → Reply
reply_with status text = record { status = status; text = text }

-- how a reply is written: a line that says its status and how many bytes follow, and these
abbrev pub reply_line : ℕ → ℕ → List ℕ
reply_line status count = codes "REPLY " ++ decimal status ++ codes " " ++ decimal count ++ codes "\n"

-- the bytes of a reply: its line, and its text
abbrev pub bytes_of : Reply → List ℕ
bytes_of reply = reply_line reply.status (length reply.text) ++ reply.text

-- replies one after another
abbrev pub all_bytes : List Reply → List ℕ
all_bytes replies = flat_map bytes_of replies

-- ---- the texts that stand in the program

-- what the worker answers to other words, and to words of its own
abbrev pub usage_text : List ℕ
usage_text =
    codes "usage: lvdc-worker\n"
    ++ codes "requests: the commands of lvdc\n"
    ++ codes "          trace [--through] FIRST COUNT\n"
    ++ codes "          form\n"
    ++ codes "          study\n"

-- other words
abbrev pub usage_reply : Reply
usage_reply = reply_with 1 usage_text

-- no frame stands where the frame of this number would
abbrev pub bad_frame_reply : ℕ → Reply
bad_frame_reply number = reply_with 2 (codes "REFUSED BadFrame " ++ decimal number ++ codes "\n")

-- the input has more bytes than its command takes
abbrev pub too_long_reply : Reply
too_long_reply = reply_with 11 too_long_text

-- a read failed
abbrev pub read_fault_reply : Reply
read_fault_reply = reply_with 7 read_fault_text

-- there is no memory for the input or the answer
abbrev pub memory_reply : Reply
memory_reply = reply_with 9 []

-- ---- what a request is answered

-- status and text of an answer
abbrev pub reply_of : Answer → Reply
reply_of a = reply_with a.status a.text

-- an inquiry over devices in their first states
abbrev pub inquiry_reply : Inquiry → List ℕ → Reply
inquiry_reply inquiry input =
    if nat_lt (most_bytes inquiry) (length input) then too_long_reply else reply_of (inquiry_answer inquiry input rack)

-- what is asked beside the commands of `lvdc`, or other words
abbrev pub other_reply : Option Inquiry → Request → Reply
other_reply None request = usage_reply
other_reply (Some inquiry) request = inquiry_reply inquiry request.input

-- the words of a command line of `lvdc` over devices in their first states, or others
abbrev pub reply_by : Option Command → Request → Reply
reply_by None request = other_reply (inquiry_of request.words) request
reply_by (Some command) request = reply_of (answer request.words request.input rack)

-- the reply to a request
abbrev pub reply_to : Request → Reply
reply_to request = reply_by (command_of request.words) request

-- Which replies may be written to a request.
pub data IsReplyTo (request : Request) : Reply → Type 0 where
  -- its words are no command line and no inquiry
  usage : command_of request.words ≡ None → inquiry_of request.words ≡ None → IsReplyTo request usage_reply
  -- its input has more bytes than its command takes
  too_long : (command : Command) → command_of request.words ≡ Some command → limit_of command < length (input_of command request.input)
      → IsReplyTo request too_long_reply
  -- its command was carried out over its input and devices in their first states: what holds of a reply by `lvdc` holds of this one
  replied : (command : Command) (status : ℕ) (text : List ℕ) → command_of request.words ≡ Some command
      → length (input_of command request.input) ≤ limit_of command
      → IsReplied rack command (input_of command request.input) status text → IsReplyTo request (reply_with status text)
  -- the input of its inquiry has more bytes than is read for one
  inquiry_too_long : (inquiry : Inquiry) → command_of request.words ≡ None → inquiry_of request.words ≡ Some inquiry
      → most_bytes inquiry < length request.input → IsReplyTo request too_long_reply
  -- its inquiry was answered over its input and devices in their first states, and its law holds
  inquired : (inquiry : Inquiry) (status : ℕ) (text : List ℕ) → command_of request.words ≡ None → inquiry_of request.words ≡ Some inquiry
      → length request.input ≤ most_bytes inquiry → IsInquired rack inquiry request.input status text
      → IsReplyTo request (reply_with status text)
  -- there was no memory for its command, whose input has no byte too many
  wants_memory : (command : Command) → command_of request.words ≡ Some command → length (input_of command request.input) ≤ limit_of command
      → IsReplyTo request memory_reply
  -- nor for its inquiry
  inquiry_wants_memory : (inquiry : Inquiry) → command_of request.words ≡ None → inquiry_of request.words ≡ Some inquiry
      → length request.input ≤ most_bytes inquiry → IsReplyTo request memory_reply

-- one reply to each request, in their order
abbrev pub AreReplies : List Request → List Reply → Type 0
AreReplies [] [] = Unit {0}
AreReplies [] (reply ∷ replies) = ⊥
AreReplies (request ∷ requests) [] = ⊥
AreReplies (request ∷ requests) (reply ∷ replies) = IsReplyTo request reply × AreReplies requests replies

-- a reply tells no want of memory
abbrev pub IsUnhindered : Reply → Type 0
IsUnhindered reply = reply.status ≢ 9

-- none of the replies does
abbrev pub AreUnhindered : List Reply → Type 0
AreUnhindered [] = Unit {0}
AreUnhindered (reply ∷ replies) = IsUnhindered reply × AreUnhindered replies

-- ---- what bytes are answered, where no call fails and there is memory

-- replies and an exit status
pub record Served : Type 0 where
  pub replies : List Reply
  pub status : ℕ

-- one reply to each request, and behind them a refusal of what is no frame
abbrev pub served_frames : Frames → Served
served_frames frames =
    if frames.whole then record { replies = map reply_to frames.requests; status = 0 }
    else record { replies = map reply_to frames.requests ++ bad_frame_reply (length frames.requests + 1) ∷ []; status = 2 }

-- the replies to the frames of the bytes, each by its frame alone, and behind them a refusal where no frame follows
abbrev pub served : List ℕ → Served
served bytes = served_frames (frames_of bytes)
