-- What each message of an uplink is answered, and what it changes.
use Rattle.std.specs.Prelude.{ℕ, nat_le, Bool, true, false, not, ◌&&◌, ◌==◌, List, length, Option, None, Some, is_some, if◌then◌else◌}
use Rattle.lvdc_image.specs.Image.{Contents}
use Rattle.lvdc_uplink.specs.Frames.{Frame, Load, bare_load, is_same_frame, stays, staged, with_frame, missing_in, frame_check, load_check}
use Rattle.lvdc_uplink.specs.Patching.{patched}
use Rattle.lvdc_uplink.specs.Messages.{message_of}
use Rattle.lvdc_uplink.specs.declared.answer.Answer.{Answer}
use Rattle.lvdc_uplink.specs.declared.answer.Answer.TheVariants.{Opened, Framed, Committed, Abandoned, Form, Busy, Old, NoLoad, Range, Check, Differs, Missing}
use Rattle.lvdc_uplink.specs.declared.message.Message.{Message}
use Rattle.lvdc_uplink.specs.declared.message.Message.TheVariants as messages

-- what an uplink holds: the image, the open load, and id and check word of the load that was committed last, 0 before any was
pub record Link : Type 0 where
  pub image : Contents
  pub load : Option Load
  pub last : ℕ
  pub check : ℕ

-- the link of an image to which nothing was sent yet
abbrev pub link_to : Contents → Link
link_to image = record { image = image; load = None; last = 0; check = 0 }

-- an answer, and the link after it
pub record Step : Type 0 where
  pub answer : Answer
  pub link : Link

-- an answer that changes nothing
abbrev pub says : Answer → Link → Step
says answer link = record { answer = answer; link = link }

-- the load, where it has this id
abbrev pub named : ℕ → Option Load → Option Load
named id None = None
named id (Some load) = if load.id == id then Some load else None

-- ---- OPEN, by the load that is open

-- what OPEN is answered, by the load that is open: the same one again, another one, none
abbrev pub opens : ℕ → ℕ → Link → Option Load → Step
opens id count link (Some load) =
    says (if load.id == id && length load.frames == count then Opened id else Busy load.id) link
opens id count link None =
    if nat_le id link.last then says (Old link.last) link
    else record { answer = Opened id; link = record link { load = Some (bare_load id count) } }

-- ---- FRAME, by the open load of its id

-- an answer, and the open load after it
pub record Filing : Type 0 where
  pub answer : Answer
  pub load : Load

-- a frame that fits, by the one that is staged under its number
abbrev pub stages : ℕ → Frame → Load → Option Frame → Filing
stages number frame load None = record { answer = Framed load.id number; load = with_frame load number frame }
stages number frame load (Some other) =
    record { answer = if is_same_frame other frame then Framed load.id number else Differs number; load = load }

-- a frame of the open load: first its range, then its check word
abbrev pub files : ℕ → Frame → ℕ → Load → Filing
files number frame check load =
    if not (nat_le number (length load.frames) && stays frame) then record { answer = Range; load = load }
    else (if check == frame_check load.id number frame then stages number frame load (staged load number)
    else record { answer = Check (frame_check load.id number frame); load = load })

-- what FRAME is answered and what it changes, by the open load of its id
abbrev pub frames : ℕ → Frame → ℕ → Link → Option Load → Step
frames number frame check link None = says NoLoad link
frames number frame check link (Some load) =
    let filing = files number frame check load in record { answer = filing.answer; link = record link { load = Some filing.load } }

-- ---- COMMIT, by the open load of its id

-- what stands against committing a load with this check word: first a frame that is missing
abbrev pub refusal_by : ℕ → Load → Option ℕ → Option Answer
refusal_by check load (Some number) = Some (Missing number)
refusal_by check load None = if check == load_check load then None else Some (Check (load_check load))

-- what stands against a commit: a frame that is missing, or a wrong check word
abbrev pub refusal_of : ℕ → Load → Option Answer
refusal_of check load = refusal_by check load (missing_in load)

-- by what stands against it
abbrev pub applies : ℕ → Link → Load → Option Answer → Step
applies check link load (Some answer) = says answer link
applies check link load None =
    record { answer = Committed load.id; link = record { image = patched link.image load; load = None; last = load.id; check = check } }

-- what COMMIT is answered and what it changes, by the open load of its id
abbrev pub commits : ℕ → Link → Option Load → Step
commits check link None = says NoLoad link
commits check link (Some load) = applies check link load (refusal_of check load)

-- a commit of the load that was committed last, with its check word, is answered again
abbrev pub recommits : ℕ → ℕ → Link → Step
recommits id check link =
    if link.last == id && link.check == check then says (Committed id) link else commits check link (named id link.load)

-- ---- ABANDON, by the open load of its id

-- what ABANDON is answered and what it changes
abbrev pub abandons : Link → Option Load → Step
abandons link None = says NoLoad link
abandons link (Some load) = record { answer = Abandoned load.id; link = record link { load = None } }

-- ---- messages

-- what a message is answered and what the link is then
abbrev pub after_message : Link → Message → Step
after_message link (messages.Open id count) = opens id count link link.load
after_message link (messages.Frame id number frame check) = frames number frame check link (named id link.load)
after_message link (messages.Commit id check) = recommits id check link
after_message link (messages.Abandon id) = abandons link (named id link.load)

-- the same of a line, which may be no message
abbrev pub by_message : Link → Option Message → Step
by_message link None = says Form link
by_message link (Some message) = after_message link message

-- the answer to a line, and the link after it
abbrev pub after_text : Link → List ℕ → Step
after_text link text = by_message link (message_of text)

-- ---- answers

-- the message was acknowledged
abbrev pub is_acknowledged : Answer → Bool
is_acknowledged (Opened id) = true
is_acknowledged (Framed id number) = true
is_acknowledged (Committed id) = true
is_acknowledged (Abandoned id) = true
is_acknowledged _ = false

-- the answer acknowledges OPEN
abbrev pub is_opened : Answer → Bool
is_opened (Opened id) = true
is_opened _ = false

-- the answer acknowledges COMMIT
abbrev pub is_committed : Answer → Bool
is_committed (Committed id) = true
is_committed _ = false

-- the step opens a load
abbrev pub is_opening : Link → Step → Bool
is_opening link step = is_opened step.answer && not (is_some link.load)

-- the step applies the open load
abbrev pub is_applying : Link → Step → Bool
is_applying link step = is_committed step.answer && is_some link.load && not (is_some step.link.load)

-- the answer to a line that is sent again after this answer
abbrev pub again : Answer → Answer
again (Abandoned id) = NoLoad
again answer = answer
