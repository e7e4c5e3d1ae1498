-- How the service ends.
use Rattle.std.specs.Prelude.{◌≡◌, ℕ, ◌+◌, ◌<◌, true, false, List, [], ◌∷◌, ◌++◌, length, take}
use Rattle.std.specs.declared.option.Option.{Option}
use Rattle.std.specs.declared.option.Option.TheVariants.{None, Some}
use Rattle.std.specs.Io.KnownBytes.{Appends}
use Rattle.lvdc_text.specs.Causes.{Rose}
use Rattle.lvdc_text.specs.Streams.{SourceState, SinkState}
use Rattle.lvdc_service.specs.Frames.{Frames, frames_of}
use Rattle.lvdc_service.specs.Served.{Reply, AreReplies, AreUnhindered, bad_frame_reply, read_fault_reply, all_bytes, served}

-- the source's bytes are these, where it tells them
abbrev pub AreBytesOf : Option (List ℕ) → List ℕ → Type 0
AreBytesOf None bytes = Unit {0}
AreBytesOf (Some all) bytes = all ≡ bytes

-- The replies that are due in the end, for a source of these frames, and the exit status.
pub data IsDue (frames : Frames) (source rest : SourceState) : List Reply → ℕ → Type 0 where
  -- one to each frame, and nothing else is there, or no more frames are answered
  ended : (replies : List Reply) → AreReplies frames.requests replies → frames.whole ≡ true → rest.faults ≡ source.faults
      → IsDue frames source rest replies 0
  -- one to each frame, and a refusal of what follows them
  bad_frame : (replies : List Reply) → AreReplies frames.requests replies → frames.whole ≡ false → rest.faults ≡ source.faults
      → IsDue frames source rest (replies ++ bad_frame_reply (length frames.requests + 1) ∷ []) 2
  -- a read failed after some frames: one to each of these, and a refusal
  read_fault : (count : ℕ) (replies : List Reply) → AreReplies (take count frames.requests) replies → Rose source.faults rest.faults
      → IsDue frames source rest (replies ++ read_fault_reply ∷ []) 7

-- The replies that were due when a write failed: one to each of some first frames, the last one's among them; or all that are due
-- in the end.
pub data WereDue (frames : Frames) (source rest : SourceState) : List Reply → Type 0 where
  under_way : (count : ℕ) (replies : List Reply) → AreReplies (take count frames.requests) replies → WereDue frames source rest replies
  at_the_end : (replies : List Reply) (status : ℕ) → IsDue frames source rest replies status → WereDue frames source rest replies

-- How the service ends over a source of these bytes, by the exit status.
pub data IsServed (bytes : List ℕ) (source rest : SourceState) (sink now : SinkState) : ℕ → Type 0 where
  -- with the status that is due, and all replies that are due are written
  told : (replies : List Reply) (status : ℕ) → IsDue (frames_of bytes) source rest replies status
      → Appends sink.written now.written (all_bytes replies) → now.faults ≡ sink.faults → IsServed bytes source rest sink now status
  -- a write failed, and what is written is a front of what was due
  cut : (replies : List Reply) (count : ℕ) → WereDue (frames_of bytes) source rest replies → count < length (all_bytes replies)
      → Appends sink.written now.written (take count (all_bytes replies)) → Rose sink.faults now.faults
      → IsServed bytes source rest sink now 8

-- No call has failed: neither count of faults has risen.
pub record NoCallFailed (source rest : SourceState) (sink now : SinkState) : Type 0 where
  pub reads : Rose source.faults rest.faults → ⊥
  pub writes : Rose sink.faults now.faults → ⊥

-- What is written is replies, and where none of them tells a want of memory they are those of `served`, and so is the exit status.
pub record IsAllServed (bytes : List ℕ) (sink now : SinkState) (status : ℕ) : Type 0 where
  pub replies : List Reply
  pub written : Appends sink.written now.written (all_bytes replies)
  pub are_served : AreUnhindered replies → replies ≡ (served bytes).replies
  pub ends : status ≡ (served bytes).status

-- The service ends so over the bytes of the source, where it tells them; else over some bytes.
pub record IsServiceEnd (source rest : SourceState) (sink now : SinkState) (status : ℕ) : Type 0 where
  pub bytes : List ℕ
  pub are_bytes : AreBytesOf source.left bytes
  pub served : IsServed bytes source rest sink now status
