-- Where no call fails all is served.
use Rattle.std.proofs.Common.{◌≡◌, ℕ, true, false, Bool, List, [], ◌∷◌, ◌++◌, ◌+◌, length, map, sym, ap, ◌∙◌, if◌then◌else◌}
use Rattle.lvdc_text.specs.Streams.{SourceState, SinkState}
use Rattle.lvdc_service.specs.Frames.{Frames, frames_of}
use Rattle.lvdc_service.specs.Served.{Reply, Served, reply_to, AreUnhindered, bad_frame_reply, served, served_frames}
use Rattle.lvdc_service.specs.Service.{IsDue, ended, bad_frame, read_fault, IsServed, told, cut, NoCallFailed, IsAllServed}
use Rattle.lvdc_service.proofs.Determined.{all_due}

-- what frames are answered, by whether nothing else is there
answered : (frames : Frames) (whole : Bool) → frames.whole ≡ whole
    → served_frames frames ≡ (if whole then record { replies = map reply_to frames.requests; status = 0 }
    else record { replies = map reply_to frames.requests ++ bad_frame_reply (length frames.requests + 1) ∷ []; status = 2 })
answered frames whole is =
    ap (λ (w : Bool). if w then record { replies = map reply_to frames.requests; status = 0 }
    else record { replies = map reply_to frames.requests ++ bad_frame_reply (length frames.requests + 1) ∷ []; status = 2 }) is

-- the replies before another one tell no want of memory
first_unhindered : (replies : List Reply) (last : Reply) → AreUnhindered (replies ++ last ∷ []) → AreUnhindered replies
first_unhindered [] last free = tt
first_unhindered (reply ∷ replies) last free = (free.0, first_unhindered replies last free.1)

due_served : (bytes : List ℕ) (source rest : SourceState) (sink now : SinkState) (replies : List Reply) (status : ℕ) → IsDue (frames_of bytes) source rest replies status
    → NoCallFailed source rest sink now → (AreUnhindered replies → replies ≡ (served bytes).replies) × (status ≡ (served bytes).status)
due_served bytes source rest sink now replies status (ended _ are whole quiet) none = (
  λ free. all_due (frames_of bytes).requests replies are free ∙ sym (ap (λ (s : Served). s.replies) (answered (frames_of bytes) true whole)),
  sym (ap (λ (s : Served). s.status) (answered (frames_of bytes) true whole)),
)
due_served bytes source rest sink now all status (bad_frame replies are whole quiet) none = (
  λ free. ap (λ front. front ++ bad_frame_reply (length (frames_of bytes).requests + 1) ∷ [])
      (all_due (frames_of bytes).requests replies are (first_unhindered replies (bad_frame_reply (length (frames_of bytes).requests + 1)) free))
      ∙ sym (ap (λ (s : Served). s.replies) (answered (frames_of bytes) false whole)),
  sym (ap (λ (s : Served). s.status) (answered (frames_of bytes) false whole)),
)
due_served bytes source rest sink now all status (read_fault count replies are rose) none = absurd (none.reads rose)

pub wholly : (bytes : List ℕ) (source rest : SourceState) (sink now : SinkState) (status : ℕ) → IsServed bytes source rest sink now status
    → NoCallFailed source rest sink now → IsAllServed bytes sink now status
wholly bytes source rest sink now status (told replies _ due written quiet) none =
    let is : (AreUnhindered replies → replies ≡ (served bytes).replies) × (status ≡ (served bytes).status) = due_served bytes source rest sink now replies status due none in
    record { replies = replies; written = written; are_served = is.0; ends = is.1 }
wholly bytes source rest sink now status (cut replies count were few written rose) none = absurd (none.writes rose)
