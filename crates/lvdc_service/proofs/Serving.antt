-- Frame after frame: what was answered so far, and how it ends.
use Rattle.std.proofs.Common.{◌≡◌, ℕ, suc, zero, ◌+◌, ◌<◌, ◌≤◌, Bool, true, false, List, [], ◌∷◌, ◌++◌, length, take, Some, None, refl, sym, ap, ◌∙◌, subst, append_assoc, arith, length-append}
use Rattle.std.specs.declared.option.Option.{Option}
use Rattle.std.specs.Io.KnownBytes.{Appends}
use Rattle.std.proofs.lemmas.List.{append-nil, take_at}
use Rattle.lvdc_text.specs.Causes.{Rose}
use Rattle.lvdc_text.specs.Streams.{SourceState, SinkState}
use Rattle.lvdc_service.specs.Frames.{Request, Frames, with_request, with_requests, no_request, frame_at, frames_within, frames_of, most_frames}
use Rattle.lvdc_service.specs.Reading.{Uses, to_come}
use Rattle.lvdc_text.proofs.Transfers.{appends_none}
use Rattle.lvdc_service.proofs.Uses.{uses_none, uses_more}
use Rattle.lvdc_service.proofs.Following.{frames_nothing, frames_no_more, frames_first, frames_none}
use Rattle.lvdc_service.specs.Served.{Reply, IsReplyTo, AreReplies, all_bytes, bad_frame_reply, read_fault_reply}
use Rattle.lvdc_service.specs.Service.{AreBytesOf, IsDue, ended, bad_frame, read_fault, under_way, at_the_end, IsServed, told as all_told, cut, IsServiceEnd}
use Rattle.lvdc_service.specs.Turns.{stream, due_reply, IsFinished, whole, part, GoesOn, IsLast, reply_cut, ended as last_ended, bad_frame as last_bad_frame, read_fault as last_read_fault}
use Rattle.lvdc_service.proofs.Written.{appends_reply, appends_front, front_fewer}

-- ---- bytes

-- all bytes that the source tells, by those that were used
pub all_of : (left : Option (List ℕ)) (held_now : List ℕ) (left_now : Option (List ℕ)) (used : List ℕ) → Uses [] left held_now left_now used → AreBytesOf left (used ++ to_come held_now left_now)
all_of None held_now left_now used u = tt
all_of (Some all) held_now None used u = absurd u.consumed
all_of (Some all) held_now (Some rest) used u = u.consumed ∙ ap (λ bytes. bytes ++ rest) u.kept ∙ append_assoc used held_now rest

-- ---- frames

one_more : (requests : List Request) (request : Request) (frames : Frames) → with_requests requests (with_request request frames) ≡ with_requests (requests ++ request ∷ []) frames
one_more requests request frames = ap (λ (all : List Request). record { requests = all; whole = frames.whole }) (sym (append_assoc requests (request ∷ []) frames.requests))

no_more : (requests : List Request) (alone : Bool) → with_requests requests (no_request alone) ≡ record { requests = requests; whole = alone }
no_more requests alone = ap (λ (all : List Request). record { requests = all; whole = alone }) (append-nil requests)

-- ---- replies

replies_more : (requests : List Request) (replies : List Reply) (request : Request) (reply : Reply) → AreReplies requests replies → IsReplyTo request reply → AreReplies (requests ++ request ∷ []) (replies ++ reply ∷ [])
replies_more [] [] request reply h k = (k, tt)
replies_more [] (other ∷ replies) request reply h k = absurd h
replies_more (first ∷ requests) [] request reply h k = absurd h
replies_more (first ∷ requests) (other ∷ replies) request reply h k = (h.0, replies_more requests replies request reply h.1 k)

-- ---- what was done so far

-- so many frames were used and answered, and so many more may be
pub record SoFar (source now : SourceState) (held : List ℕ) (sink after : SinkState) (number : ℕ) : Type 0 where
  pub left : ℕ
  pub counted : number + left ≡ most_frames
  pub used : List ℕ
  pub requests : List Request
  pub replies : List Reply
  pub uses : Uses [] source.left held now.left used
  pub frames : (more : List ℕ) → frames_within most_frames (used ++ more) ≡ with_requests requests (frames_within left more)
  pub numbered : length requests ≡ number
  pub each : AreReplies requests replies
  pub written : Appends sink.written after.written (all_bytes replies)
  pub quiet_source : now.faults ≡ source.faults
  pub quiet_sink : after.faults ≡ sink.faults
  pub untold : after.room ≡ None

pub at_first : (source : SourceState) (sink : SinkState) → sink.room ≡ None → SoFar source source [] sink sink 0
at_first source sink untold = record {
  left = most_frames;
  counted = refl;
  used = [];
  requests = [];
  replies = [];
  uses = uses_none [] source.left;
  frames = λ more. refl;
  numbered = refl;
  each = tt;
  written = appends_none sink.written;
  quiet_source = refl;
  quiet_sink = refl;
  untold = untold;
}

more_frames : (used u more : List ℕ) (requests : List Request) (request : Request) (left : ℕ)
    → ((rest : List ℕ) → frames_within most_frames (used ++ rest) ≡ with_requests requests (frames_within (suc left) rest))
    → frame_at (u ++ more) ≡ Some (record { request = request; rest = more })
    → frames_within most_frames ((used ++ u) ++ more) ≡ with_requests (requests ++ request ∷ []) (frames_within left more)
more_frames used u more requests request left before first =
    ap (frames_within most_frames) (append_assoc used u more) ∙ before (u ++ more)
    ∙ ap (with_requests requests) (frames_first left (u ++ more) request more first) ∙ one_more requests request (frames_within left more)

-- one more frame was used and answered
gone_on : {source now later : SourceState} {held held_later : List ℕ} {sink after written_later : SinkState} {number : ℕ} (s : SoFar source now held sink after number)
    (left : ℕ) → s.left ≡ suc left → GoesOn (stream held now) (stream held_later later) after written_later → SoFar source later held_later sink written_later (number + 1)
gone_on {sink} {after} {written_later} s left is t =
    let f = t.frame in
    record {
      left = left;
      counted = omega (arith, s.counted, is);
      used = s.used ++ f.used;
      requests = s.requests ++ f.request ∷ [];
      replies = s.replies ++ due_reply t.due ∷ [];
      uses = uses_more s.uses f.uses;
      frames = λ more. more_frames s.used f.used more s.requests f.request left (λ rest. s.frames rest ∙ ap (λ n. with_requests s.requests (frames_within n rest)) is) (f.frame more);
      numbered = omega (arith, s.numbered, length-append s.requests (f.request ∷ []));
      each = replies_more s.requests s.replies f.request (due_reply t.due) s.each f.reply;
      written = appends_reply sink.written after.written written_later.written s.replies (due_reply t.due) s.written t.written.appended;
      quiet_source = f.quiet ∙ s.quiet_source;
      quiet_sink = t.written.quiet ∙ s.quiet_sink;
      untold = t.written.untold;
    }

one_left : (left number : ℕ) → number + left ≡ most_frames → number < most_frames → (less : ℕ) × (left ≡ suc less)
one_left zero number counted l = absurd (omega arith)
one_left (suc less) number counted l = (less, refl)

pub goes_on : {source now later : SourceState} {held held_later : List ℕ} {sink after written_later : SinkState} {number : ℕ} → number < most_frames → SoFar source now held sink after number
    → GoesOn (stream held now) (stream held_later later) after written_later → SoFar source later held_later sink written_later (number + 1)
goes_on {number} l s t = let less = one_left s.left number s.counted l in gone_on s less.0 less.1 t

-- ---- how it ends

-- the replies that are due in the end were written, the last one among them or not
finished : {bytes : List ℕ} {source now : SourceState} {sink after later : SinkState} {status : ℕ} (replies : List Reply) (last : Reply)
    → IsDue (frames_of bytes) source now (replies ++ last ∷ []) last.status
    → Appends sink.written after.written (all_bytes replies) → after.faults ≡ sink.faults → IsFinished after later last status → IsServed bytes source now sink later status
finished {sink} {after} {later} replies last due written quiet (whole w) =
    all_told (replies ++ last ∷ []) last.status due (appends_reply sink.written after.written later.written replies last written w.appended) (w.quiet ∙ quiet)
finished {sink} {after} {later} replies last due written quiet (part p) =
    cut (replies ++ last ∷ []) (length (all_bytes replies) + p.count) (at_the_end (replies ++ last ∷ []) last.status due)
    (front_fewer replies last p.count p.fewer) (appends_front sink.written after.written later.written replies last p.count written p.appended)
    (subst (λ n. Rose n later.faults) quiet p.rose)

-- all frames were answered
pub at_last : {source now : SourceState} {sink after : SinkState} (bytes : List ℕ) (requests : List Request) (replies : List Reply)
    → AreBytesOf source.left bytes → frames_of bytes ≡ record { requests = requests; whole = true } → AreReplies requests replies
    → Appends sink.written after.written (all_bytes replies) → now.faults ≡ source.faults → after.faults ≡ sink.faults → IsServiceEnd source now sink after 0
at_last {source} {now} bytes requests replies are is each written quiet_source quiet_sink = record {
  bytes = bytes;
  are_bytes = are;
  served = all_told replies 0 (subst (λ (f : Frames). IsDue f source now replies 0) (sym is) (ended replies each refl quiet_source)) written quiet_sink;
}

-- so many frames were answered that no further one is
pub enough : {source now : SourceState} {held : List ℕ} {sink after : SinkState} {number : ℕ} → most_frames ≤ number → SoFar source now held sink after number → IsServiceEnd source now sink after 0
enough {source} {now} {held} {number} l s =
    let none : s.left ≡ 0 = omega (arith, s.counted) in
    let rest = to_come held now.left in
    at_last (s.used ++ rest) s.requests s.replies (all_of source.left held now.left s.used s.uses)
    (s.frames rest ∙ ap (λ n. with_requests s.requests (frames_within n rest)) none ∙ ap (with_requests s.requests) (frames_no_more rest) ∙ no_more s.requests true)
    s.each s.written s.quiet_source s.quiet_sink

used_then : (used u rest : List ℕ) (requests : List Request) (left : ℕ) (frames : Frames)
    → ((more : List ℕ) → frames_within most_frames (used ++ more) ≡ with_requests requests (frames_within left more)) → frames_within left (u ++ rest) ≡ frames
    → frames_of ((used ++ u) ++ rest) ≡ with_requests requests frames
used_then used u rest requests left frames before is =
    ap (frames_within most_frames) (append_assoc used u rest) ∙ before (u ++ rest) ∙ ap (with_requests requests) is

-- the first requests are those before the rest
front : (requests : List Request) (frames : Frames) → take (length requests) (with_requests requests frames).requests ≡ requests
front requests frames = take_at requests frames.requests (length requests) refl

-- the service ends at this frame
lasts : {source now later : SourceState} {held held_later : List ℕ} {sink after written_later : SinkState} {number status : ℕ} (s : SoFar source now held sink after number)
    (left : ℕ) → s.left ≡ suc left → IsLast (number + 1) (stream held now) (stream held_later later) after written_later status → IsServiceEnd source later sink written_later status
lasts {source} {later} {held_later} {sink} {after} {written_later} {number} s left is (reply_cut due f p) =
    let rest = to_come held_later later.left in
    let bytes = (s.used ++ f.used) ++ rest in
    let requests = s.requests ++ f.request ∷ [] in
    let replies = s.replies ++ due_reply due ∷ [] in
    let frames : frames_of bytes ≡ with_requests requests (frames_within left rest) =
    more_frames s.used f.used rest s.requests f.request left (λ more. s.frames more ∙ ap (λ n. with_requests s.requests (frames_within n more)) is) (f.frame rest) in
    let each : AreReplies (take (length requests) (frames_of bytes).requests) replies =
    subst (λ (all : Frames). AreReplies (take (length requests) all.requests) replies) (sym frames)
    (subst (λ (rs : List Request). AreReplies rs replies) (sym (front requests (frames_within left rest))) (replies_more s.requests s.replies f.request (due_reply due) s.each f.reply)) in
    record {
      bytes = bytes;
      are_bytes = all_of source.left held_later later.left (s.used ++ f.used) (uses_more s.uses f.uses);
      served = cut replies (length (all_bytes s.replies) + p.count) (under_way (length requests) replies each)
          (front_fewer s.replies (due_reply due) p.count p.fewer)
          (appends_front sink.written after.written written_later.written s.replies (due_reply due) p.count s.written p.appended)
          (subst (λ n. Rose n written_later.faults) s.quiet_sink p.rose);
    }
lasts {source} {later} {held_later} {sink} {after} {written_later} {number} s left is (last_ended none same) =
    let rest = to_come held_later later.left in
    at_last ((s.used ++ []) ++ rest) s.requests s.replies
    (all_of source.left held_later later.left (s.used ++ []) (uses_more s.uses none.uses))
    (used_then s.used [] rest s.requests s.left (no_request true) s.frames (ap (frames_within s.left) none.nothing ∙ frames_nothing s.left) ∙ no_more s.requests true)
    s.each (subst (λ (k : SinkState). Appends sink.written k.written (all_bytes s.replies)) (sym same) s.written) (none.quiet ∙ s.quiet_source)
    (ap (λ (k : SinkState). k.faults) same ∙ s.quiet_sink)
lasts {source} {later} {held_later} {sink} {after} {written_later} {number} s left is (last_bad_frame status f w) =
    let rest = to_come held_later later.left in
    let bytes = (s.used ++ f.used) ++ rest in
    let some : 0 < length (f.used ++ rest) = omega (arith, f.some, length-append f.used rest) in
    let frames : frames_of bytes ≡ record { requests = s.requests; whole = false } =
    used_then s.used f.used rest s.requests s.left (no_request false) s.frames
    (ap (λ n. frames_within n (f.used ++ rest)) is ∙ frames_none left (f.used ++ rest) some f.no_frame) ∙ no_more s.requests false in
    let due : IsDue (frames_of bytes) source later (s.replies ++ bad_frame_reply (number + 1) ∷ []) 2 =
    subst (λ (all : Frames). IsDue all source later (s.replies ++ bad_frame_reply (number + 1) ∷ []) 2) (sym frames)
    (subst (λ n. IsDue (record { requests = s.requests; whole = false }) source later (s.replies ++ bad_frame_reply (n + 1) ∷ []) 2) s.numbered
    (bad_frame s.replies s.each refl (f.quiet ∙ s.quiet_source))) in
    record {
      bytes = bytes;
      are_bytes = all_of source.left held_later later.left (s.used ++ f.used) (uses_more s.uses f.uses);
      served = finished s.replies (bad_frame_reply (number + 1)) due s.written s.quiet_sink w;
    }
lasts {source} {later} {held_later} {sink} {after} {written_later} {number} s left is (last_read_fault status f w) =
    let rest = to_come held_later later.left in
    let bytes = (s.used ++ f.used) ++ rest in
    let frames : frames_of bytes ≡ with_requests s.requests (frames_within s.left (f.used ++ rest)) =
    used_then s.used f.used rest s.requests s.left (frames_within s.left (f.used ++ rest)) s.frames refl in
    let each : AreReplies (take (length s.requests) (frames_of bytes).requests) s.replies =
    subst (λ (all : Frames). AreReplies (take (length s.requests) all.requests) s.replies) (sym frames)
    (subst (λ (rs : List Request). AreReplies rs s.replies) (sym (front s.requests (frames_within s.left (f.used ++ rest)))) s.each) in
    let due : IsDue (frames_of bytes) source later (s.replies ++ read_fault_reply ∷ []) 7 =
    read_fault (length s.requests) s.replies each (subst (λ n. Rose n later.faults) s.quiet_source f.rose) in
    record {
      bytes = bytes;
      are_bytes = all_of source.left held_later later.left (s.used ++ f.used) (uses_more s.uses f.uses);
      served = finished s.replies read_fault_reply due s.written s.quiet_sink w;
    }

pub at_end : {source now later : SourceState} {held held_later : List ℕ} {sink after written_later : SinkState} {number status : ℕ} → number < most_frames → SoFar source now held sink after number
    → IsLast (number + 1) (stream held now) (stream held_later later) after written_later status → IsServiceEnd source later sink written_later status
at_end {number} l s t = let less = one_left s.left number s.counted l in lasts s less.0 less.1 t
