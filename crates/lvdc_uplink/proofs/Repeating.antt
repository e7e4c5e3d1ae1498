-- A line that was acknowledged, sent again directly.
use Rattle.std.proofs.Common.{◌≡◌, ℕ, Bool, true, false, not, ◌&&◌, nat_le, List, length, set, ◌-◌, Option, None, Some, refl, sym, ap, arith, if◌then◌else◌, eq-eqb, inl, inr, [], ◌∷◌}
use Rattle.std.specs.Prelude.{◌==◌, ◌⊎◌}
use Rattle.std.specs.Str.{bytes_eq}
use Rattle.std.proofs.lemmas.Bool.{eqb-true, cases_lt}
use Rattle.std.proofs.lemmas.List.{length-replicate, length-set, get_or-set_same, get_or_past}
use Rattle.lvdc_image.specs.Image.{Contents}
use Rattle.lvdc_uplink.specs.Frames.{Frame, Load, bare_load, is_same_frame, stays, staged, with_frame, missing_in, frame_check, load_check}
use Rattle.lvdc_uplink.specs.Link.{Link, Step, Filing, says, named, stages, files, frames, refusal_by, applies, commits, abandons, after_message, by_message, is_acknowledged, again}
use Rattle.lvdc_uplink.specs.declared.answer.Answer.TheVariants.{Opened, Framed, Committed, Busy, Old, Range, Check, Differs}
use Rattle.lvdc_uplink.specs.declared.message.Message.{Message}
use Rattle.lvdc_uplink.specs.declared.message.Message.TheVariants as messages

-- where the step acknowledges the message, the message is answered so again after it
abbrev pub Repeats : Message → Step → Type 0
Repeats message step = is_acknowledged step.answer ≡ true → (after_message step.link message).answer ≡ again step.answer

-- ---- a frame in its load

same-words : (ws : List ℕ) → bytes_eq ws ws ≡ true
same-words [] = refl
same-words (w ∷ ws) = rw (eq-eqb w w refl, same-words ws) refl

same-frame : (frame : Frame) → is_same_frame frame frame ≡ true
same-frame frame =
    rw (eq-eqb frame.at.pair frame.at.pair refl, eq-eqb frame.at.sector frame.at.sector refl, eq-eqb frame.at.loc frame.at.loc refl, same-words frame.words) refl

-- where the filing acknowledges the frame, the frame is answered the same after it
abbrev Refiles : ℕ → Frame → ℕ → Filing → Type 0
Refiles number frame c filing = is_acknowledged filing.answer ≡ true → (files number frame c filing.load).answer ≡ again filing.answer

module _ (number : ℕ) (frame : Frame) (c : ℕ) (load : Load) (inside : (nat_le number (length load.frames) && stays frame) ≡ true)
    (right : (c == frame_check load.id number frame) ≡ true) where
  staged_now : (now : Option Frame) → (now ≡ Some frame) ⊎ (now ≡ None) → (stages number frame (with_frame load number frame) now).answer ≡ Framed load.id number
  staged_now None known = refl
  staged_now (Some other) (inl is) =
      let the_same : other ≡ frame = cc in
      let same : is_same_frame other frame ≡ true = rw the_same (same-frame frame) in
      rw same refl
  staged_now (Some other) (inr none) = absurd (cc)

  staged_known : (staged (with_frame load number frame) number ≡ Some frame) ⊎ (staged (with_frame load number frame) number ≡ None)
  staged_known = elim (cases_lt (number - 1) (length load.frames)) [
    | inl below ↦ inl (get_or-set_same load.frames (number - 1) (Some frame) None below)
    | inr past ↦ inr (get_or_past (set load.frames (number - 1) (Some frame)) (number - 1) None (omega (arith, length-set load.frames (number - 1) (Some frame), past)))
  ]

  staged_anew : Refiles number frame c (record { answer = Framed load.id number; load = with_frame load number frame })
  staged_anew ack =
      rw (length-set load.frames (number - 1) (Some frame), inside, right) (staged_now (staged (with_frame load number frame) number) staged_known)

  staged_before : (other : Frame) (same : Bool) → is_same_frame other frame ≡ same → staged load number ≡ Some other
      → Refiles number frame c (record { answer = if same then Framed load.id number else Differs number; load = load })
  staged_before other true is here ack = rw (inside, right, here, is) refl
  staged_before other false is here ack = absurd (cc)

  staged_by : (now : Option Frame) → staged load number ≡ now → Refiles number frame c (stages number frame load now)
  staged_by None here ack = staged_anew ack
  staged_by (Some other) here ack = staged_before other (is_same_frame other frame) refl here ack

module _ (number : ℕ) (frame : Frame) (c : ℕ) (load : Load) where
  by_tests : (inside right : Bool) → (nat_le number (length load.frames) && stays frame) ≡ inside → (c == frame_check load.id number frame) ≡ right
      → Refiles number frame c (if not inside then record { answer = Range; load = load }
      else (if right then stages number frame load (staged load number) else record { answer = Check (frame_check load.id number frame); load = load }))
  by_tests false right within is ack = absurd (cc)
  by_tests true false within is ack = absurd (cc)
  by_tests true true within is ack = staged_by number frame c load within is (staged load number) refl ack

  files-repeats : Refiles number frame c (files number frame c load)
  files-repeats = by_tests (nat_le number (length load.frames) && stays frame) (c == frame_check load.id number frame) refl refl

  stages-id : (now : Option Frame) → (stages number frame load now).load.id ≡ load.id
  stages-id None = refl
  stages-id (Some other) = refl

  id_by_tests : (inside right : Bool) → (if not inside then (record { answer = Range; load = load })
      else (if right then stages number frame load (staged load number) else (record { answer = Check (frame_check load.id number frame); load = load }))).load.id ≡ load.id
  id_by_tests false right = refl
  id_by_tests true false = refl
  id_by_tests true true = stages-id (staged load number)

  files-id : (files number frame c load).load.id ≡ load.id
  files-id = id_by_tests (nat_le number (length load.frames) && stays frame) (c == frame_check load.id number frame)

module _ (image : Contents) (last check : ℕ) where
  abbrev at : Option Load → Link
  at load = record { image = image; load = load; last = last; check = check }

  -- ---- OPEN

  open_same : (id count : ℕ) (load : Load) (same : Bool) → (load.id == id && length load.frames == count) ≡ same
      → Repeats (messages.Open id count) (says (if same then Opened id else Busy load.id) (at (Some load)))
  open_same id count load true is ack = rw is refl
  open_same id count load false is ack = absurd (cc)

  open_anew : (id count : ℕ) (old : Bool)
      → Repeats (messages.Open id count) (if old then says (Old last) (at None) else record { answer = Opened id; link = at (Some (bare_load id count)) })
  open_anew id count true ack = absurd (cc)
  open_anew id count false ack = rw (eq-eqb id id refl, length-replicate {A = Option Frame} count None, eq-eqb count count refl) refl

  open_repeats : (id count : ℕ) (load : Option Load) → Repeats (messages.Open id count) (after_message (at load) (messages.Open id count))
  open_repeats id count (Some load) = open_same id count load (load.id == id && length load.frames == count) refl
  open_repeats id count None = open_anew id count (nat_le id last)

  -- ---- COMMIT

  commit_checked : (id c : ℕ) (load : Load) → (load.id == id) ≡ true → (right : Bool)
      → Repeats (messages.Commit id c) (applies c (at (Some load)) load (if right then None else Some (Check (load_check load))))
  commit_checked id c load is true ack = rw (is, eq-eqb c c refl) (ap Committed (sym (eqb-true load.id id is)))
  commit_checked id c load is false ack = absurd (cc)

  commit_refused : (id c : ℕ) (load : Load) → (load.id == id) ≡ true → (missing : Option ℕ)
      → Repeats (messages.Commit id c) (applies c (at (Some load)) load (refusal_by c load missing))
  commit_refused id c load is (Some number) ack = absurd (cc)
  commit_refused id c load is None ack = commit_checked id c load is (c == load_check load) ack

  commit_named : (id c : ℕ) (load : Load) (same : Bool) → (load.id == id) ≡ same
      → Repeats (messages.Commit id c) (commits c (at (Some load)) (if same then Some load else None))
  commit_named id c load true is ack = commit_refused id c load is (missing_in load) ack
  commit_named id c load false is ack = absurd (cc)

  commit_first : (id c : ℕ) (load : Option Load) → Repeats (messages.Commit id c) (commits c (at load) (named id load))
  commit_first id c None ack = absurd (cc)
  commit_first id c (Some load) ack = commit_named id c load (load.id == id) refl ack

  commit_by : (id c : ℕ) (load : Option Load) (known : Bool) → (last == id && check == c) ≡ known
      → Repeats (messages.Commit id c) (if known then says (Committed id) (at load) else commits c (at load) (named id load))
  commit_by id c load true is ack = rw is refl
  commit_by id c load false is ack = commit_first id c load ack

  commit_repeats : (id c : ℕ) (load : Option Load) → Repeats (messages.Commit id c) (after_message (at load) (messages.Commit id c))
  commit_repeats id c load = commit_by id c load (last == id && check == c) refl

  -- ---- ABANDON

  abandon_named : (id : ℕ) (load : Load) (same : Bool) → Repeats (messages.Abandon id) (abandons (at (Some load)) (if same then Some load else None))
  abandon_named id load true ack = refl
  abandon_named id load false ack = absurd (cc)

  abandon_repeats : (id : ℕ) (load : Option Load) → Repeats (messages.Abandon id) (after_message (at load) (messages.Abandon id))
  abandon_repeats id None ack = absurd (cc)
  abandon_repeats id (Some load) ack = abandon_named id load (load.id == id) ack

  -- ---- FRAME

  frame_named : (id number : ℕ) (frame : Frame) (c : ℕ) (load : Load) (same : Bool) → (load.id == id) ≡ same
      → Repeats (messages.Frame id number frame c) (frames number frame c (at (Some load)) (if same then Some load else None))
  frame_named id number frame c load true is ack =
      let filing = files number frame c load in
      let kept : (filing.load.id == id) ≡ true = rw (files-id number frame c load) is in
      rw kept (files-repeats number frame c load ack)
  frame_named id number frame c load false is ack = absurd (cc)

  frame_repeats : (id number : ℕ) (frame : Frame) (c : ℕ) (load : Option Load)
      → Repeats (messages.Frame id number frame c) (after_message (at load) (messages.Frame id number frame c))
  frame_repeats id number frame c None ack = absurd (cc)
  frame_repeats id number frame c (Some load) ack = frame_named id number frame c load (load.id == id) refl ack

  -- ---- each message

  message_repeats : (load : Option Load) (message : Message) → Repeats message (after_message (at load) message)
  message_repeats load (messages.Open id count) = open_repeats id count load
  message_repeats load (messages.Frame id number frame c) = frame_repeats id number frame c load
  message_repeats load (messages.Commit id c) = commit_repeats id c load
  message_repeats load (messages.Abandon id) = abandon_repeats id load

pub line-repeats : (link : Link) (message : Option Message) → is_acknowledged (by_message link message).answer ≡ true
    → (by_message (by_message link message).link message).answer ≡ again (by_message link message).answer
line-repeats link None ack = absurd (cc)
line-repeats link (Some message) ack = message_repeats link.image link.last link.check link.load message ack
