-- What an acknowledgement says is so after it.
use Rattle.std.proofs.Common.{◌≡◌, ℕ, ◌-◌, ◌≤◌, Bool, true, false, not, ◌&&◌, nat_le, length, Option, None, Some, refl, ap, ◌∙◌, arith, if◌then◌else◌}
use Rattle.std.specs.Prelude.{◌==◌}
use Rattle.std.proofs.lemmas.Bool.{eqb-true, leb-true, and_parts}
use Rattle.std.proofs.lemmas.List.{length-replicate, get_or-set_same}
use Rattle.lvdc_image.specs.Image.{Contents}
use Rattle.lvdc_uplink.specs.Frames.{Frame, Load, bare_load, is_same_frame, stays, staged, with_frame, missing_in, frame_check, load_check}
use Rattle.lvdc_uplink.specs.Link.{Link, Step, Filing, says, named, stages, frames, refusal_by, applies, commits, abandons, after_message, by_message, is_acknowledged}
use Rattle.lvdc_uplink.specs.Heard.{IsHeldIf}
use Rattle.lvdc_uplink.specs.declared.answer.Answer.TheVariants.{Opened, Framed, Committed, Busy, Old, Range, Check, Differs}
use Rattle.lvdc_uplink.specs.declared.message.Message.{Message}
use Rattle.lvdc_uplink.specs.declared.message.Message.TheVariants as messages
use Rattle.lvdc_uplink.proofs.Ranged.{IsRanged}
use Rattle.lvdc_uplink.proofs.Hearing.{same-frame}

-- what the answer of a step says is so of its link
abbrev pub AnswerHolds : Option Message → Step → Type 0
AnswerHolds message step = IsHeldIf message (is_acknowledged step.answer) step.link.load step.link.last step.link.check

module _ (image : Contents) (last check : ℕ) where
  abbrev at : Option Load → Link
  at load = record { image = image; load = load; last = last; check = check }

  open_same : (id count : ℕ) (load : Load) (same : Bool) → (load.id == id && length load.frames == count) ≡ same
      → AnswerHolds (Some (messages.Open id count)) (says (if same then Opened id else Busy load.id) (at (Some load)))
  open_same id count load true is =
      let parts = and_parts (load.id == id) (length load.frames == count) is in
      (load, refl, eqb-true load.id id parts.0, eqb-true (length load.frames) count parts.1)
  open_same id count load false is = tt

  open_anew : (id count : ℕ) (old : Bool)
      → AnswerHolds (Some (messages.Open id count)) (if old then says (Old last) (at None) else record { answer = Opened id; link = at (Some (bare_load id count)) })
  open_anew id count true = tt
  open_anew id count false = (bare_load id count, refl, refl, length-replicate {A = Option Frame} count None)

  open_holds : (id count : ℕ) (load : Option Load) → AnswerHolds (Some (messages.Open id count)) (after_message (at load) (messages.Open id count))
  open_holds id count (Some load) = open_same id count load (load.id == id && length load.frames == count) refl
  open_holds id count None = open_anew id count (nat_le id last)

  -- ---- FRAME

  module _ (id number : ℕ) (frame : Frame) (c : ℕ) (load : Load) (some : 1 ≤ number) (own : load.id ≡ id) where
    abbrev Files : Filing → Type 0
    Files filing = AnswerHolds (Some (messages.Frame id number frame c)) (record { answer = filing.answer; link = at (Some filing.load) })

    stages_before : (other : Frame) (same : Bool) → is_same_frame other frame ≡ same → staged load number ≡ Some other → c ≡ frame_check id number frame
        → Files (record { answer = if same then Framed load.id number else Differs number; load = load })
    stages_before other true is here right = (load, refl, own, here ∙ ap (λ (f : Frame). Some f) (same-frame other frame is), right)
    stages_before other false is here right = tt

    stages_holds : (now : Option Frame) → staged load number ≡ now → number ≤ length load.frames → c ≡ frame_check id number frame
        → Files (stages number frame load now)
    stages_holds None here inside right =
        (with_frame load number frame, refl, own, get_or-set_same load.frames (number - 1) (Some frame) None (omega (arith, some, inside)), right)
    stages_holds (Some other) here inside right = stages_before other (is_same_frame other frame) refl here right

    files_by : (inside right : Bool) → (nat_le number (length load.frames) && stays frame) ≡ inside → (c == frame_check load.id number frame) ≡ right
        → Files (if not inside then (record { answer = Range; load = load })
        else (if right then stages number frame load (staged load number) else (record { answer = Check (frame_check load.id number frame); load = load })))
    files_by false right is checked = tt
    files_by true false is checked = tt
    files_by true true is checked =
        stages_holds (staged load number) refl (leb-true number (length load.frames) (and_parts (nat_le number (length load.frames)) (stays frame) is).0)
        (eqb-true c (frame_check load.id number frame) checked ∙ ap (λ (n : ℕ). frame_check n number frame) own)

  frame_named : (id number : ℕ) (frame : Frame) (c : ℕ) (load : Load) → 1 ≤ number → (same : Bool) → (load.id == id) ≡ same
      → AnswerHolds (Some (messages.Frame id number frame c)) (frames number frame c (at (Some load)) (if same then Some load else None))
  frame_named id number frame c load some true is =
      files_by id number frame c load some (eqb-true load.id id is) (nat_le number (length load.frames) && stays frame) (c == frame_check load.id number frame) refl refl
  frame_named id number frame c load some false is = tt

  frame_holds : (id number : ℕ) (frame : Frame) (c : ℕ) (load : Option Load) → 1 ≤ number
      → AnswerHolds (Some (messages.Frame id number frame c)) (after_message (at load) (messages.Frame id number frame c))
  frame_holds id number frame c None some = tt
  frame_holds id number frame c (Some load) some = frame_named id number frame c load some (load.id == id) refl

  -- ---- COMMIT

  commit_checked : (id c : ℕ) (load : Load) → load.id ≡ id → (right : Bool)
      → AnswerHolds (Some (messages.Commit id c)) (applies c (at (Some load)) load (if right then None else Some (Check (load_check load))))
  commit_checked id c load is true = (is, refl)
  commit_checked id c load is false = tt

  commit_refused : (id c : ℕ) (load : Load) → load.id ≡ id → (missing : Option ℕ)
      → AnswerHolds (Some (messages.Commit id c)) (applies c (at (Some load)) load (refusal_by c load missing))
  commit_refused id c load is (Some number) = tt
  commit_refused id c load is None = commit_checked id c load is (c == load_check load)

  commit_named : (id c : ℕ) (load : Load) (same : Bool) → (load.id == id) ≡ same
      → AnswerHolds (Some (messages.Commit id c)) (commits c (at (Some load)) (if same then Some load else None))
  commit_named id c load true is = commit_refused id c load (eqb-true load.id id is) (missing_in load)
  commit_named id c load false is = tt

  commit_first : (id c : ℕ) (load : Option Load) → AnswerHolds (Some (messages.Commit id c)) (commits c (at load) (named id load))
  commit_first id c None = tt
  commit_first id c (Some load) = commit_named id c load (load.id == id) refl

  commit_by : (id c : ℕ) (load : Option Load) (known : Bool) → (last == id && check == c) ≡ known
      → AnswerHolds (Some (messages.Commit id c)) (if known then says (Committed id) (at load) else commits c (at load) (named id load))
  commit_by id c load true is =
      let parts = and_parts (last == id) (check == c) is in
      (eqb-true last id parts.0, eqb-true check c parts.1)
  commit_by id c load false is = commit_first id c load

  -- ---- ABANDON

  abandon_named : (id : ℕ) (load : Load) (same : Bool) → AnswerHolds (Some (messages.Abandon id)) (abandons (at (Some load)) (if same then Some load else None))
  abandon_named id load true = refl
  abandon_named id load false = tt

  abandon_holds : (id : ℕ) (load : Option Load) → AnswerHolds (Some (messages.Abandon id)) (after_message (at load) (messages.Abandon id))
  abandon_holds id None = tt
  abandon_holds id (Some load) = abandon_named id load (load.id == id)

  message_holds : (load : Option Load) (message : Message) → IsRanged (Some message) → AnswerHolds (Some message) (after_message (at load) message)
  message_holds load (messages.Open id count) ranged = open_holds id count load
  message_holds load (messages.Frame id number frame c) ranged = frame_holds id number frame c load ranged.1
  message_holds load (messages.Commit id c) ranged = commit_by id c load (last == id && check == c) refl
  message_holds load (messages.Abandon id) ranged = abandon_holds id load

pub line-holds : (link : Link) (message : Option Message) → IsRanged message → AnswerHolds message (by_message link message)
line-holds link None ranged = tt
line-holds link (Some message) ranged = message_holds link.image link.last link.check link.load message ranged
