-- What a line makes of a link: it applies the open load, or it leaves the image and the last id; and which loads may be open.
use Rattle.std.proofs.Common.{◌≡◌, ℕ, Bool, true, false, not, ◌&&◌, nat_le, length, Option, None, Some, refl, arith, if◌then◌else◌, inl, inr}
use Rattle.std.specs.Prelude.{◌==◌, ◌⊎◌}
use Rattle.std.proofs.lemmas.Bool.{eqb-true}
use Rattle.lvdc_image.specs.Image.{Contents}
use Rattle.lvdc_uplink.specs.Frames.{Frame, Load, bare_load, stays, staged, missing_in, frame_check, load_check}
use Rattle.lvdc_uplink.specs.Patching.{patched}
use Rattle.lvdc_uplink.specs.Link.{Link, Step, says, named, stages, frames, refusal_by, applies, commits, abandons, after_message, by_message, is_committed, is_applying}
use Rattle.lvdc_uplink.specs.declared.answer.Answer.TheVariants.{Opened, Committed, Form, Busy, Old, NoLoad, Range, Check, Missing}
use Rattle.lvdc_uplink.specs.declared.message.Message.{Message}
use Rattle.lvdc_uplink.specs.declared.message.Message.TheVariants as messages

-- the step applies this load
pub record Applied (link : Link) (step : Step) (load : Load) : Type 0 where
  pub held : link.load ≡ Some load
  pub applying : is_applying link step ≡ true
  pub image : step.link.image ≡ patched link.image load
  pub last : step.link.last ≡ load.id
  pub check : step.link.check ≡ load_check load
  pub whole : missing_in load ≡ None
  pub closed : step.link.load ≡ None

-- the step applies no load
pub record AppliesNone (link : Link) (step : Step) : Type 0 where
  pub applying : is_applying link step ≡ false
  pub image : step.link.image ≡ link.image
  pub last : step.link.last ≡ link.last
  pub check : step.link.check ≡ link.check

abbrev pub Outcome : Link → Step → Type 0
Outcome link step = ((load : Load) × Applied link step load) ⊎ AppliesNone link step

-- an answer other than that of a commit, with the image and what was committed last as they were
kept : (link : Link) (step : Step) → is_committed step.answer ≡ false → step.link.image ≡ link.image → step.link.last ≡ link.last → step.link.check ≡ link.check
    → Outcome link step
kept link step other image last check = inr (record { applying = rw other refl; image = image; last = last; check = check })

module _ (image : Contents) (last check : ℕ) where
  abbrev at : Option Load → Link
  at load = record { image = image; load = load; last = last; check = check }

  open_same : (id : ℕ) (load : Load) (same : Bool) → Outcome (at (Some load)) (says (if same then Opened id else Busy load.id) (at (Some load)))
  open_same id load true = kept (at (Some load)) (says (Opened id) (at (Some load))) refl refl refl refl
  open_same id load false = kept (at (Some load)) (says (Busy load.id) (at (Some load))) refl refl refl refl

  open_anew : (id count : ℕ) (old : Bool)
      → Outcome (at None) (if old then says (Old last) (at None) else record { answer = Opened id; link = at (Some (bare_load id count)) })
  open_anew id count true = kept (at None) (says (Old last) (at None)) refl refl refl refl
  open_anew id count false = kept (at None) (record { answer = Opened id; link = at (Some (bare_load id count)) }) refl refl refl refl

  open_outcome : (id count : ℕ) (load : Option Load) → Outcome (at load) (after_message (at load) (messages.Open id count))
  open_outcome id count (Some load) = open_same id load (load.id == id && length load.frames == count)
  open_outcome id count None = open_anew id count (nat_le id last)

  -- ---- FRAME

  stages-answer : (number : ℕ) (frame : Frame) (load : Load) (now : Option Frame) → is_committed (stages number frame load now).answer ≡ false
  stages-answer number frame load None = refl
  stages-answer number frame load (Some other) = grind arith

  files-answer_by : (number : ℕ) (frame : Frame) (load : Load) (inside right : Bool) → is_committed (if not inside then (record { answer = Range; load = load })
      else (if right then stages number frame load (staged load number) else (record { answer = Check (frame_check load.id number frame); load = load }))).answer ≡ false
  files-answer_by number frame load false right = refl
  files-answer_by number frame load true false = refl
  files-answer_by number frame load true true = stages-answer number frame load (staged load number)

  frame_named : (number : ℕ) (frame : Frame) (c : ℕ) (load : Load) (same : Bool)
      → Outcome (at (Some load)) (frames number frame c (at (Some load)) (if same then Some load else None))
  frame_named number frame c load true =
      kept (at (Some load)) (frames number frame c (at (Some load)) (Some load))
      (files-answer_by number frame load (nat_le number (length load.frames) && stays frame) (c == frame_check load.id number frame)) refl refl refl
  frame_named number frame c load false = kept (at (Some load)) (says NoLoad (at (Some load))) refl refl refl refl

  frame_outcome : (id number : ℕ) (frame : Frame) (c : ℕ) (load : Option Load) → Outcome (at load) (after_message (at load) (messages.Frame id number frame c))
  frame_outcome id number frame c None = kept (at None) (says NoLoad (at None)) refl refl refl refl
  frame_outcome id number frame c (Some load) = frame_named number frame c load (load.id == id)

  -- ---- COMMIT

  commit_checked : (c : ℕ) (load : Load) → missing_in load ≡ None → (right : Bool) → (c == load_check load) ≡ right
      → Outcome (at (Some load)) (applies c (at (Some load)) load (if right then None else Some (Check (load_check load))))
  commit_checked c load whole true is =
      inl (
        load,
        record {
          held = refl;
          applying = refl;
          image = refl;
          last = refl;
          check = eqb-true c (load_check load) is;
          whole = whole;
          closed = refl;
        },
      )
  commit_checked c load whole false is = kept (at (Some load)) (says (Check (load_check load)) (at (Some load))) refl refl refl refl

  commit_refused : (c : ℕ) (load : Load) (missing : Option ℕ) → missing_in load ≡ missing
      → Outcome (at (Some load)) (applies c (at (Some load)) load (refusal_by c load missing))
  commit_refused c load (Some number) whole = kept (at (Some load)) (says (Missing number) (at (Some load))) refl refl refl refl
  commit_refused c load None whole = commit_checked c load whole (c == load_check load) refl

  commit_named : (c : ℕ) (load : Load) (same : Bool) → Outcome (at (Some load)) (commits c (at (Some load)) (if same then Some load else None))
  commit_named c load true = commit_refused c load (missing_in load) refl
  commit_named c load false = kept (at (Some load)) (says NoLoad (at (Some load))) refl refl refl refl

  commit_first : (id c : ℕ) (load : Option Load) → Outcome (at load) (commits c (at load) (named id load))
  commit_first id c None = kept (at None) (says NoLoad (at None)) refl refl refl refl
  commit_first id c (Some load) = commit_named c load (load.id == id)

  commit_again : (id : ℕ) (load : Option Load) → Outcome (at load) (says (Committed id) (at load))
  commit_again id None = inr (record { applying = refl; image = refl; last = refl; check = refl })
  commit_again id (Some load) = inr (record { applying = refl; image = refl; last = refl; check = refl })

  commit_by : (id c : ℕ) (load : Option Load) (known : Bool) → Outcome (at load) (if known then says (Committed id) (at load) else commits c (at load) (named id load))
  commit_by id c load true = commit_again id load
  commit_by id c load false = commit_first id c load

  -- ---- ABANDON

  abandon_named : (load : Load) (same : Bool) → Outcome (at (Some load)) (abandons (at (Some load)) (if same then Some load else None))
  abandon_named load true = kept (at (Some load)) (abandons (at (Some load)) (Some load)) refl refl refl refl
  abandon_named load false = kept (at (Some load)) (says NoLoad (at (Some load))) refl refl refl refl

  abandon_outcome : (id : ℕ) (load : Option Load) → Outcome (at load) (after_message (at load) (messages.Abandon id))
  abandon_outcome id None = kept (at None) (says NoLoad (at None)) refl refl refl refl
  abandon_outcome id (Some load) = abandon_named load (load.id == id)

  message_outcome : (load : Option Load) (message : Message) → Outcome (at load) (after_message (at load) message)
  message_outcome load (messages.Open id count) = open_outcome id count load
  message_outcome load (messages.Frame id number frame c) = frame_outcome id number frame c load
  message_outcome load (messages.Commit id c) = commit_by id c load (last == id && check == c)
  message_outcome load (messages.Abandon id) = abandon_outcome id load

pub outcome : (link : Link) (message : Option Message) → Outcome link (by_message link message)
outcome link None = kept link (says Form link) refl refl refl refl
outcome link (Some message) = message_outcome link.image link.last link.check link.load message
