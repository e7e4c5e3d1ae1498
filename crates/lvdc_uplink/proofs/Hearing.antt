-- What a link holds is what is heard of the lines and of their answers.
use Rattle.std.proofs.Common.{◌≡◌, ℕ, ◌-◌, ◌<◌, Bool, true, false, not, ◌&&◌, nat_le, List, [], ◌++◌, length, set, Option, None, Some, refl, sym, ap, ◌∙◌, arith, append-nil, if◌then◌else◌}
use Rattle.std.specs.Prelude.{◌==◌, option_to_list}
use Rattle.std.proofs.lemmas.Bool.{eqb-true, and_parts}
use Rattle.std.proofs.lemmas.List.{set-get_or}
use Rattle.std.proofs.lemmas.Slice.Eq.{bytes_eq-Decides}
use Rattle.std.specs.Str.{bytes_eq}
use Rattle.lvdc_map.specs.Address.{is_same}
use Rattle.lvdc_map.proofs.Addresses.{same-spot}
use Rattle.lvdc_image.specs.Image.{Contents}
use Rattle.lvdc_uplink.specs.Frames.{Frame, Load, bare_load, is_same_frame, stays, staged, with_frame, missing_in, frame_check, load_check}
use Rattle.lvdc_uplink.specs.Link.{Link, Step, Filing, says, named, stages, frames, refusal_by, applies, commits, abandons, after_message, is_acknowledged, is_applying}
use Rattle.lvdc_uplink.specs.Heard.{Heard, hears_by, IsSoundLoad}
use Rattle.lvdc_uplink.specs.declared.answer.Answer.TheVariants.{Opened, Framed, Committed, Busy, Old, Range, Check, Differs}
use Rattle.lvdc_uplink.specs.declared.message.Message.{Message}
use Rattle.lvdc_uplink.specs.declared.message.Message.TheVariants as messages

-- the same frame is equal to it
pub same-frame : (a b : Frame) → is_same_frame a b ≡ true → a ≡ b
same-frame a b same =
    let parts = and_parts (is_same a.at b.at) (bytes_eq a.words b.words) same in
    let at : a.at ≡ b.at = same-spot a.at b.at parts.0 in
    let words : a.words ≡ b.words = (bytes_eq-Decides a.words b.words).0 parts.1 in
    λ i. record { at = at i; words = words i }

-- a frame that is staged, staged once more
staged-again : (load : Load) (number : ℕ) (frame : Frame) → staged load number ≡ Some frame → with_frame load number frame ≡ load
staged-again load number frame is =
    let same : set load.frames (number - 1) (Some frame) ≡ load.frames =
    ap (set load.frames (number - 1)) (sym is) ∙ set-get_or load.frames (number - 1) None in
    λ i. record { id = load.id; frames = same i }

module _ (image : Contents) (last check : ℕ) (done : List Load) where
  abbrev at : Option Load → Link
  at load = record { image = image; load = load; last = last; check = check }

  abbrev heard : Option Load → List Load → Heard
  heard load more = record { load = load; done = done ++ more }

  -- the load that a step commits, alone in a list
  abbrev committed : Option Load → Step → List Load
  committed load step = if is_applying (at load) step then option_to_list load else []

  -- the step leaves as open and as committed what is heard of the message
  abbrev pub Hears : Message → Option Load → Step → Type 0
  Hears message load step =
      hears_by (Some message) (is_acknowledged step.answer) (record { load = load; done = done }) ≡ heard step.link.load (committed load step)

  -- nothing more was committed
  none : (load : Option Load) → record { load = load; done = done } ≡ heard load []
  none load = ap (λ (loads : List Load). record { load = load; done = loads }) (sym (append-nil done))

  open_same : (id count : ℕ) (load : Load) (same : Bool)
      → Hears (messages.Open id count) (Some load) (says (if same then Opened id else Busy load.id) (at (Some load)))
  open_same id count load true = none (Some load)
  open_same id count load false = none (Some load)

  open_anew : (id count : ℕ) (old : Bool)
      → Hears (messages.Open id count) None (if old then says (Old last) (at None) else record { answer = Opened id; link = at (Some (bare_load id count)) })
  open_anew id count true = none None
  open_anew id count false = none (Some (bare_load id count))

  open_hears : (id count : ℕ) (load : Option Load) → Hears (messages.Open id count) load (after_message (at load) (messages.Open id count))
  open_hears id count (Some load) = open_same id count load (load.id == id && length load.frames == count)
  open_hears id count None = open_anew id count (nat_le id last)

  -- ---- FRAME

  abbrev Files : ℕ → ℕ → Frame → ℕ → Load → Filing → Type 0
  Files id number frame c load filing =
      Hears (messages.Frame id number frame c) (Some load) (record { answer = filing.answer; link = at (Some filing.load) })

  stages_before : (id number : ℕ) (frame : Frame) (c : ℕ) (load : Load) (other : Frame) (same : Bool) → is_same_frame other frame ≡ same
      → staged load number ≡ Some other
      → Files id number frame c load (record { answer = if same then Framed load.id number else Differs number; load = load })
  stages_before id number frame c load other true is here =
      let now : staged load number ≡ Some frame = here ∙ ap (λ (f : Frame). Some f) (same-frame other frame is) in
      ap (λ (l : Load). record { load = Some l; done = done }) (staged-again load number frame now) ∙ none (Some load)
  stages_before id number frame c load other false is here = none (Some load)

  stages_hears : (id number : ℕ) (frame : Frame) (c : ℕ) (load : Load) (now : Option Frame) → staged load number ≡ now
      → Files id number frame c load (stages number frame load now)
  stages_hears id number frame c load None here = none (Some (with_frame load number frame))
  stages_hears id number frame c load (Some other) here = stages_before id number frame c load other (is_same_frame other frame) refl here

  files_by : (id number : ℕ) (frame : Frame) (c : ℕ) (load : Load) (inside right : Bool)
      → Files id number frame c load (if not inside then (record { answer = Range; load = load })
      else (if right then stages number frame load (staged load number) else (record { answer = Check (frame_check load.id number frame); load = load })))
  files_by id number frame c load false right = none (Some load)
  files_by id number frame c load true false = none (Some load)
  files_by id number frame c load true true = stages_hears id number frame c load (staged load number) refl

  frame_named : (id number : ℕ) (frame : Frame) (c : ℕ) (load : Load) (same : Bool)
      → Hears (messages.Frame id number frame c) (Some load) (frames number frame c (at (Some load)) (if same then Some load else None))
  frame_named id number frame c load true =
      files_by id number frame c load (nat_le number (length load.frames) && stays frame) (c == frame_check load.id number frame)
  frame_named id number frame c load false = none (Some load)

  frame_hears : (id number : ℕ) (frame : Frame) (c : ℕ) (load : Option Load)
      → Hears (messages.Frame id number frame c) load (after_message (at load) (messages.Frame id number frame c))
  frame_hears id number frame c None = none None
  frame_hears id number frame c (Some load) = frame_named id number frame c load (load.id == id)

  -- ---- COMMIT

  commit_checked : (id c : ℕ) (load : Load) → (load.id == id) ≡ true → (right : Bool)
      → Hears (messages.Commit id c) (Some load) (applies c (at (Some load)) load (if right then None else Some (Check (load_check load))))
  commit_checked id c load is true = rw is refl
  commit_checked id c load is false = none (Some load)

  commit_refused : (id c : ℕ) (load : Load) → (load.id == id) ≡ true → (missing : Option ℕ)
      → Hears (messages.Commit id c) (Some load) (applies c (at (Some load)) load (refusal_by c load missing))
  commit_refused id c load is (Some number) = none (Some load)
  commit_refused id c load is None = commit_checked id c load is (c == load_check load)

  commit_named : (id c : ℕ) (load : Load) (same : Bool) → (load.id == id) ≡ same
      → Hears (messages.Commit id c) (Some load) (commits c (at (Some load)) (if same then Some load else None))
  commit_named id c load true is = commit_refused id c load is (missing_in load)
  commit_named id c load false is = none (Some load)

  commit_first : (id c : ℕ) (load : Option Load) → Hears (messages.Commit id c) load (commits c (at load) (named id load))
  commit_first id c None = none None
  commit_first id c (Some load) = commit_named id c load (load.id == id) refl

  above-other : (id other : ℕ) → last ≡ id → last < other → (same : Bool) → (other == id) ≡ same → same ≡ false
  above-other id other is above true same = absurd (omega (arith, is, above, eqb-true other id same))
  above-other id other is above false same = refl

  commit_again : (id c : ℕ) (load : Option Load) → IsSoundLoad last load → last ≡ id → Hears (messages.Commit id c) load (says (Committed id) (at load))
  commit_again id c None sound is = none None
  commit_again id c (Some load) sound is = rw (above-other id load.id is sound.0 (load.id == id) refl) (none (Some load))

  commit_by : (id c : ℕ) (load : Option Load) → IsSoundLoad last load → (known : Bool) → (last == id && check == c) ≡ known
      → Hears (messages.Commit id c) load (if known then says (Committed id) (at load) else commits c (at load) (named id load))
  commit_by id c load sound true is = commit_again id c load sound (eqb-true last id (and_parts (last == id) (check == c) is).0)
  commit_by id c load sound false is = commit_first id c load

  -- ---- ABANDON

  abandon_named : (id : ℕ) (load : Load) (same : Bool)
      → Hears (messages.Abandon id) (Some load) (abandons (at (Some load)) (if same then Some load else None))
  abandon_named id load true = none None
  abandon_named id load false = none (Some load)

  abandon_hears : (id : ℕ) (load : Option Load) → Hears (messages.Abandon id) load (after_message (at load) (messages.Abandon id))
  abandon_hears id None = none None
  abandon_hears id (Some load) = abandon_named id load (load.id == id)

  pub message_hears : (load : Option Load) (message : Message) → IsSoundLoad last load → Hears message load (after_message (at load) message)
  message_hears load (messages.Open id count) sound = open_hears id count load
  message_hears load (messages.Frame id number frame c) sound = frame_hears id number frame c load
  message_hears load (messages.Commit id c) sound = commit_by id c load sound (last == id && check == c) refl
  message_hears load (messages.Abandon id) sound = abandon_hears id load
