-- The load that may be open: its id is above the last, and each frame that is staged in it fits.
use Rattle.std.proofs.Common.{◌≡◌, ℕ, ◌-◌, zero, suc, Bool, true, false, not, ◌&&◌, nat_le, List, [], ◌∷◌, ◌++◌, length, set, Option, None, Some, refl, subst, arith, if◌then◌else◌, inl, inr}
use Rattle.std.specs.Prelude.{◌==◌, All}
use Rattle.std.proofs.lemmas.Bool.{leb-false, and_parts}
use Rattle.std.proofs.lemmas.List.Elements.{All-replicate, All-cons, All-head, All-tail}
use Rattle.lvdc_image.specs.Image.{Contents}
use Rattle.lvdc_uplink.specs.Frames.{Frame, Load, bare_load, stays, staged, missing_in, frame_check, load_check, Fits, FitsIfStaged}
use Rattle.lvdc_uplink.specs.Messages.{message_of}
use Rattle.lvdc_uplink.specs.Link.{Link, says, named, stages, frames, refusal_by, applies, commits, abandons, after_message, by_message, after_text}
use Rattle.lvdc_uplink.specs.History.{committed_by, committed_from, AreAbove}
use Rattle.lvdc_uplink.specs.Heard.{IsSoundLoad}
use Rattle.lvdc_uplink.specs.declared.answer.Answer.TheVariants.{Opened, Committed, Old, Range, Check}
use Rattle.lvdc_uplink.specs.declared.message.Message.{Message}
use Rattle.lvdc_uplink.specs.declared.message.Message.TheVariants as messages
use Rattle.lvdc_uplink.proofs.Ranged.{IsPlace, IsRanged, message_of-ranged}
use Rattle.lvdc_uplink.proofs.Outcomes.{outcome}
use Rattle.lvdc_uplink.proofs.Histories.{committed_by-applied, committed_by-kept}

abbrev pub IsSoundLink : Link → Type 0
IsSoundLink link = IsSoundLoad link.last link.load

All-set : (frames : List (Option Frame)) (i : ℕ) (frame : Option Frame) → FitsIfStaged frame → All FitsIfStaged frames → All FitsIfStaged (set frames i frame)
All-set [] i frame fits all = all
All-set (f ∷ frames) zero frame fits all = All-cons FitsIfStaged frame frames fits (All-tail FitsIfStaged f frames all)
All-set (f ∷ frames) (suc i) frame fits all =
    All-cons FitsIfStaged f (set frames i frame) (All-head FitsIfStaged f frames all) (All-set frames i frame fits (All-tail FitsIfStaged f frames all))

module _ (image : Contents) (last check : ℕ) where
  abbrev at : Option Load → Link
  at load = record { image = image; load = load; last = last; check = check }

  open_anew : (id count : ℕ) (old : Bool) → nat_le id last ≡ old
      → IsSoundLink (if old then says (Old last) (at None) else record { answer = Opened id; link = at (Some (bare_load id count)) }).link
  open_anew id count true is = tt
  open_anew id count false is = (omega (arith, leb-false id last is), All-replicate FitsIfStaged count None tt)

  open_sound : (id count : ℕ) (load : Option Load) → IsSoundLoad last load → IsSoundLink (after_message (at load) (messages.Open id count)).link
  open_sound id count (Some load) sound = sound
  open_sound id count None sound = open_anew id count (nat_le id last) refl

  -- ---- FRAME

  stages_sound : (number : ℕ) (frame : Frame) (load : Load) → Fits frame → IsSoundLoad last (Some load) → (now : Option Frame)
      → IsSoundLoad last (Some (stages number frame load now).load)
  stages_sound number frame load fits sound None = (sound.0, All-set load.frames (number - 1) (Some frame) fits sound.1)
  stages_sound number frame load fits sound (Some other) = sound

  files_by : (number : ℕ) (frame : Frame) (load : Load) → IsPlace frame.at → IsSoundLoad last (Some load) → (inside right : Bool)
      → (nat_le number (length load.frames) && stays frame) ≡ inside
      → IsSoundLoad last (Some (if not inside then (record { answer = Range; load = load })
      else (if right then stages number frame load (staged load number) else (record { answer = Check (frame_check load.id number frame); load = load }))).load)
  files_by number frame load place sound false right is = sound
  files_by number frame load place sound true false is = sound
  files_by number frame load place sound true true is =
      stages_sound number frame load (record { pair = place.pair; sector = place.sector; stays = (and_parts (nat_le number (length load.frames)) (stays frame) is).1 })
      sound (staged load number)

  frame_named : (number : ℕ) (frame : Frame) (c : ℕ) (load : Load) → IsPlace frame.at → IsSoundLoad last (Some load) → (same : Bool)
      → IsSoundLink (frames number frame c (at (Some load)) (if same then Some load else None)).link
  frame_named number frame c load place sound true =
      files_by number frame load place sound (nat_le number (length load.frames) && stays frame) (c == frame_check load.id number frame) refl
  frame_named number frame c load place sound false = sound

  frame_sound : (id number : ℕ) (frame : Frame) (c : ℕ) (load : Option Load) → IsPlace frame.at → IsSoundLoad last load
      → IsSoundLink (after_message (at load) (messages.Frame id number frame c)).link
  frame_sound id number frame c None place sound = tt
  frame_sound id number frame c (Some load) place sound = frame_named number frame c load place sound (load.id == id)

  -- ---- COMMIT

  commit_checked : (c : ℕ) (load : Load) → IsSoundLoad last (Some load) → (right : Bool)
      → IsSoundLink (applies c (at (Some load)) load (if right then None else Some (Check (load_check load)))).link
  commit_checked c load sound true = tt
  commit_checked c load sound false = sound

  commit_refused : (c : ℕ) (load : Load) → IsSoundLoad last (Some load) → (missing : Option ℕ)
      → IsSoundLink (applies c (at (Some load)) load (refusal_by c load missing)).link
  commit_refused c load sound (Some number) = sound
  commit_refused c load sound None = commit_checked c load sound (c == load_check load)

  commit_named : (c : ℕ) (load : Load) → IsSoundLoad last (Some load) → (same : Bool) → IsSoundLink (commits c (at (Some load)) (if same then Some load else None)).link
  commit_named c load sound true = commit_refused c load sound (missing_in load)
  commit_named c load sound false = sound

  commit_first : (id c : ℕ) (load : Option Load) → IsSoundLoad last load → IsSoundLink (commits c (at load) (named id load)).link
  commit_first id c None sound = tt
  commit_first id c (Some load) sound = commit_named c load sound (load.id == id)

  commit_by : (id c : ℕ) (load : Option Load) → IsSoundLoad last load → (known : Bool)
      → IsSoundLink (if known then says (Committed id) (at load) else commits c (at load) (named id load)).link
  commit_by id c load sound true = sound
  commit_by id c load sound false = commit_first id c load sound

  -- ---- ABANDON

  abandon_named : (load : Load) → IsSoundLoad last (Some load) → (same : Bool) → IsSoundLink (abandons (at (Some load)) (if same then Some load else None)).link
  abandon_named load sound true = tt
  abandon_named load sound false = sound

  abandon_sound : (id : ℕ) (load : Option Load) → IsSoundLoad last load → IsSoundLink (after_message (at load) (messages.Abandon id)).link
  abandon_sound id None sound = tt
  abandon_sound id (Some load) sound = abandon_named load sound (load.id == id)

  message_sound : (load : Option Load) (message : Message) → IsRanged (Some message) → IsSoundLoad last load → IsSoundLink (after_message (at load) message).link
  message_sound load (messages.Open id count) ranged sound = open_sound id count load sound
  message_sound load (messages.Frame id number frame c) ranged sound = frame_sound id number frame c load ranged.0 sound
  message_sound load (messages.Commit id c) ranged sound = commit_by id c load sound (last == id && check == c)
  message_sound load (messages.Abandon id) ranged sound = abandon_sound id load sound

pub line_sound : (link : Link) (message : Option Message) → IsRanged message → IsSoundLink link → IsSoundLink (by_message link message).link
line_sound link None ranged sound = sound
line_sound link (Some message) ranged sound = message_sound link.image link.last link.check link.load message ranged sound

pub text_sound : (link : Link) (text : List ℕ) → IsSoundLink link → IsSoundLink (after_text link text).link
text_sound link text sound = line_sound link (message_of text) (message_of-ranged text) sound

-- ---- ids rise

sound_held : (last : ℕ) (held : Option Load) (load : Load) → held ≡ Some load → IsSoundLoad last held → IsSoundLoad last (Some load)
sound_held last held load is sound = subst (IsSoundLoad last) is sound

above-line : (link : Link) (text : List ℕ) (rest : List Load) → IsSoundLink link → AreAbove (after_text link text).link.last rest
    → AreAbove link.last (committed_by link text ++ rest)
above-line link text rest sound above =
    elim (outcome link (message_of text)) [
      | inl found ↦ rw (committed_by-applied link text found.0 found.1)
          ((sound_held link.last link.load found.0 found.1.held sound).0, subst (λ (n : ℕ). AreAbove n rest) found.1.last above)
      | inr kept ↦ rw (committed_by-kept link text kept) (subst (λ (n : ℕ). AreAbove n rest) kept.last above)
    ]

pub above-from : (texts : List (List ℕ)) (link : Link) → IsSoundLink link → AreAbove link.last (committed_from link texts)
above-from [] link sound = tt
above-from (text ∷ texts) link sound =
    above-line link text (committed_from (after_text link text).link texts) sound
    (above-from texts (after_text link text).link (text_sound link text sound))

-- ---- all frames of committed loads fit

abbrev pub AllFit : List Load → Type 0
AllFit [] = Unit {0}
AllFit (load ∷ loads) = All FitsIfStaged load.frames × AllFit loads

fit-line : (link : Link) (text : List ℕ) (rest : List Load) → IsSoundLink link → AllFit rest → AllFit (committed_by link text ++ rest)
fit-line link text rest sound fit =
    elim (outcome link (message_of text)) [
      | inl found ↦ rw (committed_by-applied link text found.0 found.1) ((sound_held link.last link.load found.0 found.1.held sound).1, fit)
      | inr kept ↦ rw (committed_by-kept link text kept) fit
    ]

pub fit-from : (texts : List (List ℕ)) (link : Link) → IsSoundLink link → AllFit (committed_from link texts)
fit-from [] link sound = tt
fit-from (text ∷ texts) link sound =
    fit-line link text (committed_from (after_text link text).link texts) sound
    (fit-from texts (after_text link text).link (text_sound link text sound))
