-- What a listener makes of messages and of what each is answered, by those that are acknowledged alone: it knows no refusal, no
-- check word and no id of a load that was committed before.
use Rattle.std.specs.Prelude.{◌≡◌, ℕ, ◌<◌, Bool, true, false, List, [], ◌∷◌, ◌++◌, length, Option, None, Some, option_map, All}
use Rattle.lvdc_image.specs.Image.{Contents}
use Rattle.lvdc_uplink.specs.Frames.{Load, bare_load, staged, with_frame, missing_in, frame_check, load_check, FitsIfStaged}
use Rattle.lvdc_uplink.specs.Patching.{placed_by, with_words}
use Rattle.lvdc_uplink.specs.Messages.{message_of}
use Rattle.lvdc_uplink.specs.Link.{Link, named, is_acknowledged}
use Rattle.lvdc_uplink.specs.History.{AreAbove}
use Rattle.lvdc_uplink.specs.declared.answer.Answer.{Answer}
use Rattle.lvdc_uplink.specs.declared.message.Message.{Message}
use Rattle.lvdc_uplink.specs.declared.message.Message.TheVariants as messages

-- the load that is open, and those that were committed, in the order of their commits
pub record Heard : Type 0 where
  pub load : Option Load
  pub done : List Load

-- before anything was sent
abbrev pub nothing_heard : Heard
nothing_heard = record { load = None; done = [] }

-- OPEN opens a load, where none is open
abbrev pub opened : ℕ → ℕ → Option Load → Option Load
opened id count None = Some (bare_load id count)
opened id count (Some load) = Some load

-- COMMIT closes the open load, where it is that one
abbrev pub closed : Option Load → Heard → Heard
closed None heard = heard
closed (Some load) heard = record { load = None; done = heard.done ++ load ∷ [] }

-- what an acknowledged message does: FRAME puts its frame into the open load, and ABANDON drops that load
abbrev pub adds : Message → Heard → Heard
adds (messages.Open id count) heard = record heard { load = opened id count heard.load }
adds (messages.Frame id number frame check) heard = record heard { load = option_map (λ load. with_frame load number frame) heard.load }
adds (messages.Commit id check) heard = closed (named id heard.load) heard
adds (messages.Abandon id) heard = record heard { load = None }

-- what a line does, by whether it is acknowledged
abbrev pub hears_by : Option Message → Bool → Heard → Heard
hears_by (Some message) true heard = adds message heard
hears_by _ _ heard = heard

-- the same by its answer
abbrev pub hears : List ℕ → Answer → Heard → Heard
hears text answer heard = hears_by (message_of text) (is_acknowledged answer) heard

-- what is heard of lines, each with its answer
abbrev pub heard_from : List (List ℕ) → List Answer → Heard → Heard
heard_from (text ∷ texts) (answer ∷ answers) heard = heard_from texts answers (hears text answer heard)
heard_from _ _ heard = heard

-- ---- the image

-- an image with the words of loads put into it, load by load
abbrev pub changed : Contents → List Load → Contents
changed image loads = record image { words = with_words image.words (placed_by loads) }

-- each frame of the load was sent
abbrev pub IsWhole : Load → Type 0
IsWhole load = missing_in load ≡ None

-- the id of the last of these loads, or this one where there is none
abbrev pub last_id : ℕ → List Load → ℕ
last_id id [] = id
last_id id (load ∷ loads) = last_id load.id loads

-- the check word of the last of these loads, or this one where there is none
abbrev pub last_check : ℕ → List Load → ℕ
last_check check [] = check
last_check check (load ∷ loads) = last_check (load_check load) loads

-- the load that may be open has an id above that of the last one, and each frame that is staged in it fits an image
abbrev pub IsSoundLoad : ℕ → Option Load → Type 0
IsSoundLoad last None = Unit {0}
IsSoundLoad last (Some load) = (last < load.id) × All FitsIfStaged load.frames

-- The link is what was heard, with this opening image. The image is that one changed by the loads that were committed, in their
-- order, all of them whole; their ids rise strictly, so none is there twice. The open load is the one that was heard of.
pub record IsAsHeard (opening : Contents) (heard : Heard) (link : Link) : Type 0 where
  pub image : link.image ≡ changed opening heard.done
  pub whole : All IsWhole heard.done
  pub once : AreAbove 0 heard.done
  pub load : link.load ≡ heard.load
  pub sound : IsSoundLoad link.last link.load
  pub last : link.last ≡ last_id 0 heard.done
  pub check : link.check ≡ last_check 0 heard.done

-- ---- what an acknowledgement says

-- By the open load, and id and check word of the load that was committed last. OPEN: a load of this id and of so many frames is
-- open. FRAME: this frame is staged in the open load, which has this id, and this is its check word. COMMIT: the load that was
-- committed last has this id and this check word. ABANDON: no load is open.
abbrev pub IsHeld : Message → Option Load → ℕ → ℕ → Type 0
IsHeld (messages.Open id count) held last known = (load : Load) × (held ≡ Some load) × (load.id ≡ id) × (length load.frames ≡ count)
IsHeld (messages.Frame id number frame check) held last known =
    (load : Load) × (held ≡ Some load) × (load.id ≡ id) × (staged load number ≡ Some frame) × (check ≡ frame_check id number frame)
IsHeld (messages.Commit id check) held last known = (last ≡ id) × (known ≡ check)
IsHeld (messages.Abandon id) held last known = held ≡ None

-- the same of a line that is acknowledged, which is a message
abbrev pub IsHeldIf : Option Message → Bool → Option Load → ℕ → ℕ → Type 0
IsHeldIf None true held last known = ⊥
IsHeldIf (Some message) true held last known = IsHeld message held last known
IsHeldIf _ false held last known = Unit {0}

-- each acknowledgement of these lines says what is so, by what was heard up to it
abbrev pub AreHeld : List (List ℕ) → List Answer → Heard → Type 0
AreHeld (text ∷ texts) (answer ∷ answers) heard =
    let now : Heard = hears text answer heard in
    IsHeldIf (message_of text) (is_acknowledged answer) now.load (last_id 0 now.done) (last_check 0 now.done) × AreHeld texts answers now
AreHeld _ _ heard = Unit {0}
