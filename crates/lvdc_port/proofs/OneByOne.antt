-- A fact that is made of one member of a list after the other, and what such a write leaves alone.
use Rattle.std.proofs.Common.{◌≡◌, ℕ, ◌+◌, ◌≤◌, ◌<◌, List, length, get_or, take, take_all, map, All, ◌∙◌, subst}
use Rattle.std.proofs.Math.ListN.{set}
use Rattle.std.proofs.Math.Seq.{map-set_same}
use Rattle.std.proofs.lemmas.List.{take_more_set}
use Rattle.std.proofs.lemmas.List.Elements.{All-push, All-map}

-- one more member has it
pub all_more : {B : Type 0} (P : B → Type 0) (bs : List B) (at : ℕ) (new : B) →
    at < length bs → P new → All P (take at bs) → All P (take (at + 1) (set bs at new))
all_more P bs at new within has before = rw (take_more_set bs at new within) (All-push P (take at bs) new before has)

-- every member has it
pub all_done : {B : Type 0} (P : B → Type 0) (bs : List B) (at : ℕ) → length bs ≤ at → All P (take at bs) → All P bs
all_done P bs at all before = subst (λ ds. All P ds) (take_all at bs all) before

-- every member's image has it
pub all_mapped : {B C : Type 0} (P : C → Type 0) (f : B → C) (bs : List B) (at : ℕ) →
    length bs ≤ at → All (λ b. P (f b)) (take at bs) → All P (map f bs)
all_mapped P f bs at all before = All-map P f bs (all_done (λ b. P (f b)) bs at all before)

-- an image that a write leaves alone
pub kept_set : {B C : Type 0} (bs : List B) (f : B → C) (at : ℕ) (d new : B) (cs : List C) →
    f new ≡ f (get_or bs at d) → map f bs ≡ cs → map f (set bs at new) ≡ cs
kept_set bs f at d new cs same before = map-set_same f bs at new d same ∙ before
