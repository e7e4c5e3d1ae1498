-- Blocks that are placed one by one.
use Rattle.std.proofs.Common.{◌≡◌, ℕ, ◌+◌, ◌<◌, List, [], ◌∷◌, ◌++◌, length, get_or, drop, take, Ok, Err, Result, refl, sym, ap, ◌∙◌, arith}
use Rattle.std.specs.Prelude.{All}
use Rattle.std.proofs.lemmas.List.{take_more}
use Rattle.std.proofs.lemmas.List.Elements.{All-push, All-same}
use Rattle.lvdc_place.specs.Slot.{Slot}
use Rattle.lvdc_place.specs.Slots.{Slots}
use Rattle.lvdc_place.specs.Fitting.{Fits, FitsFixed, AllFit}
use Rattle.lvdc_place.specs.Placement.{Places, taken_after, taken_after_all, places_with, places_with_all}
use Rattle.lvdc_place.specs.declared.block.Block.{Block}
use Rattle.lvdc_place.specs.declared.fault.PlaceFault.{PlaceFault}
use Rattle.lvdc_place.proofs.Sizes.{drop-at}

-- the items up to an index, and the one there
pub take-at : {X : Type 0} (xs : List X) (i : ℕ) (x : X) → i < length xs → x ≡ get_or xs i x → take (i + 1) xs ≡ take i xs ++ x ∷ []
take-at {X} xs i x h is = take_more xs i x h ∙ ap (λ (y : X). take i xs ++ y ∷ []) (sym is)

-- one more block was fixed
pub taken_after-more : (blocks : List Block) (i : ℕ) (block : Block) (taken now : Slots) (all : Result Slots PlaceFault) → i < length blocks → block ≡ get_or blocks i block →
    taken_after taken block block.site.at ≡ Ok now → taken_after_all (Ok taken) (drop i blocks) ≡ all → taken_after_all (Ok now) (drop (i + 1) blocks) ≡ all
taken_after-more blocks i block taken now all h is fixed old =
    ap (λ (r : Result Slots PlaceFault). taken_after_all r (drop (i + 1) blocks)) (sym fixed)
    ∙ ap (taken_after_all (Ok taken)) (sym (drop-at blocks i block h is))
    ∙ old

-- one more block stands
pub places_with-more : (blocks : List Block) (i : ℕ) (block : Block) (so_far now : Places) (all : Result Places PlaceFault) → i < length blocks → block ≡ get_or blocks i block →
    places_with so_far block block.site.at ≡ Ok now → places_with_all (Ok so_far) (drop i blocks) ≡ all → places_with_all (Ok now) (drop (i + 1) blocks) ≡ all
places_with-more blocks i block so_far now all h is stands old =
    ap (λ (r : Result Places PlaceFault). places_with_all r (drop (i + 1) blocks)) (sym stands)
    ∙ ap (places_with_all (Ok so_far)) (sym (drop-at blocks i block h is))
    ∙ old

-- the first block that can't stand
pub places_with-fails : (blocks : List Block) (i : ℕ) (block : Block) (so_far : Places) (fault : PlaceFault) (all : Result Places PlaceFault) → i < length blocks
    → block ≡ get_or blocks i block → places_with so_far block block.site.at ≡ Err fault → places_with_all (Ok so_far) (drop i blocks) ≡ all → all ≡ Err fault
places_with-fails blocks i block so_far fault all h is fails old =
    sym old
    ∙ ap (places_with_all (Ok so_far)) (drop-at blocks i block h is)
    ∙ ap (λ (r : Result Places PlaceFault). places_with_all r (drop (i + 1) blocks)) fails
    ∙ failed (drop (i + 1) blocks)
  where
    failed : (rest : List Block) → places_with_all (Err fault) rest ≡ Err fault
    failed [] = refl
    failed (b ∷ bs) = refl

-- one more block fits
pub fits-more : (blocks : List Block) (i : ℕ) (block : Block) → i < length blocks → block ≡ get_or blocks i block → FitsFixed block → All FitsFixed (take i blocks) → All FitsFixed (take (i + 1) blocks)
fits-more blocks i block h is fits old = All-same FitsFixed (take (i + 1) blocks) (take i blocks ++ block ∷ []) (take-at blocks i block h is) (All-push FitsFixed (take i blocks) block old fits)

all_fit-push : (blocks : List Block) (places : List Slot) (block : Block) (place : Slot) → AllFit blocks places → length blocks ≡ length places → Fits block.size place → AllFit (blocks ++ block ∷ []) (places ++ place ∷ [])
all_fit-push [] [] block place old same fits = (fits, tt)
all_fit-push [] (p ∷ ps) block place old same fits = absurd (omega arith)
all_fit-push (b ∷ bs) [] block place old same fits = absurd old
all_fit-push (b ∷ bs) (p ∷ ps) block place old same fits = (old.0, all_fit-push bs ps block place old.1 (omega arith) fits)

pub fit-more : (blocks : List Block) (i : ℕ) (block : Block) (places : List Slot) (place : Slot) → i < length blocks → block ≡ get_or blocks i block → Fits block.size place →
    AllFit (take i blocks) places → length (take i blocks) ≡ length places → AllFit (take (i + 1) blocks) (places ++ place ∷ [])
fit-more blocks i block places place h is fits old same = rw (take-at blocks i block h is) (all_fit-push (take i blocks) places block place old same fits)
