-- A block that is larger than a sector is placed as one of 257 locations is: nowhere.
use Rattle.std.proofs.Common.{◌≡◌, ◌+◌, ◌≤◌, min, Bool, true, false, List, [], ◌∷◌, map, Option, None, Some, Result, Ok, Err, refl, sym, ap, ◌∙◌, arith, inl, inr}
use Rattle.std.specs.Prelude.{nat_lt, if◌then◌else◌}
use Rattle.std.proofs.lemmas.Bool.{cases_lt, lt-ltb}
use Rattle.lvdc_place.specs.Slot.{Slot}
use Rattle.lvdc_place.specs.Slots.{Slots, never_free, with_saver, with_slots, are_free, block_slots, least_place}
use Rattle.lvdc_place.specs.Fitting.{AllFit, capped_block}
use Rattle.lvdc_place.specs.Placement.{Places, taken_after, taken_after_all, places_floating, places_with, places_with_all, after_fixed, places_of}
use Rattle.lvdc_place.specs.declared.block.Block.{Block}
use Rattle.lvdc_place.specs.declared.fault.PlaceFault.{PlaceFault}
use Rattle.lvdc_place.specs.declared.fault.PlaceFault.TheVariants.{NoRoom, Overlap}
use Rattle.lvdc_place.proofs.Runs.{IsClosed, with_slots-keeps}
use Rattle.lvdc_place.proofs.Starts.{least_place-large}

-- a block no larger than a sector stays as it is
capped_block-small : (block : Block) → block.size ≤ 256 → capped_block block ≡ block
capped_block-small block small = let same : min block.size 257 ≡ block.size = omega arith in λ i. record block { size = same i }

-- ---- fixed blocks

taken_after-capped_block : (taken : Slots) (block : Block) (at : Option Slot) → taken_after taken (capped_block block) at ≡ taken_after taken block at
taken_after-capped_block taken block None = refl
taken_after-capped_block taken block (Some place) = elim (cases_lt 256 block.size) [
  | inl large ↦
      rw (lt-ltb 256 (place.loc + min block.size 257) (omega arith), lt-ltb 256 (place.loc + block.size) (omega arith)) refl
  | inr small ↦ ap (λ (b : Block). taken_after taken b (Some place)) (capped_block-small block small)
]

taken_after_all-capped_block : (so_far : Result Slots PlaceFault) (blocks : List Block) → taken_after_all so_far (map capped_block blocks) ≡ taken_after_all so_far blocks
taken_after_all-capped_block (Ok taken) [] = refl
taken_after_all-capped_block (Ok taken) (block ∷ blocks) =
    ap (λ (r : Result Slots PlaceFault). taken_after_all r (map capped_block blocks)) (taken_after-capped_block taken block block.site.at)
    ∙ taken_after_all-capped_block (taken_after taken block block.site.at) blocks
taken_after_all-capped_block (Err fault) [] = refl
taken_after_all-capped_block (Err fault) (block ∷ blocks) = refl

closed_with_slots : (taken : Slots) (slots : List Slot) → IsClosed taken → IsClosed (with_slots taken slots)
closed_with_slots taken slots closed = record { outside = λ slot h. with_slots-keeps taken slots slot (closed.outside slot h) }

-- where slots are told, what is no slot is taken
IsClosedFixed : Result Slots PlaceFault → Type 0
IsClosedFixed (Ok taken) = IsClosed taken
IsClosedFixed (Err fault) = Unit {0}

closed_fix : (taken : Slots) (block : Block) (at : Option Slot) → IsClosed taken → IsClosedFixed (taken_after taken block at)
unfolding IsClosedFixed
closed_fix taken block None closed = closed
closed_fix taken block (Some place) closed =
    by_room (nat_lt 256 (place.loc + block.size)) (are_free taken (block_slots block.site.kind block.size place))
  where
    by_free : (free : Bool) → IsClosedFixed (if free then Ok (with_slots taken (block_slots block.site.kind block.size place)) else Err (Overlap block.line))
    by_free true = closed_with_slots taken (block_slots block.site.kind block.size place) closed
    by_free false = tt

    by_room : (past free : Bool) → IsClosedFixed (if past then Err (NoRoom block.line)
        else (if free then Ok (with_slots taken (block_slots block.site.kind block.size place)) else Err (Overlap block.line)))
    by_room true free = tt
    by_room false free = by_free free

closed_fix_from : (so_far : Result Slots PlaceFault) (blocks : List Block) → IsClosedFixed so_far → IsClosedFixed (taken_after_all so_far blocks)
unfolding IsClosedFixed
closed_fix_from (Ok taken) [] closed = closed
closed_fix_from (Ok taken) (block ∷ blocks) closed = closed_fix_from (taken_after taken block block.site.at) blocks (closed_fix taken block block.site.at closed)
closed_fix_from (Err fault) [] closed = tt
closed_fix_from (Err fault) (block ∷ blocks) closed = tt

-- ---- floating blocks

-- where the blocks so far stand, what is no slot is taken
IsClosedSoFar : Result Places PlaceFault → Type 0
IsClosedSoFar (Ok so_far) = IsClosed so_far.taken
IsClosedSoFar (Err fault) = Unit {0}

closed_float : (so_far : Places) (block : Block) (found : Option Slot) → IsClosed so_far.taken → IsClosedSoFar (places_floating so_far block found)
unfolding IsClosedSoFar
closed_float so_far block None closed = tt
closed_float so_far block (Some place) closed = closed_with_slots so_far.taken (block_slots block.site.kind block.size place) closed

closed_stand : (so_far : Places) (block : Block) (at : Option Slot) → IsClosed so_far.taken → IsClosedSoFar (places_with so_far block at)
unfolding IsClosedSoFar
closed_stand so_far block (Some place) closed = closed
closed_stand so_far block None closed = closed_float so_far block (least_place so_far.taken block.site.kind block.size) closed

places_with-capped_block : (so_far : Places) (block : Block) (at : Option Slot) → IsClosed so_far.taken → places_with so_far (capped_block block) at ≡ places_with so_far block at
places_with-capped_block so_far block (Some place) closed = refl
places_with-capped_block so_far block None closed = elim (cases_lt 256 block.size) [
  | inl large ↦
      ap (places_floating so_far (capped_block block)) (least_place-large so_far.taken block.site.kind (min block.size 257) closed (omega arith))
      ∙ sym (ap (places_floating so_far block) (least_place-large so_far.taken block.site.kind block.size closed large))
  | inr small ↦ ap (λ (b : Block). places_with so_far b None) (capped_block-small block small)
]

places_with_all-capped_block : (so_far : Result Places PlaceFault) (blocks : List Block) → IsClosedSoFar so_far → places_with_all so_far (map capped_block blocks) ≡ places_with_all so_far blocks
unfolding IsClosedSoFar
places_with_all-capped_block (Ok so_far) [] closed = refl
places_with_all-capped_block (Ok so_far) (block ∷ blocks) closed =
    ap (λ (r : Result Places PlaceFault). places_with_all r (map capped_block blocks)) (places_with-capped_block so_far block block.site.at closed)
    ∙ places_with_all-capped_block (places_with so_far block block.site.at) blocks (closed_stand so_far block block.site.at closed)
places_with_all-capped_block (Err fault) [] closed = refl
places_with_all-capped_block (Err fault) (block ∷ blocks) closed = refl

-- ---- all blocks

closed_at_first : IsClosed never_free
closed_at_first = record { outside = λ slot h. rw h refl }

closed_with_saver : (taken : Slots) → IsClosed taken → IsClosed (with_saver taken)
closed_with_saver taken closed = record { outside = λ slot h. rw (closed.outside slot h) refl }

after_fixed-capped_block : (blocks : List Block) (fixed : Result Slots PlaceFault) → IsClosedFixed fixed → after_fixed (map capped_block blocks) fixed ≡ after_fixed blocks fixed
unfolding IsClosedFixed IsClosedSoFar
after_fixed-capped_block blocks (Ok taken) closed = places_with_all-capped_block (Ok (record { places = []; taken = with_saver taken })) blocks (closed_with_saver taken closed)
after_fixed-capped_block blocks (Err fault) closed = refl

-- blocks as the code keeps them have the same places
pub places_of-capped_block : (blocks : List Block) → places_of (map capped_block blocks) ≡ places_of blocks
unfolding IsClosedFixed
places_of-capped_block blocks =
    ap (after_fixed (map capped_block blocks)) (taken_after_all-capped_block (Ok never_free) blocks)
    ∙ after_fixed-capped_block blocks (taken_after_all (Ok never_free) blocks) (closed_fix_from (Ok never_free) blocks closed_at_first)

-- and they fit there
pub all_fit-capped_block : (blocks : List Block) (places : List Slot) → AllFit (map capped_block blocks) places → AllFit blocks places
all_fit-capped_block [] places fit = tt
all_fit-capped_block (block ∷ blocks) [] fit = absurd fit
all_fit-capped_block (block ∷ blocks) (place ∷ places) fit = let here : place.loc + min block.size 257 ≤ 256 = fit.0 in (omega arith, all_fit-capped_block blocks places fit.1)
