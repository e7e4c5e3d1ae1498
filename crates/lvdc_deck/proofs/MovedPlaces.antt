-- Items that stand so many lines further on have the same places, or are refused for the same cause, so many lines further on.
use Rattle.std.proofs.Common.{◌≡◌, ℕ, ◌+◌, Bool, true, false, List, [], ◌∷◌, map, Option, None, Some, Result, Ok, Err, refl, ap, ◌∙◌}
use Rattle.std.specs.Bool.{if◌then◌else◌}
use Rattle.std.specs.Prelude.{nat_lt}
use Rattle.std.specs.List.{cons_option}
use Rattle.std.specs.Option.{option_map}
use Rattle.lvdc_source.specs.declared.item.Body.TheVariants.{Code}
use Rattle.lvdc_source.specs.declared.item.Item.{Item}
use Rattle.lvdc_place.specs.Blocks.{site_of, begins_block, size_of, size_ahead, block_begun, blocks_of}
use Rattle.lvdc_place.specs.Placement.{taken_after, taken_after_all, Places, places_floating, places_with, places_with_all, after_fixed, places_of, spot_in, next_slot, later_places, spots_from, with_spots, placement}
use Rattle.lvdc_place.specs.Slot.{Slot, sector_start}
use Rattle.lvdc_place.specs.Slots.{Slots, never_free, with_saver, with_slots, are_free, block_slots, least_place}
use Rattle.lvdc_place.specs.declared.fault.PlaceFault.{PlaceFault}
use Rattle.lvdc_place.specs.declared.fault.PlaceFault.TheVariants.{NoRoom, Overlap}
use Rattle.lvdc_place.specs.declared.spot.Spot.{Spot}
use Rattle.lvdc_deck.specs.Moving.{item_moved, place_moved}
use Rattle.lvdc_deck.proofs.Types.{ValueOf, ElementOf}

-- a block of a program
abbrev Block : Type 0
Block = ElementOf (blocks_of [])

-- what a directive begins
abbrev Site : Type 0
Site = ValueOf (site_of Code)

-- a value, or a refusal so many lines further on
abbrev pub refusal_moved : {V : Type 0} → ℕ → Result V PlaceFault → Result V PlaceFault
refusal_moved k (Ok value) = Ok value
refusal_moved k (Err fault) = Err (place_moved k fault)

-- a block, so many lines further on
abbrev block_moved : ℕ → Block → Block
block_moved k block = record block { line = k + block.line }

-- ---- blocks

size-moved : (k : ℕ) (items : List Item) → size_ahead (map (item_moved k) items) ≡ size_ahead items
size-moved k [] = refl
size-moved k (item ∷ items) = ap (λ (n : ℕ). if begins_block item.body then 0 else size_of item.body + n) (size-moved k items)

begun-at : (k line size : ℕ) (site : Option Site) →
    option_map (λ (s : Site). record { line = k + line; site = s; size = size }) site ≡ option_map (block_moved k) (option_map (λ (s : Site). record { line = line; site = s; size = size }) site)
begun-at k line size (Some site) = refl
begun-at k line size None = refl

begun-moved : (k : ℕ) (item : Item) (items : List Item) → block_begun (item_moved k item) (map (item_moved k) items) ≡ option_map (block_moved k) (block_begun item items)
begun-moved k item items =
    ap (λ (n : ℕ). option_map (λ (s : Site). record { line = k + item.line; site = s; size = n }) (site_of item.body)) (size-moved k items)
    ∙ begun-at k item.line (size_ahead items) (site_of item.body)

cons-moved : (k : ℕ) (block : Option Block) (blocks : List Block) → cons_option (option_map (block_moved k) block) (map (block_moved k) blocks) ≡ map (block_moved k) (cons_option block blocks)
cons-moved k (Some block) blocks = refl
cons-moved k None blocks = refl

blocks-moved : (k : ℕ) (items : List Item) → blocks_of (map (item_moved k) items) ≡ map (block_moved k) (blocks_of items)
blocks-moved k [] = refl
blocks-moved k (item ∷ items) =
    ap (λ (b : Option Block). cons_option b (blocks_of (map (item_moved k) items))) (begun-moved k item items)
    ∙ ap (cons_option (option_map (block_moved k) (block_begun item items))) (blocks-moved k items)
    ∙ cons-moved k (block_begun item items) (blocks_of items)

-- ---- fixed blocks

-- a choice between two results
chosen-moved : {V : Type 0} (k : ℕ) (b : Bool) (first other first_moved other_moved : Result V PlaceFault) → first_moved ≡ refusal_moved k first → other_moved ≡ refusal_moved k other →
    (if b then first_moved else other_moved) ≡ refusal_moved k (if b then first else other)
chosen-moved k true first other first_moved other_moved y n = y
chosen-moved k false first other first_moved other_moved y n = n

taken-moved : (k : ℕ) (taken : Slots) (block : Block) (at : Option Slot) → taken_after taken (block_moved k block) at ≡ refusal_moved k (taken_after taken block at)
taken-moved k taken block None = refl
taken-moved k taken block (Some place) =
    chosen-moved k (nat_lt 256 (place.loc + block.size)) (Err (NoRoom block.line)) _ (Err (NoRoom (k + block.line))) _ refl
    (chosen-moved k (are_free taken (block_slots block.site.kind block.size place)) (Ok (with_slots taken (block_slots block.site.kind block.size place))) (Err (Overlap block.line))
    (Ok (with_slots taken (block_slots block.site.kind block.size place))) (Err (Overlap (k + block.line))) refl refl)

all_taken-moved : (k : ℕ) (taken : Result Slots PlaceFault) (blocks : List Block) →
    taken_after_all (refusal_moved k taken) (map (block_moved k) blocks) ≡ refusal_moved k (taken_after_all taken blocks)
all_taken-moved k (Ok taken) [] = refl
all_taken-moved k (Ok taken) (block ∷ blocks) =
    ap (λ (r : Result Slots PlaceFault). taken_after_all r (map (block_moved k) blocks)) (taken-moved k taken block block.site.at)
    ∙ all_taken-moved k (taken_after taken block block.site.at) blocks
all_taken-moved k (Err fault) [] = refl
all_taken-moved k (Err fault) (block ∷ blocks) = refl

-- ---- floating blocks

floating-moved : (k : ℕ) (so_far : Places) (block : Block) (at : Option Slot) → places_floating so_far (block_moved k block) at ≡ refusal_moved k (places_floating so_far block at)
floating-moved k so_far block None = refl
floating-moved k so_far block (Some place) = refl

place-moved : (k : ℕ) (so_far : Places) (block : Block) (at : Option Slot) → places_with so_far (block_moved k block) at ≡ refusal_moved k (places_with so_far block at)
place-moved k so_far block (Some place) = refl
place-moved k so_far block None = floating-moved k so_far block (least_place so_far.taken block.site.kind block.size)

all_places-moved : (k : ℕ) (so_far : Result Places PlaceFault) (blocks : List Block) →
    places_with_all (refusal_moved k so_far) (map (block_moved k) blocks) ≡ refusal_moved k (places_with_all so_far blocks)
all_places-moved k (Ok so_far) [] = refl
all_places-moved k (Ok so_far) (block ∷ blocks) =
    ap (λ (r : Result Places PlaceFault). places_with_all r (map (block_moved k) blocks)) (place-moved k so_far block block.site.at)
    ∙ all_places-moved k (places_with so_far block block.site.at) blocks
all_places-moved k (Err fault) [] = refl
all_places-moved k (Err fault) (block ∷ blocks) = refl

fixed-moved : (k : ℕ) (blocks : List Block) (taken : Result Slots PlaceFault) → after_fixed (map (block_moved k) blocks) (refusal_moved k taken) ≡ refusal_moved k (after_fixed blocks taken)
fixed-moved k blocks (Ok taken) = all_places-moved k (Ok (record { places = []; taken = with_saver taken })) blocks
fixed-moved k blocks (Err fault) = refl

places-moved : (k : ℕ) (blocks : List Block) → places_of (map (block_moved k) blocks) ≡ refusal_moved k (places_of blocks)
places-moved k blocks =
    ap (after_fixed (map (block_moved k) blocks)) (all_taken-moved k (Ok never_free) blocks) ∙ fixed-moved k blocks (taken_after_all (Ok never_free) blocks)

-- ---- lines

spots-moved : (k : ℕ) (slot : Slot) (places : List Slot) (items : List Item) → spots_from slot places (map (item_moved k) items) ≡ spots_from slot places items
spots-moved k slot places [] = refl
spots-moved k slot places (item ∷ items) =
    ap (λ (spots : List (Option Spot)). spot_in item.body slot ∷ spots) (spots-moved k (next_slot item.body slot places) (later_places item.body places) items)

with-moved : (k : ℕ) (items : List Item) (stands : Result Places PlaceFault) → with_spots (map (item_moved k) items) (refusal_moved k stands) ≡ refusal_moved k (with_spots items stands)
with-moved k items (Ok stands) = ap (λ (spots : List (Option Spot)). Ok (record { spots = spots; taken = stands.taken })) (spots-moved k (sector_start 0 0) stands.places items)
with-moved k items (Err fault) = refl

pub placement-moved : (k : ℕ) (items : List Item) → placement (map (item_moved k) items) ≡ refusal_moved k (placement items)
unfolding placement
placement-moved k items =
    ap (λ (blocks : List Block). with_spots (map (item_moved k) items) (places_of blocks)) (blocks-moved k items)
    ∙ ap (with_spots (map (item_moved k) items)) (places-moved k (blocks_of items)) ∙ with-moved k items (places_of (blocks_of items))
