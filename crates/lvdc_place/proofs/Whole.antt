-- The placement of a program, from its parts.
use Rattle.std.proofs.Common.{◌≡◌, Bool, List, length, map, Ok, Err, Option, sym, ap, ◌∙◌}
use Rattle.std.specs.Prelude.{is_some}
use Rattle.std.proofs.lemmas.List.{length-map}
use Rattle.lvdc_source.specs.declared.item.Item.{Item}
use Rattle.lvdc_place.specs.Slot.{Slot, sector_start}
use Rattle.lvdc_place.specs.Slots.{Slots}
use Rattle.lvdc_place.specs.Blocks.{blocks_of}
use Rattle.lvdc_place.specs.Fitting.{capped_block}
use Rattle.lvdc_place.specs.Placement.{placement, places_of, with_spots, spots_from, takes_place}
use Rattle.lvdc_place.specs.declared.block.Block.{Block}
use Rattle.lvdc_place.specs.declared.fault.PlaceFault.{PlaceFault}
use Rattle.lvdc_place.specs.declared.spot.Spot.{Spot}
use Rattle.lvdc_place.proofs.Caps.{places_of-capped_block}
use Rattle.lvdc_place.proofs.Programs.{spots_taken}

-- a refusal of the blocks is that of the program
pub refused : (items program : List Item) (blocks : List Block) (fault : PlaceFault) → items ≡ program → blocks ≡ map capped_block (blocks_of items) →
    places_of blocks ≡ Err fault → placement program ≡ Err fault
unfolding placement
refused items program blocks fault same are refuses =
    ap (with_spots program)
    (sym (places_of-capped_block (blocks_of program)) ∙ ap (λ (is : List Item). places_of (map capped_block (blocks_of is))) (sym same) ∙ ap places_of (sym are) ∙ refuses)

-- the places of the blocks give those of the lines
pub placed : (items program : List Item) (blocks : List Block) (places : List Slot) (spots : List (Option Spot)) (taken : Slots) → items ≡ program → blocks ≡ map capped_block (blocks_of items) →
    places_of blocks ≡ Ok (record { places = places; taken = taken }) → spots ≡ spots_from (sector_start 0 0) places items →
    placement program ≡ Ok (record { spots = spots; taken = taken })
unfolding placement
placed items program blocks places spots taken same are stand spots_are =
    ap (with_spots program)
    (sym (places_of-capped_block (blocks_of program)) ∙ ap (λ (is : List Item). places_of (map capped_block (blocks_of is))) (sym same) ∙ ap places_of (sym are) ∙ stand)
    ∙ ap (λ (s : List (Option Spot)). Ok (record { spots = s; taken = taken })) (ap (spots_from (sector_start 0 0) places) (sym same) ∙ sym spots_are)

-- a spot for each line, and none exactly for those that take no place
pub spots_for : (items program : List Item) (places : List Slot) (spots : List (Option Spot)) → items ≡ program → spots ≡ spots_from (sector_start 0 0) places items →
    map is_some spots ≡ map (λ (item : Item). takes_place item.body) program
spots_for items program places spots same are =
    ap (λ (s : List (Option Spot)). map is_some s) are
    ∙ spots_taken (sector_start 0 0) places items
    ∙ ap (λ (is : List Item). map (λ (item : Item). takes_place item.body) is) same

pub spots_count : (program : List Item) (spots : List (Option Spot)) → map is_some spots ≡ map (λ (item : Item). takes_place item.body) program → length spots ≡ length program
spots_count program spots h =
    sym (length-map {A = Option Spot} {B = Bool} spots is_some) ∙ ap length h ∙ length-map {A = Item} {B = Bool} program (λ (item : Item). takes_place item.body)
