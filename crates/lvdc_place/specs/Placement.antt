-- The placement of a program: where each of its lines stands, or the first refusal.
use Rattle.std.specs.Prelude.{◌+◌, ◌<◌, Bool, true, false, nat_lt, if◌then◌else◌, List, [], ◌∷◌, ◌++◌, drop, slice_index_or, Option, None, Some, IfSome, All, Result, Ok, Err}
use Rattle.lvdc_source.specs.declared.item.Body.{Body}
use Rattle.lvdc_source.specs.declared.item.Body.TheVariants as says
use Rattle.lvdc_source.specs.declared.item.Item.{Item}
use Rattle.lvdc_place.specs.Slot.{Slot, slot_after, sector_start, address_of}
use Rattle.lvdc_place.specs.Slots.{Slots, never_free, with_saver, with_slots, are_free, block_slots, least_place, set_of}
use Rattle.lvdc_place.specs.Blocks.{begins_block, size_of, blocks_of}
use Rattle.lvdc_place.specs.declared.block.Block.{Block}
use Rattle.lvdc_place.specs.declared.fault.PlaceFault.{PlaceFault}
use Rattle.lvdc_place.specs.declared.fault.PlaceFault.TheVariants.{NoRoom, Overlap}
use Rattle.lvdc_place.specs.declared.spot.Spot.{Spot}

-- ---- fixed blocks

-- a fixed block takes its slots, where none runs past location 377 and all are free; another block waits
abbrev pub taken_after : Slots → Block → Option Slot → Result Slots PlaceFault
taken_after taken block None = Ok taken
taken_after taken block (Some place) =
    if nat_lt 256 (place.loc + block.size) then Err (NoRoom block.line)
    else (if are_free taken (block_slots block.site.kind block.size place)
    then Ok (with_slots taken (block_slots block.site.kind block.size place)) else Err (Overlap block.line))

-- the slots that are taken after the fixed blocks, in source order
abbrev pub taken_after_all : Result Slots PlaceFault → List Block → Result Slots PlaceFault
taken_after_all (Ok taken) [] = Ok taken
taken_after_all (Ok taken) (block ∷ blocks) = taken_after_all (taken_after taken block block.site.at) blocks
taken_after_all (Err fault) blocks = Err fault

-- ---- floating blocks

-- the places of blocks, in their order, and the slots that are taken
pub record Places : Type 0 where
  pub places : List Slot
  pub taken : Slots

-- a floating block takes its slots at the least place, where there is one
abbrev pub places_floating : Places → Block → Option Slot → Result Places PlaceFault
places_floating so_far block None = Err (NoRoom block.line)
places_floating so_far block (Some place) = Ok (record {
  places = so_far.places ++ place ∷ [];
  taken = with_slots so_far.taken (block_slots block.site.kind block.size place);
})

-- a fixed block stands at its place, and has taken its slots already; another one floats
abbrev pub places_with : Places → Block → Option Slot → Result Places PlaceFault
places_with so_far block (Some place) = Ok (record so_far { places = so_far.places ++ place ∷ [] })
places_with so_far block None = places_floating so_far block (least_place so_far.taken block.site.kind block.size)

-- the places of blocks after those so far, in source order
abbrev pub places_with_all : Result Places PlaceFault → List Block → Result Places PlaceFault
places_with_all (Ok so_far) [] = Ok so_far
places_with_all (Ok so_far) (block ∷ blocks) = places_with_all (places_with so_far block block.site.at) blocks
places_with_all (Err fault) blocks = Err fault

-- ---- all blocks

-- the places of blocks, by what is taken after the fixed ones; the slots of the saver are taken from then on
abbrev pub after_fixed : List Block → Result Slots PlaceFault → Result Places PlaceFault
after_fixed blocks (Ok taken) = places_with_all (Ok (record { places = []; taken = with_saver taken })) blocks
after_fixed blocks (Err fault) = Err fault

-- the places of the blocks of a program: the fixed ones take their slots before any other one stands
abbrev pub places_of : List Block → Result Places PlaceFault
places_of blocks = after_fixed blocks (taken_after_all (Ok never_free) blocks)

-- ---- lines

-- whether a line takes a place: an instruction, a constant and room do
abbrev pub takes_place : Body → Bool
takes_place (says.Room count) = true
takes_place (says.Constant constant) = true
takes_place (says.Instruction op operand) = true
takes_place _ = false

-- where a line stands whose first slot this is: an instruction in its syllable, a word at its address
abbrev pub spot_in : Body → Slot → Option Spot
spot_in (says.Room count) slot = Some (record { at = address_of slot; syl = None })
spot_in (says.Constant constant) slot = Some (record { at = address_of slot; syl = None })
spot_in (says.Instruction op operand) slot = Some (record { at = address_of slot; syl = Some slot.syl })
spot_in _ slot = None

-- the slot of the line after this one, and the places of the blocks to come: a block begins at the first of them
abbrev pub next_slot : Body → Slot → List Slot → Slot
next_slot body slot places = if begins_block body then slice_index_or places 0 slot else slot_after slot (size_of body)

-- the places of the blocks that are still to begin after this line
abbrev pub later_places : Body → List Slot → List Slot
later_places body places = if begins_block body then drop 1 places else places

-- where lines stand, of which the first is at this slot, where the blocks that they begin have these places
abbrev pub spots_from : Slot → List Slot → List Item → List (Option Spot)
spots_from slot places [] = []
spots_from slot places (item ∷ items) =
    spot_in item.body slot ∷ spots_from (next_slot item.body slot places) (later_places item.body places) items

-- ---- the whole

-- where each line of a program stands, and the slots that are taken
pub record Placement : Type 0 where
  pub spots : List (Option Spot)
  pub taken : Slots

-- the placement of lines whose blocks have these places
abbrev pub with_spots : List Item → Result Places PlaceFault → Result Placement PlaceFault
with_spots items (Ok stands) = Ok (record { spots = spots_from (sector_start 0 0) stands.places items; taken = stands.taken })
with_spots items (Err fault) = Err fault

-- the placement of a program, or its first refusal
unfoldable pub placement : List Item → Result Placement PlaceFault
placement items = with_spots items (places_of (blocks_of items))

-- ---- what a layout keeps

-- where each line stands, and for each slot, in their order, whether it is taken
pub record LayoutView : Type 0 where
  pub spots : List (Option Spot)
  pub bits : List Bool

-- the placement that it tells
abbrev pub placement_in : LayoutView → Placement
placement_in kept = record { spots = kept.spots; taken = set_of kept.bits }

-- a line that takes a place stands in one of pairs 0 to 3, an instruction in syllable 0 or 1
abbrev pub IsInPairs : Option Spot → Type 0
IsInPairs spot = IfSome spot (λ spot. (spot.at.pair < 4) × IfSome spot.syl (λ syl. syl < 2))

-- every line does
abbrev pub AreInPairs : List (Option Spot) → Type 0
AreInPairs spots = All IsInPairs spots
