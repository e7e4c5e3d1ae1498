-- The parts, put together.
use Rattle.std.proofs.Common.{◌≡◌, List, Ok, map, sym, ap, ◌∙◌, subst}
use Rattle.lvdc_source.specs.declared.item.Item.{Item}
use Rattle.lvdc_place.specs.Apart.{StandApart}
use Rattle.lvdc_place.specs.Slot.{Slot}
use Rattle.lvdc_place.specs.Slots.{Slots, set_of}
use Rattle.lvdc_place.specs.Blocks.{blocks_of}
use Rattle.lvdc_place.specs.Fitting.{AllFit, capped_block}
use Rattle.lvdc_place.specs.Placement.{LayoutView, placement_in, places_of}
use Rattle.lvdc_place.specs.declared.block.Block.{Block}
use Rattle.lvdc_place.proofs.Caps.{places_of-capped_block, all_fit-capped_block}
use Rattle.lvdc_place.proofs.LinesApart.{lines_apart}
use Rattle.lvdc_place.proofs.Programs.{program_in_range, program_start}
use Rattle.lvdc_place.proofs.Whole.{refused, placed, spots_for, spots_count}
use Rattle.lvdc_place.proofs.placing.place.Goals as goal

pub blocks_of-requires : goal.blocks_of-requires
blocks_of-requires c = program_in_range c.items-items.result.now c.items-items.ensures.program

pub returns-in-Err-clause-refusal : goal.returns-in-Err-clause-refusal
returns-in-Err-clause-refusal c = λ other.
    refused c.items-items.result.now c.args.program.now c.deref.result.now c.in-Err.fault c.items-items.ensures.items
    (c.deref.ensures.value ∙ c.in_ok-blocks.ensures) (c.in-Err.ensures.refusal other)

pub spots_of-requires-clause-ranges : goal.spots_of-requires-clause-ranges
spots_of-requires-clause-ranges c = program_in_range c.items-items.result.now c.items-items.ensures.program

pub spots_of-requires-clause-start : goal.spots_of-requires-clause-start
spots_of-requires-clause-start c = program_start c.items-items.result.now c.items-items.ensures.program

pub spots_of-requires-clause-fit : goal.spots_of-requires-clause-fit
spots_of-requires-clause-fit c =
    let blocks : c.deref.result.now ≡ map capped_block (blocks_of c.items-items.result.now) = c.deref.ensures.value ∙ c.in_ok-blocks.ensures in
    let fit : AllFit c.deref.result.now c.in-Ok.standing.places.items = c.in-Ok.ensures.fit in
    rw c.deref-2.ensures.value
    (all_fit-capped_block (blocks_of c.items-items.result.now) c.in-Ok.standing.places.items
    (subst (λ (bs : List Block). AllFit bs c.in-Ok.standing.places.items) blocks fit))

pub returns-clause-layout : goal.returns-clause-layout
returns-clause-layout c =
    placed c.items-items.result.now c.args.program.now c.deref.result.now c.deref-2.result.now c.in_ok-spots.spots.items (set_of c.in-Ok.standing.taken) c.items-items.ensures.items
    (c.deref.ensures.value ∙ c.in_ok-blocks.ensures)
    (c.in-Ok.ensures.places ∙ ap (λ (ps : List Slot). Ok (record { places = ps; taken = set_of c.in-Ok.standing.taken })) (sym c.deref-2.ensures.value))
    c.in_ok-spots.ensures.spots
    ∙ ap (λ (kept : LayoutView). Ok (placement_in kept)) (sym c.new.ensures)

pub returns-clause-items : goal.returns-clause-items
returns-clause-items c =
    let spots = spots_for c.items-items.result.now c.args.program.now c.deref-2.result.now c.in_ok-spots.spots.items c.items-items.ensures.items c.in_ok-spots.ensures.spots in
    rw c.new.ensures (spots_count c.args.program.now c.in_ok-spots.spots.items spots)

pub returns-clause-takes : goal.returns-clause-takes
returns-clause-takes c =
    rw c.new.ensures (spots_for c.items-items.result.now c.args.program.now c.deref-2.result.now c.in_ok-spots.spots.items c.items-items.ensures.items c.in_ok-spots.ensures.spots)

pub returns-clause-apart : goal.returns-clause-apart
returns-clause-apart c =
    let items = c.items-items.result.now in
    let places = c.deref-2.result.now in
    let taken : Slots = set_of c.in-Ok.standing.taken in
    let spots = c.in_ok-spots.spots.items in
    let blocks : c.deref.result.now ≡ map capped_block (blocks_of items) = c.deref.ensures.value ∙ c.in_ok-blocks.ensures in
    let stand : places_of (blocks_of items) ≡ Ok (record { places = places; taken = taken }) =
    sym (places_of-capped_block (blocks_of items)) ∙ ap places_of (sym blocks) ∙ c.in-Ok.ensures.places
    ∙ ap (λ (ps : List Slot). Ok (record { places = ps; taken = taken })) (sym c.deref-2.ensures.value) in
    rw c.new.ensures
    (subst (λ (is : List Item). StandApart is spots taken) c.items-items.ensures.items
    (lines_apart items places spots taken c.items-items.ensures.program stand c.in_ok-spots.ensures.spots))
