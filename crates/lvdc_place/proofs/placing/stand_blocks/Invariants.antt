-- The places so far and those of the blocks to come are all places; the blocks passed fit.
use Rattle.std.proofs.Common.{◌≡◌, Ok, [], drop, take, length}
use Rattle.lvdc_place.specs.Slots.{set_of}
use Rattle.lvdc_place.specs.Fitting.{AllFit}
use Rattle.lvdc_place.specs.Placement.{places_with_all}
use Rattle.lvdc_place.proofs.placing.stand_blocks.Given as goal

abbrev pub invariant-loop-block : goal.invariant-loop-block
invariant-loop-block l = record {
  stand : places_with_all (Ok (record { places = l.places.items; taken = set_of l.search })) (drop l.block-index l.blocks)
      ≡ places_with_all (Ok (record { places = []; taken = set_of l.initial.search })) l.blocks;
  count : length l.places.items ≡ l.block-index;
  fit : AllFit (take l.block-index l.blocks) l.places.items;
}
