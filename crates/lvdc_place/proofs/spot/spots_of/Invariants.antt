-- The spots so far and those of the items to come are all spots; the block begun ends within its sector, and so do those to come.
use Rattle.std.proofs.Common.{◌≡◌, ◌+◌, ◌≤◌, ◌++◌, drop}
use Rattle.lvdc_place.specs.Slot.{slot_after, sector_start}
use Rattle.lvdc_place.specs.Blocks.{size_ahead, blocks_of}
use Rattle.lvdc_place.specs.Fitting.{AllFit}
use Rattle.lvdc_place.specs.Placement.{spots_from, AreInPairs}
use Rattle.lvdc_place.proofs.spot.spots_of.Given as goal

abbrev pub invariant-loop-item : goal.invariant-loop-item
invariant-loop-item l = record {
  spots : l.spots.items ++ spots_from (slot_after l.first l.offset) (drop l.begun l.places) (drop l.item-index l.items) ≡ spots_from (sector_start 0 0) l.places l.items;
  within : l.first.loc + l.offset + size_ahead (drop l.item-index l.items) ≤ 256;
  fit : AllFit (blocks_of (drop l.item-index l.items)) (drop l.begun l.places);
  pairs : AreInPairs l.spots.items;
}
