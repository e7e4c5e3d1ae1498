-- The lines passed were counted.
use Rattle.std.proofs.Common.{◌≡◌, ◌+◌, ◌≤◌, min, drop}
use Rattle.lvdc_place.specs.Blocks.{size_ahead}
use Rattle.lvdc_place.proofs.block.size_ahead.Given as goal

abbrev pub invariant-loop-item : goal.invariant-loop-item
invariant-loop-item l = record {
  most : l.size ≤ 257;
  counted : min (l.size + size_ahead (drop l.item-index l.items)) 257 ≡ min (size_ahead l.items) 257;
}
