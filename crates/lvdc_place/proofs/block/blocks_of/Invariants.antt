-- The blocks of the items passed, and then those of the others.
use Rattle.std.proofs.Common.{◌≡◌, ◌++◌, drop, map}
use Rattle.lvdc_place.specs.Blocks.{blocks_of}
use Rattle.lvdc_place.specs.Fitting.{capped_block}
use Rattle.lvdc_place.proofs.block.blocks_of.Given as goal

abbrev pub invariant-loop-index : goal.invariant-loop-index
invariant-loop-index l = l.blocks.items ++ map capped_block (blocks_of (drop l.index l.items)) ≡ map capped_block (blocks_of l.items)
