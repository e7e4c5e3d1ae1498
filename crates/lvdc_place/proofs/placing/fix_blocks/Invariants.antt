-- What the blocks to come leave is what all leave; those passed fit.
use Rattle.std.proofs.Common.{◌≡◌, Ok, drop, take}
use Rattle.std.specs.Prelude.{All}
use Rattle.lvdc_place.specs.Slots.{set_of}
use Rattle.lvdc_place.specs.Fitting.{FitsFixed}
use Rattle.lvdc_place.specs.Placement.{taken_after_all}
use Rattle.lvdc_place.proofs.placing.fix_blocks.Given as goal

abbrev pub invariant-loop-block : goal.invariant-loop-block
invariant-loop-block l = record {
  fixed : taken_after_all (Ok (set_of l.taken)) (drop l.block-index l.blocks) ≡ taken_after_all (Ok (set_of l.initial.taken)) l.blocks;
  fits : All FitsFixed (take l.block-index l.blocks);
}
