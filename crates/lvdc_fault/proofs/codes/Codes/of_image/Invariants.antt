-- The words so far are stored, and are words.
use Rattle.std.proofs.Common.{◌<◌, ◌^◌, take, All}
use Rattle.lvdc_map.specs.Memory.{filled_with, loaded, IsMemory}
use Rattle.lvdc_map.specs.declared.placed.Placed.{Placed}
use Rattle.lvdc_fault.proofs.codes.Codes.of_image.Given as goal

abbrev pub invariant-loop-placed : goal.invariant-loop-placed
invariant-loop-placed l = record {
  memory : IsMemory l.codes (loaded (take l.placed-index l.image) (filled_with 0));
  words : All (λ (p : Placed). p.word < 2 ^ 26) (take l.placed-index l.image);
}
