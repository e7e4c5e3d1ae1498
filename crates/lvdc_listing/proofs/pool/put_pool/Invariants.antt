use Rattle.std.proofs.Common.{◌≡◌, ◌++◌, drop, map}
use Rattle.std.specs.Map.{values_of}
use Rattle.lvdc_map.specs.Memory.{Memory, IsMemory}
use Rattle.lvdc_text.specs.Joined.{text_of}
use Rattle.lvdc_listing.specs.Rows.{pool_row}
use Rattle.lvdc_listing.proofs.pool.put_pool.Given as goal

abbrev pub invariant-loop-index : goal.invariant-loop-index
invariant-loop-index l =
    (m : Memory) → IsMemory l.memory m
    → l.out.items ++ text_of (map (pool_row m) (drop l.index (values_of l.assembly.pool))) ≡ l.initial.out.items ++ text_of (map (pool_row m) (values_of l.assembly.pool))
