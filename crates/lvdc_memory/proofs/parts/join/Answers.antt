-- The bits of two cells together make a cell.
use Rattle.std.proofs.lemmas.Nat.{or_lt}
use Rattle.lvdc_memory.proofs.parts.join.Goals as goal

pub within-requires : goal.within-requires
within-requires c = or_lt 28 c.bits.result c.bits-2.result c.bits.ensures.small c.bits-2.ensures.small
