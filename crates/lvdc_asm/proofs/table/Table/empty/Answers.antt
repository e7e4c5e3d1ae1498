use Rattle.std.proofs.Common.{refl}
use Rattle.lvdc_asm.proofs.Tables.{nothing-is}
use Rattle.lvdc_asm.proofs.table.Table.empty.Goals as goal

pub returns : goal.returns
returns c = nothing-is 16384 c.in_ok-none.field-0.items refl c.in_ok-none.ensures
