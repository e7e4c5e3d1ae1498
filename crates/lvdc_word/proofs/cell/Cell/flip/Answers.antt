-- An exclusive or has no bit that neither cell has.
use Rattle.std.proofs.lemmas.Nat.{xor_lt}
use Rattle.lvdc_word.proofs.cell.Cell.flip.Goals as goal

pub invariant_of-result : goal.invariant_of-result
invariant_of-result c = xor_lt 28 c.self.inside.bits c.mask.inside.bits c.self.invariant c.mask.invariant
