-- An exclusive or has no bit that neither word has.
use Rattle.std.proofs.lemmas.Nat.{xor_lt}
use Rattle.lvdc_word.proofs.word.Word.differ.Goals as goal

pub invariant_of-result : goal.invariant_of-result
invariant_of-result c = xor_lt 26 c.self.inside.bits c.other.inside.bits c.self.invariant c.other.invariant
