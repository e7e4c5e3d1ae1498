-- The ones of a half are those of its 14 bits.
use Rattle.std.proofs.Common.{ℕ, ◌%◌, nat_eq, sym, ap}
use Rattle.lvdc_word.proofs.Parity.{ones-count}
use Rattle.lvdc_withstands.proofs.lines.is_odd.Goals as goal

pub returns : goal.returns
returns c = ap (λ (n : ℕ). nat_eq (n % 2) 1) (sym (ones-count 14 c.args.half c.requires))
