use Rattle.std.proofs.Common.{◌^◌, ◌≤◌, arith}
use Rattle.std.proofs.Math.Nat.{pow-le-pow_right}
use Rattle.lvdc_save_read.proofs.entries.pair_bit.Goals as goal

pub returns-then-names_pair-clause-small : goal.returns-then-names_pair-clause-small
returns-then-names_pair-clause-small c =
    let most : 2 ^ c.args.pair ≤ 2 ^ 3 = pow-le-pow_right {n = 2} (omega arith) {i = c.args.pair} {j = 3} (omega arith) in omega arith
