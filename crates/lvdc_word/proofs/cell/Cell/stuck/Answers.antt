-- Each bit is the value's under the mask, and stays elsewhere.
use Rattle.std.proofs.Common.{◌<◌, arith, rules, ◌^◌, bit_and, bit_xor}
use Rattle.std.proofs.lemmas.Nat.{xor_lt, and_le_l}
use Rattle.lvdc_word.specs.Cell.{with_stuck}
use Rattle.lvdc_word.proofs.Bits.{stuck_bits}
use Rattle.lvdc_word.proofs.cell.Cell.stuck.Goals as goal

pub invariant_of-result : goal.invariant_of-result
invariant_of-result c =
    let self = c.self.inside.bits in
    let value = c.value.inside.bits in
    let both : bit_xor self value < 2 ^ 28 = xor_lt 28 self value c.self.invariant c.value.invariant in
    xor_lt 28 self (bit_and (bit_xor self value) c.mask.inside.bits) c.self.invariant (omega (arith, and_le_l (bit_xor self value) c.mask.inside.bits))

pub returns-clause-value : goal.returns-clause-value
unfolding with_stuck
returns-clause-value c = search rules

pub returns-clause-bits : goal.returns-clause-bits
returns-clause-bits c i = rw (c.self.view_is, c.value.view_is, c.mask.view_is) (stuck_bits c.args.self c.args.mask c.args.value i)
