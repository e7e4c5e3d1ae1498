use Rattle.std.proofs.Common.{◌%◌, ◌<◌, arith}
use Rattle.std.proofs.lemmas.Nat.{one_shl, pow_below}
use Rattle.lvdc_soak_deck.proofs.soak.damage_event.Goals as goal

pub within-requires : goal.within-requires
within-requires c =
    let bit : c.value.result % 28 < 28 = omega arith in
    omega (arith, one_shl (c.value.result % 28) 32 (omega arith), pow_below (c.value.result % 28) 28 bit)
