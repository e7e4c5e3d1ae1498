use Rattle.std.proofs.Common.{ℕ, ap, length, arith, length-append}
use Rattle.lvdc_debug.proofs.Lengths.{few-latches}
use Rattle.lvdc_debug.proofs.texts.put_copy.Goals as goal

pub returns-clause-short : goal.returns-clause-short
returns-clause-short c =
    omega (
      arith,
      length-append {A = ℕ},
      few-latches c.args.number c.requires.module.last_module,
      c.in_ok-put.ensures.short,
      c.in_ok-put_latches.ensures.short,
      ap length c.in_ok-extend_from_slice.ensures.items,
    )
