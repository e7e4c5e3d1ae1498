use Rattle.std.proofs.Common.{ap, length, arith, length-append}
use Rattle.lvdc_trace.proofs.Lengths.{one_digit}
use Rattle.lvdc_trace.proofs.copies.put_fault.Goals as goal

pub returns-clause-short : goal.returns-clause-short
returns-clause-short c =
    omega (
      arith,
      one_digit c.args.number (omega (arith, c.requires.last_module)),
      one_digit c.args.copy (omega (arith, c.requires.last_copy)),
      simp length-append at (ap length c.in_ok-put_line.ensures.text),
    )
