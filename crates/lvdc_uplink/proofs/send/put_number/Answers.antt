use Rattle.std.proofs.Common.{ap, length, arith, length-append}
use Rattle.lvdc_uplink.proofs.Lengths.{length-number}
use Rattle.lvdc_uplink.proofs.send.put_number.Goals as goal

pub returns-clause-short : goal.returns-clause-short
returns-clause-short c =
    omega (arith, length-number c.from.result (omega (arith, c.from.ensures, c.ranges.number.fits)), simp length-append at (ap length c.in_ok-put_line.ensures.text))
