use Rattle.std.proofs.Common.{ap, length, arith, length-append}
use Rattle.lvdc_lines.proofs.LineSizes.{byte_short}
use Rattle.lvdc_uplink.proofs.Lengths.{length-number}
use Rattle.lvdc_uplink.proofs.send.put_frame.Goals as goal

pub returns-clause-short : goal.returns-clause-short
returns-clause-short c =
    omega (arith, length-number c.from.result (omega (arith, c.from.ensures, c.ranges.id.fits)), byte_short c.args.i c.ranges.i.fits, simp length-append at (ap length c.in_ok-put_line.ensures.text))
