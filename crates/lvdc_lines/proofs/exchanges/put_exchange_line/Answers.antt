use Rattle.std.proofs.Common.{arith, length-append}
use Rattle.lvdc_text.proofs.ReadBack.{length-octal_text}
use Rattle.lvdc_lines.proofs.LineSizes.{decimal_short, length-direction}
use Rattle.lvdc_lines.proofs.exchanges.put_exchange_line.Goals as goal

pub returns-clause-short : goal.returns-clause-short
returns-clause-short c =
    let e = c.args.exchange.now in
    simp (length-append, length-octal_text) (omega (arith, length-direction e.reading, decimal_short e.time (omega arith)))

pub returns-clause-ranges : goal.returns-clause-ranges
returns-clause-ranges c = record { port = omega arith; word = c.behind_time.ensures.range }
