use Rattle.std.proofs.Common.{ap, length, arith}
use Rattle.lvdc_report.proofs.soak.report_soak.Goals as goal

pub returns-clause-size : goal.returns-clause-size
returns-clause-size c =
    omega (
      arith,
      ap length c.new-out.ensures.items,
      c.in_ok-put_line.ensures.short,
      c.in_ok-put_end.ensures.short,
      c.in_ok-put_line-2.ensures.short,
      c.in_ok-put_line-3.ensures.short,
      c.in_ok-put_line-4.ensures.short,
      c.in_ok-put_line-5.ensures.short,
    )
