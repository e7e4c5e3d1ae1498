use Rattle.std.proofs.Common.{ℕ, ap, length, arith, length-append}
use Rattle.lvdc_lines.proofs.LineSizes.{step_short}
use Rattle.lvdc_trace.proofs.Lengths.{length-copies_text}
use Rattle.lvdc_trace.proofs.step.put_step.Goals as goal

pub returns-clause-short : goal.returns-clause-short
returns-clause-short c = λ early.
    omega (
      arith,
      length-append {A = ℕ},
      step_short c.args.step early,
      length-copies_text c.args.machine.now.copies,
      simp length-append at (ap length c.in_ok-put_line.ensures.text),
      c.in_ok-put_exchange.ensures.short,
      c.in_ok-put_repair.ensures.short,
      c.in_ok-put_faults.ensures.short,
      c.in_ok-put_votes.ensures.short,
      ap length c.in_ok-put_copies.ensures,
    )
