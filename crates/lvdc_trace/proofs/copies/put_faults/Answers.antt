use Rattle.std.proofs.Common.{◌≡◌, ◌+◌, arith}
use Rattle.lvdc_lines.proofs.LineLists.{lines_below_none, lines_below_more}
use Rattle.lvdc_trace.specs.Steps.{fault_lines}
use Rattle.lvdc_trace.proofs.copies.put_faults.Goals as goal

pub loop-before-init : goal.loop-before-init
loop-before-init c = record {
  lines = λ step is. lines_below_none (λ before. fault_lines c.args.machine.now.script step (before + 1)) c.args.out.now.items;
  short = omega arith;
}

pub loop-before-preserved : goal.loop-before-preserved
loop-before-preserved c = record {
  lines = λ step is.
      lines_below_more (λ before. fault_lines c.args.machine.now.script step (before + 1)) c.loop-before.before c.args.out.now.items c.loop-before.out.items
      c.put_module_faults.new.out.items (c.loop-before.invariant.lines step is) (c.in_ok-put_module_faults.ensures.lines step is);
  short = omega (arith, c.loop-before.invariant.short, c.in_ok-put_module_faults.ensures.short);
}

pub returns-clause-lines : goal.returns-clause-lines
returns-clause-lines c = λ step is.
    let all : c.loop-before.before ≡ 7 = omega (arith, c.loop-before-test.false, c.loop-before.auto.before-end) in
    rw all at (c.loop-before.invariant.lines step is)
