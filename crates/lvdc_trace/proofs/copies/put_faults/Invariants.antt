use Rattle.std.proofs.Common.{◌≡◌, ℕ, ◌+◌, ◌*◌, ◌≤◌, ◌++◌, length}
use Rattle.std.specs.declared.option.Option.TheVariants.{Some}
use Rattle.lvdc_lines.specs.Noted.{lines_below}
use Rattle.lvdc_trace.specs.Steps.{fault_lines}
use Rattle.lvdc_trace.proofs.copies.put_faults.Given as goal

abbrev pub invariant-loop-before : goal.invariant-loop-before
invariant-loop-before l = record {
  lines : (step : ℕ) → l.machine.on_memory.last ≡ Some step
      → l.out.items ≡ l.initial.out.items ++ lines_below (λ before. fault_lines l.machine.script step (before + 1)) l.before;
  short : length l.out.items ≤ length l.initial.out.items + 30 * l.before;
}
