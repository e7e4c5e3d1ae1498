use Rattle.std.proofs.Common.{◌≡◌, ◌+◌, ◌++◌}
use Rattle.lvdc_lines.specs.Noted.{lines_below}
use Rattle.lvdc_trace.specs.Steps.{told_copies}
use Rattle.lvdc_trace.proofs.copies.put_copies.Given as goal

abbrev pub invariant-loop-before : goal.invariant-loop-before
invariant-loop-before l = l.out.items ≡ l.initial.out.items ++ lines_below (λ modules. told_copies l.machine.copies (modules + 1)) l.before
