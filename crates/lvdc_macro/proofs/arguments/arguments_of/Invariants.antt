use Rattle.std.proofs.Common.{◌≡◌, ◌≤◌, length}
use Rattle.lvdc_macro.proofs.arguments.arguments_of.Given as goal

abbrev pub invariant-loop-argument : goal.invariant-loop-argument
invariant-loop-argument l =
    (goal.iterator-loop-argument).can_next l.argument-iterator ×
    (goal.iterator-loop-argument).is_finite l.argument-iterator ×
    (l.arguments.items ≡ l.yielded) ×
    (length l.arguments.items ≤ 9)
