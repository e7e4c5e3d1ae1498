use Rattle.std.proofs.Common.{◌≡◌, ◌++◌, drop}
use Rattle.lvdc_machine.proofs.machine.Machine.script.Given as goal

abbrev pub invariant-loop-at : goal.invariant-loop-at
invariant-loop-at l = l.script ++ drop l.at l.self.script ≡ l.self.script
