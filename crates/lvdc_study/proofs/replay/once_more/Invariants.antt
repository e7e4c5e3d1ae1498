use Rattle.std.proofs.Common.{◌≡◌, ◌++◌, drop}
use Rattle.lvdc_study.proofs.replay.once_more.Given as goal

abbrev pub invariant-loop-at : goal.invariant-loop-at
invariant-loop-at l = l.copy ++ drop l.at l.script ≡ l.script
