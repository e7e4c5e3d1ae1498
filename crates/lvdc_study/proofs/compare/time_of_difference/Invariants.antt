use Rattle.std.proofs.Common.{◌≡◌, drop}
use Rattle.lvdc_study.specs.Outcomes.{time_of_difference}
use Rattle.lvdc_study.proofs.compare.time_of_difference.Given as goal

abbrev pub invariant-loop-line : goal.invariant-loop-line
invariant-loop-line l = time_of_difference (drop l.line-index l.voted) l.others.rest.now ≡ time_of_difference l.voted l.plain
