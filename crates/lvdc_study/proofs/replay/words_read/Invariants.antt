use Rattle.std.proofs.Common.{◌≡◌, ◌++◌, drop}
use Rattle.lvdc_study.specs.Waypoints.{words_read}
use Rattle.lvdc_study.proofs.replay.words_read.Given as goal

-- the words so far and those of the lines that are left
abbrev pub invariant-loop-line : goal.invariant-loop-line
invariant-loop-line l = l.words.items ++ words_read l.times (drop l.line-index l.log) ≡ words_read l.times l.log
