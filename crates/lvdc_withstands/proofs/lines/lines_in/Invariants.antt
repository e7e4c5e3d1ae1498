use Rattle.std.proofs.Common.{◌≡◌, take}
use Rattle.lvdc_withstands.specs.Form.{lines_in}
use Rattle.lvdc_withstands.proofs.lines.lines_in.Given as goal

abbrev pub invariant-loop-at : goal.invariant-loop-at
invariant-loop-at l = l.lines.items ≡ lines_in l.count (take l.at l.script)
