use Rattle.std.proofs.Common.{◌≡◌, drop}
use Rattle.lvdc_save.specs.Reading.{line_in}
use Rattle.lvdc_save_read.proofs.reading.Reading.line_of.Given as goal

abbrev pub invariant-loop-mark : goal.invariant-loop-mark
invariant-loop-mark l = line_in (drop l.mark-index l.self.marks) l.port ≡ line_in l.self.marks l.port
