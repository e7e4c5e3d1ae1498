use Rattle.std.proofs.Common.{◌≡◌, ◌++◌, drop}
use Rattle.lvdc_lines.specs.Noted.{lines_of}
use Rattle.lvdc_save.specs.Lines.{number_after}
use Rattle.lvdc_save.proofs.parts.put_twins.Given as goal

abbrev pub invariant-loop-twin : goal.invariant-loop-twin
invariant-loop-twin l = l.out.items ++ lines_of number_after (drop l.twin-index l.twins) ≡ l.initial.out.items ++ lines_of number_after l.twins
