use Rattle.std.proofs.Common.{◌≡◌, ◌++◌, map, drop}
use Rattle.lvdc_lines.specs.Noted.{lines_of}
use Rattle.lvdc_save.specs.declared.entry.Entry.TheVariants as says
use Rattle.lvdc_save.specs.Lines.{entry_line}
use Rattle.lvdc_save.proofs.print.put_script.Given as goal

abbrev pub invariant-loop-index : goal.invariant-loop-index
invariant-loop-index l =
    l.out.items ++ lines_of entry_line (map says.Fault (drop l.index l.script)) ≡ l.initial.out.items ++ lines_of entry_line (map says.Fault l.script)
