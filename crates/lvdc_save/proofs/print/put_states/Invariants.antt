use Rattle.std.proofs.Common.{◌≡◌, ◌++◌, All, map, drop, take}
use Rattle.lvdc_save.specs.Printed.{IsSupply}
use Rattle.lvdc_lines.specs.Noted.{lines_of}
use Rattle.lvdc_save.specs.declared.entry.Entry.TheVariants as says
use Rattle.lvdc_save.specs.Lines.{entry_line}
use Rattle.lvdc_save.proofs.print.put_states.Given as goal

abbrev pub invariant-loop-state : goal.invariant-loop-state
invariant-loop-state l = record {
  lines : l.out.items ++ lines_of entry_line (map says.State (drop l.state-index l.states)) ≡ l.initial.out.items ++ lines_of entry_line (map says.State l.states);
  printed : All IsSupply (take l.state-index l.states);
}
