use Rattle.std.proofs.Common.{◌≡◌, ◌≤◌, ◌++◌, All, map, drop, take}
use Rattle.lvdc_plain.specs.declared.records.Unplug.{Unplug}
use Rattle.lvdc_fault.specs.Events.{TIMES}
use Rattle.lvdc_save.specs.Printed.{IsUnplug}
use Rattle.lvdc_lines.specs.Noted.{lines_of}
use Rattle.lvdc_save.specs.declared.entry.Entry.TheVariants as says
use Rattle.lvdc_save.specs.Lines.{entry_line}
use Rattle.lvdc_save.proofs.print.put_unplugs.Given as goal

abbrev pub invariant-loop-unplug : goal.invariant-loop-unplug
invariant-loop-unplug l = record {
  lines : l.out.items ++ lines_of entry_line (map says.Unplug (drop l.unplug-index l.unplugs)) ≡ l.initial.out.items ++ lines_of entry_line (map says.Unplug l.unplugs);
  printed : All (λ (u : Unplug). u.time ≤ TIMES → IsUnplug u) (take l.unplug-index l.unplugs);
}
