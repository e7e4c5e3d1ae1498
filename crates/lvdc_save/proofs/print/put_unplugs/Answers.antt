use Rattle.std.proofs.Common.{◌≤◌, All, get_or, subst}
use Rattle.std.proofs.lemmas.List.{get_or_default, take_all}
use Rattle.std.proofs.lemmas.List.Elements.{All-more}
use Rattle.lvdc_plain.specs.declared.records.Unplug.{Unplug}
use Rattle.lvdc_fault.specs.Events.{TIMES}
use Rattle.lvdc_save.specs.Printed.{IsUnplug}
use Rattle.lvdc_save.specs.declared.entry.Entry.TheVariants as says
use Rattle.lvdc_save.proofs.Texts.{entries_more, entries_done}
use Rattle.lvdc_save.proofs.print.put_unplugs.Goals as goal

-- what an index past the end reads
abbrev no_unplug : Unplug
no_unplug = record { port = 0; time = 0 }

pub loop-unplug-preserved : goal.loop-unplug-preserved
loop-unplug-preserved c =
    let unplug = get_or c.args.unplugs.now c.loop-unplug.unplug-index no_unplug in
    record {
      lines = entries_more says.Unplug c.loop-unplug.unplug-index c.args.unplugs.now unplug c.loop-unplug.out.items c.put_unplug.new.out.items _
          c.loop-unplug-test.true (get_or_default c.args.unplugs.now c.loop-unplug.unplug-index no_unplug unplug c.loop-unplug-test.true)
          c.in_ok-put_unplug.ensures.line c.loop-unplug.invariant.lines;
      printed = All-more (λ (u : Unplug). u.time ≤ TIMES → IsUnplug u) c.args.unplugs.now c.loop-unplug.unplug-index no_unplug c.loop-unplug-test.true c.loop-unplug.invariant.printed
          c.in_ok-put_unplug.ensures.printed;
    }

pub returns-clause-lines : goal.returns-clause-lines
returns-clause-lines c =
    entries_done says.Unplug c.loop-unplug.unplug-index c.args.unplugs.now c.loop-unplug.out.items _ c.loop-unplug-test.false c.loop-unplug.invariant.lines

pub returns-clause-printed : goal.returns-clause-printed
returns-clause-printed c = subst (All (λ (u : Unplug). u.time ≤ TIMES → IsUnplug u)) (take_all c.loop-unplug.unplug-index c.args.unplugs.now c.loop-unplug-test.false) c.loop-unplug.invariant.printed
