use Rattle.std.proofs.Common.{All, subst}
use Rattle.std.proofs.lemmas.List.{take_all}
use Rattle.std.proofs.lemmas.List.Elements.{All-more}
use Rattle.lvdc_save.specs.Printed.{IsSupply}
use Rattle.lvdc_save.specs.declared.entry.Entry.TheVariants as says
use Rattle.lvdc_save.proofs.Texts.{entries_more, entries_done}
use Rattle.lvdc_save.proofs.print.put_states.Goals as goal

pub loop-state-preserved : goal.loop-state-preserved
loop-state-preserved c = record {
  lines = entries_more says.State c.loop-state.state-index c.args.states.now c.state-item.result c.loop-state.out.items c.put_state.new.out.items _
      c.loop-state-test.true c.state-item.is c.in_ok-put_state.ensures.line c.loop-state.invariant.lines;
  printed = All-more IsSupply c.args.states.now c.loop-state.state-index c.state-item.result c.loop-state-test.true c.loop-state.invariant.printed
      (subst IsSupply c.state-item.is c.in_ok-put_state.ensures.printed);
}

pub returns-clause-lines : goal.returns-clause-lines
returns-clause-lines c =
    entries_done says.State c.loop-state.state-index c.args.states.now c.loop-state.out.items _ c.loop-state-test.false c.loop-state.invariant.lines

pub returns-clause-printed : goal.returns-clause-printed
returns-clause-printed c = subst (All IsSupply) (take_all c.loop-state.state-index c.args.states.now c.loop-state-test.false) c.loop-state.invariant.printed
