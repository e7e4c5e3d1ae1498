use Rattle.std.proofs.Common.{◌++◌, ◌∷◌, [], List, sym, ap, ◌∙◌, arith}
use Rattle.std.proofs.lemmas.List.{take_all}
use Rattle.lvdc_fault.specs.declared.event.Event.{Event}
use Rattle.lvdc_memory.specs.OnMemory.{on_memory}
use Rattle.lvdc_memory.proofs.OnMemory.{only_next}
use Rattle.lvdc_memory.proofs.order.events_on_memory.Goals as goal

pub loop-at-preserved : goal.loop-at-preserved
loop-at-preserved c =
    let e = c.event.result.now in
    c.in_ok-add_on_memory.ensures ∙ ap (λ (es : List Event). es ++ on_memory (e ∷ [])) c.loop-at.invariant ∙ sym (only_next c.args.script.now c.loop-at.at e c.event.ensures)

pub returns : goal.returns
returns c =
    c.loop-at.invariant ∙ ap on_memory (take_all c.loop-at.at c.args.script.now (omega (arith, c.loop-at-test.false, c.len-at-end.ensures)))
