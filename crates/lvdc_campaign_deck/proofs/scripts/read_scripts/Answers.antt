use Rattle.std.proofs.Common.{◌≤◌, List, length, Ok, sym, ap, subst, ◌∙◌}
use Rattle.lvdc_fault.specs.declared.named.Named.{Named}
use Rattle.lvdc_campaign_deck.proofs.Steps.{scripts-more, scripts-bad, scripts-done}
use Rattle.lvdc_campaign_deck.proofs.scripts.read_scripts.Goals as goal

pub returns-in-Err-clause-refusal : goal.returns-in-Err-clause-refusal
returns-in-Err-clause-refusal c = λ known.
    scripts-bad c.args.bytes.now c.loop-line.scripts c.args.lines.now c.loop-line.line-index _ c.loop-line.invariant.0 c.loop-line-test.true c.in-Err.fault
    ((rw c.part.ensures at c.in-Err.ensures.made) known)

pub loop-line-preserved : goal.loop-line-preserved
loop-line-preserved c = (
  scripts-more c.args.bytes.now c.loop-line.scripts c.args.lines.now c.loop-line.line-index _ c.loop-line.invariant.0 c.loop-line-test.true c.take_line.new.self
      (rw c.part.ensures at c.in-Ok.ensures.made),
  c.in-Ok.ensures.most ∙ c.loop-line.invariant.1,
)

pub returns-clause-scripts : goal.returns-clause-scripts
returns-clause-scripts c =
    scripts-done c.args.bytes.now c.loop-line.scripts c.args.lines.now c.loop-line.line-index _ c.loop-line.invariant.0 c.loop-line-test.false
    ∙ ap (λ (all : List Named). Ok all) (sym c.in_ok-all.ensures.all)

pub returns-clause-few : goal.returns-clause-few
returns-clause-few c = subst (λ most. length c.in_ok-all.all.items ≤ most) c.loop-line.invariant.1 c.in_ok-all.ensures.few
