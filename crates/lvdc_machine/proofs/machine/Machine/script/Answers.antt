use Rattle.lvdc_machine.proofs.Noting.{again-more}
use Rattle.lvdc_machine.proofs.machine.Machine.script.Goals as goal

pub loop-at-preserved : goal.loop-at-preserved
loop-at-preserved c =
    rw (← c.self.view_is) (again-more c.self.inside.script c.loop-at.script c.push.new.self c.loop-at.at c.event.result.now c.event.ensures
    c.in_ok-push.ensures.pushed (rw (← c.self.view_is) at c.loop-at.invariant))
