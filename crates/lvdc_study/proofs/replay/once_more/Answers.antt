use Rattle.lvdc_study.proofs.Again.{again-more}
use Rattle.lvdc_study.proofs.replay.once_more.Goals as goal

pub loop-at-preserved : goal.loop-at-preserved
loop-at-preserved c =
    again-more c.args.script.now c.loop-at.copy c.push.new.self c.loop-at.at c.event.result.now c.event.ensures c.in_ok-push.ensures.pushed c.loop-at.invariant
