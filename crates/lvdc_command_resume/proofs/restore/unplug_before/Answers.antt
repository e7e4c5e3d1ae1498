use Rattle.std.proofs.Common.{ap, ◌∙◌}
use Rattle.lvdc_plain.specs.declared.records.Unplug.{Unplug}
use Rattle.lvdc_command_resume.proofs.Unplugged.{left-taken, left-kept, distinct-taken, distinct-kept, since-without, since-kept}
use Rattle.lvdc_command_resume.proofs.restore.unplug_before.Goals as goal
use Rattle.lvdc_command_resume.proofs.restore.unplug_before.Goals.{then-line-times, else-line-times}

pub loop-line-preserved : goal.loop-line-preserved
loop-line-preserved g c =
    let none : Unplug = record { port = 0; time = 0 } in
    elim c.if-line-times.branch [
      | then-line-times w ↦ record {
        left = left-taken _ c.args.unplugs.now c.args.times c.loop-line.line-index none c.loop-line.devices.items c.if-line-times.devices.items
            c.loop-line-test.true w.if-line-times.true (ap (λ v. v.items) w.devices-is ∙ w.unplug.ensures.removed) ∙ c.loop-line.invariant.left;
        distinct = distinct-taken _ _ c.loop-line.devices.items c.if-line-times.devices.items c.loop-line.invariant.distinct (ap (λ v. v.items) w.devices-is ∙ w.unplug.ensures.removed);
        since = since-without c.loop-line.invariant.since _ c.if-line-times.devices.items c.loop-line.invariant.distinct (ap (λ v. v.items) w.devices-is ∙ w.unplug.ensures.removed);
        told = since-without c.loop-line.invariant.told _ c.if-line-times.devices.items c.loop-line.invariant.distinct (ap (λ v. v.items) w.devices-is ∙ w.unplug.ensures.removed);
      }
      | else-line-times w ↦ record {
        left = left-kept _ c.args.unplugs.now c.args.times c.loop-line.line-index none c.loop-line.devices.items c.if-line-times.devices.items
            c.loop-line-test.true w.if-line-times.false (ap (λ v. v.items) w.devices-is) ∙ c.loop-line.invariant.left;
        distinct = distinct-kept _ c.loop-line.devices.items c.if-line-times.devices.items c.loop-line.invariant.distinct (ap (λ v. v.items) w.devices-is);
        since = since-kept c.loop-line.invariant.since c.if-line-times.devices.items (ap (λ v. v.items) w.devices-is);
        told = since-kept c.loop-line.invariant.told c.if-line-times.devices.items (ap (λ v. v.items) w.devices-is);
      }
    ]
