use Rattle.std.proofs.Common.{◌∙◌, ap, sym}
use Rattle.lvdc_plain.proofs.Lefts.{left-taken, left-kept, left-done}
use Rattle.lvdc_plain.specs.declared.records.Unplug.{Unplug}
use Rattle.lvdc_plain.proofs.unplugs.unplug_lines.Goals as goal
use Rattle.lvdc_plain.proofs.unplugs.unplug_lines.Goals.{then-line-time, else-line-time}

pub loop-line-preserved : goal.loop-line-preserved
loop-line-preserved g c =
    let none : Unplug = record { port = 0; time = 0 } in
    elim c.if-line-time.branch [
      | then-line-time w ↦
          left-taken (λ b. (goal.PortDevice-dyn g (b.vtable, b.value)).device_of b.value) c.args.unplugs.now c.args.time c.loop-line.line-index none c.loop-line.devices.items c.if-line-time.devices.items
          c.loop-line-test.true w.if-line-time.true (ap (λ v. v.items) w.devices-is ∙ w.unplug.ensures.removed) ∙ c.loop-line.invariant
      | else-line-time w ↦
          left-kept (λ b. (goal.PortDevice-dyn g (b.vtable, b.value)).device_of b.value) c.args.unplugs.now c.args.time c.loop-line.line-index none c.loop-line.devices.items c.if-line-time.devices.items
          c.loop-line-test.true w.if-line-time.false (ap (λ v. v.items) w.devices-is) ∙ c.loop-line.invariant
    ]

pub returns : goal.returns
returns g c = record {
  is = sym (left-done (λ b. (goal.PortDevice-dyn g (b.vtable, b.value)).device_of b.value) c.args.unplugs.now c.args.time c.loop-line.line-index c.loop-line.devices.items c.loop-line-test.false)
      ∙ c.loop-line.invariant;
}
