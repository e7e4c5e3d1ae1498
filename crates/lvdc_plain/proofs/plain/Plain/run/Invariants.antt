use Rattle.std.proofs.Common.{◌≡◌, ℕ, ◌+◌, ◌≤◌, map}
use Rattle.std.specs.Prelude.{None}
use Rattle.lvdc_plain.specs.Calls.{times_left, Keeps}
use Rattle.lvdc_plain.specs.Lists.{Since, AreFit}
use Rattle.lvdc_plain.specs.Run.{Opening}
use Rattle.lvdc_plain.specs.Stands.{Stands}
use Rattle.lvdc_plain.proofs.plain.Plain.run.Given as goal

abbrev pub invariant-loop-made : goal.invariant-loop-made
invariant-loop-made g l = record {
  stands : (o : Opening) (t : ℕ) →
      Stands o t l.fn.self (map (λ b. (goal.PortDevice-dyn g (b.vtable, b.value)).device_of b.value) l.fn.devices.items) →
      Stands o (t + l._made) l.self (map (λ b. (goal.PortDevice-dyn g (b.vtable, b.value)).device_of b.value) l.devices.items);
  running : l.self.end ≡ None;
  keeps : Keeps l.fn.self l.self;
  times : l.self.times ≤ l.fn.self.times + l._made;
  fit : AreFit (λ b. (goal.PortDevice-dyn g (b.vtable, b.value)).device_of b.value) (λ b. (goal.PortDevice-dyn g (b.vtable, b.value)).spare b.value)
      (times_left l.self) l.devices.items;
  since : Since (λ b. (goal.PortDevice-dyn g (b.vtable, b.value)).device_of b.value)
      (λ b. (goal.PortDevice-dyn g (b.vtable, b.value)).faults b.value) l.fn.devices.items l.devices.items;
}
