use Rattle.std.proofs.Common.{◌≡◌, ℕ, ◌+◌, ◌≤◌, map}
use Rattle.std.specs.Prelude.{None}
use Rattle.lvdc_plain.specs.Lists.{Since, AreFit}
use Rattle.lvdc_model.specs.Trial.{Trial}
use Rattle.lvdc_model.specs.Voted.{Voted}
use Rattle.lvdc_machine.specs.Room.{exchanges_to_come}
use Rattle.lvdc_machine.specs.Resumed.{StandsFrom}
use Rattle.lvdc_machine.specs.Steps.{Keeps}
use Rattle.lvdc_machine.proofs.machine.Machine.make_steps.Given as goal

abbrev pub invariant-loop-made : goal.invariant-loop-made
invariant-loop-made g l = record {
  stands : (o : Trial) (first : Voted) (n : ℕ) → StandsFrom o first n l.fn.self (map (λ b. (goal.PortDevice-dyn g (b.vtable, b.value)).device_of b.value) l.fn.devices.items) →
      StandsFrom o first (n + l._made) l.self (map (λ b. (goal.PortDevice-dyn g (b.vtable, b.value)).device_of b.value) l.devices.items);
  running : l.self.end ≡ None;
  keeps : Keeps l.fn.self l.self;
  steps : l.self.steps ≤ l.fn.self.steps + l._made;
  fit : AreFit (λ b. (goal.PortDevice-dyn g (b.vtable, b.value)).device_of b.value) (λ b. (goal.PortDevice-dyn g (b.vtable, b.value)).spare b.value)
      (exchanges_to_come l.self) l.devices.items;
  since : Since (λ b. (goal.PortDevice-dyn g (b.vtable, b.value)).device_of b.value) (λ b. (goal.PortDevice-dyn g (b.vtable, b.value)).faults b.value) l.fn.devices.items l.devices.items;
}
