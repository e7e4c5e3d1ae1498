use Rattle.std.proofs.Common.{◌≡◌, ◌-◌, map, take, length}
use Rattle.lvdc_port.specs.Devices.{HasSpare}
use Rattle.lvdc_plain.specs.Lists.{Since}
use Rattle.lvdc_command_resume.specs.Restore.{with_states, WereTold}
use Rattle.lvdc_command_resume.proofs.restore.give_words.Given as goal

abbrev pub invariant-loop-state : goal.invariant-loop-state
invariant-loop-state g l = record {
  taken : map (λ b. (goal.PortDevice-dyn g (b.vtable, b.value)).device_of b.value) l.devices.items
      ≡ with_states (take l.state-index l.states) (map (λ b. (goal.PortDevice-dyn g (b.vtable, b.value)).device_of b.value) l.fn.devices.items);
  since : Since (λ b. (goal.PortDevice-dyn g (b.vtable, b.value)).device_of b.value) (λ b. (goal.PortDevice-dyn g (b.vtable, b.value)).faults b.value) l.fn.devices.items l.devices.items;
  told : WereTold (λ b. (goal.PortDevice-dyn g (b.vtable, b.value)).device_of b.value) (λ b. (goal.PortDevice-dyn g (b.vtable, b.value)).told b.value) l.time (take l.state-index l.states) l.fn.devices.items l.devices.items;
  room : HasSpare (λ b. (goal.PortDevice-dyn g (b.vtable, b.value)).spare b.value) (length l.states - l.state-index) l.devices.items;
}
