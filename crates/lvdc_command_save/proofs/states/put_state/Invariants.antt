use Rattle.std.proofs.Common.{◌≡◌, map, drop}
use Rattle.lvdc_command_save.specs.States.{state_at}
use Rattle.lvdc_command_save.proofs.states.put_state.Given as goal

abbrev pub invariant-loop-device : goal.invariant-loop-device
invariant-loop-device g l = record {
  kept : l.states.items ≡ l.initial.states.items;
  rest : state_at (map (λ b. (goal.PortDevice-dyn g (b.vtable, b.value)).device_of b.value) (drop l.device-index l.devices)) l.port
      ≡ state_at (map (λ b. (goal.PortDevice-dyn g (b.vtable, b.value)).device_of b.value) l.devices) l.port;
}
