use Rattle.std.proofs.Common.{◌≡◌, map}
use Rattle.std.specs.List.{flat_map, range_with_len}
use Rattle.lvdc_command_save.specs.States.{state_at}
use Rattle.lvdc_command_save.proofs.states.states_of.Given as goal

abbrev pub invariant-loop-port : goal.invariant-loop-port
invariant-loop-port g l =
    l.states.items ≡ flat_map (state_at (map (λ b. (goal.PortDevice-dyn g (b.vtable, b.value)).device_of b.value) l.devices)) (range_with_len 0 l.port)
