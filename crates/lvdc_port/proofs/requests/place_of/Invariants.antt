use Rattle.lvdc_port.proofs.Places.{LacksBelow}
use Rattle.lvdc_port.proofs.requests.place_of.Given as goal

abbrev pub invariant-loop-at : goal.invariant-loop-at
invariant-loop-at g l =
    LacksBelow (λ b. (goal.PortDevice-dyn g (b.vtable, b.value)).device_of b.value) l.port l.devices l.at
