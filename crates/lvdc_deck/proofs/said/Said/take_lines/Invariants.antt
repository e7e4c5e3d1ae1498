use Rattle.std.proofs.Common.{◌≡◌, map, drop}
use Rattle.lvdc_deck.specs.Deck.{told_from}
use Rattle.lvdc_deck.proofs.said.Said.take_lines.Given as goal

abbrev pub invariant-loop-at : goal.invariant-loop-at
invariant-loop-at g l =
    told_from (map (λ b. (goal.PortDevice-dyn g (b.vtable, b.value)).device_of b.value) l.fn.devices.items) l.bytes l.self (drop l.at l.lines)
    ≡ told_from (map (λ b. (goal.PortDevice-dyn g (b.vtable, b.value)).device_of b.value) l.fn.devices.items) l.bytes l.fn.self l.lines
