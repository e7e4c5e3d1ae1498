use Rattle.std.proofs.Common.{◌≡◌, map, drop}
use Rattle.lvdc_deck.specs.Deck.{end_of, deck_from, deck_of}
use Rattle.lvdc_deck.proofs.Ends.{further}
use Rattle.lvdc_deck.proofs.read.read_deck_lines.Given as goal

abbrev pub invariant-loop-at : goal.invariant-loop-at
invariant-loop-at g l = record {
  so_far : deck_from (map (λ b. (goal.PortDevice-dyn g (b.vtable, b.value)).device_of b.value) l.devices.items) l.debugging l.bytes l.next (drop l.at l.lines)
      ≡ deck_of l.bytes (map (λ b. (goal.PortDevice-dyn g (b.vtable, b.value)).device_of b.value) l.devices.items) l.debugging;
  ended : l.end ≡ further l.at (end_of l.bytes (drop l.at l.lines));
}
