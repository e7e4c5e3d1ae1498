use Rattle.std.proofs.Common.{◌≡◌, drop}
use Rattle.lvdc_uplink.specs.Input.{from_heading}
use Rattle.lvdc_uplink.proofs.input.from_heading.Given as goal

abbrev pub invariant-loop-index : goal.invariant-loop-index
invariant-loop-index l = from_heading l.heading l.bytes l.next (drop l.index l.lines) ≡ from_heading l.heading l.bytes l.next l.lines
