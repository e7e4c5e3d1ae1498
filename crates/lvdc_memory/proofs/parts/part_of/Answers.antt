-- The events from a position up to another are those of the part.
use Rattle.std.proofs.Common.{ℕ, ◌+◌, ◌-◌, ◌*◌, length, refl, ap}
use Rattle.lvdc_fault.proofs.Parts.{part_events}
use Rattle.lvdc_memory.proofs.parts.part_of.Goals as goal

pub returns : goal.returns
returns c =
    let from : ℕ = 256 * c.args.number in
    part_events c.args.events.now from (from + c.min.result) (length c.args.events.now - from) refl (ap (λ (n : ℕ). from + n) c.min.ensures)
