-- The slots of the locations to come complete the block.
use Rattle.std.proofs.Common.{◌≡◌, ◌-◌}
use Rattle.lvdc_place.specs.Slot.{slot_after}
use Rattle.lvdc_place.specs.Slots.{set_of, with_slots, block_slots}
use Rattle.lvdc_place.proofs.taken.Taken.take_block.Given as goal

abbrev pub invariant-loop-offset : goal.invariant-loop-offset
invariant-loop-offset l =
    with_slots (set_of l.self) (block_slots l.kind (l.size - l.offset) (slot_after l.first l.offset))
    ≡ with_slots (set_of l.initial.self) (block_slots l.kind l.size l.first)
