-- One more location.
use Rattle.std.proofs.Common.{◌+◌, ◌-◌, ap, ◌∙◌}
use Rattle.lvdc_place.specs.Slot.{Slot, slot_after}
use Rattle.lvdc_place.specs.Slots.{Slots, set_of, with_slots, slots_at, block_slots}
use Rattle.lvdc_place.proofs.Runs.{with_slots-more}
use Rattle.lvdc_place.proofs.taken.Taken.take_block.Goals as goal

pub loop-offset-preserved : goal.loop-offset-preserved
loop-offset-preserved c =
    let kind = c.args.kind.now in
    let first = c.args.first in
    let size = c.args.size in
    let offset = c.loop-offset.offset in
    let taken = set_of c.loop-offset.self in
    let left = block_slots kind (size - (offset + 1)) (slot_after first (offset + 1)) in
    ap (λ (now : Slots). with_slots now left) c.take_location.ensures
    ∙ ap (λ (slot : Slot). with_slots (with_slots taken (slots_at kind slot)) left) c.onward.ensures
    ∙ with_slots-more taken kind size offset first c.loop-offset-test.true
    ∙ c.loop-offset.invariant
