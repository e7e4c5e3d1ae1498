use Rattle.std.proofs.Common.{Bool, true, List, ap, ◌∙◌}
use Rattle.std.proofs.Math.ListN.{set}
use Rattle.lvdc_place.specs.Slots.{set_of, with_slot}
use Rattle.lvdc_place.proofs.Tables.{set_of-set}
use Rattle.lvdc_place.proofs.taken.Taken.take.Goals as goal

pub returns : goal.returns
returns c =
    ap (λ n. set_of (set c.self.inside.bits.items n true)) c.number.ensures.value
    ∙ set_of-set c.self.inside.bits.items c.args.slot c.self.invariant c.number.ensures.slot
    ∙ ap (λ (bits : List Bool). with_slot (set_of bits) c.args.slot) c.self.view_is
