use Rattle.std.proofs.Common.{sym, ◌∙◌}
use Rattle.lvdc_deck.proofs.Left.{kind_left-at}
use Rattle.lvdc_deck.proofs.said.Said.kind_left.Goals as goal

pub returns-else-is_unplugged : goal.returns-else-is_unplugged
returns-else-is_unplugged g c =
    kind_left-at (λ b. (goal.PortDevice-dyn g (b.vtable, b.value)).device_of b.value) c.args.devices.now.items c.args.self.now c.args.port c.kind_at.result
    (sym c.is_unplugged.ensures ∙ c.if-is_unplugged.false) c.kind_at.ensures
