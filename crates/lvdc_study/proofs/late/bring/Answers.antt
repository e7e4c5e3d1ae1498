use Rattle.std.proofs.Common.{ℕ, ◌/◌, ◌==◌, map, sym, ap, ◌∙◌}
use Rattle.lvdc_study.proofs.Alone.{stay-none}
use Rattle.lvdc_study.proofs.Making.{is-nil}
use Rattle.lvdc_study.proofs.late.bring.Goals as goal

pub returns-then-is_empty-clause-brought : goal.returns-then-is_empty-clause-brought
returns-then-is_empty-clause-brought g c =
    let devices = c.args.devices.now in
    let none = ap (λ (n : ℕ). n == 0) (sym devices.ok.0) ∙ sym c.is_empty.ensures ∙ c.if-is_empty.true in
    stay-none c.args.program.now (c.args.station.now.steps / 3) _ (ap (map _) (is-nil devices.items none))
