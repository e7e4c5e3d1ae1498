use Rattle.std.proofs.Common.{sym, ap, subst, ◌∙◌}
use Rattle.std.proofs.lemmas.Result.{IfOk-weaker}
use Rattle.lvdc_snapshot.specs.Snapshot.{Means}
use Rattle.lvdc_snapshot.specs.declared.snapshot.Snapshot.{Snapshot}
use Rattle.lvdc_study.proofs.replay.machine_from.Goals as goal

pub returns-clause-stands : goal.returns-clause-stands
returns-clause-stands g c =
    let copy = c.in_ok-snapshot.ensures in
    let lines = c.in_ok-unplugs.ensures.items in
    IfOk-weaker c.from_snapshot.result _ _
    (λ machine made o v script unplugs banks means devices.
    made o v script (unplugs ∙ sym lines) (banks ∙ ap (λ (s : Snapshot). s.banks) (sym copy)) (subst (λ (s : Snapshot). Means s v) (sym copy) means) devices)
    c.from_snapshot.ensures.stands
