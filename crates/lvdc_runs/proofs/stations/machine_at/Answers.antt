use Rattle.std.proofs.Common.{sym, subst, ap, ◌∙◌}
use Rattle.lvdc_machine.specs.Calls.{IsFresh}
use Rattle.lvdc_snapshot.specs.Snapshot.{Means}
use Rattle.lvdc_machine.specs.declared.mode.Mode.TheVariants.{Guarded}
use Rattle.lvdc_machine.specs.declared.mode.Pace.TheVariants.{ByStep}
use Rattle.lvdc_snapshot.specs.declared.snapshot.Snapshot.{Snapshot}
use Rattle.lvdc_runs.proofs.Stationed.{stands-late}
use Rattle.lvdc_runs.proofs.stations.machine_at.Goals as goal

pub returns-clause-stands : goal.returns-clause-stands
returns-clause-stands g c = λ p at lines there.
    let machine = c.in_ok-machine.machine in
    let copy = c.in_ok-snapshot.ensures in
    let made = c.in_ok-machine.ensures in
    stands-late p c.args.count c.args.station.now c.args.script machine _ _ c.args.unplugs.items
    c.machines_may_begin_late.ensures.stands c.stations_have_plain_devices.ensures at c.requires.later ByStep
    (subst (λ (s : Snapshot). IsFresh Guarded ByStep c.args.count s.steps machine) copy made.fresh)
    (λ o v script lines banks means devices. made.stands o v script lines (banks ∙ ap (λ (s : Snapshot). s.banks) (sym copy))
    (subst (λ (s : Snapshot). Means s v) (sym copy) means) devices)
    lines there
