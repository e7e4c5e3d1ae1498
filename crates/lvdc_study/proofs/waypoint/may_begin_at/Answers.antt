use Rattle.std.proofs.Common.{◌*◌, ◌≤◌, IfSome, IsSomeAnd, List, slice_get, subst}
use Rattle.lvdc_laws_runs.specs.Early.{AllBeginFrom}
use Rattle.lvdc_snapshot.specs.declared.snapshot.Snapshot.{Snapshot}
use Rattle.lvdc_study.proofs.Waypointed.{found-one}
use Rattle.lvdc_study.proofs.waypoint.may_begin_at.Goals as goal

pub returns : goal.returns
returns c = λ told.
    let one = c.from_ref.ensures.value in
    let found = c.station_before.ensures in
    let s = c.args.waypoint.now.snapshot in (
      found-one (λ (w : Snapshot). AllBeginFrom w.steps c.args.script.now) s c.station_before.result c.is_some.result c.is_some.ensures told
          (subst (λ (all : List Snapshot). IfSome c.station_before.result (λ at. IsSomeAnd (slice_get all at) (λ w. AllBeginFrom w.steps c.args.script.now))) one found.begins),
      found-one (λ (w : Snapshot). w.steps ≤ 3 * c.args.times) s c.station_before.result c.is_some.result c.is_some.ensures told
          (subst (λ (all : List Snapshot). IfSome c.station_before.result (λ at. IsSomeAnd (slice_get all at) (λ w. w.steps ≤ 3 * c.args.times))) one found.ahead),
    )
