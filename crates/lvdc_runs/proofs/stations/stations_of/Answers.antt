use Rattle.std.proofs.Common.{List, ℕ, All, arith, refl, subst, sym, ◌∙◌}
use Rattle.std.proofs.lemmas.List.Elements.{All-push}
use Rattle.lvdc_snapshot.specs.declared.snapshot.Snapshot.{Snapshot}
use Rattle.lvdc_runs.specs.Stations.{IsStation}
use Rattle.lvdc_runs.proofs.stations.stations_of.Goals as goal

pub loop-preserved : goal.loop-preserved
loop-preserved g c =
    let on = c.in_ok-station.ensures in
    let before = c.loop.invariant in
    let made = on.steps (rw c.in-Some.is refl) in
    record {
      fault_free = record {
        program = before.fault_free.program;
        under_way = on.under_way before.fault_free.program before.fault_free.under_way (rw c.in-Some.is refl);
      };
      steps = omega (arith, made, before.steps);
      limit = on.keeps.limit ∙ before.limit;
      within = omega (arith, before.within, c.if-count-times.false);
      fit = on.fit;
      under_way = λ p h. on.under_way p (before.under_way p h) (rw c.in-Some.is refl);
      kept = λ p h.
          let Kept = IsStation p c.args.count in
          subst (All Kept) (sym {A = List Snapshot} c.in_ok-push-in-Some.ensures.items)
          (All-push Kept c.loop.stations.items c.in-Some.station (before.kept p h)
          (subst (λ (n : ℕ). IsStation p n c.in-Some.station) before.limit (rw c.in-Some.is at (on.station p (before.under_way p h)))));
    }
