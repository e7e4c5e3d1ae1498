use Rattle.std.proofs.Common.{ℕ, List, false, map, refl, sym, ap, ◌∙◌}
use Rattle.std.proofs.lemmas.Result.{IfOk-weaker}
use Rattle.std.specs.declared.option.Option.TheVariants.{None}
use Rattle.lvdc_snapshot.specs.Snapshot.{meant}
use Rattle.lvdc_runs.specs.Scripts.{trial_under}
use Rattle.lvdc_study.specs.Study.{opening_over, row_with}
use Rattle.lvdc_study.proofs.Rowing.{misled-row}
use Rattle.lvdc_study.proofs.Saying.{fresh-replays}
use Rattle.lvdc_study.proofs.Waypointed.{means-over, some-weaker, by-ok, ok-both}
use Rattle.lvdc_study.proofs.misled.row_misled.Goals as goal

pub row_rejoined-requires-clause-replay : goal.row_rejoined-requires-clause-replay
row_rejoined-requires-clause-replay g c =
    let from = c.args.from.now in
    let program = c.args.program.now in
    let devices = map (λ b. (goal.PortDevice-dyn g (b.vtable, b.value)).device_of b.value) c.machine_from.new.devices.items in
    let o =
    trial_under (record { image = program.image.now; banks = from.snapshot.banks; start = program.start; unplugs = program.unplugs.now; devices = devices })
    c.in_ok-script.script in
    ok-both c.machine_from.result _ _ _
    (λ machine stands fresh. record {
      trial = o;
      first = meant from.snapshot devices;
      n = 0;
      replays =
          fresh-replays o (meant from.snapshot devices) machine devices c.in-Some.times from.snapshot.steps refl
          (stands o (meant from.snapshot devices) refl refl refl (c.resumed_goes_on.ensures.meant from.snapshot devices) c.machine_from.ensures.devices) fresh;
    })
    c.machine_from.ensures.stands c.machine_from.ensures.fresh

pub returns : goal.returns
returns g c =
    let program = c.args.program.now in
    let named = c.args.named.now in
    let from = c.args.from.now in
    let devices = map (λ b. (goal.PortDevice-dyn g (b.vtable, b.value)).device_of b.value) c.machine_from.new.devices.items in
    let name = c.from_vec.ensures ∙ c.in_ok-name.ensures.items ∙ c.items.ensures in
    IfOk-weaker c.row_rejoined.result _ _
    (λ told h. some-weaker told _ _
    (λ row is first ran all at later form.
    let p = opening_over program first in
    let o = trial_under p named.script in
    let state = record at.state { devices = devices } in
    by-ok c.machine_from.result _ _ _
    (λ machine tells begins.
    let told = tells p named.script program.count at all ran c.requires.script.events later c.times_to_the_last-over.ensures
    (fresh-replays o state machine devices c.in-Some.times from.snapshot.steps at.means.end
    (begins.0 o state (sym c.in_ok-script.ensures) refl (sym at.banks) (means-over from.snapshot at.state devices at.means) c.machine_from.ensures.devices) begins.1) in
    told.told
    ∙ ap (λ (name : List ℕ). row_with name told.said None told.machine.counts told.machine.repairs false) name
    ∙ misled-row program first named told.said told.machine form told.tells)
    is (ok-both c.machine_from.result _ _ (λ machine. _ × _) (λ machine stands fresh. (stands, fresh)) c.machine_from.ensures.stands c.machine_from.ensures.fresh)) h)
    c.row_rejoined.ensures
