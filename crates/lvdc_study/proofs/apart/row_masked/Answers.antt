use Rattle.std.proofs.Common.{ℕ, List, true, map, refl, sym, ap, ◌∙◌}
use Rattle.std.proofs.lemmas.Result.{IfOk-weaker}
use Rattle.std.specs.declared.option.Option.TheVariants.{None}
use Rattle.lvdc_fault.specs.declared.verdict.Verdict.TheVariants.{Admissible}
use Rattle.lvdc_runs.specs.Scripts.{trial_under}
use Rattle.lvdc_study.specs.Study.{opening_over, row_with}
use Rattle.lvdc_study.proofs.Rowing.{replayed-row}
use Rattle.lvdc_study.proofs.Waypointed.{means-over, some-weaker, by-ok}
use Rattle.lvdc_study.proofs.apart.row_masked.Goals as goal

pub returns : goal.returns
returns g c =
    let program = c.args.program.now in
    let named = c.args.named.now in
    let from = c.args.from.now in
    let times = c.args.times in
    let window = c.requires.window in
    let devices = map (λ b. (goal.PortDevice-dyn g (b.vtable, b.value)).device_of b.value) c.machine_from.new.devices.items in
    let name = c.from_vec.ensures ∙ c.in_ok-name.ensures.items ∙ c.items.ensures in
    IfOk-weaker c.row_along.result _ _
    (λ told h. some-weaker told _ _
    (λ row is first ran at begins form.
    let p = opening_over program first in
    let o = trial_under p named.script in
    let whole = (c.form_masks.ensures o program.count at.opening form).verdict in
    let good = c.replayed_counts.ensures.early o times program.count window.within whole in
    let state = record at.state { devices = devices } in
    by-ok c.machine_from.result _ _ _
    (λ machine tells stands.
    let told = tells p named.script program.count at window.within ran begins good
    (stands o state (sym c.in_ok-script.ensures) refl (sym at.banks) (means-over from.snapshot at.state devices at.means) c.machine_from.ensures.devices) in
    told.told
    ∙ ap (λ (name : List ℕ). row_with name Admissible None told.machine.counts told.machine.repairs true) name
    ∙ replayed-row program first named told.machine times from.lines window at.opening form told.replayed
    c.admissible_comes_to_the_same.ensures c.form_masks.ensures c.window_tells_all.ensures c.replayed_counts.ensures.counts c.replayed_counts.ensures.early)
    is c.machine_from.ensures.stands) h)
    c.row_along.ensures
