use Rattle.std.proofs.Common.{◌≢◌, sym, ap, ◌∙◌}
use Rattle.std.proofs.lemmas.Bool.{true≢false}
use Rattle.lvdc_fault.specs.declared.verdict.Verdict.TheVariants.{Admissible}
use Rattle.lvdc_runs.specs.Ran.{verdict_in}
use Rattle.lvdc_runs.proofs.Onward.{may-go-on, refused-all}
use Rattle.lvdc_study.specs.declared.row.Row.{Row}
use Rattle.lvdc_study.proofs.Rowing.{admissible-row, idle-row, through-row, rejoined-row, form-admits}
use Rattle.lvdc_study.proofs.Making.{failed-since}
use Rattle.lvdc_study.proofs.study.study_script.Goals as goal

pub returns-then-times-eq0-clause-row : goal.returns-then-times-eq0-clause-row
returns-then-times-eq0-clause-row g c =
    c.idle_row.ensures
    ∙ idle-row c.args.program.now _ c.args.named c.in_ok-masks.masks c.window_of-times.result c.if-times-eq0.true c.window_of-times.ensures
    c.in_ok-opens_with_words.ensures c.in_ok-masks.ensures c.admissible_comes_to_the_same.ensures c.window_tells_all.ensures

pub returns-then-is_admissible-clause-row : goal.returns-then-is_admissible-clause-row
returns-then-is_admissible-clause-row g c =
    c.row_with.ensures
    ∙ admissible-row c.args.program.now _ c.args.named c.in_ok-machine.machine c.window_of-times.result c.window_of-times.ensures c.in_ok-machine.ensures.judged.run
    c.verdict_of-verdict.result c.verdict_of-verdict.ensures.first c.in_ok-masks.masks c.in_ok-masks.ensures
    (c.is_admissible.ensures.0 c.if-is_admissible.true) c.admissible_comes_to_the_same.ensures c.window_tells_all.ensures c.judged_goes_through.ensures

pub returns-clause-row : goal.returns-clause-row
returns-clause-row g c =
    let bad : verdict_in c.in_ok-machine.machine.end ≢ Admissible =
    λ good. true≢false (sym (c.is_admissible.ensures.1 (c.verdict_of-verdict.ensures.end ∙ good)) ∙ c.if-is_admissible.false) in
    let judged = refused-all _ c.window_of-times.result c.args.program.now.count c.in_ok-machine.machine _ c.window_of-times.ensures.within c.in_ok-machine.ensures.judged bad in
    c.row_with-2.ensures
    ∙ through-row c.args.program.now _ c.args.named c.in_ok-machine.machine judged.run c.verdict_of-verdict.result c.verdict_of-verdict.ensures.first
    c.in_ok-masks.masks c.in_ok-masks.ensures c.go_through.new.machine (c.in-Ok-false.ensures.run c.in-Ok-false.field-0-test _ _ judged) c.through_is_shown.ensures
    c.args.plain.now c.requires.plain c.first_difference-difference.result c.first_difference-difference.ensures

pub returns-clause-form : goal.returns-clause-form
returns-clause-form g c = λ form.
    let bad : verdict_in c.in_ok-machine.machine.end ≢ Admissible =
    λ good. true≢false (sym (c.is_admissible.ensures.1 (c.verdict_of-verdict.ensures.end ∙ good)) ∙ c.if-is_admissible.false) in
    let judged = refused-all _ c.window_of-times.result c.args.program.now.count c.in_ok-machine.machine _ c.window_of-times.ensures.within c.in_ok-machine.ensures.judged bad in
    ap (λ (row : Row). row.verdict) c.row_with-2.ensures
    ∙ form-admits c.args.program.now _ c.args.named c.in_ok-machine.machine judged.run c.verdict_of-verdict.result c.verdict_of-verdict.ensures.first
    c.in_ok-masks.masks c.in_ok-masks.ensures c.form_masks.ensures (sym (ap (λ (row : Row). row.masks) c.row_with-2.ensures) ∙ form)

pub first_difference-difference-requires : goal.first_difference-difference-requires
first_difference-difference-requires g c =
    let bad : verdict_in c.in_ok-machine.machine.end ≢ Admissible =
    λ good. true≢false (sym (c.is_admissible.ensures.1 (c.verdict_of-verdict.ensures.end ∙ good)) ∙ c.if-is_admissible.false) in
    let judged = refused-all _ c.window_of-times.result c.args.program.now.count c.in_ok-machine.machine _ c.window_of-times.ensures.within c.in_ok-machine.ensures.judged bad in
    (c.in-Ok-false.ensures.run c.in-Ok-false.field-0-test _ _ judged).banks ∙ sym c.requires.plain.banks

pub returns-in-Err-clause-failed : goal.returns-in-Err-clause-failed
returns-in-Err-clause-failed g c =
    failed-since (λ b. (goal.PortDevice-dyn g (b.vtable, b.value)).device_of b.value) (λ b. (goal.PortDevice-dyn g (b.vtable, b.value)).faults b.value)
    c.args.devices.now.items c.run_near.new.devices.items c.go_through.new.devices.items c.in_ok-machine.ensures.since c.go_through.ensures.left c.in-Err.e c.in-Err.ensures.failed

pub returns-in-Err-clause-fails : goal.returns-in-Err-clause-fails
returns-in-Err-clause-fails g c =
    let bad : verdict_in c.in_ok-machine.machine.end ≢ Admissible =
    λ good. true≢false (sym (c.is_admissible.ensures.1 (c.verdict_of-verdict.ensures.end ∙ good)) ∙ c.if-is_admissible.false) in
    c.in-Err.ensures.fails _ _
    (refused-all _ c.window_of-times.result c.args.program.now.count c.in_ok-machine.machine _ c.window_of-times.ensures.within c.in_ok-machine.ensures.judged bad)

pub go_through-requires-clause-refused : goal.go_through-requires-clause-refused
go_through-requires-clause-refused g c =
    let bad : verdict_in c.in_ok-machine.machine.end ≢ Admissible =
    λ good. true≢false (sym (c.is_admissible.ensures.1 (c.verdict_of-verdict.ensures.end ∙ good)) ∙ c.if-is_admissible.false) in
    may-go-on _ c.args.program.now.count c.in_ok-machine.machine _
    (refused-all _ c.window_of-times.result c.args.program.now.count c.in_ok-machine.machine _ c.window_of-times.ensures.within c.in_ok-machine.ensures.judged bad) bad

pub returns-in-Ok-true-clause-row : goal.returns-in-Ok-true-clause-row
returns-in-Ok-true-clause-row g c =
    let bad : verdict_in c.in_ok-machine.machine.end ≢ Admissible =
    λ good. true≢false (sym (c.is_admissible.ensures.1 (c.verdict_of-verdict.ensures.end ∙ good)) ∙ c.if-is_admissible.false) in
    let judged = refused-all _ c.window_of-times.result c.args.program.now.count c.in_ok-machine.machine _ c.window_of-times.ensures.within c.in_ok-machine.ensures.judged bad in
    c.row_with-in-Ok-true.ensures
    ∙ rejoined-row c.args.program.now _ c.args.named c.in_ok-machine.machine judged.run c.verdict_of-verdict.result c.verdict_of-verdict.ensures.first
    c.in_ok-masks.masks c.in_ok-masks.ensures c.go_through.new.machine
    (c.in-Ok-true.ensures.rejoined c.in-Ok-true.field-0-test _ _ _ c.requires.waypoints c.requires.plain c.requires.script.events c.times_to_the_last-over.ensures judged)

pub returns-in-Ok-true-clause-form : goal.returns-in-Ok-true-clause-form
returns-in-Ok-true-clause-form g c = λ form.
    let bad : verdict_in c.in_ok-machine.machine.end ≢ Admissible =
    λ good. true≢false (sym (c.is_admissible.ensures.1 (c.verdict_of-verdict.ensures.end ∙ good)) ∙ c.if-is_admissible.false) in
    let judged = refused-all _ c.window_of-times.result c.args.program.now.count c.in_ok-machine.machine _ c.window_of-times.ensures.within c.in_ok-machine.ensures.judged bad in
    ap (λ (row : Row). row.verdict) c.row_with-in-Ok-true.ensures
    ∙ form-admits c.args.program.now _ c.args.named c.in_ok-machine.machine judged.run c.verdict_of-verdict.result c.verdict_of-verdict.ensures.first
    c.in_ok-masks.masks c.in_ok-masks.ensures c.form_masks.ensures (sym (ap (λ (row : Row). row.masks) c.row_with-in-Ok-true.ensures) ∙ form)
