use Rattle.std.proofs.Common.{ℕ, ◌∙◌, ap, ◌++◌, sym}
use Rattle.std.specs.declared.option.Option.TheVariants.{Some}
use Rattle.lvdc_trace.specs.Steps.{step_text}
use Rattle.lvdc_trace.proofs.Making.{told-last, told-block}
use Rattle.lvdc_trace.proofs.Onward.{goes_call}
use Rattle.lvdc_trace.proofs.step.put_next.Goals as goal

pub returns-in-None-clause-goes : goal.returns-in-None-clause-goes
returns-in-None-clause-goes g c =
    goes_call (λ b. (goal.PortDevice-dyn g (b.vtable, b.value)).device_of b.value) (λ b. (goal.PortDevice-dyn g (b.vtable, b.value)).spare b.value) (λ b. (goal.PortDevice-dyn g (b.vtable, b.value)).faults b.value)
    1 _ c.args.machine.now c.told_phase-told.new.self c.args.devices.now.items c.told_phase-told.new.devices.items
    c.told_phase-told.ensures.steps.stands c.told_phase-told.ensures.steps.answers c.told_phase-told.ensures.steps.leaves

pub returns-in_err-put_step-in-Some-clause-goes : goal.returns-in_err-put_step-in-Some-clause-goes
returns-in_err-put_step-in-Some-clause-goes g c =
    goes_call (λ b. (goal.PortDevice-dyn g (b.vtable, b.value)).device_of b.value) (λ b. (goal.PortDevice-dyn g (b.vtable, b.value)).spare b.value) (λ b. (goal.PortDevice-dyn g (b.vtable, b.value)).faults b.value)
    1 _ c.args.machine.now c.told_phase-told.new.self c.args.devices.now.items c.told_phase-told.new.devices.items
    c.told_phase-told.ensures.steps.stands c.told_phase-told.ensures.steps.answers c.told_phase-told.ensures.steps.leaves

pub returns-in_ok-put_step-in-Some-clause-goes : goal.returns-in_ok-put_step-in-Some-clause-goes
returns-in_ok-put_step-in-Some-clause-goes g c =
    goes_call (λ b. (goal.PortDevice-dyn g (b.vtable, b.value)).device_of b.value) (λ b. (goal.PortDevice-dyn g (b.vtable, b.value)).spare b.value) (λ b. (goal.PortDevice-dyn g (b.vtable, b.value)).faults b.value)
    1 _ c.args.machine.now c.told_phase-told.new.self c.args.devices.now.items c.told_phase-told.new.devices.items
    c.told_phase-told.ensures.steps.stands c.told_phase-told.ensures.steps.answers c.told_phase-told.ensures.steps.leaves

pub returns-in_ok-put_step-in-Some-clause-text : goal.returns-in_ok-put_step-in-Some-clause-text
returns-in_ok-put_step-in-Some-clause-text g c = λ o v n s.
    let m = c.args.machine.now in
    let after = c.told_phase-told.new.self in
    let told = c.told_phase-told.ensures in
    let keeps = told.steps.leaves.keeps.mode in
    let t = told.steps.stands o v n s in
    let is = sym (told.told o v n s) ∙ c.in-Some.is in
    let last = told-last c.args.first o v n m after _ _ c.in-Some.made s t keeps is ∙ ap (λ (k : ℕ). Some k) (sym c.steps-step.ensures) in
    c.in_ok-put_step-in-Some.ensures.text m.copies last c.of-before.ensures
    ∙ ap (λ (k : ℕ). c.args.out.now.items ++ step_text c.args.first after.script k c.in-Some.made m.copies after.copies) c.steps-step.ensures
    ∙ ap (λ x. c.args.out.now.items ++ x) (told-block c.args.first o v n m after _ _ c.in-Some.made s t keeps is)
