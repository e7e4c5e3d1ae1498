use Rattle.std.proofs.Common.{true, false, None, Some, refl, sym, ◌∙◌}
use Rattle.lvdc_runs.specs.Same.{are_same_registers, is_same_end}
use Rattle.lvdc_study.specs.Outcomes.{time_of_difference}
use Rattle.lvdc_study.proofs.Parts.{told}
use Rattle.lvdc_study.proofs.compare.first_difference.Goals as goal

pub returns-then-not-is_same_end : goal.returns-then-not-is_same_end
returns-then-not-is_same_end c = λ o times h g.
    let ends = c.is_same_end.ensures ∙ (λ i. is_same_end (c.ended.ensures i) (c.end.ensures.end i)) in
    told o times c.args.machine.now h (c.through_is_shown.ensures o times c.args.machine.now h) c.args.plain.now g false _ _ _ (sym c.if-not-is_same_end.true ∙ ends) refl refl refl

pub returns-in-Some : goal.returns-in-Some
returns-in-Some c = λ o times h g.
    let ends = c.is_same_end.ensures ∙ (λ i. is_same_end (c.ended.ensures i) (c.end.ensures.end i)) in
    let time = c.time_of_difference.ensures ∙ (λ i. time_of_difference (c.log.ensures.log i) (c.log-2.ensures.log i)) in
    told o times c.args.machine.now h (c.through_is_shown.ensures o times c.args.machine.now h) c.args.plain.now g true (Some c.in-Some.time) _ _ (sym c.if-not-is_same_end.false ∙ ends) (sym c.in-Some.is ∙ time) refl refl

pub returns-then-not-are_same_registers : goal.returns-then-not-are_same_registers
returns-then-not-are_same_registers c = λ o times h g.
    let ends = c.is_same_end.ensures ∙ (λ i. is_same_end (c.ended.ensures i) (c.end.ensures.end i)) in
    let time = c.time_of_difference.ensures ∙ (λ i. time_of_difference (c.log.ensures.log i) (c.log-2.ensures.log i)) in
    let registers = c.are_same_registers.ensures ∙ (λ i. are_same_registers (c.visible.ensures.registers i) (c.visible-2.ensures i)) in
    told o times c.args.machine.now h (c.through_is_shown.ensures o times c.args.machine.now h) c.args.plain.now g true None false _ (sym c.if-not-is_same_end.false ∙ ends) (sym c.in-None.is ∙ time)
    (sym c.if-not-are_same_registers.true ∙ registers) refl

pub returns-in-Some-address_of_difference : goal.returns-in-Some-address_of_difference
returns-in-Some-address_of_difference c = λ o times h g.
    let ends = c.is_same_end.ensures ∙ (λ i. is_same_end (c.ended.ensures i) (c.end.ensures.end i)) in
    let time = c.time_of_difference.ensures ∙ (λ i. time_of_difference (c.log.ensures.log i) (c.log-2.ensures.log i)) in
    let registers = c.are_same_registers.ensures ∙ (λ i. are_same_registers (c.visible.ensures.registers i) (c.visible-2.ensures i)) in
    told o times c.args.machine.now h (c.through_is_shown.ensures o times c.args.machine.now h) c.args.plain.now g true None true (Some c.in-Some-address_of_difference.at) (sym c.if-not-is_same_end.false ∙ ends)
    (sym c.in-None.is ∙ time) (sym c.if-not-are_same_registers.false ∙ registers) (sym c.in-Some-address_of_difference.is ∙ c.address_of_difference.ensures o times h g)

pub returns-in-None-address_of_difference : goal.returns-in-None-address_of_difference
returns-in-None-address_of_difference c = λ o times h g.
    let ends = c.is_same_end.ensures ∙ (λ i. is_same_end (c.ended.ensures i) (c.end.ensures.end i)) in
    let time = c.time_of_difference.ensures ∙ (λ i. time_of_difference (c.log.ensures.log i) (c.log-2.ensures.log i)) in
    let registers = c.are_same_registers.ensures ∙ (λ i. are_same_registers (c.visible.ensures.registers i) (c.visible-2.ensures i)) in
    told o times c.args.machine.now h (c.through_is_shown.ensures o times c.args.machine.now h) c.args.plain.now g true None true None (sym c.if-not-is_same_end.false ∙ ends)
    (sym c.in-None.is ∙ time) (sym c.if-not-are_same_registers.false ∙ registers) (sym c.in-None-address_of_difference.is ∙ c.address_of_difference.ensures o times h g)
