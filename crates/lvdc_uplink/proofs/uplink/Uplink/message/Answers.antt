use Rattle.std.proofs.Common.{Result, Ok, Err}
use Rattle.std.specs.Prelude.{IfOk}
use Rattle.lvdc_uplink.proofs.AsHeard.{heard-then, held-then, again-then, refused-then}
use Rattle.lvdc_uplink.proofs.uplink.Uplink.message.Goals as goal

-- what follows of an answer
then : {A E : Type 0} {P Q : A → Type 0} (result : Result A E) → ((a : A) → P a → Q a) → IfOk result P → IfOk result Q
then (Ok a) f is = f a is
then (Err e) f is = tt

pub returns-clause-step : goal.returns-clause-step
returns-clause-step c = c.answer.ensures.step

pub returns-clause-heard : goal.returns-clause-heard
returns-clause-heard c =
    then c.answer.result (λ answer is. heard-then c.args.self.now c.answer.new.self c.args.text.now answer is) c.answer.ensures.step

pub returns-clause-held : goal.returns-clause-held
returns-clause-held c =
    then c.answer.result (λ answer is. held-then c.args.self.now c.answer.new.self c.args.text.now answer is) c.answer.ensures.step

pub returns-clause-again : goal.returns-clause-again
returns-clause-again c =
    then c.answer.result (λ answer is. again-then c.args.self.now c.answer.new.self c.args.text.now answer is c.repeated_changes_nothing.ensures.link) c.answer.ensures.step

pub returns-clause-refused : goal.returns-clause-refused
returns-clause-refused c =
    then c.answer.result (λ answer is. refused-then c.args.self.now c.answer.new.self c.args.text.now answer is c.refused_changes_nothing.ensures) c.answer.ensures.step

pub returns-clause-unchanged : goal.returns-clause-unchanged
returns-clause-unchanged c = c.answer.ensures.unchanged

pub returns-clause-no_memory : goal.returns-clause-no_memory
returns-clause-no_memory c = c.answer.ensures.no_memory
