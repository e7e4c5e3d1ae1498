use Rattle.std.proofs.Common.{◌≡◌, Option, true, refl, sym, subst, ◌∙◌}
use Rattle.std.specs.Prelude.{◌⊎◌, IfOk, OnErr}
use Rattle.lvdc_uplink.specs.Link.{by_message, is_opening, is_applying}
use Rattle.lvdc_uplink.specs.declared.answer.Answer.TheVariants.{Form}
use Rattle.lvdc_uplink.specs.declared.message.Message.{Message}
use Rattle.lvdc_uplink.proofs.uplink.Uplink.answer.Goals as goal

pub returns-in-Some-clause-step : goal.returns-in-Some-clause-step
returns-in-Some-clause-step c =
    subst (λ (message : Option Message). IfOk c.take.result (λ answer. by_message c.args.self.now message ≡ record { answer = answer; link = c.take.new.self }))
    (sym c.in-Some.is ∙ c.message_of.ensures.message) c.take.ensures.step

pub returns-in-Some-clause-unchanged : goal.returns-in-Some-clause-unchanged
returns-in-Some-clause-unchanged c = c.take.ensures.unchanged

pub returns-in-Some-clause-no_memory : goal.returns-in-Some-clause-no_memory
returns-in-Some-clause-no_memory c =
    subst (λ (message : Option Message). OnErr c.take.result ((is_opening c.args.self.now (by_message c.args.self.now message) ≡ true)
    ⊎ (is_applying c.args.self.now (by_message c.args.self.now message) ≡ true)))
    (sym c.in-Some.is ∙ c.message_of.ensures.message) c.take.ensures.no_memory

pub returns-in-None-clause-step : goal.returns-in-None-clause-step
returns-in-None-clause-step c =
    subst (λ (message : Option Message). by_message c.args.self.now message ≡ record { answer = Form; link = c.args.self.now })
    (sym c.in-None.is ∙ c.message_of.ensures.message) refl
