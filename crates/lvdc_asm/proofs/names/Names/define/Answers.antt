use Rattle.std.proofs.Common.{◌++◌, refl, sym, ◌∙◌, ap, List, ℕ}
use Rattle.std.specs.Map.{keys_of}
use Rattle.lvdc_asm.specs.Names.{entry_of, is_among}
use Rattle.lvdc_asm.specs.declared.names.Definition.{Definition}
use Rattle.lvdc_asm.proofs.Naming.{entry_of-some, is_among-found}
use Rattle.lvdc_asm.proofs.names.Names.define.Goals as goal

pub returns-clause-added : goal.returns-clause-added
returns-clause-added c =
    c.in_ok-add.ensures.added
    ∙ ap (λ entry. c.self.inside.table ++ entry) (entry_of-some c.args.label.now c.args.definition (sym c.is_empty.ensures ∙ c.if-is_empty.false))
    ∙ ap (λ (names : List (List ℕ × Definition)). names ++ entry_of c.args.label.now c.args.definition) c.self.view_is

pub returns-clause-new : goal.returns-clause-new
returns-clause-new c =
    ap (λ (names : List (List ℕ × Definition)). is_among (keys_of names) c.args.label.now) (sym c.self.view_is)
    ∙ is_among-found c.self.inside.table c.args.label.now c.get.result (sym c.is_empty.ensures ∙ c.if-is_empty.false) c.get.ensures
    ∙ sym c.is_some.ensures ∙ c.if-is_some.false

pub returns-then-is_some-clause-refusal : goal.returns-then-is_some-clause-refusal
returns-then-is_some-clause-refusal c = λ _. (
  refl,
  ap (λ (names : List (List ℕ × Definition)). is_among (keys_of names) c.args.label.now) (sym c.self.view_is)
      ∙ is_among-found c.self.inside.table c.args.label.now c.get.result (sym c.is_empty.ensures ∙ c.if-is_empty.false) c.get.ensures
      ∙ sym c.is_some.ensures ∙ c.if-is_some.true,
)
