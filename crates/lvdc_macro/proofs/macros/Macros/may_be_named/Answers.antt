use Rattle.std.proofs.Common.{true≢false, not, is_some, sym, ap, ◌∙◌}
use Rattle.lvdc_source.specs.Names.{is_name}
use Rattle.lvdc_macro.specs.Macros.{is_reserved}
use Rattle.lvdc_macro.specs.Making.{lines_named}
use Rattle.lvdc_macro.proofs.Naming.{may_be_named-is, is_some-map, both}
use Rattle.lvdc_macro.proofs.macros.Macros.may_be_named.Goals as goal
use Rattle.lvdc_macro.proofs.macros.Macros.may_be_named.Goals.{then-is_name, else-is_name}

pub returns-then-not-is_reserved : goal.returns-then-not-is_reserved
returns-then-not-is_reserved c = λ bytes.
    elim c.if-is_name.branch [
      | then-is_name w ↦
          both c.is_none.result (is_name c.args.name.now) (is_reserved c.args.name.now) (is_some (lines_named c.args.self.now c.args.name.now))
          (sym c.is_name.ensures ∙ w.if-is_name.true)
          (ap not (sym w.is_reserved.ensures) ∙ sym w.value-is ∙ c.if-not-is_reserved.true)
          (sym (ap is_some c.body.ensures) ∙ is_some-map (λ body. body.now) c.body.result ∙ c.is_none.ensures)
          ∙ sym (may_be_named-is bytes c.args.self.now c.args.name.now)
      | else-is_name w ↦ absurd (true≢false (sym c.if-not-is_reserved.true ∙ w.value-is ∙ w.if-is_name.false))
    ]
