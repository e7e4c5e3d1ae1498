use Rattle.std.proofs.Common.{Bool, ◌&&◌, [], ◌∷◌, ap, ◌∙◌}
use Rattle.std.specs.Prelude.{is_none}
use Rattle.std.specs.List.{list_all}
use Rattle.lvdc_withstands.specs.Form.{is_met}
use Rattle.lvdc_withstands.specs.declared.condition.Condition.TheVariants.{Pairs, Places, Deaths}
use Rattle.lvdc_withstands.proofs.Told.{none-unmet}
use Rattle.lvdc_withstands.proofs.form.first_unmet.Goals as goal

pub returns-then-has_one_wrong-clause-none : goal.returns-then-has_one_wrong-clause-none
returns-then-has_one_wrong-clause-none c =
    let script = c.args.script.now in
    let met = is_met script c.args.banks c.args.count in
    let on_memory = Pairs ∷ Places ∷ Deaths ∷ [] in
    ap is_none (c.in_ok-on_memory.ensures script (c.deref.ensures.value ∙ c.in_ok-lines.ensures)) ∙ none-unmet met on_memory
    ∙ ap (λ (copies : Bool). copies && list_all met on_memory) (c.if-has_one_wrong.ensures script c.args.count c.in_ok-lines.ensures)
