use Rattle.std.proofs.Common.{List, ℕ, ap, ◌∙◌}
use Rattle.std.specs.Map.{lookup}
use Rattle.std.specs.Str.{bytes_eq}
use Rattle.lvdc_campaign_deck.specs.Scripts.{is_taken}
use Rattle.lvdc_campaign_deck.proofs.Steps.{none-taken}
use Rattle.lvdc_campaign_deck.proofs.by_name.ByName.add.Goals as goal

pub add-requires : goal.add-requires
add-requires c =
    let name = c.args.script.name in
    let new = none-taken name c.self.inside.names c.self.inside.scripts.items c.self.invariant (ap (is_taken name) c.self.view_is ∙ c.requires.new) in
    record { new = ap (λ (n : List ℕ). lookup (bytes_eq n) c.self.inside.names) c.items.ensures ∙ new }
