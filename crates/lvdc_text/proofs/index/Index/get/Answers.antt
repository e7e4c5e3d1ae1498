use Rattle.std.proofs.Common.{sym, ap, ◌∙◌}
use Rattle.std.specs.Map.{lookup}
use Rattle.std.specs.Str.{bytes_eq}
use Rattle.lvdc_text.proofs.Founds.{lookup-view, lookup-compared}
use Rattle.lvdc_text.proofs.index.Index.get.Goals as goal

pub returns : goal.returns
returns g c =
    c.copied.ensures ∙ c.get.ensures.value ∙ lookup-compared (λ k. k.items) c.args.name.now c.self.inside.places.entries
    ∙ c.self.invariant c.args.name.now ∙ sym (lookup-view (λ k. k.items) (bytes_eq c.args.name.now) c.self.inside.entries.items)
    ∙ ap (lookup (bytes_eq c.args.name.now)) c.self.view_is
