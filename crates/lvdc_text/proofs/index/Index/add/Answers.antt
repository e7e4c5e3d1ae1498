use Rattle.std.proofs.Common.{List, ℕ, ◌∷◌, [], ◌++◌, sym, ap, ◌∙◌}
use Rattle.std.specs.Map.{lookup}
use Rattle.std.specs.Str.{bytes_eq}
use Rattle.lvdc_text.proofs.Founds.{lookup-view, finds-more}
use Rattle.lvdc_text.proofs.index.Index.add.Goals as goal

pub invariant_of-self-2 : goal.invariant_of-self-2
invariant_of-self-2 g c = λ name.
    finds-more (λ k. k.items) c.self.inside.entries.items c.self.inside.places.entries c.insert.new.self.entries c.in_ok-key.key c.in_ok-from_slice.field-0 c.args.value
    (c.in_ok-key.ensures.items ∙ sym c.in_ok-from_slice.ensures.items) c.self.invariant
    (ap (λ (n : List ℕ). lookup (λ q. bytes_eq n q.items) c.self.inside.entries.items) c.in_ok-from_slice.ensures.items
    ∙ sym (lookup-view (λ k. k.items) (bytes_eq c.args.name.now) c.self.inside.entries.items)
    ∙ ap (lookup (bytes_eq c.args.name.now)) c.self.view_is ∙ c.requires.new)
    c.in_ok-insert.ensures.entries name
    ∙ ap (lookup (λ q. bytes_eq name q.items))
    (sym (c.push_reserved.ensures.items ∙ ap (λ es. es ++ (c.in_ok-from_slice.field-0, c.args.value) ∷ []) c.in_ok-reserve.ensures.items))
