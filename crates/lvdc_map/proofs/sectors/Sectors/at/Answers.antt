-- What stands in the page of the sector.
use Rattle.std.proofs.Common.{◌≡◌, ℕ, ◌<◌, length, subst, get_or, ap, sym, ◌∙◌}
use Rattle.std.proofs.lemmas.List.{get_or_read}
use Rattle.lvdc_map.proofs.Paging.{value-there, stands-within}
use Rattle.lvdc_map.proofs.sectors.Sectors.at.Goals as goal

pub returns : goal.returns
returns g c = record {
  value = λ d.
      let inside = c.self.inside in
      let read : c.index.result.now ≡ get_or inside.items.items c.stands.result d =
      get_or_read inside.items.items c.stands.result c.index.result.now (subst (λ (at : ℕ). at < length inside.items.items) (sym c.stands.ensures)
      (stands-within inside.blank inside.pages inside.items.items c.args.place c.requires c.self.invariant.0)) c.index.ensures d in
      read ∙ ap (λ (at : ℕ). get_or inside.items.items at d) c.stands.ensures
      ∙ sym (value-there inside.blank inside.pages inside.items.items c.args.place d c.requires c.self.invariant.0)
      ∙ ap (λ s. get_or s.items c.args.place d) c.self.view_is;
}
