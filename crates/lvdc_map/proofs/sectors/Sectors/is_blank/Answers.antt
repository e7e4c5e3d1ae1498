-- The sector has no page of its own.
use Rattle.std.proofs.Common.{◌≡◌, ℕ, get_or, ap, sym, ◌∙◌}
use Rattle.std.proofs.lemmas.Bool.{eqb-true}
use Rattle.lvdc_map.proofs.Paging.{blank-there}
use Rattle.lvdc_map.proofs.sectors.Sectors.is_blank.Goals as goal

pub returns : goal.returns
returns g c untouched place d small sector =
    let inside = c.self.inside in
    let none : get_or inside.pages c.args.sector 0 ≡ 0 = eqb-true (get_or inside.pages c.args.sector 0) 0 untouched in
    ap (λ s. get_or s.items place d) (sym c.self.view_is)
    ∙ blank-there inside.blank inside.pages inside.items.items place d small c.self.invariant.0
    (ap (λ (at : ℕ). get_or inside.pages at 0) sector ∙ none)
    ∙ ap (λ s. s.blank) c.self.view_is
