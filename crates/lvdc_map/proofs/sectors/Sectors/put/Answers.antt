-- The sector of the place has a page of its own from the first value on that is put there; then the value stands in it.
use Rattle.std.proofs.Common.{ℕ, List, refl, sym, ap, ◌∙◌, subst, set, arith}
use Rattle.lvdc_map.specs.Sectors.{values_in, IsPaged}
use Rattle.lvdc_map.specs.declared.sectors.Sectors.TheInside.{Inside}
use Rattle.lvdc_map.proofs.Paging.{HasPage, page-given, page-fits, value-put, paged-put, stands-within}
use Rattle.lvdc_map.proofs.sectors.Sectors.put.Goals as goal
use Rattle.lvdc_map.proofs.sectors.Sectors.put.Goals.{then-self-sector-eq0, else-self-sector-eq0}

has-page : (g : _) (c : goal.After-stands g) → HasPage c.if-self-sector-eq0.self-inside.blank c.if-self-sector-eq0.self-inside.pages
    c.if-self-sector-eq0.self-inside.items.items c.if-self-sector-eq0.self-inside.last c.if-self-sector-eq0.self-inside.items.cap c.args.place
    (values_in c.self.inside.blank c.self.inside.pages c.self.inside.items.items)
has-page g c = elim c.if-self-sector-eq0.branch [
  | then-self-sector-eq0 w ↦ subst Has (sym w.self-inside-is) (page-given c.self.inside.blank c.self.inside.pages c.self.inside.items.items
      w.open.new.items.items w.open.new.pages c.self.inside.last w.open.new.items.cap c.args.place c.requires c.self.invariant.0
      w.if-self-sector-eq0.true c.self.invariant.1 (omega (arith, w.open.ensures.room, c.self.invariant.2)) w.open.ensures.pages w.open.ensures.items)
  | else-self-sector-eq0 w ↦ subst Has (sym w.self-inside-is) (record {
    paged = c.self.invariant.0;
    known = c.self.invariant.1;
    room = c.self.invariant.2;
    own = w.if-self-sector-eq0.false;
    same = refl;
  })
]
  where
    Has : Inside g.row.T.Denot → Type 0
    Has s = HasPage s.blank s.pages s.items.items s.last s.items.cap c.args.place (values_in c.self.inside.blank c.self.inside.pages c.self.inside.items.items)

pub open-requires-clause-room : goal.open-requires-clause-room
open-requires-clause-room g c =
    page-fits c.self.inside.blank c.self.inside.pages c.self.inside.items.items c.args.place c.self.inside.items.cap c.requires c.self.invariant.0
    c.if-self-sector-eq0.true c.self.invariant.2

pub index_mut-requires : goal.index_mut-requires
index_mut-requires g c =
    let has = has-page g c in
    let inside = c.if-self-sector-eq0.self-inside in
    let within = stands-within inside.blank inside.pages inside.items.items c.args.place c.requires has.paged in
    omega (arith, within, c.stands.ensures, inside.items.ok.0)

pub invariant_of-self : goal.invariant_of-self
invariant_of-self g c =
    let has = has-page g c.before.before in
    let inside = c.if-self-sector-eq0.self-inside in (
      subst (λ (at : ℕ). IsPaged inside.blank inside.pages (set inside.items.items at c.args.value)) (sym c.stands.ensures)
          (paged-put inside.blank inside.pages inside.items.items c.args.place c.args.value c.requires has.paged has.own),
      has.known,
      has.room,
    )

pub returns-clause-items : goal.returns-clause-items
returns-clause-items g c =
    let has = has-page g c.before.before in
    let inside = c.if-self-sector-eq0.self-inside in
    ap (λ (at : ℕ). values_in inside.blank inside.pages (set inside.items.items at c.args.value)) c.stands.ensures
    ∙ value-put inside.blank inside.pages inside.items.items c.args.place c.args.value c.requires has.paged has.own
    ∙ ap (λ (values : List _). set values c.args.place c.args.value) has.same
    ∙ ap (λ s. set s.items c.args.place c.args.value) c.self.view_is
