-- The sector's pages are those in which nothing was put.
use Rattle.std.proofs.Common.{◌≡◌, ℕ, ◌+◌, ◌*◌, ◌/◌, false, refl, sym, ap, subst, ◌∙◌, arith}
use Rattle.std.proofs.lemmas.Bool.{not-true}
use Rattle.lvdc_word.specs.Cell.{code_of}
use Rattle.lvdc_map.specs.Address.{Spot, number_of}
use Rattle.lvdc_map.specs.Banks.{IsPlace}
use Rattle.lvdc_twin.specs.Store.{Store, IsBare, nothing, slot_of, stored_in, stuck_in, is_dead}
use Rattle.lvdc_twin.proofs.Places.{slot-small}
use Rattle.lvdc_twin.proofs.Shown.{shown-bare, shown-zero}
use Rattle.lvdc_twin.proofs.twins.Twins.shows_zeros.Goals as goal

-- the page of a place's sector
page : (twin sector : ℕ) (place : Spot) → number_of place / 256 ≡ sector → slot_of twin place / 256 ≡ 64 * twin + sector
page twin sector place at = omega (arith, at)

-- the pair of a place, by its sector's number
pair : (sector : ℕ) (place : Spot) → IsPlace place → number_of place / 256 ≡ sector → sector / 16 ≡ place.pair
pair sector place here at = omega (arith, at, here.sector, here.loc)

pub returns-then-self : goal.returns-then-self
returns-then-self c _ place here at =
    let bare : IsBare c.args.self.now = subst IsBare c.self.view_is (c.self.invariant.0.bare c.if-self.true) in
    let stored : stored_in c.args.self.now c.args.twin place ≡ code_of 0 =
    ap (λ (t : Store). stored_in t c.args.twin place) (sym c.self.view_is)
    ∙ c.if-not-is_blank.ensures refl (slot_of c.args.twin place) 0 (slot-small c.args.twin place c.requires.twin here)
    (page c.args.twin c.args.sector place at ∙ ap (λ (n : ℕ). 64 * n + c.args.sector) (sym c.from.ensures)) ∙ c.self.invariant.1 in
    shown-bare c.args.self.now c.args.twin place bare ∙ stored

pub returns-then-is_blank : goal.returns-then-is_blank
returns-then-is_blank c alive place here at =
    let stored : stored_in c.args.self.now c.args.twin place ≡ code_of 0 =
    ap (λ (t : Store). stored_in t c.args.twin place) (sym c.self.view_is)
    ∙ c.if-not-is_blank.ensures refl (slot_of c.args.twin place) 0 (slot-small c.args.twin place c.requires.twin here)
    (page c.args.twin c.args.sector place at ∙ ap (λ (n : ℕ). 64 * n + c.args.sector) (sym c.from.ensures)) ∙ c.self.invariant.1 in
    let free : stuck_in c.args.self.now c.args.twin place ≡ nothing =
    ap (λ (t : Store). stuck_in t c.args.twin place) (sym c.self.view_is)
    ∙ c.if-is_blank.ensures refl (slot_of c.args.twin place) nothing (slot-small c.args.twin place c.requires.twin here)
    (page c.args.twin c.args.sector place at ∙ ap (λ (n : ℕ). 64 * n + c.args.sector) (sym c.from.ensures)) ∙ c.self.invariant.2 in
    let live : is_dead c.args.self.now c.args.twin place.pair ≡ false =
    ap (is_dead c.args.self.now c.args.twin) (sym (pair c.args.sector place here at)) ∙ sym c.is_dead.ensures ∙ not-true c.is_dead.result alive in
    shown-zero c.args.self.now c.args.twin place live free stored
