-- Each one is laid at its slot.
use Rattle.std.proofs.Common.{◌≡◌, ℕ, ◌+◌, length, set, List, ◌∷◌, [], ◌++◌, take, sym, ap, ◌∙◌, subst}
use Rattle.std.proofs.lemmas.List.{take_more, take_all, length-set}
use Rattle.lvdc_map.specs.Memory.{word_at}
use Rattle.lvdc_twin.specs.Cells.{NamesPlace, cells_of}
use Rattle.lvdc_twin.specs.declared.held.Held.{Held}
use Rattle.lvdc_twin.specs.Store.{slot_of}
use Rattle.lvdc_twin.proofs.Holding.{laid-more, HasLaid}
use Rattle.lvdc_twin.proofs.Places.{slot-small}
use Rattle.lvdc_twin.proofs.held.laid_out.Goals as goal

pub loop-one-init : goal.loop-one-init
loop-one-init c = record { blank = c.in_ok-cells.ensures.blank; whole = c.in_ok-cells.ensures.length; laid = λ twin two place here. c.in_ok-cells.ensures.zero _ (slot-small twin place two here) }

pub loop-one-preserved : goal.loop-one-preserved
loop-one-preserved c =
    let held = c.args.held.now in
    let i = c.loop-one.one-index in
    let h = c.one-item.result in
    let cells = c.loop-one.cells.items in
    let names : NamesPlace h = subst NamesPlace (sym c.one-item.is) (c.requires i h c.loop-one-test.true) in
    let one_more : take (i + 1) held ≡ take i held ++ h ∷ [] = take_more held i h c.loop-one-test.true ∙ ap (λ (k : Held). take i held ++ k ∷ []) (sym c.one-item.is) in
    let more = laid-more (take i held) h cells c.loop-one.invariant.whole names.twin c.slot.ensures.place c.loop-one.invariant.laid in
    let put : c.put.new.self.items ≡ set cells (slot_of h.twin h.at) h.cell =
    c.put.ensures.items ∙ ap (λ (slot : ℕ). set cells slot h.cell) c.slot.ensures.value in
    record {
      blank = c.put.ensures.blank ∙ c.loop-one.invariant.blank;
      whole = ap (λ (xs : List ℕ). length xs) put ∙ length-set cells (slot_of h.twin h.at) h.cell ∙ c.loop-one.invariant.whole;
      laid = subst (λ (ps : List Held). HasLaid ps c.put.new.self.items) (sym one_more) (subst (λ (xs : List ℕ). HasLaid (take i held ++ h ∷ []) xs) (sym put) more);
    }

pub returns-clause-cells : goal.returns-clause-cells
returns-clause-cells c twin two place here =
    c.loop-one.invariant.laid twin two place here
    ∙ ap (λ (held : List Held). word_at (cells_of held twin) place) (take_all c.loop-one.one-index c.args.held.now c.loop-one-test.false)
