-- One more line.
use Rattle.std.proofs.Common.{◌≡◌, List, Option, ◌++◌, ◌∷◌, [], drop, true, false, sym, ap, ◌∙◌, arith, length-drop}
use Rattle.std.proofs.lemmas.List.Elements.{All-nil, All-push}
use Rattle.lvdc_place.specs.Slot.{Slot, slot_after}
use Rattle.lvdc_place.specs.Blocks.{begins_block}
use Rattle.lvdc_place.specs.Placement.{IsInPairs, spots_from}
use Rattle.lvdc_place.specs.declared.spot.Spot.{Spot}
use Rattle.lvdc_place.proofs.Sizes.{in-range-at, size-at-line}
use Rattle.lvdc_place.proofs.Steps.{block-fits, line-fits, takes-some, first-left, one-fewer, slot-same, spots-block, spots-line, spots-done}
use Rattle.lvdc_place.proofs.spot.spots_of.Goals as goal

pub loop-item-init : goal.loop-item-init
loop-item-init c =
    let start = slot-same c.in_sector-first.result ∙ c.in_sector-first.ensures in
    record {
      spots = ap (λ (out : List (Option Spot)). out ++ spots_from (slot_after c.in_sector-first.result 0) c.args.places.now c.args.items.now) c.new-spots.ensures.items
          ∙ ap (λ (slot : Slot). spots_from slot c.args.places.now c.args.items.now) start;
      within = let first = ap (λ (slot : Slot). slot.loc) c.in_sector-first.ensures in omega (arith, first, c.requires.start);
      fit = c.requires.fit;
      pairs = rw c.new-spots.ensures.items (All-nil IsInPairs);
    }

pub spot_in-requires : goal.spot_in-requires
spot_in-requires c = λ takes.
    let item = c.item-item.result in
    let some = takes-some item.body (in-range-at c.args.items.now c.loop-item.item-index item c.requires.ranges c.loop-item-test.true c.item-item.is) takes in
    let size = size-at-line c.args.items.now c.loop-item.item-index item c.loop-item-test.true c.item-item.is some.0 in
    omega (arith, c.loop-item.invariant.within, size, some.1)

pub bounds-places-begun : goal.bounds-places-begun
bounds-places-begun c =
    let begins : begins_block c.item-item.result.body ≡ true = sym c.begins_block.ensures ∙ c.if-begins_block.true in
    let left = (block-fits c.args.items.now c.loop-item.item-index c.item-item.result (drop c.loop-item.begun c.args.places.now) c.loop-item.first
    c.loop-item-test.true c.item-item.is begins c.loop-item.invariant.fit).1.1 in
    omega (arith, left, length-drop c.loop-item.begun c.args.places.now)

pub loop-item-preserved-then-begins_block : goal.loop-item-preserved-then-begins_block
loop-item-preserved-then-begins_block c =
    let items = c.args.items.now in
    let i = c.loop-item.item-index in
    let item = c.item-item.result in
    let place = c.index-places-begun.result in
    let begins : begins_block item.body ≡ true = sym c.begins_block.ensures ∙ c.if-begins_block.true in
    let fits = block-fits items i item (drop c.loop-item.begun c.args.places.now) c.loop-item.first c.loop-item-test.true c.item-item.is begins c.loop-item.invariant.fit in
    let there = bounds-places-begun c.before in
    let last = rw (first-left c.args.places.now c.loop-item.begun c.loop-item.first place there c.index-places-begun.is) at fits.0 in
    record {
      spots = spots-block c.loop-item.spots.items c.push.new.self.items (slot_after c.loop-item.first c.loop-item.offset) place c.args.places.now c.loop-item.begun
          items i item _ c.loop-item-test.true c.item-item.is there c.index-places-begun.is begins (c.in_ok-push.ensures.items ∙ ap (λ spot. c.loop-item.spots.items ++ spot ∷ []) c.spot_in.ensures.value) c.loop-item.invariant.spots;
      within = omega (arith, last);
      fit = rw (one-fewer c.args.places.now c.loop-item.begun place there c.index-places-begun.is) at fits.1.0;
      pairs = rw c.in_ok-push.ensures.items (All-push IsInPairs c.loop-item.spots.items c.spot_in.result c.loop-item.invariant.pairs c.spot_in.ensures.pair);
    }

pub overflow_add-offset : goal.overflow_add-offset
overflow_add-offset c =
    let line : begins_block c.item-item.result.body ≡ false = sym c.begins_block.ensures ∙ c.if-begins_block.false in
    let size = size-at-line c.args.items.now c.loop-item.item-index c.item-item.result c.loop-item-test.true c.item-item.is line in
    omega (arith, c.loop-item.invariant.within, size, c.size_of-offset.ensures)

pub loop-item-preserved : goal.loop-item-preserved
loop-item-preserved c =
    let items = c.args.items.now in
    let i = c.loop-item.item-index in
    let item = c.item-item.result in
    let line : begins_block item.body ≡ false = sym c.begins_block.ensures ∙ c.if-begins_block.false in
    let size = size-at-line items i item c.loop-item-test.true c.item-item.is line in
    record {
      spots = spots-line c.loop-item.spots.items c.push.new.self.items c.loop-item.first c.loop-item.offset c.size_of-offset.result (drop c.loop-item.begun c.args.places.now)
          items i item _ c.loop-item-test.true c.item-item.is line c.size_of-offset.ensures (c.in_ok-push.ensures.items ∙ ap (λ spot. c.loop-item.spots.items ++ spot ∷ []) c.spot_in.ensures.value) c.loop-item.invariant.spots;
      within = omega (arith, c.loop-item.invariant.within, size, c.size_of-offset.ensures);
      fit = line-fits items i item (drop c.loop-item.begun c.args.places.now) c.loop-item-test.true c.item-item.is line c.loop-item.invariant.fit;
      pairs = rw c.in_ok-push.ensures.items (All-push IsInPairs c.loop-item.spots.items c.spot_in.result c.loop-item.invariant.pairs c.spot_in.ensures.pair);
    }

pub returns-clause-spots : goal.returns-clause-spots
returns-clause-spots c =
    spots-done c.loop-item.spots.items (slot_after c.loop-item.first c.loop-item.offset) (drop c.loop-item.begun c.args.places.now) c.args.items.now c.loop-item.item-index _
    c.loop-item-test.false c.loop-item.invariant.spots
