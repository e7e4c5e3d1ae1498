-- One more block.
use Rattle.std.proofs.Common.{◌≡◌, ◌+◌, ◌<◌, List, [], ◌∷◌, ◌++◌, length, take, Ok, sym, ap, subst, ◌∙◌, arith}
use Rattle.std.proofs.lemmas.List.{length-take-le, length_push, take_all, drop_all}
use Rattle.lvdc_place.specs.declared.block.Block.{Block}
use Rattle.lvdc_place.specs.Fitting.{AllFit}
use Rattle.lvdc_place.specs.Slots.{set_of}
use Rattle.lvdc_place.specs.Placement.{Places, places_with_all}
use Rattle.lvdc_place.proofs.Walks.{places_with-more, places_with-fails, fit-more}
use Rattle.lvdc_place.proofs.placing.stand_blocks.Goals as goal

pub stand-requires : goal.stand-requires
stand-requires c = rw c.block-item.is (c.requires c.loop-block.block-index c.block-item.result c.loop-block-test.true)

pub returns-in-Err-clause-refusal : goal.returns-in-Err-clause-refusal
returns-in-Err-clause-refusal c = λ _.
    let so_far : Places = record { places = c.loop-block.places.items; taken = set_of c.loop-block.search } in
    places_with-fails c.args.blocks.now c.loop-block.block-index c.block-item.result so_far _ _ c.loop-block-test.true c.block-item.is
    (c.in-Err.ensures.refusal c.loop-block.places.items) c.loop-block.invariant.stand

pub loop-block-preserved : goal.loop-block-preserved
loop-block-preserved c =
    let blocks = c.args.blocks.now in
    let i = c.loop-block.block-index in
    let block = c.block-item.result in
    let places = c.loop-block.places.items in
    let place = c.in-Ok.place in
    let within : i < length blocks = c.loop-block-test.true in
    let pushed : c.push.new.self.items ≡ places ++ place ∷ [] = c.in_ok-push.ensures.items in
    let so_far : Places = record { places = places; taken = set_of c.loop-block.search } in
    let now : Places = record { places = places ++ place ∷ []; taken = set_of c.stand.new.search } in
    let count : length (take i blocks) ≡ length places = length-take-le i blocks (omega arith) ∙ sym c.loop-block.invariant.count in
    rw pushed (record {
      stand = places_with-more blocks i block so_far now _ within c.block-item.is (c.in-Ok.ensures.stands places) c.loop-block.invariant.stand;
      count = length_push places place ∙ ap (λ n. n + 1) c.loop-block.invariant.count;
      fit = fit-more blocks i block places place within c.block-item.is c.in-Ok.ensures.fits c.loop-block.invariant.fit count;
    })

pub returns-clause-stand : goal.returns-clause-stand
returns-clause-stand c =
    let so_far : Places = record { places = c.loop-block.places.items; taken = set_of c.loop-block.search } in
    sym c.loop-block.invariant.stand ∙ ap (places_with_all (Ok so_far)) (drop_all c.loop-block.block-index c.args.blocks.now c.loop-block-test.false)

pub returns-clause-fit : goal.returns-clause-fit
returns-clause-fit c =
    subst (λ (blocks : List Block). AllFit blocks c.loop-block.places.items) (take_all c.loop-block.block-index c.args.blocks.now c.loop-block-test.false) c.loop-block.invariant.fit
