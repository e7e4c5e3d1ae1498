-- Each line is counted, and a block ends the count.
use Rattle.std.proofs.Common.{◌≡◌, true, false, sym, ap, ◌∙◌, arith}
use Rattle.std.proofs.lemmas.List.{drop_all}
use Rattle.lvdc_place.specs.Blocks.{begins_block, size_ahead}
use Rattle.lvdc_place.proofs.Sizes.{size-at-block, size-at-line}
use Rattle.lvdc_place.proofs.block.size_ahead.Goals as goal

pub returns-then-begins_block : goal.returns-then-begins_block
returns-then-begins_block c =
    let items = c.args.items.now in
    let begins : begins_block c.item-item.result.body ≡ true = sym c.begins_block.ensures ∙ c.if-begins_block.true in
    let rest = size-at-block items c.loop-item.item-index c.item-item.result c.loop-item-test.true c.item-item.is begins in
    let counted = c.loop-item.invariant.counted in
    omega (arith, c.loop-item.invariant.most)

pub loop-item-preserved : goal.loop-item-preserved
loop-item-preserved c =
    let items = c.args.items.now in
    let i = c.loop-item.item-index in
    let item = c.item-item.result in
    let line : begins_block item.body ≡ false = sym c.begins_block.ensures ∙ c.if-begins_block.false in
    let rest = size-at-line items i item c.loop-item-test.true c.item-item.is line in
    let counted = c.loop-item.invariant.counted in
    let least = c.min-size.ensures in
    let size = c.size_of.ensures in
    record { most = omega arith; counted = omega arith }

pub returns : goal.returns
returns c =
    let counted = c.loop-item.invariant.counted in
    let rest = ap size_ahead (drop_all c.loop-item.item-index c.args.items.now c.loop-item-test.false) in
    omega (arith, c.loop-item.invariant.most)
