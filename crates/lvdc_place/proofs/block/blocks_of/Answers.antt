-- One more line.
use Rattle.std.proofs.Common.{◌+◌, min, List, drop, sym, ap, ◌∙◌, arith, length-drop}
use Rattle.std.proofs.lemmas.List.{take_all}
use Rattle.lvdc_source.specs.declared.item.Item.{Item}
use Rattle.lvdc_place.specs.Blocks.{size_ahead}
use Rattle.lvdc_place.proofs.Steps.{blocks-none, blocks-some, blocks-done}
use Rattle.lvdc_place.proofs.block.blocks_of.Goals as goal

pub loop-index-preserved-in-None : goal.loop-index-preserved-in-None
loop-index-preserved-in-None c =
    blocks-none c.loop-index.blocks.items c.args.items.now c.loop-index.index c.index-items-index.result _ c.loop-index-test.true c.index-items-index.is
    (sym c.site_of.ensures ∙ c.in-None.is) c.loop-index.invariant

pub loop-index-preserved : goal.loop-index-preserved
loop-index-preserved c =
    blocks-some c.loop-index.blocks.items c.push.new.self.items c.args.items.now c.loop-index.index c.index-items-index.result c.in-Some.site
    c.size_ahead-size.result _ c.loop-index-test.true c.index-items-index.is (sym c.site_of.ensures ∙ c.in-Some.is)
    (c.size_ahead-size.ensures ∙ ap (λ (is : List Item). min (size_ahead is) 257) (take_all _ (drop (c.loop-index.index + 1) c.args.items.now) (omega (arith, length-drop (c.loop-index.index + 1) c.args.items.now))))
    c.in_ok-push.ensures.items c.loop-index.invariant

pub returns : goal.returns
returns c = blocks-done c.loop-index.blocks.items c.args.items.now c.loop-index.index _ c.loop-index-test.false c.loop-index.invariant
