-- One more block.
use Rattle.std.specs.Prelude.{All}
use Rattle.std.proofs.Common.{subst, List}
use Rattle.std.proofs.lemmas.List.{take_all}
use Rattle.lvdc_place.specs.Slots.{set_of}
use Rattle.lvdc_place.specs.Fitting.{FitsFixed}
use Rattle.lvdc_place.specs.declared.block.Block.{Block}
use Rattle.lvdc_place.proofs.Walks.{taken_after-more, fits-more}
use Rattle.lvdc_place.proofs.placing.fix_blocks.Goals as goal

pub loop-block-preserved : goal.loop-block-preserved
loop-block-preserved c =
    let blocks = c.args.blocks.now in
    let i = c.loop-block.block-index in
    let block = c.block-item.result in
    record {
      fixed = taken_after-more blocks i block (set_of c.loop-block.taken) (set_of c.fix.new.taken) _ c.loop-block-test.true c.block-item.is c.in-Ok.ensures.fixed c.loop-block.invariant.fixed;
      fits = fits-more blocks i block c.loop-block-test.true c.block-item.is c.in-Ok.ensures.fits c.loop-block.invariant.fits;
    }

pub returns-clause-fits : goal.returns-clause-fits
returns-clause-fits c =
    subst (λ (blocks : List Block). All FitsFixed blocks) (take_all c.loop-block.block-index c.args.blocks.now c.loop-block-test.false) c.loop-block.invariant.fits
