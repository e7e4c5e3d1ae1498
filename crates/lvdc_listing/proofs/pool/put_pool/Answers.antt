use Rattle.std.specs.Map.{values_of}
use Rattle.lvdc_listing.proofs.Steps.{more_pool}
use Rattle.lvdc_listing.proofs.pool.put_pool.Goals as goal

pub loop-index-preserved : goal.loop-index-preserved
loop-index-preserved c = λ m holds.
    more_pool m (values_of c.args.assembly.now.pool) c.loop-index.index c.word.result c.pooled-at.result c.loop-index.out.items c.put_pooled.new.out.items _
    c.pooled-at.ensures (c.word.ensures.memory m holds) c.in_ok-put_pooled.ensures (c.loop-index.invariant m holds)
