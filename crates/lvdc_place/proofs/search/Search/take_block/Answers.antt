use Rattle.lvdc_place.specs.Slots.{block_slots}
use Rattle.lvdc_place.proofs.Starts.{starts-taken}
use Rattle.lvdc_place.proofs.search.Search.take_block.Goals as goal

pub invariant_of-self : goal.invariant_of-self
invariant_of-self c =
    starts-taken c.self.inside.taken c.take_block.new.self (block_slots c.args.block.now.site.kind c.args.block.now.size c.args.place) c.self.inside.starts
    c.take_block.ensures c.self.invariant
