-- An image has no word where a bank isn't there.
use Rattle.lvdc_fault.proofs.Placing.{image-elsewhere}
use Rattle.lvdc_fault.proofs.ledger.Ledger.new.Goals as goal

pub invariant_of-result : goal.invariant_of-result
invariant_of-result c = image-elsewhere c.args.banks c.args.image.now c.in_ok-words.words c.requires c.in_ok-words.ensures.memory
