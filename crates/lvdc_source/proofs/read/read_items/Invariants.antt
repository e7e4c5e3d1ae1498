use Rattle.std.proofs.Common.{◌≡◌, drop}
use Rattle.lvdc_text.specs.Lines.{numbered}
use Rattle.lvdc_source.specs.Source.{items_from, source_of}
use Rattle.lvdc_source.proofs.LineSteps.{with_items}
use Rattle.lvdc_source.proofs.read.read_items.Given as goal

abbrev pub invariant-loop-index : goal.invariant-loop-index
invariant-loop-index l =
    with_items l.items.items (items_from l.block l.next (numbered l.bytes (drop l.index l.lines))) ≡ source_of (numbered l.bytes l.lines)
