use Rattle.lvdc_text.specs.Lines.{numbered}
use Rattle.lvdc_source.proofs.Programs.{source_of-IsProgram}
use Rattle.lvdc_source.proofs.read.parse_source.Goals as goal

pub of_items-requires : goal.of_items-requires
of_items-requires c = source_of-IsProgram (numbered c.args.bytes.now c.args.lines.now) c.in_ok-items.items.items c.in_ok-items.ensures.items
