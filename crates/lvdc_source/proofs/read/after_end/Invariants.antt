use Rattle.std.proofs.Common.{◌≡◌, drop}
use Rattle.lvdc_text.specs.Lines.{numbered}
use Rattle.lvdc_source.specs.Source.{after_end}
use Rattle.lvdc_source.proofs.read.after_end.Given as goal

abbrev pub invariant-loop-line : goal.invariant-loop-line
invariant-loop-line l = after_end (numbered l.bytes (drop l.line-index l.lines)) ≡ after_end (numbered l.bytes l.lines)
