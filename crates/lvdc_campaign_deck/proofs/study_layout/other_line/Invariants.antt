use Rattle.std.proofs.Common.{◌≡◌, drop}
use Rattle.lvdc_campaign_deck.specs.Study.{other_line}
use Rattle.lvdc_campaign_deck.proofs.study_layout.other_line.Given as goal

abbrev pub invariant-loop-line : goal.invariant-loop-line
invariant-loop-line l = other_line l.bytes (drop l.line-index l.lines) ≡ other_line l.bytes l.lines
