use Rattle.std.proofs.Common.{◌≡◌, drop}
use Rattle.lvdc_campaign_deck.specs.Scripts.{nothing_said, scripts_from}
use Rattle.lvdc_campaign_deck.proofs.scripts.read_scripts.Given as goal

abbrev pub invariant-loop-line : goal.invariant-loop-line
invariant-loop-line l = (scripts_from l.bytes l.scripts (drop l.line-index l.lines) ≡ scripts_from l.bytes (nothing_said l.most) l.lines) × (l.scripts.most ≡ l.most)
