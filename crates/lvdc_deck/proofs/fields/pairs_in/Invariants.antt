use Rattle.std.proofs.Common.{◌≡◌, ◌<◌, ◌≤◌, ◌^◌, map, drop}
use Rattle.lvdc_text.specs.Lines.{token_text}
use Rattle.lvdc_deck.specs.Sections.{pairs_from}
use Rattle.lvdc_deck.proofs.Tokens.{and_pairs}
use Rattle.lvdc_deck.proofs.fields.pairs_in.Given as goal

abbrev pub invariant-loop-token : goal.invariant-loop-token
invariant-loop-token l = record {
  so_far : and_pairs l.pairs (pairs_from l.least (map (token_text l.text) (drop l.token-index l.tokens))) ≡ pairs_from 0 (map (token_text l.text) l.tokens);
  least : l.least ≤ 4;
  below : l.pairs < 2 ^ l.least;
}
