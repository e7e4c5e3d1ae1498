use Rattle.std.proofs.Common.{◌≡◌, length, map, drop}
use Rattle.lvdc_text.specs.Lines.{token_text}
use Rattle.lvdc_uplink.specs.Messages.{words_in}
use Rattle.lvdc_uplink.proofs.Words.{before_words}
use Rattle.lvdc_uplink.proofs.fields.words_in.Given as goal

abbrev pub invariant-loop-token : goal.invariant-loop-token
invariant-loop-token l = record {
  words : before_words l.frame.words (words_in (map (token_text l.text) (drop l.token-index l.tokens))) ≡ words_in (map (token_text l.text) l.tokens);
  at : l.frame.at ≡ l.fn.at;
  count : length l.frame.words ≡ l.token-index;
}
