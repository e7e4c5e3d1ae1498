use Rattle.std.proofs.Common.{◌≡◌, map, drop}
use Rattle.lvdc_text.specs.Lines.{token_text}
use Rattle.lvdc_save.specs.Entries.{words_in}
use Rattle.lvdc_save_read.proofs.Tokens.{and_words}
use Rattle.lvdc_save_read.proofs.fields.words_in.Given as goal

abbrev pub invariant-loop-token : goal.invariant-loop-token
invariant-loop-token l = and_words l.words.items (words_in (map (token_text l.text) (drop l.token-index l.tokens))) ≡ words_in (map (token_text l.text) l.tokens)
