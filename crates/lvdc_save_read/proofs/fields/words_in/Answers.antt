use Rattle.std.proofs.Common.{sym, ap, ◌∙◌}
use Rattle.lvdc_text.specs.Lines.{token_text}
use Rattle.lvdc_text.specs.Numbers.{word_in}
use Rattle.lvdc_save_read.proofs.Tokens.{no_token, words-more, words-bad, words-done}
use Rattle.lvdc_save_read.proofs.fields.words_in.Goals as goal

pub loop-token-preserved : goal.loop-token-preserved
loop-token-preserved c =
    rw c.in_ok-push-in-Some.ensures.items
    (words-more (token_text c.args.text.now) c.args.tokens.now c.loop-token.token-index no_token c.loop-token.words.items _ c.loop-token.invariant c.loop-token-test.true
    c.in-Some.word (ap word_in (sym c.token_text.ensures) ∙ sym c.octal_word.ensures.value ∙ c.in-Some.is))

pub returns-in-None : goal.returns-in-None
returns-in-None c =
    words-bad (token_text c.args.text.now) c.args.tokens.now c.loop-token.token-index no_token c.loop-token.words.items _ c.loop-token.invariant c.loop-token-test.true
    (ap word_in (sym c.token_text.ensures) ∙ sym c.octal_word.ensures.value ∙ c.in-None.is)

pub returns : goal.returns
returns c =
    words-done (token_text c.args.text.now) c.args.tokens.now c.loop-token.token-index no_token c.loop-token.words.items _ c.loop-token.invariant c.loop-token-test.false
