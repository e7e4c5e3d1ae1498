use Rattle.std.proofs.Common.{◌+◌, ℕ, Some, map, length, drop, option_map, sym, ap, ◌∙◌, arith, length-append}
use Rattle.lvdc_map.specs.Address.{Spot}
use Rattle.lvdc_text.specs.Lines.{token_text}
use Rattle.lvdc_text.specs.Numbers.{word_in}
use Rattle.lvdc_uplink.specs.Frames.{Frame}
use Rattle.lvdc_uplink.specs.Messages.{frame_at, words_in}
use Rattle.lvdc_uplink.proofs.Words.{no_token, before_words, before_words-none, words-more, words-other, words-done}
use Rattle.lvdc_uplink.proofs.fields.words_in.Goals as goal

pub loop-token-init : goal.loop-token-init
loop-token-init c = record {
  words = ap (λ (f : Frame). before_words f.words (words_in (map (token_text c.args.text.now) c.args.tokens.now))) c.new-frame.ensures
      ∙ before_words-none (words_in (map (token_text c.args.text.now) c.args.tokens.now));
  at = ap (λ (f : Frame). f.at) c.new-frame.ensures;
  count = ap (λ (f : Frame). length f.words) c.new-frame.ensures;
}

pub returns-in_err-octal_word : goal.returns-in_err-octal_word
returns-in_err-octal_word c =
    c.from_residual.ensures
    ∙ ap (option_map (frame_at c.args.at)) (sym (words-other (token_text c.args.text.now) c.args.tokens.now c.loop-token.token-index no_token c.loop-token.frame.words _
    c.loop-token.invariant.words c.loop-token-test.true (ap word_in (sym c.token_text.ensures) ∙ sym c.in_err-octal_word.ensures.value)))

pub push-requires : goal.push-requires
push-requires c = omega (arith, c.loop-token.invariant.count, c.requires.few, c.loop-token-test.true)

pub loop-token-preserved : goal.loop-token-preserved
loop-token-preserved c = record {
  words =
      ap (λ (f : Frame). before_words f.words (words_in (map (token_text c.args.text.now) (drop (c.loop-token.token-index + 1) c.args.tokens.now)))) c.push.ensures
      ∙ words-more (token_text c.args.text.now) c.args.tokens.now c.loop-token.token-index no_token c.loop-token.frame.words _
      c.loop-token.invariant.words c.loop-token-test.true c.in_ok-octal_word.field-0 (ap word_in (sym c.token_text.ensures) ∙ sym c.in_ok-octal_word.ensures.value);
  at = ap (λ (f : Frame). f.at) c.push.ensures ∙ c.loop-token.invariant.at;
  count = omega (arith, ap (λ (f : Frame). length f.words) c.push.ensures, length-append {A = ℕ}, c.loop-token.invariant.count);
}

pub returns : goal.returns
returns c =
    ap (λ (at : Spot). Some (frame_at at c.loop-token.frame.words)) c.loop-token.invariant.at
    ∙ sym (ap (option_map (frame_at c.args.at)) (words-done (token_text c.args.text.now) c.args.tokens.now c.loop-token.token-index no_token c.loop-token.frame.words _
    c.loop-token.invariant.words c.loop-token-test.false))
