use Rattle.std.proofs.Common.{◌<◌, ◌+◌, ◌^◌, ℕ, map, drop, sym, ap, subst, ◌∙◌, arith}
use Rattle.lvdc_text.specs.Lines.{token_text}
use Rattle.lvdc_deck.specs.Sections.{pairs_from}
use Rattle.lvdc_deck.proofs.Tokens.{no_token, and_pairs, pairs-more, pairs-done, bit-of, bits-more, bits-all, Some-of}
use Rattle.lvdc_deck.proofs.fields.pairs_in.Goals as goal

pub loop-token-preserved : goal.loop-token-preserved
loop-token-preserved c =
    let told = c.in-Some.ensures.some in record {
      so_far = ap (λ (n : ℕ). and_pairs (c.loop-token.pairs + n) (pairs_from (c.in-Some.pair + 1) (map (token_text c.args.text.now) (drop (c.loop-token.token-index + 1) c.args.tokens.now)))) (bit-of c.in-Some.pair told.2)
          ∙ pairs-more (token_text c.args.text.now) c.args.tokens.now c.loop-token.token-index no_token c.loop-token.pairs c.loop-token.least _ c.loop-token.invariant.so_far c.loop-token-test.true c.in-Some.pair (sym c.token_text.ensures ∙ told.0) told.1 told.2;
      least = omega (arith, told.2);
      below = subst (λ (n : ℕ). c.loop-token.pairs + n < 2 ^ (c.in-Some.pair + 1)) (sym (bit-of c.in-Some.pair told.2)) (bits-more c.loop-token.pairs c.loop-token.least c.in-Some.pair c.loop-token.invariant.below told.1);
    }

pub returns : goal.returns
returns c =
    Some-of c.new.result 16 c.loop-token.pairs c.new.ensures (bits-all c.loop-token.pairs c.loop-token.least c.loop-token.invariant.below c.loop-token.invariant.least)
    ∙ pairs-done (token_text c.args.text.now) c.args.tokens.now c.loop-token.token-index no_token c.loop-token.pairs c.loop-token.least _ c.loop-token.invariant.so_far c.loop-token-test.false
