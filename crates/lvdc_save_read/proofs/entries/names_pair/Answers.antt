use Rattle.std.proofs.Common.{◌+◌, [], ◌∷◌, sym, ap, ◌∙◌}
use Rattle.std.specs.Str.{bytes_eq}
use Rattle.lvdc_text.specs.Lines.{token_text}
use Rattle.lvdc_save_read.proofs.Tokens.{no_token, test-found}
use Rattle.lvdc_save_read.proofs.entries.names_pair.Goals as goal

pub returns-then-eq : goal.returns-then-eq
returns-then-eq c =
    test-found (token_text c.args.text.now) (λ token. bytes_eq token ((48 + c.args.pair) ∷ [])) c.args.fields.now c.loop-field.field-index no_token c.loop-field.invariant
    c.loop-field-test.true
    (ap (λ t. bytes_eq t ((48 + c.args.pair) ∷ [])) (sym c.token_text.ensures) ∙ ap (λ t. bytes_eq c.token_text.result.now t) (sym c.as_slice.ensures) ∙ sym c.eq.ensures ∙ c.if-eq.true)
