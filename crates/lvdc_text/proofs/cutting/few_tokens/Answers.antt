use Rattle.std.proofs.Common.{ℕ, ◌<◌, ◌≤◌, Option, None, Some, length, map, All, ap, ◌∙◌, sym, subst, arith}
use Rattle.std.specs.Option.{IfNone}
use Rattle.std.proofs.lemmas.List.{length-map}
use Rattle.std.proofs.lemmas.Option.{IfSome_then}
use Rattle.lvdc_text.specs.Lines.{tokens_of, token_text, LiesIn}
use Rattle.lvdc_text.proofs.Bounds.{tokens_of-within, length-tokens_of}
use Rattle.lvdc_text.proofs.Texts.{texts-tokens_of}
use Rattle.lvdc_text.proofs.cutting.few_tokens.Goals as goal

pub returns-clause-texts : goal.returns-clause-texts
returns-clause-texts g c = IfSome_then c.cut_few_tokens.result c.cut_few_tokens.ensures.some (λ v is. ap (map (token_text c.args.text.now)) is ∙ texts-tokens_of c.args.text.now)

pub returns-clause-within : goal.returns-clause-within
returns-clause-within g c = IfSome_then c.cut_few_tokens.result c.cut_few_tokens.ensures.some (λ v is. subst (All (LiesIn c.args.text.now)) (sym is) (tokens_of-within c.args.text.now))

pub returns-clause-many : goal.returns-clause-many
returns-clause-many g c =
    subst (λ n. IfNone c.cut_few_tokens.result (g.row.MOST < n)) (sym (length-map (tokens_of c.args.text.now) (token_text c.args.text.now)) ∙ ap length (texts-tokens_of c.args.text.now)) c.cut_few_tokens.ensures.none

fewer : {T : Type 0} (result : Option T) (most tokens bytes : ℕ) → tokens ≤ bytes → IfNone result (most < tokens) → IfNone result (most < bytes)
fewer None most tokens bytes l many = omega arith
fewer (Some v) most tokens bytes l many = many

pub returns-clause-long : goal.returns-clause-long
returns-clause-long g c =
    fewer c.cut_few_tokens.result g.row.MOST (length (tokens_of c.args.text.now)) (length c.args.text.now) (length-tokens_of c.args.text.now) c.cut_few_tokens.ensures.none
