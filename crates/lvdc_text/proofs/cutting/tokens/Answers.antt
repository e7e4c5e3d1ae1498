use Rattle.std.proofs.Common.{◌≡◌, ◌≤◌, length, map, All, ap, ◌∙◌, sym, subst, arith}
use Rattle.std.proofs.lemmas.Result.{IfOk-weaker}
use Rattle.lvdc_text.specs.Lines.{tokens_of, token_texts_of, token_text, LiesIn}
use Rattle.lvdc_text.proofs.Bounds.{tokens_of-within, length-tokens_of}
use Rattle.lvdc_text.proofs.Texts.{texts-tokens_of}
use Rattle.lvdc_text.proofs.cutting.tokens.Goals as goal

pub returns-clause-within : goal.returns-clause-within
returns-clause-within c = IfOk-weaker c.cut_tokens.result (λ v. v.items ≡ tokens_of c.args.text.now) (λ v. All (LiesIn c.args.text.now) v.items) (λ v e. subst (All (LiesIn c.args.text.now)) (sym e) (tokens_of-within c.args.text.now)) c.cut_tokens.ensures

pub returns-clause-few : goal.returns-clause-few
returns-clause-few c = IfOk-weaker c.cut_tokens.result (λ v. v.items ≡ tokens_of c.args.text.now) (λ v. length v.items ≤ length c.args.text.now) (λ v e. omega (arith, ap length e, length-tokens_of c.args.text.now)) c.cut_tokens.ensures

pub returns-clause-texts : goal.returns-clause-texts
returns-clause-texts c = IfOk-weaker c.cut_tokens.result (λ v. v.items ≡ tokens_of c.args.text.now) (λ v. map (token_text c.args.text.now) v.items ≡ token_texts_of c.args.text.now) (λ v e. ap (map (token_text c.args.text.now)) e ∙ texts-tokens_of c.args.text.now) c.cut_tokens.ensures
