use Rattle.std.proofs.Common.{rules, ◌≡◌, ℕ, ◌==◌, sym, ◌∙◌}
use Rattle.std.proofs.lemmas.Bool.{eqb-true}
use Rattle.lvdc_word.specs.contracts.word.WordPartialEq.TheImpl.{eq-value}
use Rattle.lvdc_study.proofs.Slices.{items-equal}
use Rattle.lvdc_study.proofs.rejoin.are_same_latches.Goals as goal

each : (a b : ℕ) → eq-value.it a b ≡ (a == b)
each a b = search rules

pub returns : goal.returns
returns c = λ told. items-equal eq-value.it (λ a b h. eqb-true a b (sym (each a b) ∙ h)) c.args.one.now c.args.other.now (sym c.eq.ensures ∙ told)
