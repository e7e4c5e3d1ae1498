use Rattle.std.proofs.Common.{rules, ◌≡◌, sym, ◌∙◌}
use Rattle.lvdc_twin.specs.declared.held.Held.{Held}
use Rattle.lvdc_twin.specs.contracts.held.HeldPartialEq.TheImpl.{eq-value}
use Rattle.lvdc_study.proofs.Slices.{items-equal, is_same_held, held-equal}
use Rattle.lvdc_study.proofs.rejoin.are_same_cells.Goals as goal

each : (a b : Held) → eq-value.it a b ≡ is_same_held a b
each a b = search rules

pub returns : goal.returns
returns c = λ told. items-equal eq-value.it (λ a b h. held-equal a b (sym (each a b) ∙ h)) c.args.one.now c.args.other.now (sym c.eq.ensures ∙ told)
