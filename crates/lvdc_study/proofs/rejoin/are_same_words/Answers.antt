use Rattle.std.proofs.Common.{rules, ◌≡◌, sym, ◌∙◌}
use Rattle.lvdc_map.specs.declared.placed.Placed.{Placed}
use Rattle.lvdc_map.specs.contracts.placed.PlacedPartialEq.TheImpl.{eq-value}
use Rattle.lvdc_study.proofs.Slices.{items-equal, is_same_placed, placed-equal}
use Rattle.lvdc_study.proofs.rejoin.are_same_words.Goals as goal

each : (a b : Placed) → eq-value.it a b ≡ is_same_placed a b
each a b = search rules

pub returns : goal.returns
returns c = λ told. items-equal eq-value.it (λ a b h. placed-equal a b (sym (each a b) ∙ h)) c.args.one.now c.args.other.now (sym c.eq.ensures ∙ told)
