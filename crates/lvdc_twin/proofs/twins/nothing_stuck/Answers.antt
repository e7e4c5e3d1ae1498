-- Nothing is stuck in any slot, and behind the last one is the default.
use Rattle.std.proofs.Common.{◌≡◌, Bool, true, false, refl, ◌∙◌, arith}
use Rattle.std.specs.Prelude.{nat_lt, slice_index_or}
use Rattle.std.proofs.lemmas.Bool.{ltb-true, ltb-false}
use Rattle.std.proofs.lemmas.List.{get_or_past}
use Rattle.lvdc_twin.specs.Store.{nothing}
use Rattle.lvdc_twin.proofs.twins.nothing_stuck.Goals as goal

pub returns-clause-nothing : goal.returns-clause-nothing
returns-clause-nothing c slot = by_case (nat_lt slot 32768) refl
  where
    by_case : (b : Bool) → nat_lt slot 32768 ≡ b → slice_index_or c.in_ok-stuck.stuck.items slot nothing ≡ nothing
    by_case true e = c.in_ok-stuck.ensures.all slot nothing (ltb-true slot 32768 e) ∙ (λ i. record { mask = c.within-zero.ensures i; value = c.within-zero.ensures i })
    by_case false e = get_or_past c.in_ok-stuck.stuck.items slot nothing (omega (arith, c.in_ok-stuck.ensures.size, ltb-false slot 32768 e))
