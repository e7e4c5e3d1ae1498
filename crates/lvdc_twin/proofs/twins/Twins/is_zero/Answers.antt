-- A twin of a bare memory shows what it stores.
use Rattle.std.proofs.Common.{◌≡◌, ℕ, ◌<◌, zero, suc, subst, ◌∙◌, arith}
use Rattle.lvdc_word.specs.Cell.{code_of}
use Rattle.lvdc_map.specs.Address.{Spot, number_of}
use Rattle.lvdc_map.specs.Banks.{IsPlace}
use Rattle.lvdc_twin.specs.Store.{IsBare, shown_in, stored_in}
use Rattle.lvdc_twin.proofs.Shown.{shown-bare}
use Rattle.lvdc_twin.proofs.twins.Twins.is_zero.Goals as goal

pub returns-then-stores_zero : goal.returns-then-stores_zero
returns-then-stores_zero c both twin two place here at = shown-bare c.args.self.now twin place bare ∙ by_twin twin two
  where
    bare : IsBare c.args.self.now
    bare = subst IsBare c.self.view_is (c.self.invariant.0.bare c.if-not-self.false)

    by_twin : (twin : ℕ) → twin < 2 → stored_in c.args.self.now twin place ≡ code_of 0
    by_twin zero _ = c.stores_zero.ensures c.if-stores_zero.true place here at
    by_twin (suc zero) _ = c.stores_zero-then-stores_zero.ensures both place here at
    by_twin (suc (suc _)) more = absurd (omega (arith, more))
