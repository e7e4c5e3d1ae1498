-- Words compared at an address.
use Rattle.std.proofs.Common.{◌≡◌, ℕ, Bool, true, false, cond, ◌==◌, refl, sym, ap, ◌∙◌}
use Rattle.std.specs.Bool.{if◌then◌else◌}
use Rattle.std.proofs.lemmas.Bool.{eq-eqb}
use Rattle.lvdc_map.specs.Address.{Spot}
use Rattle.lvdc_map.specs.Banks.{is_there}
use Rattle.lvdc_map.specs.Memory.{Memory, word_at}
use Rattle.lvdc_runs.specs.Same.{is_same_word}

-- at an address that is there
pub word-there : (banks : ℕ) (one other : Memory) (at : Spot) → is_there banks at ≡ true → is_same_word banks one other at ≡ (word_at one at == word_at other at)
word-there banks one other at there = ap (λ (b : Bool). if b then word_at one at == word_at other at else true) there

-- words that are 0 in both are the same
pub zero-same : (banks : ℕ) (one other : Memory) (at : Spot) → word_at one at ≡ 0 → word_at other at ≡ 0 → is_same_word banks one other at ≡ true
zero-same banks one other at none nor = by_case (is_there banks at)
  where
    by_case : (b : Bool) → cond b (word_at one at == word_at other at) true ≡ true
    by_case true = eq-eqb (word_at one at) (word_at other at) (none ∙ sym nor)
    by_case false = refl
