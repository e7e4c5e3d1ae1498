-- Worked copies of modules: which differ from the vote, and which may differ before a step.
use Rattle.std.proofs.Common.{◌≡◌, ℕ, List, [], ◌∷◌, Bool, true, false, refl}
use Rattle.lvdc_vote.specs.Bits.{majority}
use Rattle.lvdc_vote.specs.Copies.{Copies, settled}
use Rattle.lvdc_logic.specs.Logic.{is_outvoted, vote_at}
use Rattle.lvdc_fault.specs.declared.event.Event.{Event}
use Rattle.lvdc_fault.specs.declared.event.Event.TheVariants.{Flip, Lag, Damage}
use Rattle.lvdc_laws_voted.specs.Copies.{wrong_before}

-- module 1: copy 3 differs in its second latch; module 2: each copy has another bit; module 3: two copies lost a bit, and another one
-- each; module 4: all are alike
copies : List Copies
copies =
    settled (0o5 ∷ 0o1 ∷ []) (0o5 ∷ 0o1 ∷ []) (0o5 ∷ 0o3 ∷ []) ∷ settled (1 ∷ 0 ∷ []) (2 ∷ 0 ∷ []) (4 ∷ 0 ∷ [])
    ∷ settled (0o7 ∷ []) (0o6 ∷ []) (0o5 ∷ []) ∷ settled (0o2 ∷ []) (0o2 ∷ []) (0o2 ∷ []) ∷ []

-- ---- copies that are outvoted

-- for each copy of a module whether it differs
outvoted : ℕ → List Bool
outvoted number = is_outvoted copies number 1 ∷ is_outvoted copies number 2 ∷ is_outvoted copies number 3 ∷ []

one_in_its_second_latch : outvoted 1 ≡ false ∷ false ∷ true ∷ []
unfolding outvoted copies majority
one_in_its_second_latch = refl

-- the vote is 0, bit by bit
all_three : outvoted 2 ≡ true ∷ true ∷ true ∷ []
unfolding outvoted copies majority
all_three = refl

-- the vote is 7, which copy 1 has
two_of_three : outvoted 3 ≡ false ∷ true ∷ true ∷ []
unfolding outvoted copies majority
two_of_three = refl

none_of_three : outvoted 4 ≡ false ∷ false ∷ false ∷ []
unfolding outvoted copies majority
none_of_three = refl

votes_of_the_first_three : (vote_at copies 1 1 ≡ 0o1) × (vote_at copies 2 0 ≡ 0) × (vote_at copies 3 0 ≡ 0o7)
unfolding copies majority
votes_of_the_first_three = (refl, refl, refl)

-- ---- copies that may differ before a step: those that were wrong in the step before

script : List Event
script = Flip 3 2 4 6 0 0 ∷ Lag 5 1 9 9 ∷ Damage 0 (record { pair = 0; sector = 1; loc = 0 }) 2 1 ∷ []

none_before_the_first_step : wrong_before (Lag 5 1 0 0 ∷ []) 0 5 1 ≡ false
none_before_the_first_step = refl

-- steps 4 to 6 show in 5 to 7
one_step_later : wrong_before script 4 3 2 ∷ wrong_before script 5 3 2 ∷ wrong_before script 7 3 2 ∷ wrong_before script 8 3 2 ∷ [] ≡ false ∷ true ∷ true ∷ false ∷ []
unfolding script
one_step_later = refl

of_one_module_and_copy : wrong_before script 5 3 1 ∷ wrong_before script 5 2 2 ∷ wrong_before script 10 5 1 ∷ [] ≡ false ∷ false ∷ true ∷ []
unfolding script
of_one_module_and_copy = refl
