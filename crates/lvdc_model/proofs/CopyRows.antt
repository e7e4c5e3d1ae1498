-- Worked rows of wrong copies: one that lags, one that is forced, and deaf ones.
use Rattle.std.proofs.Common.{◌≡◌, ℕ, refl, List, [], ◌∷◌}
use Rattle.std.specs.Prelude.{slice_index_or}
use Rattle.lvdc_word.specs.Cell.{with_stuck}
use Rattle.lvdc_vote.specs.Bits.{majority, flipped, forced}
use Rattle.lvdc_vote.specs.Copies.{Copies}
use Rattle.lvdc_fault.specs.declared.event.Event.TheVariants.{Flip, Force, Lag, Deaf}
use Rattle.lvdc_model.specs.Runs.{guarded}
use Rattle.lvdc_model.specs.Voted.{Voted, thrice}
use Rattle.lvdc_model.proofs.LedgerRows.{sum}
use Rattle.lvdc_model.proofs.VotedRows.{a_of}

-- the three copies of ACCUMULATOR, A and OPERAND each
abbrev accumulators : Voted → Copies
accumulators v = slice_index_or v.copies 4 (thrice [])

-- how often each of them differed
abbrev accumulator_counts : Voted → List ℕ
accumulator_counts v = slice_index_or v.counts 4 []

-- CLA latches A in step 2: a copy that lags then and in step 3 keeps its own 0
a_copy_that_lags : ((accumulators (guarded (sum (Lag 5 1 2 3 ∷ [])) 4)).one ≡ 0 ∷ 0o177777777 ∷ [])
    × (accumulator_counts (guarded (sum (Lag 5 1 2 3 ∷ [])) 4) ≡ 2 ∷ 0 ∷ 0 ∷ [])
    × (a_of (guarded (sum (Lag 5 1 2 3 ∷ [])) 4) ≡ 0o177777777)
unfolding with_stuck majority flipped
a_copy_that_lags = (refl, refl, refl)

it_follows_the_votes_again : (accumulators (guarded (sum (Lag 5 1 2 3 ∷ [])) 5)).one ≡ 0o177777777 ∷ 1 ∷ []
unfolding with_stuck majority flipped
it_follows_the_votes_again = refl

-- the low three bits of A are 2, and then one more bit is turned over
a_copy_that_is_forced : ((accumulators (guarded (sum (Force 5 2 2 2 0 0o7 0o2 ∷ Flip 5 2 2 2 0 0o10 ∷ [])) 3)).two ≡ 0o177777762 ∷ 0o177777777 ∷ [])
    × (accumulator_counts (guarded (sum (Force 5 2 2 2 0 0o7 0o2 ∷ Flip 5 2 2 2 0 0o10 ∷ [])) 3) ≡ 0 ∷ 1 ∷ 0 ∷ [])
unfolding with_stuck majority flipped forced
a_copy_that_is_forced = (refl, refl)

-- copy 2 of INSTR has CDS in place of CLA, and copy 2 of ACCUMULATOR hears it: its A stays 0
deaf_second_copy : ((accumulators (guarded (sum (Flip 3 2 1 1 0 0o1000 ∷ Deaf 5 2 2 2 ∷ [])) 3)).two ≡ 0 ∷ 0o177777777 ∷ [])
    × (accumulator_counts (guarded (sum (Flip 3 2 1 1 0 0o1000 ∷ Deaf 5 2 2 2 ∷ [])) 3) ≡ 0 ∷ 1 ∷ 0 ∷ [])
unfolding with_stuck majority flipped
deaf_second_copy = (refl, refl)

deaf_third_copy : ((accumulators (guarded (sum (Flip 3 3 1 1 0 0o1000 ∷ Deaf 5 3 2 2 ∷ [])) 3)).three ≡ 0 ∷ 0o177777777 ∷ [])
    × (accumulator_counts (guarded (sum (Flip 3 3 1 1 0 0o1000 ∷ Deaf 5 3 2 2 ∷ [])) 3) ≡ 0 ∷ 0 ∷ 1 ∷ [])
unfolding with_stuck majority flipped
deaf_third_copy = (refl, refl)

-- a deaf copy follows the copies of its own number: that of another number is wrong, and nothing comes of it
deaf_beside_another_wrong_copy : accumulator_counts (guarded (sum (Flip 3 2 1 1 0 0o1000 ∷ Deaf 5 3 2 2 ∷ [])) 3) ≡ 0 ∷ 0 ∷ 0 ∷ []
unfolding with_stuck majority flipped
deaf_beside_another_wrong_copy = refl
