-- Worked rows of the voted machine, by computing.
use Rattle.std.proofs.Common.{◌≡◌, ℕ, refl, true, false, [], ◌∷◌}
use Rattle.std.specs.declared.option.Option.TheVariants.{None, Some}
use Rattle.lvdc_map.specs.Memory as memory
use Rattle.lvdc_plain.specs.declared.records.Stop.TheVariants as stops
use Rattle.lvdc_fault.specs.declared.event.Event.TheVariants.{Flip, Deaf, Damage, Stick, Dead}
use Rattle.lvdc_fault.specs.declared.verdict.Verdict.TheVariants as verdicts
use Rattle.lvdc_model.specs.declared.outcome.Outcome.TheVariants as outcomes
use Rattle.lvdc_model.specs.Known.{is_known}
use Rattle.lvdc_model.specs.Runs.{through, guarded, alone}
use Rattle.lvdc_model.specs.Trial.{Trial}
use Rattle.lvdc_model.specs.Voted.{Voted, voted_bus}
use Rattle.lvdc_model.proofs.LedgerRows.{sum, load, store_and_load, damaged_before_store, at, both_damaged}
use Rattle.lvdc_word.specs.Cell.{with_stuck}
use Rattle.lvdc_vote.specs.Bits.{majority, flipped}

-- the voted accumulator
abbrev pub a_of : Voted → ℕ
a_of v = (voted_bus v 0 0).accumulator.a

-- one copy of ACCUMULATOR after another is wrong, and nothing comes of it
abbrev pub one_after_another : Trial
one_after_another = sum (Flip 5 1 3 3 0 1 ∷ Flip 5 2 4 4 0 1 ∷ Flip 5 3 5 5 0 1 ∷ [])

nothing_comes_of_it : (a_of (guarded one_after_another 9) ≡ 0o200000000) × ((guarded one_after_another 9).end ≡ None)
    × ((guarded one_after_another 9).counts ≡ (0 ∷ 0 ∷ 0 ∷ []) ∷ (0 ∷ 0 ∷ 0 ∷ []) ∷ (0 ∷ 0 ∷ 0 ∷ []) ∷ (0 ∷ 0 ∷ 0 ∷ []) ∷ (1 ∷ 1 ∷ 1 ∷ []) ∷ (0 ∷ 0 ∷ 0 ∷ []) ∷ (0 ∷ 0 ∷ 0 ∷ []) ∷ [])
unfolding with_stuck majority flipped
nothing_comes_of_it = (refl, refl, refl)

-- two copies of INSTR lose a bit, and the vote makes AND of ADD
abbrev pub and_for_add : Trial
and_for_add = sum (Flip 3 1 4 4 0 0o1000 ∷ Flip 3 2 4 4 0 0o1000 ∷ [])

the_vote_is_wrong : (a_of (through and_for_add 9) ≡ 1) × (memory.word_at (through and_for_add 9).intended (at 1 2) ≡ 1) × ((through and_for_add 9).end ≡ None)
unfolding with_stuck majority flipped
the_vote_is_wrong = (refl, refl, refl)

the_right_copy_is_counted : (through and_for_add 9).counts ≡ (0 ∷ 0 ∷ 0 ∷ []) ∷ (0 ∷ 0 ∷ 0 ∷ []) ∷ (0 ∷ 0 ∷ 1 ∷ []) ∷ (0 ∷ 0 ∷ 0 ∷ []) ∷ (0 ∷ 0 ∷ 0 ∷ []) ∷ (0 ∷ 0 ∷ 0 ∷ []) ∷ (0 ∷ 0 ∷ 0 ∷ []) ∷ []
unfolding with_stuck majority flipped
the_right_copy_is_counted = refl

two_wrong_copies_end_it : ((guarded and_for_add 9).end ≡ Some (outcomes.Inadmissible (verdicts.Logic 4 3))) × ((guarded and_for_add 9).steps ≡ 4) × (a_of (guarded and_for_add 9) ≡ 0o177777777)
unfolding with_stuck majority flipped
two_wrong_copies_end_it = (refl, refl, refl)

repairs_of_both_twins : (guarded (load both_damaged) 9).repairs ≡ record { step = 1; at = at 1 0; twin = 0; switched = true } ∷ record { step = 7; at = at 1 0; twin = 1; switched = true } ∷ []
unfolding with_stuck majority flipped
repairs_of_both_twins = refl

two_bits_of_a_half : (guarded (load (Damage 0 (at 1 0) 0 3 ∷ [])) 3).end ≡ Some (outcomes.Inadmissible (verdicts.Memory 1 (at 1 0)))
unfolding with_stuck majority flipped
two_bits_of_a_half = refl

no_good_cell : (through (load (Damage 0 (at 1 0) 0 1 ∷ Damage 1 (at 1 0) 0 1 ∷ [])) 3).end ≡ Some (outcomes.Stopped 1 (stops.Memory (at 1 0)))
unfolding with_stuck majority flipped
no_good_cell = refl

-- both twins are good and differ: the selected one is used, and none can tell
differing_twins : (a_of (through (load (Damage 0 (at 1 0) 0 3 ∷ [])) 3) ≡ 6) × ((through (load (Damage 0 (at 1 0) 0 3 ∷ [])) 3).repairs ≡ []) × (is_known (load (Damage 0 (at 1 0) 0 3 ∷ [])) (through (load (Damage 0 (at 1 0) 0 3 ∷ [])) 3) (at 1 0) ≡ false)
unfolding with_stuck majority flipped
differing_twins = (refl, refl, refl)

stale_twin : (guarded (store_and_load (Dead 0 0 5 5 ∷ [])) 9).end ≡ Some (outcomes.Inadmissible (verdicts.Memory 7 (at 1 2)))
unfolding with_stuck majority flipped
stale_twin = refl

store_over_damage : ((guarded damaged_before_store 9).end ≡ None) × ((guarded damaged_before_store 9).repairs ≡ []) × (a_of (guarded damaged_before_store 9) ≡ 5) × (is_known damaged_before_store (guarded damaged_before_store 3) (at 1 2) ≡ false) × (is_known damaged_before_store (guarded damaged_before_store 9) (at 1 2) ≡ true)
unfolding with_stuck majority flipped
store_over_damage = (refl, refl, refl, refl, refl)

-- a flip in one copy of INSTR and then a deaf copy of ACCUMULATOR that hears it
deaf_copy : ((guarded (sum (Flip 3 1 1 1 0 0o1000 ∷ Deaf 5 1 2 2 ∷ [])) 9).counts ≡ (0 ∷ 0 ∷ 0 ∷ []) ∷ (0 ∷ 0 ∷ 0 ∷ []) ∷ (1 ∷ 0 ∷ 0 ∷ []) ∷ (0 ∷ 0 ∷ 0 ∷ []) ∷ (1 ∷ 0 ∷ 0 ∷ []) ∷ (0 ∷ 0 ∷ 0 ∷ []) ∷ (0 ∷ 0 ∷ 0 ∷ []) ∷ [])
    × (a_of (guarded (sum (Flip 3 1 1 1 0 0o1000 ∷ Deaf 5 1 2 2 ∷ [])) 9) ≡ 0o200000000)
unfolding with_stuck majority flipped
deaf_copy = (refl, refl)

-- the machine that judges alone ends as the guarded one does
judges_alone : ((alone and_for_add 9).end ≡ Some (outcomes.Inadmissible (verdicts.Logic 4 3)))
    × ((alone (load (Damage 0 (at 1 0) 0 3 ∷ [])) 3).end ≡ Some (outcomes.Inadmissible (verdicts.Memory 1 (at 1 0))))
unfolding with_stuck majority flipped
judges_alone = (refl, refl)

-- it judges the cells as they are once the damage of the step is done
judges_the_damage_of_the_step : (alone (load (Damage 0 (at 1 0) 1 3 ∷ [])) 3).end ≡ Some (outcomes.Inadmissible (verdicts.Memory 1 (at 1 0)))
unfolding with_stuck majority flipped
judges_the_damage_of_the_step = refl

-- after a verdict a word is told by what is stuck in the step that was judged
abbrev stuck_in_the_bad_step : Trial
stuck_in_the_bad_step = sum (Flip 3 1 4 4 0 0o1000 ∷ Flip 3 2 4 4 0 0o1000 ∷ Stick 0 (at 1 7) 4 4 3 3 ∷ [])

stuck_bits_of_the_bad_step : ((guarded stuck_in_the_bad_step 9).end ≡ Some (outcomes.Inadmissible (verdicts.Logic 4 3)))
    × (is_known stuck_in_the_bad_step (guarded stuck_in_the_bad_step 9) (at 1 7) ≡ false)
    × (is_known stuck_in_the_bad_step (guarded stuck_in_the_bad_step 4) (at 1 7) ≡ true)
unfolding with_stuck majority flipped
stuck_bits_of_the_bad_step = (refl, refl, refl)
