-- Simplex pairs, by computing: a twin alone holds its bank, nothing is mended, and the damage of that twin alone counts.
use Rattle.std.proofs.Common.{◌≡◌, refl, true, false, List, [], ◌∷◌}
use Rattle.std.specs.declared.option.Option.TheVariants.{Some}
use Rattle.lvdc_fault.specs.declared.event.Event.{Event}
use Rattle.lvdc_fault.specs.declared.event.Event.TheVariants.{Damage}
use Rattle.lvdc_fault.specs.declared.verdict.Verdict.TheVariants as verdicts
use Rattle.lvdc_model.specs.declared.outcome.Outcome.TheVariants as outcomes
use Rattle.lvdc_model.specs.CellsBefore.{cell_before}
use Rattle.lvdc_model.specs.Judging.{first_bad, is_recoverable_after}
use Rattle.lvdc_model.specs.Runs.{guarded}
use Rattle.lvdc_model.specs.Trial.{Trial}
use Rattle.lvdc_model.proofs.LedgerRows.{load, at}
use Rattle.lvdc_model.proofs.VotedRows.{a_of}
use Rattle.std.specs.Prelude.{bit_xor}
use Rattle.lvdc_word.specs.Cell.{code_of, with_stuck}
use Rattle.lvdc_vote.specs.Bits.{majority, flipped}

-- the loop that loads a word, with pair 0 simplex
abbrev pub simplex : List Event → Trial
simplex script = record { opening = record (load script).opening { banks = 1 }; script = script }

damage_where_it_stands : (first_bad (simplex (Damage 0 (at 1 0) 0 1 ∷ [])) 1 ≡ verdicts.Memory 1 (at 1 0))
    × ((guarded (simplex (Damage 0 (at 1 0) 0 1 ∷ [])) 3).end ≡ Some (outcomes.Inadmissible (verdicts.Memory 1 (at 1 0))))
unfolding with_stuck majority flipped
damage_where_it_stands = (refl, refl)

-- a read of it leaves the cell as it is
nothing_is_mended : cell_before (simplex (Damage 0 (at 1 0) 0 1 ∷ [])) 0 (at 1 0) 2 ≡ bit_xor (code_of 5) 1
unfolding with_stuck
nothing_is_mended = refl

damage_in_the_other_bank : (a_of (guarded (simplex (Damage 1 (at 1 0) 0 1 ∷ [])) 3) ≡ 5) × ((guarded (simplex (Damage 1 (at 1 0) 0 1 ∷ [])) 3).repairs ≡ [])
    × (is_recoverable_after (simplex (Damage 1 (at 1 0) 0 1 ∷ [])) 3 (at 1 0) ≡ true)
    × (is_recoverable_after (simplex (Damage 1 (at 1 0) 0 1 ∷ [])) 3 (record { pair = 4; sector = 1; loc = 0 }) ≡ false)
unfolding with_stuck majority flipped
damage_in_the_other_bank = (refl, refl, refl, refl)
