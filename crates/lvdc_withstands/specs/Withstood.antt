-- What it is that a run withstands its faults.
use Rattle.std.specs.Prelude.{◌≡◌, ℕ, ◌*◌, ◌<◌, ◌≤◌, true}
use Rattle.lvdc_map.specs.Address.{Spot}
use Rattle.lvdc_map.specs.Banks.{HasBank}
use Rattle.lvdc_fault.specs.declared.verdict.Verdict.TheVariants.{Admissible}
use Rattle.lvdc_model.specs.Trial.{Trial, plain_at}
use Rattle.lvdc_model.specs.Judging.{judged, first_bad, is_recoverable, is_recoverable_after}
use Rattle.lvdc_model.specs.Known.{is_known}
use Rattle.lvdc_model.specs.Runs.{guarded}
use Rattle.lvdc_laws_voted.specs.Ends.{ShowsTimes, stop_end}

-- in so many times no step is inadmissible, and every word can be recovered, in each step and after it
pub record Masked (o : Trial) (count : ℕ) : Type 0 where
  pub steps : (step : ℕ) → step < 3 * count → judged o step ≡ Admissible
  pub verdict : first_bad o count ≡ Admissible
  pub words : (step : ℕ) (at : Spot) → step < 3 * count → HasBank o.opening.banks at → is_recoverable o step at ≡ true
  pub words_after : (steps : ℕ) (at : Spot) → steps ≤ 3 * count → HasBank o.opening.banks at → is_recoverable_after o steps at ≡ true

-- so the voted machine comes to what the plain run comes to: its end, as many times as were made, its registers, its port log, its
-- devices, and all its words, each of which it can tell
pub record Withstood (o : Trial) (count : ℕ) : Type 0 where
  pub masked : Masked o count
  pub shows : ShowsTimes o count (guarded o (3 * count))
  pub end : (guarded o (3 * count)).end ≡ stop_end (plain_at o count).stop (plain_at o count).times
  pub made : (guarded o (3 * count)).steps ≡ 3 * (plain_at o count).times
  pub known : (at : Spot) → HasBank o.opening.banks at → is_known o (guarded o (3 * count)) at ≡ true
