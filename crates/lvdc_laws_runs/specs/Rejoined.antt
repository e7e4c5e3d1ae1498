-- When a run that went through every fault has rejoined the plain run, also one that went through an inadmissible step.
use Rattle.std.specs.Prelude.{◌≡◌, ℕ, ◌*◌, ◌<◌}
use Rattle.std.specs.declared.option.Option.TheVariants.{None}
use Rattle.lvdc_map.specs.Address.{Spot, IsAddress}
use Rattle.lvdc_map.specs.Banks.{IsPlace}
use Rattle.lvdc_map.specs.Memory.{word_at}
use Rattle.lvdc_model.specs.Runs.{through, guarded}
use Rattle.lvdc_model.specs.Trial.{Trial, plain_at}
use Rattle.lvdc_model.specs.Voted.{Voted}
use Rattle.lvdc_laws_voted.specs.Ends.{ShowsTimes, stop_end}
use Rattle.lvdc_laws_runs.specs.Early.{fault_free}
use Rattle.lvdc_laws_runs.specs.Joined.{AllEndBefore}

-- the state of the run without faults after so many times, in which each step is judged and none is inadmissible
abbrev pub fault_free_after : Trial → ℕ → Voted
fault_free_after o times = guarded (fault_free o) (3 * times)

-- after so many times no event is left, neither this run nor the one without faults has ended, and this one holds what that one holds: the
-- latches of each copy, the cell at each place, the intended word at each address, and the port log. Then the devices are the same as well:
-- they are what the exchanges of the log have made of them.
pub record HasRejoined (o : Trial) (times : ℕ) : Type 0 where
  pub over : AllEndBefore (3 * times) o.script
  pub going : (through o (3 * times)).end ≡ None
  pub running : (fault_free_after o times).end ≡ None
  pub copies : (through o (3 * times)).copies ≡ (fault_free_after o times).copies
  pub cells : (twin : ℕ) → twin < 2 → (place : Spot) → IsPlace place
      → word_at ((through o (3 * times)).twins.cells twin) place ≡ word_at ((fault_free_after o times).twins.cells twin) place
  pub intended : (at : Spot) → IsAddress at → word_at (through o (3 * times)).intended at ≡ word_at (fault_free_after o times).intended at
  pub log : (through o (3 * times)).log ≡ (fault_free_after o times).log

-- from so many times up to more of them a run is the plain run, which it shows then, a stop's own time included; no copy has differed,
-- and nothing was repaired
pub record StaysRejoined (o : Trial) (times later : ℕ) : Type 0 where
  pub shows : ShowsTimes o later (through o (3 * later))
  pub end : (through o (3 * later)).end ≡ stop_end (plain_at o later).stop (plain_at o later).times
  pub steps : (through o (3 * later)).steps ≡ 3 * (plain_at o later).times
  pub counts : (through o (3 * later)).counts ≡ (through o (3 * times)).counts
  pub repairs : (through o (3 * later)).repairs ≡ (through o (3 * times)).repairs
