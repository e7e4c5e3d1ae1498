-- The plain run, time after time.
use Rattle.std.proofs.Common.{◌≡◌, ◌≤◌, ℕ, zero, suc, ◌+◌, ◌-◌, refl, sym, ap, ◌∙◌, arith}
use Rattle.std.specs.declared.option.Option.{Option}
use Rattle.std.specs.declared.option.Option.TheVariants.{None, Some}
use Rattle.lvdc_plain.specs.Plain.{World}
use Rattle.lvdc_plain.specs.Run.{Opening, plugged, time_by, run}
use Rattle.lvdc_plain.specs.Table.{step}
use Rattle.lvdc_plain.specs.declared.records.Stop.{Stop}
use Rattle.lvdc_laws_voted.specs.Laws.{PortLaw, StopLaw}

-- ---- the count of times

-- a time counts one, unless the machine has stopped
time-times : PortLaw → (stop : Option Stop) (o : Opening) (w : World) (k : ℕ) → w.plain.stop ≡ stop → (w.plain.stop ≡ None → w.plain.times ≡ k)
    → (time_by stop o.unplugs w).plain.stop ≡ None → (time_by stop o.unplugs w).plain.times ≡ suc k
time-times law (Some s) o w k e h f = absurd (let g : Some s ≡ None = sym e ∙ f in cc)
time-times law None o w k e h f = (law w.plain (plugged o.unplugs w.plain.times w.devices) e).times ∙ (let g : w.plain.times ≡ k = h e in omega arith)

-- a run that goes on has made as many times as were asked for
pub times-count : PortLaw → (o : Opening) (k : ℕ) → (run o k).plain.stop ≡ None → (run o k).plain.times ≡ k
times-count law o zero e = refl
times-count law o (suc k) e = time-times law (run o k).plain.stop o (run o k) k refl (times-count law o k) e

-- a time that is made is a step with the devices left
next_by : (stop : Option Stop) (o : Opening) (w : World) (k : ℕ) → stop ≡ None → w.plain.times ≡ k → time_by stop o.unplugs w ≡ step w.plain (plugged o.unplugs k w.devices)
next_by None o w k e t = ap (λ (n : ℕ). step w.plain (plugged o.unplugs n w.devices)) t
next_by (Some s) o w k e t = absurd (cc)

-- the next world of a run that goes on
pub next-world : PortLaw → (o : Opening) (k : ℕ) → (run o k).plain.stop ≡ None → run o (suc k) ≡ step (run o k).plain (plugged o.unplugs k (run o k).devices)
next-world law o k e = next_by (run o k).plain.stop o (run o k) k e (times-count law o k e)

-- a stopped run stays
pub stays-world : StopLaw → (o : Opening) (k : ℕ) (s : Stop) → (run o k).plain.stop ≡ Some s → (m : ℕ) → k ≤ m → run o m ≡ run o k
stays-world law o k s e m le = let sum : m ≡ k + (m - k) = omega arith in ap (run o) sum ∙ law o k (m - k) s e

-- ---- the banks stay

-- no time changes the banks
time-banks : PortLaw → (stop : Option Stop) (o : Opening) (w : World) → w.plain.stop ≡ stop → (time_by stop o.unplugs w).plain.banks ≡ w.plain.banks
time-banks law (Some s) o w e = refl
time-banks law None o w e = (law w.plain (plugged o.unplugs w.plain.times w.devices) e).banks

pub banks-stay : PortLaw → (o : Opening) (k : ℕ) → (run o k).plain.banks ≡ o.banks
banks-stay law o zero = refl
banks-stay law o (suc k) = time-banks law (run o k).plain.stop o (run o k) refl ∙ banks-stay law o k
