-- First laws of runs.
use Rattle.std.proofs.Common.{◌≡◌, ℕ, zero, suc, ◌+◌, List, refl, ap, ◌∙◌, add-zero, add-suc}
use Rattle.std.specs.declared.option.Option.TheVariants.{Some}
use Rattle.lvdc_plain.specs.Plain.{World}
use Rattle.lvdc_plain.specs.Run.{time, run_from}
use Rattle.lvdc_plain.specs.declared.records.Stop.{Stop}
use Rattle.lvdc_plain.specs.declared.records.Unplug.{Unplug}

-- n times and then m times are n + m times
pub run_from-add : (us : List Unplug) (w : World) (n m : ℕ) → run_from us (n + m) w ≡ run_from us m (run_from us n w)
run_from-add us w n zero = rw add-zero
run_from-add us w n (suc m) = rw add-suc (ap (time us) (run_from-add us w n m))

-- a stopped machine stays
pub time-stopped : (us : List Unplug) (w : World) (s : Stop) → w.plain.stop ≡ Some s → time us w ≡ w
time-stopped us w s e = rw e

pub run_from-stopped : (us : List Unplug) (w : World) (s : Stop) (n : ℕ) → w.plain.stop ≡ Some s → run_from us n w ≡ w
run_from-stopped us w s zero e = refl
run_from-stopped us w s (suc n) e = ap (time us) (run_from-stopped us w s n e) ∙ time-stopped us w s e
