-- Over devices that never fail a run leaves a row, unless memory is wanting.
use Rattle.std.proofs.Common.{◌≡◌, ℕ, List, IfSome, map, refl, subst}
use Rattle.std.specs.declared.option.Option.{Option}
use Rattle.std.specs.declared.option.Option.TheVariants.{Some}
use Rattle.lvdc_port.specs.Device.{Device}
use Rattle.lvdc_port.specs.Devices.{count_at, NeverFail}
use Rattle.lvdc_port.proofs.Lists.{never-rose}
use Rattle.lvdc_study.specs.Failures.{HasFailed}
use Rattle.lvdc_study.specs.declared.fault.Unstudied.{Unstudied}
use Rattle.lvdc_study.specs.declared.fault.Unstudied.TheVariants.{NoMemory, Device as DeviceFailed}

-- so only memory can be wanting
pub wants_memory : {B : Type 0} (device_of : B → Device) (faults : B → ℕ) (e : Unstudied) (old new : List B) (devices : List Device)
    → map device_of old ≡ devices → NeverFail faults old → HasFailed device_of faults e old new → e ≡ NoMemory
wants_memory device_of faults NoMemory old new devices are sound failed = refl
wants_memory device_of faults (DeviceFailed port) old new devices are sound rose =
    absurd (never-rose device_of faults port (count_at device_of faults port new) old sound rose)

-- what is said of a row if there is one is so of the one that is there
pub some-is : {A : Type 0} (P : A → Type 0) (o : Option A) (a : A) → o ≡ Some a → IfSome o P → P a
some-is P o a is h = subst (λ (found : Option _). IfSome found P) is h
