-- What a call that makes times says of the plain machine and its devices.
use Rattle.std.specs.Prelude.{◌≡◌, ℕ, ◌+◌, ◌-◌, ◌≤◌, true, List, IsSome, IsNone}
use Rattle.lvdc_port.specs.Device as device
use Rattle.lvdc_port.specs.Devices.{has_port, count_at}
use Rattle.lvdc_plain.specs.Lists.{AreFit}
use Rattle.lvdc_plain.specs.Run.{Opening}
use Rattle.lvdc_plain.specs.Stands.{Stands, Caused}
use Rattle.lvdc_plain.specs.View.{View, answer_of_end, IsPlainEnd}
use Rattle.lvdc_plain.specs.declared.records.PlainEnd.{PlainEnd}
use Rattle.std.specs.declared.option.Option.TheVariants.{None}

-- the times that may still be made
abbrev pub times_left : View → ℕ
times_left m = m.limit - m.times

-- a machine that was just made stands at the start of its opening: it has the banks of the opening and this limit, and no time
-- was made and no end has come
pub record Begins (o : Opening) (limit : ℕ) (m : View) (devices : List device.Device) : Type 0 where
  pub stands : Stands o 0 m devices
  pub banks : m.banks ≡ o.banks
  pub limit_is : m.limit ≡ limit
  pub times : m.times ≡ 0
  pub end : m.end ≡ None

-- what no call changes
pub record Keeps (before after : View) : Type 0 where
  pub banks : after.banks ≡ before.banks
  pub limit : after.limit ≡ before.limit
  pub unplugs : after.unplugs ≡ before.unplugs

-- what a call of so many times leaves: no more times were made, no device is there that wasn't, and those that are there are fit
-- for the times that are left
pub record Leaves {B : Type 0} (device_of : B → device.Device) (spare : B → ℕ) (times : ℕ) (before after : View) (old new : List B) : Type 0 where
  pub keeps : Keeps before after
  pub most : after.times ≤ before.times + times
  pub left : (port : ℕ) → has_port device_of port new ≡ true → has_port device_of port old ≡ true
  pub fit : AreFit device_of spare (times_left after) new

-- an end has its cause in these devices' counts of faults, before and after: a failure in the device that it names, and in it
-- alone; with every other end no count has grown of a device that is left
abbrev pub PlainEndHasCause : {B : Type 0} → (B → device.Device) → (B → ℕ) → PlainEnd → List B → List B → Type 0
PlainEndHasCause device_of faults end old new =
    Caused end (λ port. count_at device_of faults port old) (λ port. count_at device_of faults port new) (λ port. has_port device_of port new)

-- a call answers the end that the machine then keeps, one to which the plain machine can come; an end that had come before is
-- kept, and nothing is changed; every other has its cause in this call
pub record Answers {B : Type 0} (device_of : B → device.Device) (faults : B → ℕ) (end : PlainEnd) (before after : View) (old new : List B) : Type 0 where
  pub answer : end ≡ answer_of_end after.end
  pub plain : IsPlainEnd end
  pub kept : IsSome before.end → (after ≡ before) × (new ≡ old)
  pub cause : IsNone before.end → PlainEndHasCause device_of faults end old new
