-- Why a call on a device may fail: it is one that may, and its count of faults rose.
use Rattle.std.specs.Prelude.{◌≡◌, ℕ, ◌<◌, ◌^◌, Result, OnOk, OnErr}
use Rattle.lvdc_word.specs.Counts as counts

-- what a device that never fails has for its count of faults, and one that never looks at the time of a write for the time that it was
-- told: no count and no time is so great
abbrev pub never : ℕ
never = 2 ^ 64

-- the count of a device that may fail grew, or stands at its greatest value
pub record Rose (before now : ℕ) : Type 0 where
  pub may_fail : before < never
  pub counted : now < never
  pub grew : counts.Rose before now

-- a failure comes only where the count rose, so never from a device that never fails; and a success leaves the count
pub record HasCause {T E : Type 0} (before now : ℕ) (result : Result T E) : Type 0 where
  pub failed : OnErr result (Rose before now)
  pub answered : OnOk result (now ≡ before)

-- what a device says of its count: the count, and 0 where it never fails
pub record IsSaidOf (count said : ℕ) : Type 0 where
  pub counted : count < never → said ≡ count
  pub none : count ≡ never → said ≡ 0
