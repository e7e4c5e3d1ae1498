-- What a machine asks of a list of devices, and what several times do to one.
use Rattle.std.specs.Prelude.{◌≡◌, ℕ, true, List, map}
use Rattle.lvdc_port.specs.Device.{Device}
use Rattle.lvdc_port.specs.Devices.{has_port, count_at, HasSpare, AreDistinct}
use Rattle.lvdc_plain.specs.Run.{left_at}
use Rattle.lvdc_plain.specs.declared.records.Unplug.{Unplug}

-- the list has lost the members that lines of this time take away
pub record Left {B : Type 0} (device_of : B → Device) (lines : List Unplug) (time : ℕ) (old new : List B) : Type 0 where
  pub is : new ≡ left_at device_of lines time old

-- since then members were only taken away, and no count has grown of one that is left
pub record Since {B : Type 0} (device_of : B → Device) (count : B → ℕ) (old new : List B) : Type 0 where
  pub left : (port : ℕ) → has_port device_of port new ≡ true → has_port device_of port old ≡ true
  pub counts : (port : ℕ) → has_port device_of port new ≡ true →
      count_at device_of count port new ≡ count_at device_of count port old

-- the devices are fit for so many exchanges: no two of them are at one port, and each has room for as many words
pub record AreFit {B : Type 0} (device_of : B → Device) (spare : B → ℕ) (exchanges : ℕ) (devices : List B) : Type 0 where
  pub distinct : AreDistinct (map device_of devices)
  pub room : HasSpare spare exchanges devices
