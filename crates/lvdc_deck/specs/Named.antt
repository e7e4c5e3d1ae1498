-- The devices that the UNPLUG lines of a deck name.
use Rattle.std.specs.Prelude.{◌≢◌, All, AllPairs, List}
use Rattle.std.specs.declared.option.Option.TheVariants.{None}
use Rattle.lvdc_port.specs.Device.{Device}
use Rattle.lvdc_port.specs.Supplies.{kind_at}
use Rattle.lvdc_plain.specs.declared.records.Unplug.{Unplug}

-- each line takes away a device that is there, and none takes away that of an earlier one
pub record NameDevices (devices : List Device) (unplugs : List Unplug) : Type 0 where
  pub there : All (λ unplug. kind_at (λ device. device) unplug.port devices ≢ None) unplugs
  pub once : AllPairs (λ unplug later. unplug.port ≢ later.port) unplugs
