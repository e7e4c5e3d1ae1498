-- The plain run: instruction times one after another, from an opening.
use Rattle.std.specs.Prelude.{ℕ, zero, suc, ◌==◌, ◌<◌, ◌^◌, if◌then◌else◌, List, fold, All, is_some}
use Rattle.std.specs.declared.option.Option.{Option}
use Rattle.lvdc_map.specs.Hop.{HopConstant, IsHopConstant}
use Rattle.lvdc_map.specs.Memory as memory
use Rattle.lvdc_map.specs.declared.placed.Placed.{Placed}
use Rattle.lvdc_port.specs.Device.{Device}
use Rattle.lvdc_port.specs.Devices.{without, HoldWords}
use Rattle.lvdc_plain.specs.declared.records.Stop.{Stop}
use Rattle.lvdc_plain.specs.declared.records.Unplug.{Unplug}
use Rattle.lvdc_plain.specs.Plain.{World, started}
use Rattle.lvdc_plain.specs.Table.{step}

-- what a run depends on: the image, the simplex pairs, the start constant, which devices are taken away when, and the devices
pub record Opening : Type 0 where
  pub image : List Placed
  pub banks : ℕ
  pub start : HopConstant
  pub unplugs : List Unplug
  pub devices : List Device

-- an opening of words: the image's and the devices', and a HOP constant as start
pub record IsOpening (o : Opening) : Type 0 where
  pub image : All (λ placed. placed.word < 2 ^ 26) o.image
  pub start : IsHopConstant o.start
  pub devices : HoldWords o.devices

-- the devices that are left when a time begins: each line of this time takes its device away
abbrev pub left_at : {B : Type 0} → (B → Device) → List Unplug → ℕ → List B → List B
left_at device_of lines time devices = fold (λ now line. if line.time == time then without device_of line.port now else now) devices lines

-- the same of plain devices
abbrev pub plugged : List Unplug → ℕ → List Device → List Device
plugged unplugs time devices = left_at (λ device. device) unplugs time devices

-- one time of a run: a stopped machine stays with its devices; else devices are taken away first
abbrev pub time : List Unplug → World → World
time unplugs w = if is_some w.plain.stop then w else step w.plain (plugged unplugs w.plain.times w.devices)

-- that many times from here, or fewer where it stops
abbrev pub run_from : List Unplug → ℕ → World → World
run_from unplugs zero w = w
run_from unplugs (suc n) w = time unplugs (run_from unplugs n w)

-- the world after so many times of the plain run
abbrev pub run : Opening → ℕ → World
run o n = run_from o.unplugs n (record { plain = started o.banks o.start (memory.memory_of o.image); devices = o.devices })

-- ---- for the laws

-- one time of a run, by why the machine stopped before it
abbrev pub time_by : Option Stop → List Unplug → World → World
time_by stop unplugs w = if is_some stop then w else step w.plain (plugged unplugs w.plain.times w.devices)
