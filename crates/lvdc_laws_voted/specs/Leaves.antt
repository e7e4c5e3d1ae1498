-- What an exchange leaves of memory, devices and log.
use Rattle.std.specs.Prelude.{◌≡◌, ℕ, ◌+◌, ◌%◌, ◌^◌, true, false, List, [], ◌∷◌, ◌++◌}
use Rattle.lvdc_map.specs.Memory as memory
use Rattle.lvdc_port.specs.Device.{Device}
use Rattle.lvdc_port.specs.Devices.{exchange_word, after_exchange}
use Rattle.lvdc_port.specs.declared.requests.PortRequest.TheVariants.{Read, Write}
use Rattle.lvdc_modules.specs.declared.wanted.Wanted.{Wanted}
use Rattle.lvdc_modules.specs.declared.wanted.Wanted.TheVariants.{Store, PortRead, PortWrite}
use Rattle.lvdc_plain.specs.declared.records.Exchange.{Exchange}
use Rattle.lvdc_plain.specs.Plain.{PlainState, World}

-- the memory after an exchange
abbrev pub memory_after : Wanted → memory.Memory → memory.Memory
memory_after (Store at word) m = memory.stored m at word
memory_after _ m = m

-- the devices after it
abbrev pub devices_after : Wanted → List Device → List Device
devices_after (PortRead port) devices = after_exchange (Read port) devices
devices_after (PortWrite port word) devices = after_exchange (Write port word) devices
devices_after _ devices = devices

-- the log after it, made with these devices at this time
abbrev pub log_after : Wanted → List Exchange → List Device → ℕ → List Exchange
log_after (PortRead port) log devices time =
    log ++ record { time = time; port = port; reading = true; word = exchange_word (Read port) (time % 2 ^ 26) devices } ∷ []
log_after (PortWrite port word) log devices time = log ++ record { time = time; port = port; reading = false; word = word } ∷ []
log_after _ log devices time = log

-- what one plain time leaves, by its one exchange
pub record LeavesByExchange (w : Wanted) (p : PlainState) (left : List Device) (after : World) : Type 0 where
  pub memory : after.plain.memory ≡ memory_after w p.memory
  pub log : after.plain.log ≡ log_after w p.log left p.times
  pub devices : after.devices ≡ devices_after w left
  pub times : after.plain.times ≡ p.times + 1
  pub banks : after.plain.banks ≡ p.banks
