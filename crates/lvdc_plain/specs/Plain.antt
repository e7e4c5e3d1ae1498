-- The state of the plain machine.
use Rattle.std.specs.Prelude.{ℕ, List, []}
use Rattle.std.specs.declared.option.Option.{Option}
use Rattle.std.specs.declared.option.Option.TheVariants.{None}
use Rattle.lvdc_map.specs.Hop.{HopConstant}
use Rattle.lvdc_map.specs.Memory as memory
use Rattle.lvdc_port.specs.Device.{Device}
use Rattle.lvdc_plain.specs.declared.records.Exchange.{Exchange}
use Rattle.lvdc_plain.specs.declared.records.Pending.{Pending}
use Rattle.lvdc_plain.specs.declared.records.Stop.{Stop}

-- the simplex pairs, place and data place, registers, what is pending, times left to hold, memory, port log, times made, why it stopped
pub record PlainState : Type 0 where
  pub banks : ℕ
  pub place : HopConstant
  pub a : ℕ
  pub pq : ℕ
  pub saver : ℕ
  pub pending : Option Pending
  pub hold : ℕ
  pub memory : memory.Memory
  pub log : List Exchange
  pub times : ℕ
  pub stop : Option Stop

-- at the start: the place of the start constant, registers of 0, and nothing pending
abbrev pub started : ℕ → HopConstant → memory.Memory → PlainState
started banks start words =
    record { banks = banks; place = start; a = 0; pq = 0; saver = 0; pending = None; hold = 0; memory = words; log = []; times = 0; stop = None }

-- the machine and the devices at its ports
pub record World : Type 0 where
  pub plain : PlainState
  pub devices : List Device
