-- When a plain machine and its devices stand where the plain run of an opening is.
use Rattle.std.specs.Prelude.{◌≡◌, ◌≢◌, ℕ, ◌+◌, ◌*◌, ◌<◌, Bool, true, List}
use Rattle.std.specs.declared.option.Option.{Option}
use Rattle.std.specs.declared.option.Option.TheVariants.{None, Some}
use Rattle.lvdc_map.specs.Memory.{IsMemory}
use Rattle.lvdc_port.specs.Causes.{Rose}
use Rattle.lvdc_port.specs.Device as device
use Rattle.lvdc_port.specs.Devices.{port_of}
use Rattle.lvdc_port.specs.declared.requests.PortRequest.{PortRequest}
use Rattle.lvdc_plain.specs.Plain.{PlainState}
use Rattle.lvdc_plain.specs.Run.{Opening, plugged, run}
use Rattle.lvdc_plain.specs.Table.{fetched_instr, request_by}
use Rattle.lvdc_plain.specs.View.{View}
use Rattle.lvdc_plain.specs.declared.records.PlainEnd.{PlainEnd}
use Rattle.lvdc_plain.specs.declared.records.PlainEnd.TheVariants.{Done, Stopped, Device}
use Rattle.lvdc_plain.specs.declared.records.Stop.{Stop}

-- the machine shows this state: the same registers, memory, log and times
pub record Shows (m : View) (p : PlainState) : Type 0 where
  pub banks : m.banks ≡ p.banks
  pub place : m.place ≡ p.place
  pub a : m.a ≡ p.a
  pub pq : m.pq ≡ p.pq
  pub saver : m.saver ≡ p.saver
  pub pending : m.pending ≡ p.pending
  pub hold : m.hold ≡ p.hold
  pub memory : IsMemory m.words p.memory
  pub log : m.log ≡ p.log
  pub times : m.times ≡ p.times

-- the request names this port; no request names none
abbrev pub Names : Option PortRequest → ℕ → Type 0
Names None port = ⊥
Names (Some request) port = port_of request ≡ port

-- what the instruction fetched asks of the ports
abbrev pub request_at : PlainState → Option PortRequest
request_at p = request_by (fetched_instr p).op p (fetched_instr p).address

-- it runs: it is where the run is after these times
pub record IsRunning (o : Opening) (t : ℕ) (m : View) (devices : List device.Device) : Type 0 where
  pub shows : Shows m (run o t).plain
  pub left : devices ≡ (run o t).devices
  pub stop : (run o t).plain.stop ≡ None
  pub times : m.times ≡ t

-- it stopped in the step of this number for this cause: so has the run, and the last time made is that of the step
pub record HasStopped (o : Opening) (t : ℕ) (m : View) (devices : List device.Device) (number : ℕ) (cause : Stop) : Type 0 where
  pub shows : Shows m (run o t).plain
  pub left : devices ≡ (run o t).devices
  pub stop : (run o t).plain.stop ≡ Some cause
  pub step : number + 1 ≡ 3 * m.times

-- the device at this port failed in the step of this number: the machine is where the run is after the whole times
-- before it, the devices are those left when the next time begins, and its instruction asks for an exchange with exactly
-- this port
pub record HasFailed (o : Opening) (t : ℕ) (m : View) (devices : List device.Device) (number port : ℕ) : Type 0 where
  pub early : m.times < t
  pub shows : Shows m (run o m.times).plain
  pub left : devices ≡ plugged o.unplugs m.times (run o m.times).devices
  pub stop : (run o m.times).plain.stop ≡ None
  pub hold : (run o m.times).plain.hold ≡ 0
  pub step : number ≡ 3 * m.times + 2
  pub asked : Names (request_at (run o m.times).plain) port

-- where the machine is, by the end that it keeps
abbrev pub EndsAs : Opening → ℕ → View → List device.Device → Option PlainEnd → Type 0
EndsAs o t m devices None = IsRunning o t m devices
EndsAs o t m devices (Some (Stopped step stop)) = HasStopped o t m devices step stop
EndsAs o t m devices (Some (Device step port)) = HasFailed o t m devices step port
EndsAs o t m devices (Some Done) = ⊥

-- the machine and the devices stand after t times for this opening
pub record Stands (o : Opening) (t : ℕ) (m : View) (devices : List device.Device) : Type 0 where
  pub unplugs : m.unplugs ≡ o.unplugs
  pub ends : EndsAs o t m devices m.end

-- the device at this port failed, and it alone: its count rose, and no count has grown of another that is left
pub record FailedAlone (port : ℕ) (before after : ℕ → ℕ) (left : ℕ → Bool) : Type 0 where
  pub rose : Rose (before port) (after port)
  pub others : (other : ℕ) → other ≢ port → left other ≡ true → after other ≡ before other

-- what an end says of the counts of faults before and after, by port, where these ports are left: a failure has its
-- cause in the device that it names, and in it alone, and with every other end no count has grown
abbrev pub Caused : PlainEnd → (ℕ → ℕ) → (ℕ → ℕ) → (ℕ → Bool) → Type 0
Caused Done before after left = (port : ℕ) → left port ≡ true → after port ≡ before port
Caused (Stopped step stop) before after left = (port : ℕ) → left port ≡ true → after port ≡ before port
Caused (Device step port) before after left = FailedAlone port before after left
