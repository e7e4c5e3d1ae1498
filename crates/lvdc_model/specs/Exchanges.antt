-- One step of the voted machine: devices are unplugged and cells damaged, the votes make one exchange, and all copies latch.
use Rattle.std.specs.Prelude.{ℕ, zero, suc, ◌/◌, ◌%◌, ◌^◌, Bool, true, false, ◌==◌, if◌then◌else◌, List, [], ◌∷◌, ◌++◌, bit_xor, Result, Ok, Err}
use Rattle.std.specs.declared.option.Option.{Option}
use Rattle.std.specs.declared.option.Option.TheVariants.{None, Some}
use Rattle.lvdc_map.specs.Address.{Spot}
use Rattle.lvdc_map.specs.Memory as memory
use Rattle.lvdc_port.specs.Devices.{exchange_word, after_exchange}
use Rattle.lvdc_port.specs.declared.requests.PortRequest.{PortRequest}
use Rattle.lvdc_port.specs.declared.requests.PortRequest.TheVariants as requests
use Rattle.lvdc_twin.specs.declared.both_bad.BothBad.{BothBad}
use Rattle.lvdc_twin.specs.declared.read_out.ReadOut.{ReadOut}
use Rattle.lvdc_modules.specs.Rows.{rows}
use Rattle.lvdc_modules.specs.Wish.{wish}
use Rattle.lvdc_modules.specs.declared.wanted.Wanted.{Wanted}
use Rattle.lvdc_modules.specs.declared.wanted.Wanted.TheVariants.{Nothing, Fetch, Operand, Store, PortRead, PortWrite}
use Rattle.lvdc_plain.specs.declared.records.Exchange.{Exchange}
use Rattle.lvdc_plain.specs.declared.records.Stop.TheVariants as stops
use Rattle.lvdc_fault.specs.declared.event.Event.{Event}
use Rattle.lvdc_fault.specs.declared.event.Event.TheVariants.{Damage}
use Rattle.lvdc_model.specs.declared.outcome.Outcome.{Outcome}
use Rattle.lvdc_model.specs.declared.outcome.Outcome.TheVariants as outcomes
use Rattle.lvdc_model.specs.declared.repair.Repair.{Repair}
use Rattle.lvdc_model.specs.Trial.{Trial, devices_left}
use Rattle.lvdc_model.specs.Twins.{Twins, with_place, read_answer, after_read, after_store}
use Rattle.lvdc_model.specs.Voted.{Voted, voted_bus, next_copies, counted}

-- ---- before the exchange

-- the damage of one event at its step; an event names the physical place
abbrev pub damages_by : ℕ → Event → Twins → Twins
damages_by step (Damage twin place t mask) twins =
    if t == step then with_place twins twin place (bit_xor (memory.word_at (twins.cells twin) place) mask) else twins
damages_by step _ twins = twins

-- the damage of a script at a step, in its order
abbrev pub damages : ℕ → List Event → Twins → Twins
damages step [] twins = twins
damages step (e ∷ es) twins = damages step es (damages_by step e twins)

-- a step begins: where a time begins, its devices are unplugged, and cells are damaged
abbrev pub begin_step : Trial → Voted → Voted
begin_step o v =
    record v {
      devices = devices_left o.opening.unplugs v.steps v.devices;
      twins = damages v.steps o.script v.twins;
    }

-- ---- after the exchange

-- the machine with this end
abbrev pub with_end : Voted → Outcome → Voted
with_end v e = record v { end = Some e }

-- the end that STOP means, by its low two bits: 1 is a wrong shift, 2 and 3 are EXM
abbrev pub stop_of : ℕ → ℕ → Option Outcome
stop_of zero step = None
stop_of (suc zero) step = Some (outcomes.Stopped step stops.Shift)
stop_of (suc (suc n)) step = Some (outcomes.Stopped step stops.Exm)

-- the end that the votes bring after a step
abbrev pub stop_after : ℕ → Voted → Option Outcome
stop_after step v = stop_of ((voted_bus v 0 0).exchange.stop % 4) step

-- the machine in which all copies latched, with these words from memory and port on the bus
abbrev pub with_latched : Trial → Voted → ℕ → ℕ → Voted
with_latched o v memory port = record v { copies = next_copies o.script v.steps 1 rows v.copies v.copies (voted_bus v memory port) }

-- the step is counted, and each copy that differs from the new vote; a stop ends the run
abbrev pub step_made : Voted → Voted
step_made v = record v { counts = counted v.copies v.counts; steps = suc v.steps; end = stop_after v.steps v }

-- all copies latch, and the step is made
abbrev pub latches : Trial → Voted → ℕ → ℕ → Voted
latches o v memory port = step_made (with_latched o v memory port)

-- ---- the exchange

-- what is noted of a read: the twin rewritten, if any
abbrev pub repair_by : Option ℕ → ℕ → Spot → Bool → List Repair
repair_by None step at switched = []
repair_by (Some twin) step at switched = record { step = step; at = at; twin = twin; switched = switched } ∷ []

-- a read that finds no good cell ends the run; else its word is on the bus
abbrev pub reading : Result ReadOut BothBad → Trial → Voted → Spot → Voted
reading (Err bad) o v at = with_end v (outcomes.Stopped v.steps (stops.Memory at))
reading (Ok r) o v at =
    latches o (record v {
      twins = after_read o v.steps v.twins at r;
      repairs = v.repairs ++ repair_by r.repaired v.steps at r.switched;
    }) r.word 0

-- a store goes to the twins that hold the address, and the word is what is intended there
abbrev pub storing : Trial → Voted → Spot → ℕ → Voted
storing o v at w = latches o (record v { twins = after_store o v.steps at w v.twins; intended = memory.stored v.intended at w }) 0 0

-- the time as a device is told it
abbrev pub device_time : Voted → ℕ
device_time v = v.steps / 3 % 2 ^ 26

-- what the ports answer to a request
abbrev pub port_word : Voted → PortRequest → ℕ
port_word v request = exchange_word request (device_time v) v.devices

-- the log with a line for this word
abbrev pub logged : Voted → ℕ → Bool → ℕ → List Exchange
logged v port reading word = v.log ++ record { time = v.steps / 3; port = port; reading = reading; word = word } ∷ []

-- the word that a port answers is logged, and on the bus
abbrev pub port_reading : Trial → Voted → ℕ → Voted
port_reading o v port =
    let word = port_word v (requests.Read port) in
    latches o (record v { devices = after_exchange (requests.Read port) v.devices; log = logged v port true word }) 0 word

-- the word that goes to a port is logged
abbrev pub port_writing : Trial → Voted → ℕ → ℕ → Voted
port_writing o v port word =
    latches o (record v { devices = after_exchange (requests.Write port word) v.devices; log = logged v port false word }) 0 0

-- the exchange, and then the latching
abbrev pub exchanges : Trial → Voted → Wanted → Voted
exchanges o v Nothing = latches o v 0 0
exchanges o v (Fetch at) = reading (read_answer o v.steps v.twins at) o v at
exchanges o v (Operand at) = reading (read_answer o v.steps v.twins at) o v at
exchanges o v (Store at word) = storing o v at word
exchanges o v (PortRead port) = port_reading o v port
exchanges o v (PortWrite port word) = port_writing o v port word

-- the exchange that the votes wish for
abbrev pub wished : Trial → Voted → Wanted
wished o v = wish (voted_bus v 0 0) o.opening.banks

-- a step that was begun is made
abbrev pub voted_step : Trial → Voted → Voted
voted_step o v = exchanges o v (wished o v)
