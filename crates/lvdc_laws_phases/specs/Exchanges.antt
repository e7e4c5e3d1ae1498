-- What the plain machine exchanges with memory and ports in each phase of an instruction time.
use Rattle.std.specs.Prelude.{◌≡◌, ℕ, zero, suc, ◌^◌, ◌<◌, List}
use Rattle.std.specs.declared.option.Option.{Option}
use Rattle.std.specs.declared.option.Option.TheVariants.{None, Some}
use Rattle.lvdc_map.specs.Address.{Spot}
use Rattle.lvdc_map.specs.Memory.{word_at}
use Rattle.lvdc_map.specs.declared.placed.Placed.{Placed}
use Rattle.lvdc_isa.specs.declared.op.Op.{Op}
use Rattle.lvdc_port.specs.Device.{Device}
use Rattle.lvdc_port.specs.Devices.{exchange_word}
use Rattle.lvdc_port.specs.declared.requests.PortRequest.{PortRequest}
use Rattle.lvdc_port.specs.declared.requests.PortRequest.TheVariants.{Read, Write}
use Rattle.lvdc_plain.specs.declared.records.Stop.{Stop}
use Rattle.lvdc_plain.specs.Plain.{PlainState}
use Rattle.lvdc_plain.specs.Table.{fetched_instr, request_by, device_time}
use Rattle.lvdc_plain.specs.Accesses as plain
use Rattle.lvdc_modules.specs.declared.bus.Bus.{Bus}
use Rattle.lvdc_modules.specs.declared.wanted.Wanted.{Wanted}
use Rattle.lvdc_modules.specs.declared.wanted.Wanted.TheVariants.{Nothing, Fetch, Operand, Store, PortRead, PortWrite}

-- a read of this address, where there is one
abbrev pub read_wish : (Spot → Wanted) → Option Spot → Wanted
read_wish make None = Nothing
read_wish make (Some at) = make at

-- a store, where there is one
abbrev pub store_wish : Option Placed → Wanted
store_wish None = Nothing
store_wish (Some s) = Store s.at s.word

-- a port exchange, or where there is none a store
abbrev pub exchange_wish : Option PortRequest → Option Placed → Wanted
exchange_wish (Some (Read port)) s = PortRead port
exchange_wish (Some (Write port word)) s = PortWrite port word
exchange_wish None s = store_wish s

-- the port exchange or the store of an instruction
abbrev pub made_by : Op → PlainState → ℕ → Wanted
made_by op p address = exchange_wish (request_by op p address) (plain.store_of p op address)

-- by stop and hold: a stopped machine and a held one make none
abbrev pub made : Option Stop → ℕ → PlainState → Wanted
made None zero p = made_by (fetched_instr p).op p (fetched_instr p).address
made None (suc hold) p = Nothing
made (Some s) hold p = Nothing

-- in phase 0 the fetch, in phase 1 the read of the operand, in phase 2 the port exchange or the store
abbrev pub exchange_in : ℕ → PlainState → Wanted
exchange_in zero p = read_wish Fetch (plain.fetched p)
exchange_in (suc zero) p = read_wish Operand (plain.operand p)
exchange_in (suc (suc n)) p = made p.stop p.hold p

-- the word that a read gives
abbrev pub word_read : PlainState → Option Spot → ℕ
word_read p None = 0
word_read p (Some at) = word_at p.memory at

-- the word that the ports answer
abbrev pub port_answer : Wanted → List Device → ℕ → ℕ
port_answer (PortRead port) devices time = exchange_word (Read port) time devices
port_answer _ devices time = 0

-- the exchange put on the bus what the plain machine finds
abbrev pub IsAnswered : Wanted → Bus → PlainState → List Device → Type 0
IsAnswered (Fetch at) b p devices = b.memory ≡ word_at p.memory at
IsAnswered (Operand at) b p devices = b.memory ≡ word_at p.memory at
IsAnswered (PortRead port) b p devices = b.port ≡ exchange_word (Read port) (device_time p) devices
IsAnswered _ b p devices = Unit {0}

-- what the ports answer at this time are words
abbrev pub PortsFit : List Device → ℕ → Type 0
PortsFit devices time = (port : ℕ) → exchange_word (Read port) time devices < 2 ^ 26
