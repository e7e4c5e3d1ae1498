-- What one time of the plain run leaves, by its one exchange; and the run, time after time.
use Rattle.std.proofs.Common.{◌≡◌, ℕ, zero, suc, ◌%◌, ◌^◌, ◌<◌, Bool, true, false, cond, List, [], ◌∷◌, ◌++◌, refl}
use Rattle.std.specs.Prelude.{◌==◌}
use Rattle.std.specs.declared.option.Option.{Option}
use Rattle.std.specs.declared.option.Option.TheVariants.{None, Some}
use Rattle.lvdc_map.specs.Hop.{bit}
use Rattle.lvdc_map.specs.Place.{a9}
use Rattle.lvdc_map.specs.declared.place.Place.{Place}
use Rattle.lvdc_map.specs.declared.place.Place.TheVariants.{Memory, Pq, Saver}
use Rattle.lvdc_map.specs.declared.placed.Placed.{Placed}
use Rattle.lvdc_isa.specs.declared.op.Op.{Op}
use Rattle.lvdc_isa.specs.declared.op.Op.TheVariants.{Tnz, Pio, Sto, Tmi}
use Rattle.lvdc_port.specs.Device.{Device}
use Rattle.lvdc_port.specs.Devices.{exchange_word, after_exchange, HoldWords}
use Rattle.lvdc_port.specs.declared.requests.PortRequest.TheVariants.{Read, Write}
use Rattle.lvdc_modules.specs.declared.wanted.Wanted.{Wanted}
use Rattle.lvdc_modules.specs.declared.wanted.Wanted.TheVariants as wanted
use Rattle.lvdc_plain.specs.Accesses.{store_of, store_to, accessed}
use Rattle.lvdc_plain.specs.Plain.{PlainState}
use Rattle.lvdc_plain.specs.Table.{fetched_instr, operand_place, request_by, exchanged, word_taken, goes_on, takes, transfers, stores, effect, logged, step, step_by}
use Rattle.lvdc_plain.specs.declared.records.Exchange.{Exchange}
use Rattle.lvdc_plain.specs.declared.records.Stop.{Stop}
use Rattle.lvdc_laws_phases.specs.Exchanges.{store_wish, exchange_wish, made_by, made}
use Rattle.lvdc_model.specs.Runs.{read_of_wish}
use Rattle.lvdc_laws_voted.specs.Laws.{DeviceWords}
use Rattle.lvdc_laws_voted.specs.Leaves.{memory_after, devices_after, log_after, LeavesByExchange}

-- ---- what an instruction leaves

-- what both sides of a choice keep, the choice keeps
either : {X : Type 0} (F : PlainState → X) (b : Bool) (p q : PlainState) (x : X) → F p ≡ x → F q ≡ x → F (cond b p q) ≡ x
either F true p q x e f = e
either F false p q x e f = f

-- what an instruction does to memory, banks, log and devices is what the exchange of its time does
stores-memory : (p : PlainState) (place : Place) → (stores p place).memory ≡ memory_after (store_wish (store_to p place)) p.memory
stores-memory p (Memory at) = refl
stores-memory p (Saver at) = refl
stores-memory p Pq = refl

port-memory : (b : Bool) (address : ℕ) (p q r : PlainState) → p.memory ≡ r.memory → q.memory ≡ r.memory
    → (cond b p q).memory ≡ memory_after (exchange_wish (Some (cond b (Read (address % 2 ^ 8)) (Write (address % 2 ^ 8) r.a))) None) r.memory
port-memory true address p q r e f = e
port-memory false address p q r e f = f

effect-memory : (op : Op) (p : PlainState) (address m : ℕ) → (effect op p address m).memory ≡ memory_after (made_by op p address) p.memory
effect-memory Tnz p address m = either (λ q. q.memory) (p.a == 0) (goes_on p) (transfers p address) p.memory refl refl
effect-memory Tmi p address m = either (λ q. q.memory) (bit p.a 25) (transfers p address) (goes_on p) p.memory refl refl
effect-memory Pio p address m = port-memory (a9 address) address (takes p m) (goes_on p) p refl refl
effect-memory Sto p address m = stores-memory p (operand_place p address)
effect-memory _ p address m = refl

stores-banks : (p : PlainState) (place : Place) → (stores p place).banks ≡ p.banks
stores-banks p (Memory at) = refl
stores-banks p (Saver at) = refl
stores-banks p Pq = refl

effect-banks : (op : Op) (p : PlainState) (address m : ℕ) → (effect op p address m).banks ≡ p.banks
effect-banks Tnz p address m = either (λ q. q.banks) (p.a == 0) (goes_on p) (transfers p address) p.banks refl refl
effect-banks Tmi p address m = either (λ q. q.banks) (bit p.a 25) (transfers p address) (goes_on p) p.banks refl refl
effect-banks Pio p address m = either (λ q. q.banks) (a9 address) (takes p m) (goes_on p) p.banks refl refl
effect-banks Sto p address m = stores-banks p (operand_place p address)
effect-banks _ p address m = refl

port-log : (b : Bool) (log : List Exchange) (devices : List Device) (time port a : ℕ)
    → log ++ record { time = time; port = port; reading = b; word = cond b (exchange_word (cond b (Read port) (Write port a)) (time % 2 ^ 26) devices) a } ∷ []
    ≡ log_after (exchange_wish (Some (cond b (Read port) (Write port a))) None) log devices time
port-log true log devices time port a = refl
port-log false log devices time port a = refl

store-log : (s : Option Placed) (log : List Exchange) (devices : List Device) (time : ℕ) → log ≡ log_after (store_wish s) log devices time
store-log None log devices time = refl
store-log (Some s) log devices time = refl

executes-log : (op : Op) (address : ℕ) (p : PlainState) (devices : List Device)
    → logged op p address (word_taken (record { op = op; address = address }) p devices) ≡ log_after (made_by op p address) p.log devices p.times
executes-log Pio address p devices = port-log (a9 address) p.log devices p.times (address % 2 ^ 8) p.a
executes-log Sto address p devices = store-log (store_to p (operand_place p address)) p.log devices p.times
executes-log _ address p devices = refl

port-devices : (b : Bool) (devices : List Device) (port a : ℕ)
    → after_exchange (cond b (Read port) (Write port a)) devices ≡ devices_after (exchange_wish (Some (cond b (Read port) (Write port a))) None) devices
port-devices true devices port a = refl
port-devices false devices port a = refl

store-devices : (s : Option Placed) (devices : List Device) → devices ≡ devices_after (store_wish s) devices
store-devices None devices = refl
store-devices (Some s) devices = refl

executes-devices : (op : Op) (address : ℕ) (p : PlainState) (devices : List Device) → exchanged (request_by op p address) devices ≡ devices_after (made_by op p address) devices
executes-devices Pio address p devices = port-devices (a9 address) devices (address % 2 ^ 8) p.a
executes-devices Sto address p devices = store-devices (store_to p (operand_place p address)) devices
executes-devices _ address p devices = refl

-- ---- one time

-- so of a whole time, by stop and hold
step-leaves_by : (stop : Option Stop) (hold : ℕ) (p : PlainState) (devices : List Device) → stop ≡ None → LeavesByExchange (made stop hold p) p devices (step_by stop hold p devices)
step-leaves_by (Some s) hold p devices e = absurd (cc)
step-leaves_by None (suc hold) p devices e = record { memory = refl; log = refl; devices = refl; times = refl; banks = refl }
step-leaves_by None zero p devices e =
    let i = fetched_instr p in
    let m = word_taken i p devices in
    record {
      memory = effect-memory i.op p i.address m;
      log = executes-log i.op i.address p devices;
      devices = executes-devices i.op i.address p devices;
      times = refl;
      banks = effect-banks i.op p i.address m;
    }

pub step-leaves : (p : PlainState) (devices : List Device) → p.stop ≡ None → LeavesByExchange (made p.stop p.hold p) p devices (step p devices)
step-leaves p devices e = step-leaves_by p.stop p.hold p devices e

-- ---- what the exchange of the third phase is

-- what phase C makes is no read
made_by-reads_none : (op : Op) (p : PlainState) (address : ℕ) → read_of_wish (made_by op p address) ≡ None
made_by-reads_none Sto p address = by_store (store_to p (operand_place p address))
  where
    by_store : (s : Option Placed) → read_of_wish (store_wish s) ≡ None
    by_store None = refl
    by_store (Some s) = refl
made_by-reads_none Pio p address = by_port (a9 address) (address % 2 ^ 8) p.a
  where
    by_port : (b : Bool) (port w : ℕ) → read_of_wish (exchange_wish (Some (cond b (Read port) (Write port w))) None) ≡ None
    by_port true port w = refl
    by_port false port w = refl
made_by-reads_none _ p address = refl

-- it reads nothing of memory
pub made-reads_none : (stop : Option Stop) (hold : ℕ) (p : PlainState) → read_of_wish (made stop hold p) ≡ None
made-reads_none None zero p = made_by-reads_none (fetched_instr p).op p (fetched_instr p).address
made-reads_none None (suc hold) p = refl
made-reads_none (Some s) hold p = refl

-- the store that is wanted
abbrev pub store_of_wish : Wanted → Option Placed
store_of_wish (wanted.Store at w) = Some (record { at = at; word = w })
store_of_wish _ = None

-- and a store where the plain machine stores
made_by-store : (op : Op) (p : PlainState) (address : ℕ) → store_of p op address ≡ store_of_wish (made_by op p address)
made_by-store Sto p address = by_store (store_to p (operand_place p address))
  where
    by_store : (s : Option Placed) → s ≡ store_of_wish (store_wish s)
    by_store None = refl
    by_store (Some s) = refl
made_by-store Pio p address = by_port (a9 address) (address % 2 ^ 8) p.a
  where
    by_port : (b : Bool) (port w : ℕ) → None ≡ store_of_wish (exchange_wish (Some (cond b (Read port) (Write port w))) None)
    by_port true port w = refl
    by_port false port w = refl
made_by-store _ p address = refl

pub made-store : (stop : Option Stop) (hold : ℕ) (p : PlainState) → accessed stop hold (store_of p (fetched_instr p).op (fetched_instr p).address) ≡ store_of_wish (made stop hold p)
made-store None zero p = made_by-store (fetched_instr p).op p (fetched_instr p).address
made-store None (suc hold) p = refl
made-store (Some s) hold p = refl

-- ---- the devices after it hold words

-- it carries words
made_by-words : DeviceWords → (op : Op) (p : PlainState) (address : ℕ) (devices : List Device) → p.a < 2 ^ 26 → HoldWords devices
    → HoldWords (devices_after (made_by op p address) devices)
made_by-words law Sto p address devices small h = by_store (store_to p (operand_place p address))
  where
    by_store : (s : Option Placed) → HoldWords (devices_after (store_wish s) devices)
    by_store None = h
    by_store (Some s) = h
made_by-words law Pio p address devices small h = by_port (a9 address)
  where
    by_port : (b : Bool) → HoldWords (devices_after (exchange_wish (Some (cond b (Read (address % 2 ^ 8)) (Write (address % 2 ^ 8) p.a))) None) devices)
    by_port true = law.exchange (Read (address % 2 ^ 8)) devices h tt
    by_port false = law.exchange (Write (address % 2 ^ 8) p.a) devices h small
made_by-words law _ p address devices small h = h

pub made-words : DeviceWords → (stop : Option Stop) (hold : ℕ) (p : PlainState) (devices : List Device) → p.a < 2 ^ 26 → HoldWords devices
    → HoldWords (devices_after (made stop hold p) devices)
made-words law None zero p devices small h = made_by-words law (fetched_instr p).op p (fetched_instr p).address devices small h
made-words law None (suc hold) p devices small h = h
made-words law (Some s) hold p devices small h = h
