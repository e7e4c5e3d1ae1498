-- The instruction table, and one instruction time.
use Rattle.std.specs.Prelude.{ℕ, zero, suc, ◌+◌, ◌-◌, ◌%◌, ◌^◌, Bool, true, false, ◌==◌, ◌&&◌, if◌then◌else◌, List, [], ◌∷◌, ◌++◌, unwrap_or, option_map, bit_and, bit_xor}
use Rattle.std.specs.declared.option.Option.{Option}
use Rattle.std.specs.declared.option.Option.TheVariants.{None, Some}
use Rattle.lvdc_word.specs.Word.{sum, difference}
use Rattle.lvdc_word.specs.Results.{product, quotient}
use Rattle.lvdc_map.specs.Hop.{hop_of, word_of_hop, after, fetch_of, syllable_at, bit}
use Rattle.lvdc_map.specs.Memory as memory
use Rattle.lvdc_map.specs.Place.{place_of, a9, low_bits, jumped, with_data}
use Rattle.lvdc_map.specs.declared.place.Place.{Place}
use Rattle.lvdc_map.specs.declared.place.Place.TheVariants.{Memory, Pq, Saver}
use Rattle.lvdc_isa.specs.Instr.{instr, takes_operand}
use Rattle.lvdc_isa.specs.Shift.{shifted}
use Rattle.lvdc_isa.specs.declared.instr.Instr.{Instr}
use Rattle.lvdc_isa.specs.declared.op.Op.{Op}
use Rattle.lvdc_isa.specs.declared.op.Op.TheVariants.{Hop, Mpy, Sub, Div, Tnz, Mph, And, Add, Tra, Xor, Pio, Sto, Tmi, Rsu, Cds, Shf, WrongShift, Exm, Cla}
use Rattle.lvdc_port.specs.Device.{Device, word_of_time}
use Rattle.lvdc_port.specs.Devices.{exchange_word, after_exchange}
use Rattle.lvdc_port.specs.declared.requests.PortRequest.{PortRequest}
use Rattle.lvdc_port.specs.declared.requests.PortRequest.TheVariants.{Read, Write}
use Rattle.lvdc_plain.specs.declared.records.Exchange.{Exchange}
use Rattle.lvdc_plain.specs.declared.records.Pending.{Pending}
use Rattle.lvdc_plain.specs.declared.records.Stop.{Stop}
use Rattle.lvdc_plain.specs.declared.records.Stop.TheVariants as stops
use Rattle.lvdc_plain.specs.Plain.{PlainState, World}

-- ---- what an instruction takes

-- the instruction at the fetch address
abbrev pub fetched_instr : PlainState → Instr
fetched_instr p = instr (syllable_at p.place (p.memory (fetch_of p.banks p.place)))

-- the word at a place; a word of the saver, one of the two at which STO keeps it, is read as memory
abbrev pub word_of_place : PlainState → Place → ℕ
word_of_place p (Memory at) = p.memory at
word_of_place p Pq = p.pq
word_of_place p (Saver at) = p.memory at

-- what an instruction asks of the ports: only PIO does, and A9 tells a read from a write of A
abbrev pub request_by : Op → PlainState → ℕ → Option PortRequest
request_by Pio p address = Some (if a9 address then Read (low_bits address) else Write (low_bits address) p.a)
request_by _ p address = None

-- the word that the ports answer
abbrev pub answered : Option PortRequest → ℕ → List Device → ℕ
answered asked time devices = unwrap_or (option_map (λ request. exchange_word request time devices) asked) 0

-- the devices after what was asked of the ports
abbrev pub exchanged : Option PortRequest → List Device → List Device
exchanged asked devices = unwrap_or (option_map (λ request. after_exchange request devices) asked) devices

-- the word that an instruction takes: of its operand place where it has an operand, else of the ports, with the time modulo 2 ^ 26
abbrev pub word_taken : Instr → PlainState → List Device → ℕ
word_taken i p devices =
    if takes_operand i.op then word_of_place p (place_of p.banks p.place i.address)
    else answered (request_by i.op p i.address) (p.times % 2 ^ 26) devices

-- ---- the rows of the table: from the state, the address and the word taken, the state that the instruction leaves

-- goes on to the next location
abbrev pub goes_on : PlainState → PlainState
goes_on p = record p { place = after p.place }

-- goes on with this word in the accumulator
abbrev pub takes : PlainState → ℕ → PlainState
takes p w = record p { place = after p.place; a = w }

-- goes to the syllable and location of an address in the same sector, and saves the place after this instruction
abbrev pub transfers : PlainState → ℕ → PlainState
transfers p address = record p { place = jumped p.place address; saver = word_of_hop (after p.place) }

-- stores by place; what is stored in PQ stands there after the landing
abbrev pub stores : PlainState → Place → PlainState
stores p (Memory at) = record (goes_on p) { memory = memory.stored p.memory at p.a }
stores p (Saver at) = record (goes_on p) { memory = memory.stored p.memory at p.saver }
stores p Pq = goes_on p

-- what an instruction does to place, accumulator, saver, memory, hold and stop
abbrev pub effect : Op → PlainState → ℕ → ℕ → PlainState
effect Hop p address m = record p { place = hop_of m; saver = word_of_hop (after p.place) }
effect Mpy p address m = goes_on p
effect Sub p address m = takes p (difference p.a m)
effect Div p address m = goes_on p
effect Tnz p address m = if p.a == 0 then goes_on p else transfers p address
effect Mph p address m = record (goes_on p) { hold = 4 }
effect And p address m = takes p (bit_and p.a m)
effect Add p address m = takes p (sum p.a m)
effect Tra p address m = transfers p address
effect Xor p address m = takes p (bit_xor p.a m)
effect Pio p address m = if a9 address then takes p m else goes_on p
effect Sto p address m = stores p (place_of p.banks p.place address)
effect Tmi p address m = if bit p.a 25 then transfers p address else goes_on p
effect Rsu p address m = takes p (difference m p.a)
effect Cds p address m = record p { place = with_data (after p.place) address }
effect Shf p address m = takes p (shifted p.a (address % 2 ^ 7))
effect WrongShift p address m = record p { stop = Some stops.Shift }
effect Exm p address m = record p { stop = Some stops.Exm }
effect Cla p address m = takes p m

-- ---- results on their way

-- what was pending loses one of its times left, and lands where one was left: PQ after it
abbrev pub landed_pq : Option Pending → ℕ → ℕ
landed_pq None pq = pq
landed_pq (Some r) pq = if r.left == 1 then r.result else pq

-- the accumulator after the landing: only a result that goes to it changes it
abbrev pub landed_a : Option Pending → ℕ → ℕ
landed_a None a = a
landed_a (Some r) a = if r.left == 1 && r.to_a then r.result else a

-- what is still pending after the landing
abbrev pub later : Option Pending → Option Pending
later None = None
later (Some r) = if r.left == 1 then None else Some (record r { left = r.left - 1 })

-- is a place PQ?
abbrev pub is_pq : Place → Bool
is_pq Pq = true
is_pq _ = false

-- PQ after an instruction made from p, where the landing left it pq
abbrev pub pq_after : Op → PlainState → ℕ → ℕ → ℕ
pq_after Sto p address pq = if is_pq (place_of p.banks p.place address) then p.a else pq
pq_after _ p address pq = pq

-- what is pending after an instruction made from p, where the landing left r: a new result takes its place, a store to PQ cancels it
abbrev pub pending_after : Op → PlainState → ℕ → ℕ → Option Pending → Option Pending
pending_after Mpy p address m r = Some (record { left = 4; result = product p.a m; to_a = false })
pending_after Mph p address m r = Some (record { left = 4; result = product p.a m; to_a = true })
pending_after Div p address m r = Some (record { left = 8; result = quotient p.a m; to_a = false })
pending_after Sto p address m r = if is_pq (place_of p.banks p.place address) then None else r
pending_after _ p address m r = r

-- the log with the port exchange of an instruction
abbrev pub logged : Op → PlainState → ℕ → ℕ → List Exchange
logged Pio p address m =
    p.log ++ record { time = p.times; port = low_bits address; reading = a9 address; word = if a9 address then m else p.a } ∷ []
logged _ p address m = p.log

-- ---- one instruction time

-- an instruction is made, which takes the word m: its effect, then the landing (for A in a time that is held), then what it issues
abbrev pub makes : Instr → PlainState → ℕ → PlainState
makes i p m =
    record (effect i.op p i.address m) {
      a = landed_a p.pending (effect i.op p i.address m).a;
      pq = pq_after i.op p i.address (landed_pq p.pending p.pq);
      pending = pending_after i.op p i.address m (later p.pending);
      log = logged i.op p i.address m;
      times = p.times + 1;
    }

-- nothing is fetched, and this hold is left
abbrev pub waits : ℕ → PlainState → PlainState
waits hold p =
    record p { a = landed_a p.pending p.a; pq = landed_pq p.pending p.pq; pending = later p.pending; hold = hold; times = p.times + 1 }

-- an instruction is made with the devices there
abbrev pub executes : Instr → PlainState → List Device → World
executes i p devices = record { plain = makes i p (word_taken i p devices); devices = exchanged (request_by i.op p i.address) devices }

-- by stop and hold: a stopped machine stays, a held one waits
abbrev pub step_by : Option Stop → ℕ → PlainState → List Device → World
step_by (Some s) hold p devices = record { plain = p; devices = devices }
step_by None (suc hold) p devices = record { plain = waits hold p; devices = devices }
step_by None zero p devices = executes (fetched_instr p) p devices

-- one instruction time, which is three steps of a trial
abbrev pub step : PlainState → List Device → World
step p devices = step_by p.stop p.hold p devices

-- ---- for the laws

-- the place that an operand address names in a state
abbrev pub operand_place : PlainState → ℕ → Place
operand_place p address = place_of p.banks p.place address

-- the time as a device is told it
abbrev pub device_time : PlainState → ℕ
device_time p = word_of_time p.times
