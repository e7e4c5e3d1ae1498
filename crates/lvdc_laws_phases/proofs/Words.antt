-- An instruction time keeps words.
use Rattle.std.proofs.Common.{rules, ◌≡◌, ℕ, zero, suc, ◌^◌, ◌<◌, ◌==◌, Bool, List, [], ◌∷◌, refl, arith, ℤ, pos, negsuc}
use Rattle.std.specs.Prelude.{bit_and, bit_xor}
use Rattle.std.specs.Int.Bits.{and_lt}
use Rattle.std.proofs.lemmas.Nat.{xor_lt}
use Rattle.std.proofs.lemmas.Bool.{cond_both}
use Rattle.std.specs.declared.option.Option.{Option}
use Rattle.std.specs.declared.option.Option.TheVariants.{None, Some}
use Rattle.lvdc_word.specs.Word.{word_of}
use Rattle.lvdc_word.specs.Results.{quotient_of}
use Rattle.lvdc_map.specs.Address.{Spot}
use Rattle.lvdc_map.specs.Hop.{HopConstant, IsHopConstant, word_of_hop, after}
use Rattle.lvdc_map.proofs.HopLaws.{word_of_hop-fits}
use Rattle.lvdc_map.specs.Memory.{word_at}
use Rattle.lvdc_map.specs.declared.place.Place.{Place}
use Rattle.lvdc_map.specs.declared.place.Place.TheVariants.{Memory, Pq, Saver}
use Rattle.lvdc_isa.specs.Instr.{takes_operand}
use Rattle.lvdc_isa.specs.Shift.{shifted}
use Rattle.lvdc_isa.specs.declared.instr.Instr.{Instr}
use Rattle.lvdc_isa.specs.declared.op.Op.{Op}
use Rattle.lvdc_port.specs.Device.{Device}
use Rattle.lvdc_port.specs.Devices.{exchange_word}
use Rattle.lvdc_port.specs.declared.requests.PortRequest.{PortRequest}
use Rattle.lvdc_port.specs.declared.requests.PortRequest.TheVariants.{Read, Write}
use Rattle.lvdc_plain.specs.declared.records.Pending.{Pending}
use Rattle.lvdc_plain.specs.declared.records.Stop.{Stop}
use Rattle.lvdc_plain.specs.Plain.{PlainState}
use Rattle.lvdc_plain.specs.Table.{fetched_instr, operand_place, word_of_place, device_time, word_taken, request_by, answered, effect, landed_pq, landed_a, later, pq_after, pending_after, makes, waits, step_by, step}
use Rattle.lvdc_plain.specs.View.{ByInstruction}
use Rattle.lvdc_laws_phases.specs.Exchanges.{PortsFit}
use Rattle.lvdc_laws_phases.specs.Fits.{PendingFits, PlainFits}
use Rattle.lvdc_laws_phases.proofs.ByOperation.{in_range-effect}

-- what comes of words are words: results, shifts, places
word_of-fits : (z : ℤ) → word_of z < 2 ^ 26
word_of-fits (pos n) = omega arith
word_of-fits (negsuc n) = omega arith

quotient_of-fits : (a m : ℤ) (negative : Bool) → quotient_of a m negative < 2 ^ 26
quotient_of-fits a m negative = search (rules, word_of-fits)

shifted-fits : (a pattern : ℕ) → shifted a pattern < 2 ^ 26
shifted-fits a pattern = search (rules, word_of-fits)

after-fits : (h : HopConstant) → IsHopConstant h → word_of_hop (after h) < 2 ^ 26
after-fits h ok = word_of_hop-fits (after h) (record { imod = ok.imod; isec = ok.isec; syl = ok.syl; loc = omega arith; dmod = ok.dmod; dsec = ok.dsec })

-- ---- what an instruction leaves

-- an effect leaves words, and a stop that an instruction causes
effect-a : (op : Op) (p : PlainState) (address m : ℕ) → m < 2 ^ 26 → p.a < 2 ^ 26 → (effect op p address m).a < 2 ^ 26
effect-a op p address m small a =
    let both : bit_and p.a m < 2 ^ 26 = and_lt 26 p.a m a small in
    let differ : bit_xor p.a m < 2 ^ 26 = xor_lt 26 p.a m a small in
    search (rules, shifted-fits)

effect-saver : (op : Op) (p : PlainState) (address m : ℕ) → IsHopConstant p.place → p.saver < 2 ^ 26 → (effect op p address m).saver < 2 ^ 26
effect-saver op p address m ok saver = search (rules, after-fits)

effect-words : (op : Op) (p : PlainState) (address m : ℕ) (at : Spot) → p.a < 2 ^ 26 → p.saver < 2 ^ 26
    → word_at p.memory at < 2 ^ 26 → word_at (effect op p address m).memory at < 2 ^ 26
effect-words op p address m at a saver word = search rules

effect-stop : (op : Op) (p : PlainState) (address m : ℕ) → ByInstruction p.stop → ByInstruction (effect op p address m).stop
effect-stop op p address m stop = search rules

-- ---- what lands and what is issued

-- a landing leaves words
landed_pq-fits : (r : Option Pending) (pq : ℕ) → PendingFits r → pq < 2 ^ 26 → landed_pq r pq < 2 ^ 26
landed_pq-fits r pq ok small = search rules

landed_a-fits : (r : Option Pending) (a : ℕ) → PendingFits r → a < 2 ^ 26 → landed_a r a < 2 ^ 26
landed_a-fits r a ok small = search rules

later-fits : (r : Option Pending) → PendingFits r → PendingFits (later r)
later-fits r ok = search rules

pq_after-fits : (op : Op) (p : PlainState) (address pq : ℕ) → p.a < 2 ^ 26 → pq < 2 ^ 26 → pq_after op p address pq < 2 ^ 26
pq_after-fits op p address pq a small = search rules

pending_after-fits : (op : Op) (p : PlainState) (address m : ℕ) (r : Option Pending) → PendingFits r → PendingFits (pending_after op p address m r)
pending_after-fits op p address m r ok = search (rules, word_of-fits, quotient_of-fits)

-- ---- one time

-- one instruction time leaves words
makes-fits : (i : Instr) (p : PlainState) (m : ℕ) → m < 2 ^ 26 → PlainFits p → PlainFits (makes i p m)
makes-fits i p m small ok =
    record {
      place = in_range-effect i.op p i.address m ok.place;
      a = landed_a-fits p.pending (effect i.op p i.address m).a ok.pending (effect-a i.op p i.address m small ok.a);
      pq = pq_after-fits i.op p i.address (landed_pq p.pending p.pq) ok.a (landed_pq-fits p.pending p.pq ok.pending ok.pq);
      saver = effect-saver i.op p i.address m ok.place ok.saver;
      pending = pending_after-fits i.op p i.address m (later p.pending) (later-fits p.pending ok.pending);
      words = λ at. effect-words i.op p i.address m at ok.a ok.saver (ok.words at);
      stop = effect-stop i.op p i.address m ok.stop;
    }

waits-fits : (hold : ℕ) (p : PlainState) → PlainFits p → PlainFits (waits hold p)
waits-fits hold p ok =
    record {
      place = ok.place;
      a = landed_a-fits p.pending p.a ok.pending ok.a;
      pq = landed_pq-fits p.pending p.pq ok.pending ok.pq;
      saver = ok.saver;
      pending = later-fits p.pending ok.pending;
      words = ok.words;
      stop = ok.stop;
    }

-- what is taken from memory and ports are words
word_of_place-fits : (p : PlainState) (place : Place) → PlainFits p → word_of_place p place < 2 ^ 26
word_of_place-fits p (Memory at) ok = ok.words at
word_of_place-fits p Pq ok = ok.pq
word_of_place-fits p (Saver at) ok = ok.words at

-- a write answers 0
write-answers : (port word time : ℕ) (devices : List Device) → exchange_word (Write port word) time devices ≡ 0
write-answers port word time [] = refl
write-answers port word time (device ∷ devices) =
    cond_both (device.port == port) 0 (exchange_word (Write port word) time devices) (λ x. x ≡ 0) (λ _. refl) (λ _. write-answers port word time devices)

answered-fits : (request : Option PortRequest) (time : ℕ) (devices : List Device) → PortsFit devices time → answered request time devices < 2 ^ 26
answered-fits None time devices ports = omega arith
answered-fits (Some (Read port)) time devices ports = ports port
answered-fits (Some (Write port word)) time devices ports = omega (arith, write-answers port word time devices)

word_taken-fits : (i : Instr) (p : PlainState) (devices : List Device) → PortsFit devices (device_time p) → PlainFits p → word_taken i p devices < 2 ^ 26
word_taken-fits i p devices ports ok =
    cond_both (takes_operand i.op) _ _ (λ x. x < 2 ^ 26) (λ _. word_of_place-fits p (operand_place p i.address) ok)
    (λ _. answered-fits (request_by i.op p i.address) (device_time p) devices ports)

step_by-fits : (stop : Option Stop) (hold : ℕ) (p : PlainState) (devices : List Device) → PortsFit devices (device_time p) → PlainFits p
    → PlainFits (step_by stop hold p devices).plain
step_by-fits (Some s) hold p devices ports ok = ok
step_by-fits None (suc hold) p devices ports ok = waits-fits hold p ok
step_by-fits None zero p devices ports ok =
    makes-fits (fetched_instr p) p (word_taken (fetched_instr p) p devices) (word_taken-fits (fetched_instr p) p devices ports ok) ok

pub step-fits : (p : PlainState) (devices : List Device) → PortsFit devices (device_time p) → PlainFits p → PlainFits (step p devices).plain
step-fits p devices ports ok = step_by-fits p.stop p.hold p devices ports ok
