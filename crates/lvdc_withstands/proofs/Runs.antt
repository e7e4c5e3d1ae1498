-- The plain run holds words, reads where a bank is, and its memory changes by its stores.
use Rattle.std.proofs.Common.{◌≡◌, ℕ, zero, suc, ◌/◌, ◌%◌, ◌^◌, ◌<◌, Bool, true, false, cond, List, [], ◌∷◌, refl, sym, ap, ◌∙◌, subst, arith}
use Rattle.std.specs.Prelude.{◌==◌}
use Rattle.std.specs.declared.option.Option.{Option}
use Rattle.std.specs.declared.option.Option.TheVariants.{None, Some}
use Rattle.lvdc_map.specs.Address.{Spot}
use Rattle.lvdc_map.specs.Banks.{HasBank}
use Rattle.lvdc_map.specs.Hop.{HopConstant, IsHopConstant, fetch_of}
use Rattle.lvdc_map.specs.Memory as memory
use Rattle.lvdc_map.specs.Place.{data_spot}
use Rattle.lvdc_map.specs.declared.place.Place.TheVariants as places
use Rattle.lvdc_map.specs.declared.placed.Placed.{Placed}
use Rattle.lvdc_isa.specs.Instr.{takes_operand}
use Rattle.lvdc_port.specs.Device.{Device}
use Rattle.lvdc_port.specs.Devices.{without, HoldWords}
use Rattle.lvdc_port.specs.declared.requests.PortRequest.TheVariants.{Read}
use Rattle.lvdc_modules.specs.declared.wanted.Wanted.{Wanted}
use Rattle.lvdc_modules.specs.declared.wanted.Wanted.TheVariants as wanted
use Rattle.lvdc_plain.specs.Accesses.{store, address_of_place, accessed, operand_of, store_of}
use Rattle.lvdc_plain.specs.Plain.{PlainState, World}
use Rattle.lvdc_plain.specs.Run.{Opening, plugged, time_by, run}
use Rattle.lvdc_plain.specs.Table.{fetched_instr, operand_place, device_time, step}
use Rattle.lvdc_plain.specs.declared.records.Stop.{Stop}
use Rattle.lvdc_plain.specs.declared.records.Unplug.{Unplug}
use Rattle.lvdc_laws_phases.specs.Exchanges.{made, PortsFit}
use Rattle.lvdc_laws_phases.specs.Fits.{PlainFits}
use Rattle.lvdc_model.specs.Trial.{Trial, plain_in, read_in_phase, read_at, store_in_phase, store_at}
use Rattle.lvdc_laws_voted.specs.Laws.{PortLaw, DeviceWords, BankLaw}
use Rattle.lvdc_laws_voted.specs.Leaves.{memory_after}
use Rattle.lvdc_laws_voted.proofs.PlainRuns.{banks-stay}
use Rattle.lvdc_laws_voted.proofs.PlainTimes.{store_of_wish, made-store, made-words}
use Rattle.lvdc_withstands.proofs.Cells.{word_after}

-- ---- words

-- an instruction time of words leaves words
abbrev pub WordsLaw : Type 0
WordsLaw = (p : PlainState) (devices : List Device) → PortsFit devices (device_time p) → PlainFits p → PlainFits (step p devices).plain

-- machine and devices hold words
pub record HasWords (w : World) : Type 0 where
  pub plain : PlainFits w.plain
  pub devices : HoldWords w.devices

plugged-words : DeviceWords → (unplugs : List Unplug) (time : ℕ) (devices : List Device) → HoldWords devices → HoldWords (plugged unplugs time devices)
plugged-words law [] time devices h = h
plugged-words law (line ∷ lines) time devices h = plugged-words law lines time _ (by_time (line.time == time))
  where
    by_time : (b : Bool) → HoldWords (cond b (without (λ (d : Device). d) line.port devices) devices)
    by_time true = law.unplug line.port devices h
    by_time false = h

time-words : PortLaw → DeviceWords → WordsLaw → (stop : Option Stop) (o : Opening) (w : World) → w.plain.stop ≡ stop → HasWords w → HasWords (time_by stop o.unplugs w)
time-words ports words keep (Some s) o w e h = h
time-words ports words keep None o w e h =
    let devices = plugged o.unplugs w.plain.times w.devices in
    let hold : HoldWords devices = plugged-words words o.unplugs w.plain.times w.devices h.devices in
    let small : device_time w.plain < 2 ^ 26 = omega arith in
    record {
      plain = keep w.plain devices (λ port. words.answer (Read port) (device_time w.plain) devices hold small) h.plain;
      devices = subst HoldWords (sym (ports w.plain devices e).devices) (made-words words w.plain.stop w.plain.hold w.plain devices h.plain.a hold);
    }

pub run-words : PortLaw → DeviceWords → WordsLaw → (o : Opening) → HasWords (run o 0) → (k : ℕ) → HasWords (run o k)
run-words ports words keep o opens zero = opens
run-words ports words keep o opens (suc k) = time-words ports words keep (run o k).plain.stop o (run o k) refl (run-words ports words keep o opens k)

-- ---- the bank of what is read

-- the bank of an address, where there is one
abbrev pub HasBanks : ℕ → Option Spot → Type 0
HasBanks banks None = Unit {0}
HasBanks banks (Some at) = HasBank banks at

place-bank : BankLaw → (banks : ℕ) (h : HopConstant) (address : ℕ) → IsHopConstant h → (pq saver : Bool)
    → HasBanks banks (address_of_place (cond pq places.Pq (cond saver (places.Saver (data_spot banks h address)) (places.Memory (data_spot banks h address)))))
place-bank law banks h address ok true saver = tt
place-bank law banks h address ok false true = law banks h.dmod (data_spot banks h address) ok.dmod refl
place-bank law banks h address ok false false = law banks h.dmod (data_spot banks h address) ok.dmod refl

fetch-bank : BankLaw → (stop : Option Stop) (hold : ℕ) (p : PlainState) → IsHopConstant p.place → HasBanks p.banks (accessed stop hold (Some (fetch_of p.banks p.place)))
fetch-bank law None zero p ok = law p.banks p.place.imod _ ok.imod refl
fetch-bank law None (suc hold) p ok = tt
fetch-bank law (Some s) hold p ok = tt

operand-bank : BankLaw → (stop : Option Stop) (hold : ℕ) (p : PlainState) → IsHopConstant p.place → HasBanks p.banks (accessed stop hold (operand_of p (fetched_instr p)))
operand-bank law None zero p ok = by_takes (takes_operand (fetched_instr p).op)
  where
    address : ℕ
    address = (fetched_instr p).address

    by_takes : (b : Bool) → HasBanks p.banks (cond b (address_of_place (operand_place p address)) None)
    by_takes true = place-bank law p.banks p.place address ok _ _
    by_takes false = tt
operand-bank law None (suc hold) p ok = tt
operand-bank law (Some s) hold p ok = tt

phase-bank : BankLaw → (n : ℕ) (p : PlainState) → IsHopConstant p.place → HasBanks p.banks (read_in_phase n p)
phase-bank law zero p ok = fetch-bank law p.stop p.hold p ok
phase-bank law (suc zero) p ok = operand-bank law p.stop p.hold p ok
phase-bank law (suc (suc n)) p ok = tt

pub read-bank : PortLaw → BankLaw → (o : Trial) (n : ℕ) → HasWords (run o.opening (n / 3)) → HasBanks o.opening.banks (read_at o n)
read-bank ports law o n h =
    subst (λ (banks : ℕ). HasBanks banks (read_at o n)) (banks-stay ports o.opening (n / 3)) (phase-bank law (n % 3) (plain_in o n) h.plain.place)

-- ---- the memory, by its stores

-- the memory after a store, where there is one
abbrev stored_by : Option Placed → memory.Memory → memory.Memory
stored_by None m = m
stored_by (Some s) m = memory.stored m s.at s.word

wish-memory : (w : Wanted) (m : memory.Memory) → memory_after w m ≡ stored_by (store_of_wish w) m
wish-memory (wanted.Store at word) m = refl
wish-memory wanted.Nothing m = refl
wish-memory (wanted.Fetch at) m = refl
wish-memory (wanted.Operand at) m = refl
wish-memory (wanted.PortRead port) m = refl
wish-memory (wanted.PortWrite port word) m = refl

time-memory : PortLaw → (stop : Option Stop) (o : Opening) (w : World) → w.plain.stop ≡ stop
    → (time_by stop o.unplugs w).plain.memory ≡ stored_by (accessed stop w.plain.hold (store_of w.plain (fetched_instr w.plain).op (fetched_instr w.plain).address)) w.plain.memory
time-memory law (Some s) o w e = refl
time-memory law None o w e =
    let p = w.plain in
    (law p (plugged o.unplugs p.times w.devices) e).memory
    ∙ ap (λ (stop : Option Stop). memory_after (made stop p.hold p) p.memory) e
    ∙ wish-memory (made None p.hold p) p.memory
    ∙ ap (λ (s : Option Placed). stored_by s p.memory) (sym (made-store None p.hold p))

stored-word : (s : Option Placed) (m : memory.Memory) (at : Spot) → memory.word_at (stored_by s m) at ≡ word_after s at (memory.word_at m at)
stored-word None m at = refl
stored-word (Some s) m at = refl

same_time : (o : Trial) (n k : ℕ) (at : Spot) → n / 3 ≡ k / 3 → memory.word_at (plain_in o n).memory at ≡ memory.word_at (plain_in o k).memory at
same_time o n k at e = ap (λ (i : ℕ). memory.word_at (run o.opening i).plain.memory at) e

next_by : PortLaw → (o : Trial) (n r : ℕ) (at : Spot) → n % 3 ≡ r
    → memory.word_at (plain_in o (suc n)).memory at ≡ word_after (store_in_phase r (plain_in o n)) at (memory.word_at (plain_in o n).memory at)
next_by law o n zero at e = same_time o (suc n) n at (omega arith)
next_by law o n (suc zero) at e = same_time o (suc n) n at (omega arith)
next_by law o n (suc (suc zero)) at e =
    let next : suc n / 3 ≡ suc (n / 3) = omega arith in
    let p = plain_in o n in
    ap (λ (i : ℕ). memory.word_at (run o.opening i).plain.memory at) next
    ∙ ap (λ (m : memory.Memory). memory.word_at m at) (time-memory law (run o.opening (n / 3)).plain.stop o.opening (run o.opening (n / 3)) refl)
    ∙ stored-word (store p) p.memory at
next_by law o n (suc (suc (suc r))) at e = absurd (omega arith)

-- the word at an address after a step
pub next-word : PortLaw → (o : Trial) (n : ℕ) (at : Spot) → memory.word_at (plain_in o (suc n)).memory at ≡ word_after (store_at o n) at (memory.word_at (plain_in o n).memory at)
next-word law o n at = next_by law o n (n % 3) at refl
