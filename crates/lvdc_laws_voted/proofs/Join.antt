-- One admissible step follows the plain run.
use Rattle.std.proofs.Common.{◌≡◌, ℕ, zero, suc, ◌+◌, ◌-◌, ◌/◌, ◌%◌, ◌^◌, ◌<◌, ◌≤◌, Bool, true, false, cond, List, [], ◌∷◌, length, subst, refl, sym, ap, ◌∙◌, arith}
use Rattle.std.specs.Prelude.{◌==◌}
use Rattle.std.specs.declared.option.Option.{Option}
use Rattle.std.specs.declared.option.Option.TheVariants.{None, Some}
use Rattle.std.proofs.lemmas.Bool.{ne_eqb}
use Rattle.lvdc_map.specs.Address.{Spot}
use Rattle.lvdc_map.specs.Hop.{HopConstant, IsHopConstant, fetch_of}
use Rattle.lvdc_map.specs.Place.{data_spot}
use Rattle.lvdc_map.specs.declared.place.Place.TheVariants as places
use Rattle.lvdc_isa.specs.Instr.{takes_operand}
use Rattle.lvdc_port.specs.Device.{Device}
use Rattle.lvdc_port.specs.Devices.{without, HoldWords}
use Rattle.lvdc_port.specs.declared.requests.PortRequest.TheVariants as requests
use Rattle.lvdc_modules.specs.Rows.{bus_of}
use Rattle.lvdc_modules.specs.Wish.{wish}
use Rattle.lvdc_modules.specs.declared.wanted.Wanted.{Wanted}
use Rattle.lvdc_plain.specs.Accesses.{fetched, operand, address_of_place, accessed, operand_of}
use Rattle.lvdc_plain.specs.Plain.{PlainState, World}
use Rattle.lvdc_plain.specs.Run.{plugged, run}
use Rattle.lvdc_plain.specs.Table.{fetched_instr, operand_place, device_time, step}
use Rattle.lvdc_plain.specs.View.{ByInstruction}
use Rattle.lvdc_plain.specs.declared.records.Exchange.{Exchange}
use Rattle.lvdc_plain.specs.declared.records.Stop.{Stop}
use Rattle.lvdc_plain.specs.declared.records.Stop.TheVariants as stops
use Rattle.lvdc_plain.specs.declared.records.Unplug.{Unplug}
use Rattle.lvdc_laws_phases.specs.Exchanges.{exchange_in, made, word_read, port_answer, PortsFit}
use Rattle.lvdc_laws_phases.specs.Fits.{PlainFits}
use Rattle.lvdc_laws_phases.specs.Phase.{stop_number}
use Rattle.lvdc_laws_phases.specs.States.{after_phase, third_phase, ShowsRegisters}
use Rattle.lvdc_model.specs.declared.outcome.Outcome.TheVariants as outcomes
use Rattle.lvdc_model.specs.Trial.{Trial, plain_at, plain_in, read_in_phase, read_at, plugged_in}
use Rattle.lvdc_model.specs.Voted.{Voted}
use Rattle.lvdc_model.specs.Exchanges.{begin_step, stop_of, exchanges, wished, voted_step}
use Rattle.lvdc_laws_voted.specs.Copies.{Agree, wrong_before}
use Rattle.lvdc_laws_voted.specs.Leaves.{memory_after, devices_after, log_after, LeavesByExchange}
use Rattle.lvdc_laws_voted.specs.Laws.{DeviceWords, BankLaw, StepLaws}
use Rattle.lvdc_laws_voted.specs.Relation.{devices_by, devices_in, Matches, ShowsPlain, IsOnCourse, Halted, Follows, Goes, Halts}
use Rattle.lvdc_laws_voted.proofs.PlainTimes.{made-reads_none, made-store, made-words}
use Rattle.lvdc_laws_voted.proofs.PlainRuns.{times-count, next-world, banks-stay}
use Rattle.lvdc_laws_voted.proofs.Steps.{Judged, HasBanks, Ready, AfterRead, AfterMade, after-fetch, after-operand, after-made}

-- ---- before the exchange

-- the devices left as a step begins, by its phase
unplugged_by : (n : ℕ) (o : Trial) (v : Voted) → v.devices ≡ devices_by n o v.steps
    → cond (n == 0) (plugged o.opening.unplugs (v.steps / 3) v.devices) v.devices ≡ plugged_in o v.steps
unplugged_by zero o v e = ap (plugged o.opening.unplugs (v.steps / 3)) e
unplugged_by (suc n) o v e = let more : (suc n == 0) ≡ false = ne_eqb (suc n) 0 (λ h. omega arith) in rw more e

-- the devices are those of the plain run, less those of its time
pub unplugged : (o : Trial) (v : Voted) → v.devices ≡ devices_in o v.steps → (begin_step o v).devices ≡ plugged_in o v.steps
unplugged o v e = unplugged_by (v.steps % 3) o v e

-- devices that are left hold words
left-words : DeviceWords → (lines : List Unplug) (time : ℕ) (devices : List Device) → HoldWords devices → HoldWords (plugged lines time devices)
left-words law [] time devices h = h
left-words law (line ∷ lines) time devices h = left-words law lines time _ (by_time (line.time == time))
  where
    by_time : (b : Bool) → HoldWords (cond b (without (λ (d : Device). d) line.port devices) devices)
    by_time true = law.unplug line.port devices h
    by_time false = h

-- they hold words
prepared-words : DeviceWords → (o : Trial) (v : Voted) → HoldWords v.devices → HoldWords (begin_step o v).devices
prepared-words law o v h = by_phase (v.steps % 3 == 0)
  where
    by_phase : (b : Bool) → HoldWords (cond b (plugged o.opening.unplugs (v.steps / 3) v.devices) v.devices)
    by_phase true = left-words law o.opening.unplugs (v.steps / 3) v.devices h
    by_phase false = h

-- the votes wish for the exchange of the plain run
pub wished-plain : (Stands : ℕ → List (List ℕ) → PlainState → Type 0) (o : Trial) (v : Voted) → StepLaws Stands → (k : IsOnCourse Stands o v.steps v)
    → wished o (begin_step o v) ≡ exchange_in (v.steps % 3) (plain_in o v.steps)
wished-plain Stands o v law k =
    ap (λ (s : List (List ℕ)). wish (bus_of s 0 0) o.opening.banks) (law.votes (wrong_before o.script v.steps) 1 v.copies k.states k.shows.agree)
    ∙ ap (wish (bus_of k.states 0 0)) (sym (banks-stay law.ports o.opening (v.steps / 3)))
    ∙ law.phases.wishes (v.steps % 3) k.states (plain_in o v.steps) (omega arith) k.running k.stands

-- ---- the bank of what is read

-- the bank of a place is there, of a fetch and of an operand too
place-bank : BankLaw → (banks : ℕ) (h : HopConstant) (address : ℕ) → IsHopConstant h → (pq saver : Bool)
    → HasBanks banks (address_of_place (cond pq places.Pq (cond saver (places.Saver (data_spot banks h address)) (places.Memory (data_spot banks h address)))))
place-bank law banks h address ok true saver = tt
place-bank law banks h address ok false true = law banks h.dmod (data_spot banks h address) ok.dmod refl
place-bank law banks h address ok false false = law banks h.dmod (data_spot banks h address) ok.dmod refl

fetch-bank : BankLaw → (stop : Option Stop) (hold : ℕ) (p : PlainState) → IsHopConstant p.place → HasBanks p.banks (accessed stop hold (Some (fetch_of p.banks p.place)))
fetch-bank law None zero p ok = law p.banks p.place.imod _ ok.imod refl
fetch-bank law None (suc hold) p ok = tt
fetch-bank law (Some s) hold p ok = tt

operand-bank : BankLaw → (stop : Option Stop) (hold : ℕ) (p : PlainState) → IsHopConstant p.place → HasBanks p.banks (accessed stop hold (operand_of p (fetched_instr p)))
operand-bank law None zero p ok = by_takes (takes_operand (fetched_instr p).op)
  where
    address : ℕ
    address = (fetched_instr p).address

    by_takes : (b : Bool) → HasBanks p.banks (cond b (address_of_place (operand_place p address)) None)
    by_takes true = place-bank law p.banks p.place address ok _ _
    by_takes false = tt
operand-bank law None (suc hold) p ok = tt
operand-bank law (Some s) hold p ok = tt

read-bank : BankLaw → (n : ℕ) (p : PlainState) → IsHopConstant p.place → HasBanks p.banks (read_in_phase n p)
read-bank law zero p ok = fetch-bank law p.stop p.hold p ok
read-bank law (suc zero) p ok = operand-bank law p.stop p.hold p ok
read-bank law (suc (suc n)) p ok = tt

-- where the run is, the bank of the address read is there
pub bank-read : (Stands : ℕ → List (List ℕ) → PlainState → Type 0) (o : Trial) (v : Voted) → StepLaws Stands → IsOnCourse Stands o v.steps v
    → HasBanks o.opening.banks (read_at o v.steps)
bank-read Stands o v law k =
    subst (λ (banks : ℕ). HasBanks banks (read_at o v.steps)) (banks-stay law.ports o.opening (v.steps / 3))
    (read-bank law.banks (v.steps % 3) (plain_in o v.steps) (law.phases.words (v.steps % 3) k.states (plain_in o v.steps) k.stands).place)

is_ready : (Stands : ℕ → List (List ℕ) → PlainState → Type 0) (o : Trial) (v : Voted) → StepLaws Stands → (k : IsOnCourse Stands o v.steps v) → Judged o v.steps
    → Ready o (begin_step o v) k.states
is_ready Stands o v law k j =
    record {
      fits = law.phases.fits (v.steps % 3) k.states (plain_in o v.steps) k.stands;
      judged = j;
      agree = k.shows.agree;
      stores = law.damage o v.steps v.twins k.matches.stores;
      words = (law.phases.words (v.steps % 3) k.states (plain_in o v.steps) k.stands).words;
      bank = bank-read Stands o v law k;
    }

-- ---- the first two phases

word_fits : (p : PlainState) (r : Option Spot) → PlainFits p → word_read p r < 2 ^ 26
word_fits p None ok = omega arith
word_fits p (Some at) ok = ok.words at

-- a read step in which the states go on to stand for the same plain state
kept-read : (Stands : ℕ → List (List ℕ) → PlainState → Type 0) (o : Trial) (v next : Voted) (r : Option Spot) (n : ℕ) → StepLaws Stands → (k : IsOnCourse Stands o v.steps v)
    → AfterRead o (begin_step o v) k.states r next → suc v.steps / 3 ≡ v.steps / 3 → suc v.steps % 3 ≡ suc n
    → Stands (suc n) (after_phase k.states (word_read (plain_in o v.steps) r) 0) (plain_in o v.steps)
    → Follows Stands o (suc v.steps) next
kept-read Stands o v next r n law k a same later stands =
    let kept : plain_in o v.steps ≡ plain_in o (suc v.steps) = ap (plain_at o) (sym same) in
    Goes a.steps (record {
      going = a.ended ∙ ap (λ (s : ℕ). stop_of (s % 4) v.steps) (law.phases.goes (suc n) _ _ k.running stands);
      running = subst (λ (p : PlainState). p.stop ≡ None) kept k.running;
      states = after_phase k.states (word_read (plain_in o v.steps) r) 0;
      stands = subst (λ (p : PlainState). Stands (suc v.steps % 3) (after_phase k.states (word_read (plain_in o v.steps) r) 0) p) kept (rw later stands);
      shows = record { agree = a.agree; registers = subst (ShowsRegisters (after_phase k.states (word_read (plain_in o v.steps) r) 0)) kept (law.phases.registers (suc n) _ _ stands) };
      matches = record {
        stores = a.stores;
        intended = a.intended ∙ k.matches.intended ∙ sym (ap (λ (i : ℕ). (plain_at o i).memory) same);
        log = a.log ∙ k.matches.log ∙ sym (ap (λ (i : ℕ). (plain_at o i).log) same);
        devices = a.devices ∙ unplugged o v k.matches.devices ∙ rw (later, same) refl;
        few = (let more : length next.repairs ≤ length v.repairs + 1 = a.repairs in let had : length v.repairs ≤ v.steps - v.steps / 3 = k.matches.few in omega arith);
      };
      words = subst HoldWords (sym a.devices) (prepared-words law.devices o v k.words);
    })

-- ---- the third phase

stop-ends : (s : Stop) (t : ℕ) → ByInstruction (Some s) → stop_of (stop_number (Some s) % 4) t ≡ Some (outcomes.Stopped t s)
stop-ends stops.Shift t h = refl
stop-ends stops.Exm t h = refl
stop-ends (stops.Memory at) t h = absurd h

kept-made : (Stands : ℕ → List (List ℕ) → PlainState → Type 0) (o : Trial) (v next : Voted) (stop : Option Stop) → StepLaws Stands → (k : IsOnCourse Stands o v.steps v)
    → AfterMade o (begin_step o v) k.states (made (plain_in o v.steps).stop (plain_in o v.steps).hold (plain_in o v.steps)) next
    → suc v.steps / 3 ≡ suc (v.steps / 3) → suc v.steps % 3 ≡ 0 → Stands 2 k.states (plain_in o v.steps)
    → (step (plain_in o v.steps) (plugged_in o v.steps)).plain.stop ≡ stop
    → Follows Stands o (suc v.steps) next
kept-made Stands o v next stop law k a later first stands = by_stop stop
  where
    p : PlainState
    p = plain_in o v.steps

    devices : List Device
    devices = plugged_in o v.steps

    w : Wanted
    w = made p.stop p.hold p

    leaves : LeavesByExchange w p devices (step p devices)
    leaves = law.ports p devices k.running

    times : p.times ≡ v.steps / 3
    times = times-count law.ports o.opening (v.steps / 3) k.running

    world : run o.opening (suc v.steps / 3) ≡ step p devices
    world = ap (run o.opening) later ∙ next-world law.ports o.opening (v.steps / 3) k.running

    plugged_is : (begin_step o v).devices ≡ devices
    plugged_is = unplugged o v k.matches.devices

    few : length next.repairs ≤ suc v.steps - suc v.steps / 3
    few = let same : length next.repairs ≡ length v.repairs = ap length a.repairs in let had : length v.repairs ≤ v.steps - v.steps / 3 = k.matches.few in omega arith

    matches : Matches o (suc v.steps) next
    matches = record {
      stores = a.stores;
      intended = a.intended ∙ ap (memory_after w) k.matches.intended ∙ sym leaves.memory ∙ sym (ap (λ (x : World). x.plain.memory) world);
      log = a.log ∙ ap (λ (l : List Exchange). log_after w l (begin_step o v).devices (v.steps / 3)) k.matches.log
          ∙ ap (λ (d : List Device). log_after w p.log d (v.steps / 3)) plugged_is
          ∙ sym (ap (log_after w p.log devices) times) ∙ sym leaves.log ∙ sym (ap (λ (x : World). x.plain.log) world);
      devices = a.devices ∙ ap (devices_after w) plugged_is ∙ sym leaves.devices ∙ sym (ap (λ (x : World). x.devices) world) ∙ rw first refl;
      few = few;
    }

    had_words : HoldWords devices
    had_words = subst HoldWords plugged_is (prepared-words law.devices o v k.words)

    ports : PortsFit devices (device_time p)
    ports port = law.devices.answer (requests.Read port) (device_time p) devices had_words (omega arith)

    answer : port_answer w (begin_step o v).devices (v.steps / 3 % 2 ^ 26) ≡ port_answer w devices (device_time p)
    answer = ap (λ (d : List Device). port_answer w d (v.steps / 3 % 2 ^ 26)) plugged_is ∙ sym (ap (λ (t : ℕ). port_answer w devices (t % 2 ^ 26)) times)

    new : List (List ℕ)
    new = third_phase k.states p devices

    agree : Agree (wrong_before o.script (suc v.steps)) 1 next.copies new
    agree = subst (λ (x : ℕ). Agree (wrong_before o.script (suc v.steps)) 1 next.copies (after_phase k.states 0 x)) answer a.agree

    ended : next.end ≡ stop_of ((bus_of new 0 0).exchange.stop % 4) v.steps
    ended = a.ended ∙ ap (λ (x : ℕ). stop_of ((bus_of (after_phase k.states 0 x) 0 0).exchange.stop % 4) v.steps) answer

    shows_now : ShowsRegisters new (step p devices).plain → ShowsPlain o (suc v.steps) next new
    shows_now r = record { agree = agree; registers = subst (λ (x : World). ShowsRegisters new x.plain) (sym world) r }

    counted : (plain_in o (suc v.steps)).times ≡ suc v.steps / 3
    counted =
        ap (λ (x : World). x.plain.times) world
        ∙ (let before : p.times ≡ v.steps / 3 = times in let count : (step p devices).plain.times ≡ p.times + 1 = leaves.times in omega arith)

    small : p.a < 2 ^ 26
    small = (law.phases.words 2 k.states p stands).a

    by_stop : (stop : Option Stop) → (step p devices).plain.stop ≡ stop → Follows Stands o (suc v.steps) next
    by_stop None e =
        let stands_next : Stands 0 new (step p devices).plain = law.phases.third k.states p devices k.running ports stands e in
        Goes a.steps (record {
          going = ended ∙ ap (λ (s : ℕ). stop_of (s % 4) v.steps) (law.phases.goes 0 new _ e stands_next);
          running = ap (λ (x : World). x.plain.stop) world ∙ e;
          states = new;
          stands = rw first (subst (λ (x : World). Stands 0 new x.plain) (sym world) stands_next);
          shows = shows_now (law.phases.registers 0 new _ stands_next);
          matches = matches;
          words = subst HoldWords (sym (a.devices ∙ ap (devices_after w) plugged_is)) (made-words law.devices p.stop p.hold p devices small had_words);
        })
    by_stop (Some s) e =
        let stop = law.phases.stops k.states p devices s k.running ports stands e in
        Halts (rw a.steps (omega arith)) (subst (λ (n : ℕ). Halted o n next) (sym a.steps) (record {
          why = s;
          last = v.steps;
          is_last = refl;
          whole = first;
          ended = ended ∙ ap (λ (n : ℕ). stop_of (n % 4) v.steps) stop.number ∙ stop-ends s v.steps stop.cause;
          stopped = ap (λ (x : World). x.plain.stop) world ∙ e;
          times = counted;
          cause = stop.cause;
          states = new;
          shows = shows_now stop.registers;
          matches = matches;
        }))

-- ---- one step

step_in : (Stands : ℕ → List (List ℕ) → PlainState → Type 0) (o : Trial) (v : Voted) (n : ℕ) → StepLaws Stands → (k : IsOnCourse Stands o v.steps v) → Judged o v.steps
    → v.steps % 3 ≡ n → Follows Stands o (suc v.steps) (exchanges o (begin_step o v) (exchange_in n (plain_in o v.steps)))
step_in Stands o v zero law k j e =
    let p = plain_in o v.steps in
    let stands : Stands 0 k.states p = rw e at k.stands in
    kept-read Stands o v _ (fetched p) 0 law k
    (after-fetch law o (begin_step o v) k.states (fetched p) (is_ready Stands o v law k j) (rw e refl) (rw e refl))
    (omega arith) (omega arith)
    (law.phases.first k.states p k.running (word_fits p (fetched p) (law.phases.words 0 k.states p stands)) stands)
step_in Stands o v (suc zero) law k j e =
    let p = plain_in o v.steps in
    let stands : Stands 1 k.states p = rw e at k.stands in
    kept-read Stands o v _ (operand p) 1 law k
    (after-operand law o (begin_step o v) k.states (operand p) (is_ready Stands o v law k j) (rw e refl) (rw e refl))
    (omega arith) (omega arith)
    (law.phases.second k.states p k.running (word_fits p (operand p) (law.phases.words 1 k.states p stands)) stands)
step_in Stands o v (suc (suc zero)) law k j e =
    let p = plain_in o v.steps in
    kept-made Stands o v _ (step p (plugged_in o v.steps)).plain.stop law k
    (after-made law o (begin_step o v) k.states (made p.stop p.hold p) (is_ready Stands o v law k j) (made-reads_none p.stop p.hold p) (rw e refl) (rw e (made-store p.stop p.hold p)))
    (omega arith) (omega arith) (rw e at k.stands) refl
step_in Stands o v (suc (suc (suc n))) law k j e = absurd (omega arith)

pub one-step : (Stands : ℕ → List (List ℕ) → PlainState → Type 0) (o : Trial) (v : Voted) → StepLaws Stands → IsOnCourse Stands o v.steps v → Judged o v.steps
    → Follows Stands o (suc v.steps) (voted_step o (begin_step o v))
one-step Stands o v law k j =
    subst (λ (w : Wanted). Follows Stands o (suc v.steps) (exchanges o (begin_step o v) w)) (sym (wished-plain Stands o v law k))
    (step_in Stands o v (v.steps % 3) law k j refl)
