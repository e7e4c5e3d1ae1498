-- The third phase of an instruction time.
use Rattle.std.proofs.Common.{◌≡◌, ℕ, zero, suc, ◌%◌, ◌^◌, ◌<◌, ◌==◌, ◌≢◌, Bool, true, false, List, ap, sym, refl, ◌∙◌, arith, subst}
use Rattle.std.proofs.lemmas.Bool.{cond-true, cond-false, ne_eqb, false≢true}
use Rattle.std.specs.declared.option.Option.{Option}
use Rattle.std.specs.declared.option.Option.TheVariants.{None, Some}
use Rattle.lvdc_isa.specs.declared.instr.Instr.{Instr}
use Rattle.lvdc_isa.specs.declared.op.Op.{Op}
use Rattle.lvdc_isa.specs.declared.op.Op.TheVariants.{Mph, Pio}
use Rattle.lvdc_mul.specs.Latches.{Latches}
use Rattle.lvdc_port.specs.Device.{Device}
use Rattle.lvdc_port.specs.Devices.{exchange_word}
use Rattle.lvdc_port.specs.declared.requests.PortRequest.TheVariants.{Read}
use Rattle.lvdc_plain.specs.declared.records.Pending.{Pending}
use Rattle.lvdc_plain.specs.Plain.{PlainState, World}
use Rattle.lvdc_plain.specs.Table.{fetched_instr, device_time, word_taken, effect, landed_pq, landed_a, later, pending_after, makes, waits, step_by, step}
use Rattle.lvdc_modules.specs.declared.bus.Bus.{Bus}
use Rattle.lvdc_modules.specs.declared.locator.LocatorState.{LocatorState}
use Rattle.lvdc_modules.specs.declared.selector.SelectorState.{SelectorState}
use Rattle.lvdc_modules.specs.declared.seen.Doing.{Doing}
use Rattle.lvdc_modules.specs.declared.seen.Doing.TheVariants.{Executing, Waiting}
use Rattle.lvdc_modules.specs.declared.seen.Phase.TheVariants.{C}
use Rattle.lvdc_modules.specs.Seen.{doing, here, instruction, hold, phase_of}
use Rattle.lvdc_modules.specs.Timer.{phase_after, hold_after, held_by}
use Rattle.lvdc_modules.specs.Locator.{locator, locator_by}
use Rattle.lvdc_modules.specs.Selector.{selector_by}
use Rattle.lvdc_modules.specs.Decoder.{decoder_by}
use Rattle.lvdc_modules.specs.Accumulator.{a_by}
use Rattle.lvdc_modules.specs.Multiplier.{pq_by, working_by, unit_pq, working}
use Rattle.lvdc_modules.specs.Exchange.{request_by, stop_by}
use Rattle.lvdc_laws_phases.specs.Work.{IsWork, IsHeld}
use Rattle.lvdc_laws_phases.specs.Phase.{IsPhase, CarriesWords, after, fetched_syllable}
use Rattle.lvdc_laws_phases.proofs.Quiet.{Keeps, keeps}
use Rattle.lvdc_laws_phases.proofs.Seen as seen
use Rattle.lvdc_laws_phases.specs.Work.{UnitIsRight}
use Rattle.lvdc_laws_phases.proofs.UnitLands.{Lands, lands}
use Rattle.lvdc_laws_phases.proofs.ByOperation.{IsGiven, IsRead, reads_port, place_after, located-is, selected-is, accumulated-is, held_by-is, stopped-is, pq_after-is, working_after-is, in_range-effect, held_after}

held_few : (op : Op) → held_by op < 5
held_few Mph = omega arith
held_few _ = omega arith

-- ---- an instruction is executed

-- a result for A is not pending at hold 0
gone_by : (last : Bool) (r : Pending) (n : ℕ) → (r.left == 1) ≡ last → (r.to_a ≡ true → r.left ≡ 0) → 0 < r.left → IsHeld (later (Some r)) n
gone_by true r n e held some = rw e tt
gone_by false r n e held some = rw e (λ t. let z = held t in absurd (omega (arith, z, some)))

-- what is pending at hold 0 holds nothing one time later
gone : (r : Option Pending) (n t : ℕ) (u : Latches) → IsHeld r 0 → IsWork r t u → IsHeld (later r) n
gone None n t u held w = tt
gone (Some r) n t u held w = gone_by (r.left == 1) r n refl held w.some

-- phase C of an instruction: the bus stands where the plain machine is after making it
pub executes : UnitIsRight → (b : Bus) (p : PlainState) (memory port m : ℕ) → p.hold ≡ 0 → IsPhase 2 b p → CarriesWords b
    → IsGiven (fetched_instr p).op (fetched_instr p).address b m → IsPhase 0 (after b memory port) (makes (fetched_instr p) p m)
executes right b p memory port m z s words g =
    let n : Instr = fetched_instr p in
    let d : doing b ≡ Executing = seen.makes b s.phase_is (s.hold ∙ z) in
    let h : here b ≡ p.place = seen.here-is b p.place s.in_range s.place s.data_place in
    let i : instruction b ≡ fetched_instr p = seen.instruction-is b (fetched_syllable p) (s.fetched (omega arith) z) s.syllable in
    let l : Lands p.pending b = lands right p.pending b s.work in
    let r : IsRead b p = record { place = s.place; data_place = s.data_place; saver = s.saver; a = s.a } in
    let moved : locator b ≡ place_after (effect n.op p n.address m) =
    (λ j. locator_by (d j) b (h j) (i j)) ∙ located-is n.op b p n.address m r g in
    let pq : unit_pq b ≡ landed_pq p.pending p.pq = l.pq ∙ ap (landed_pq p.pending) s.pq in
    let none_left : hold b ≡ 0 = omega (arith, s.hold, z) in
    let held : held_by n.op ≡ (effect n.op p n.address m).hold = held_by-is n.op p n.address m z in
    let worked : working_by (doing b) b (instruction b) ≡ working_by Executing b n = λ j. working_by (d j) b (i j) in
    let old : IsHeld p.pending 0 = subst (λ (x : ℕ). IsHeld p.pending x) z s.held in
    record {
      phase_is = ap (λ (x : ℕ). phase_after (phase_of x)) s.phase_is;
      hold = (λ j. hold_after (phase_of (s.phase_is j)) b (i j).op) ∙ cond-true (hold b == 0) _ _ (ap (λ (x : ℕ). x == 0) none_left) ∙ held;
      place = ap (λ (x : LocatorState). x.place) moved;
      data_place = (λ j. (selector_by (d j) b (h j) (i j)).hold_place) ∙ selected-is n.op b p n.address m r g;
      saver = ap (λ (x : LocatorState). x.saver) moved;
      a = l.a _ ∙ ap (landed_a p.pending) ((λ j. a_by (d j) b (i j)) ∙ accumulated-is n.op b p n.address m r g);
      pq = (λ j. pq_by (d j) b (i j)) ∙ pq_after-is n.op b p n.address _ r pq;
      work = subst (λ (u : Latches). IsWork (pending_after n.op p n.address m (later p.pending)) 0 u) (sym worked)
          (working_after-is n.op b p n.address m (later p.pending) r g words.a words.operand l.work);
      stop = (λ j. stop_by (d j) b (i j)) ∙ stopped-is n.op p n.address m b.exchange.stop s.stop;
      request = λ j. request_by (d j) (here b) (instruction b);
      fetched = λ less _. absurd (omega (arith, less));
      operand = λ less _ _. absurd (omega (arith, less));
      held = held_after n.op p n.address m (later p.pending) (λ x. gone p.pending x 2 (working b) old s.work);
      in_range = in_range-effect n.op p n.address m s.in_range;
      few = let f = held_few n.op in omega (arith, held, f);
      syllable = subst (λ (x : Doing). (decoder_by x b (here b)).instr < 2 ^ 13) (sym d) s.syllable;
    }

-- ---- nothing is executed

-- one time later the product that is held for has one time less left
held_less_by : (last : Bool) (r : Pending) (n : ℕ) → (r.left == 1) ≡ last → (r.to_a ≡ true → r.left ≡ suc n) → IsHeld (later (Some r)) n
held_less_by true r n e held = rw e tt
held_less_by false r n e held = rw e (λ t. let z = held t in omega (arith, z))

-- the same, whatever is pending
held_less : (r : Option Pending) (n : ℕ) → IsHeld r (suc n) → IsHeld (later r) n
held_less None n held = tt
held_less (Some r) n held = held_less_by (r.left == 1) r n refl held

-- HOLD falls by one in phase C
hold_less : (n : ℕ) (b : Bus) (op : Op) → hold b ≡ suc n → hold_after C b op ≡ n
hold_less n b op e =
    let some : hold b ≢ 0 = omega (arith, e) in
    cond-false (hold b == 0) _ _ (ne_eqb _ _ some) ∙ omega (arith, e)

-- phase C of a hold: the bus stands where the plain machine has waited
pub waited : UnitIsRight → (b : Bus) (p : PlainState) (memory port n : ℕ) → p.hold ≡ suc n → IsPhase 2 b p
    → IsPhase 0 (after b memory port) (waits n p)
waited right b p memory port n e s =
    let few : n < 4 = omega (arith, s.few, e) in
    let d : doing b ≡ Waiting = seen.waits b n (s.hold ∙ e) few in
    let k : Keeps (doing b) b = keeps Waiting b d tt in
    let l : Lands p.pending b = lands right p.pending b s.work in
    record {
      phase_is = ap (λ (x : ℕ). phase_after (phase_of x)) s.phase_is;
      hold = ap (λ (x : ℕ). hold_after (phase_of x) b (instruction b).op) s.phase_is
          ∙ hold_less n b (instruction b).op (seen.held b n (s.hold ∙ e) few);
      place = ap (λ (x : LocatorState). x.place) k.locator ∙ s.place;
      data_place = ap (λ (x : SelectorState). x.hold_place) k.selector ∙ s.data_place;
      saver = ap (λ (x : LocatorState). x.saver) k.locator ∙ s.saver;
      a = l.a _ ∙ ap (landed_a p.pending) (k.a ∙ s.a);
      pq = k.pq ∙ l.pq ∙ ap (landed_pq p.pending) s.pq;
      work = subst (λ (u : Latches). IsWork (later p.pending) 0 u) (sym k.working) l.work;
      stop = k.stop ∙ s.stop;
      request = λ j. request_by (d j) (here b) (instruction b);
      fetched = λ less _. absurd (omega (arith, less));
      operand = λ less _ _. absurd (omega (arith, less));
      held = held_less p.pending n (subst (λ (x : ℕ). IsHeld p.pending x) e s.held);
      in_range = s.in_range;
      few = omega (arith, s.few, e);
      syllable = subst (λ (x : Doing). (decoder_by x b (here b)).instr < 2 ^ 13) (sym d) s.syllable;
    }

-- ---- the word that an instruction takes is the operand word, or the port's

-- the word that PIO takes is what the port answers
port_taken : (op : Op) (address : ℕ) (p : PlainState) (devices : List Device) → reads_port op address ≡ true
    → exchange_word (Read (address % 2 ^ 8)) (device_time p) devices ≡ word_taken (record { op = op; address = address }) p devices
port_taken Pio address p devices t = rw t
port_taken _ address p devices t = absurd (false≢true t)

-- what is on the bus is what the plain instruction takes
given : (b : Bus) (p : PlainState) (devices : List Device) → p.hold ≡ 0 → IsPhase 2 b p
    → (reads_port (fetched_instr p).op (fetched_instr p).address ≡ true
    → b.port ≡ exchange_word (Read ((fetched_instr p).address % 2 ^ 8)) (device_time p) devices)
    → IsGiven (fetched_instr p).op (fetched_instr p).address b (word_taken (fetched_instr p) p devices)
given b p devices z s answered =
    record {
      operand = λ t. s.operand (omega arith) z t ∙ sym (cond-true _ _ _ t);
      port = λ t. answered t ∙ port_taken (fetched_instr p).op (fetched_instr p).address p devices t;
    }

-- ---- by hold

-- phase C, by the hold that is left
third_from : UnitIsRight → (h : ℕ) (b : Bus) (p : PlainState) (devices : List Device) (memory port : ℕ) → p.hold ≡ h → IsPhase 2 b p → CarriesWords b
    → (p.hold ≡ 0 → reads_port (fetched_instr p).op (fetched_instr p).address ≡ true
    → b.port ≡ exchange_word (Read ((fetched_instr p).address % 2 ^ 8)) (device_time p) devices)
    → IsPhase 0 (after b memory port) (step_by None h p devices).plain
third_from right zero b p devices memory port z s words answered =
    executes right b p memory port (word_taken (fetched_instr p) p devices) z s words (given b p devices z s (answered z))
third_from right (suc n) b p devices memory port e s words answered = waited right b p memory port n e s

-- phase C with the words that its exchange brings
pub third_by : UnitIsRight → (b : Bus) (p : PlainState) (devices : List Device) (memory port : ℕ) → p.stop ≡ None → IsPhase 2 b p → CarriesWords b
    → (p.hold ≡ 0 → reads_port (fetched_instr p).op (fetched_instr p).address ≡ true
    → b.port ≡ exchange_word (Read ((fetched_instr p).address % 2 ^ 8)) (device_time p) devices)
    → IsPhase 0 (after b memory port) (step p devices).plain
third_by right b p devices memory port stop s words answered =
    subst (λ (w : World). IsPhase 0 (after b memory port) w.plain) (λ i. step_by (sym stop i) p.hold p devices)
    (third_from right p.hold b p devices memory port refl s words answered)
