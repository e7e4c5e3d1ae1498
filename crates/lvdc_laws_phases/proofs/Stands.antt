-- The law of the three phases for lists of latches.
use Rattle.std.proofs.Common.{rules, ◌≡◌, ℕ, ◌^◌, ◌<◌, zero, suc, List, [], refl, sym, ap, ◌∙◌, arith, subst}
use Rattle.std.specs.declared.option.Option.{Option}
use Rattle.std.specs.declared.option.Option.TheVariants.{None, Some}
use Rattle.lvdc_map.specs.Address.{Spot}
use Rattle.lvdc_map.specs.declared.placed.Placed.{Placed}
use Rattle.lvdc_isa.specs.declared.instr.Instr.{Instr}
use Rattle.lvdc_port.specs.Device.{Device}
use Rattle.lvdc_port.specs.declared.requests.PortRequest.{PortRequest}
use Rattle.lvdc_port.specs.declared.requests.PortRequest.TheVariants.{Read, Write}
use Rattle.lvdc_plain.specs.declared.records.Stop.{Stop}
use Rattle.lvdc_plain.specs.Plain.{PlainState}
use Rattle.lvdc_plain.specs.Table.{fetched_instr, request_by, device_time, step}
use Rattle.lvdc_plain.specs.Accesses.{fetched, operand, store_of}
use Rattle.lvdc_plain.specs.View.{ByInstruction}
use Rattle.lvdc_modules.specs.declared.bus.Bus.{Bus}
use Rattle.lvdc_modules.specs.declared.seen.Doing.{Doing}
use Rattle.lvdc_modules.specs.declared.wanted.Wanted.TheVariants.{Fetch, Operand}
use Rattle.lvdc_modules.specs.Seen.{doing, instruction}
use Rattle.lvdc_modules.specs.Accumulator.{operand_by}
use Rattle.lvdc_modules.specs.Rows.{rows, bus_of}
use Rattle.lvdc_modules.specs.Wish.{wish}
use Rattle.lvdc_laws_phases.specs.Phase.{IsPhase, CarriesWords, stop_number}
use Rattle.lvdc_laws_phases.specs.Exchanges.{read_wish, exchange_wish, made, exchange_in, word_read, port_answer, IsAnswered}
use Rattle.lvdc_laws_phases.specs.States.{Fits, next_states, after_phase, third_phase, ShowsRegisters}
use Rattle.lvdc_laws_phases.specs.Standing.{FirstLaw, SecondLaw, ThirdLaw, WishLaw, WordsLaw, PhaseLaw, Standing}
use Rattle.lvdc_laws_phases.proofs.Law.{answers}
use Rattle.lvdc_laws_phases.proofs.Seen.{here-is}

-- ---- the words on the bus

-- the relation doesn't read them
on_bus : (n : ℕ) (states : List (List ℕ)) (p : PlainState) (m w : ℕ) → IsPhase n (bus_of states 0 0) p → IsPhase n (bus_of states m w) p
on_bus n states p m w s =
    record {
      phase_is = s.phase_is;
      hold = s.hold;
      place = s.place;
      data_place = s.data_place;
      saver = s.saver;
      a = s.a;
      pq = s.pq;
      work = s.work;
      stop = s.stop;
      request = s.request;
      fetched = s.fetched;
      operand = s.operand;
      held = s.held;
      in_range = s.in_range;
      few = s.few;
      syllable = s.syllable;
    }

module _ (first : FirstLaw) (second : SecondLaw) (third : ThirdLaw) (wishes : WishLaw) (words : WordsLaw) where
  wish-is : (n : ℕ) (states : List (List ℕ)) (p : PlainState) (m w : ℕ) → n < 3 → p.stop ≡ None → Standing n states p
      → wish (bus_of states m w) p.banks ≡ exchange_in n p
  wish-is n states p m w few e s = wishes n (bus_of states m w) p few e (on_bus n states p m w s.phase)

  -- what is put on the bus answers the wish
  answered : (n : ℕ) (states : List (List ℕ)) (p : PlainState) (devices : List Device) (m w : ℕ) → n < 3 → p.stop ≡ None → Standing n states p
      → IsAnswered (exchange_in n p) (bus_of states m w) p devices → IsAnswered (wish (bus_of states m w) p.banks) (bus_of states m w) p devices
  answered n states p devices m w few e s =
      answers (exchange_in n p) (wish (bus_of states m w) p.banks) (bus_of states m w) p devices (sym (wish-is n states p m w few e s))

  fetch-answered : (r : Option Spot) (states : List (List ℕ)) (p : PlainState) (devices : List Device)
      → IsAnswered (read_wish Fetch r) (bus_of states (word_read p r) 0) p devices
  fetch-answered None states p devices = tt
  fetch-answered (Some at) states p devices = refl

  operand-answered : (r : Option Spot) (states : List (List ℕ)) (p : PlainState) (devices : List Device)
      → IsAnswered (read_wish Operand r) (bus_of states (word_read p r) 0) p devices
  operand-answered None states p devices = tt
  operand-answered (Some at) states p devices = refl

  exchange-answered : (request : Option PortRequest) (s : Option Placed) (states : List (List ℕ)) (p : PlainState) (devices : List Device)
      → IsAnswered (exchange_wish request s) (bus_of states 0 (port_answer (exchange_wish request s) devices (device_time p))) p devices
  exchange-answered (Some (Read port)) s states p devices = refl
  exchange-answered (Some (Write port word)) s states p devices = tt
  exchange-answered None None states p devices = tt
  exchange-answered None (Some s) states p devices = tt

  made-answered : (stop : Option Stop) (hold : ℕ) (states : List (List ℕ)) (p : PlainState) (devices : List Device)
      → IsAnswered (made stop hold p) (bus_of states 0 (port_answer (made stop hold p) devices (device_time p))) p devices
  made-answered (Some s) hold states p devices = tt
  made-answered None (suc hold) states p devices = tt
  made-answered None zero states p devices =
      exchange-answered (request_by (fetched_instr p).op p (fetched_instr p).address) (store_of p (fetched_instr p).op (fetched_instr p).address) states p devices

  -- ---- words stay words

  carries : (n : ℕ) (states : List (List ℕ)) (p : PlainState) (m w : ℕ) → m < 2 ^ 26 → Standing n states p → CarriesWords (bus_of states m w)
  carries n states p m w small s = record { a = rw s.phase.a s.plain.a; operand = s.operand; memory = small }

  operand-fits : (d : Doing) (b : Bus) (i : Instr) → b.accumulator.operand < 2 ^ 26 → b.memory < 2 ^ 26 → b.multiplier.pq < 2 ^ 26 → operand_by d b i < 2 ^ 26
  operand-fits d b i before memory pq = search rules

  next-operand : (n : ℕ) (states : List (List ℕ)) (p : PlainState) (m w : ℕ) → m < 2 ^ 26 → Standing n states p
      → (bus_of (after_phase states m w) 0 0).accumulator.operand < 2 ^ 26
  next-operand n states p m w small s =
      let b : Bus = bus_of states m w in
      operand-fits (doing b) b (instruction b) s.operand small (rw s.phase.pq s.plain.pq)

  -- ---- a phase

  rows-fit : (b : Bus) → Fits rows (next_states b)
  rows-fit b = (λ _. refl, (λ _. refl, (λ _. refl, (λ _. refl, (λ _. refl, (λ _. refl, (λ _. refl, tt)))))))

  shows : (n : ℕ) (states : List (List ℕ)) (p : PlainState) → IsPhase n (bus_of states 0 0) p → ShowsRegisters states p
  shows n states p s = record { place = here-is (bus_of states 0 0) p.place s.in_range s.place s.data_place; a = s.a; pq = s.pq; saver = s.saver }

  third-phase : (states : List (List ℕ)) (p : PlainState) (devices : List Device) → p.stop ≡ None → Standing 2 states p
      → IsPhase 0 (bus_of (third_phase states p devices) 0 0) (step p devices).plain
  third-phase states p devices e s =
      let w : ℕ = port_answer (made p.stop p.hold p) devices (device_time p) in
      third (bus_of states 0 w) p devices 0 0 e (on_bus 2 states p 0 w s.phase) (carries 2 states p 0 w (omega arith) s)
      (answered 2 states p devices 0 w (omega arith) e s (made-answered p.stop p.hold states p devices))

  pub stands : PhaseLaw Standing
  stands =
      record {
        fits = λ n states p s. s.fits;
        goes = λ n states p e s. s.phase.stop ∙ ap stop_number e;
        wishes = λ n states p few e s. wish-is n states p 0 0 few e s;
        first = λ states p e small s.
            let m : ℕ = word_read p (fetched p) in
            record {
              fits = rows-fit (bus_of states m 0);
              phase = first (bus_of states m 0) p [] 0 0 e (on_bus 0 states p m 0 s.phase) (carries 0 states p m 0 small s)
                  (answered 0 states p [] m 0 (omega arith) e s (fetch-answered (fetched p) states p []));
              plain = s.plain;
              operand = next-operand 0 states p m 0 small s;
            };
        second = λ states p e small s.
            let m : ℕ = word_read p (operand p) in
            record {
              fits = rows-fit (bus_of states m 0);
              phase = second (bus_of states m 0) p [] 0 0 e (on_bus 1 states p m 0 s.phase)
                  (answered 1 states p [] m 0 (omega arith) e s (operand-answered (operand p) states p []));
              plain = s.plain;
              operand = next-operand 1 states p m 0 small s;
            };
        third = λ states p devices e ports s goes.
            record {
              fits = rows-fit (bus_of states 0 (port_answer (made p.stop p.hold p) devices (device_time p)));
              phase = third-phase states p devices e s;
              plain = words p devices ports s.plain;
              operand = next-operand 2 states p 0 (port_answer (made p.stop p.hold p) devices (device_time p)) (omega arith) s;
            };
        stops = λ states p devices r e ports s stopped.
            let k = third-phase states p devices e s in
            record {
              number = k.stop ∙ ap stop_number stopped;
              cause = subst ByInstruction stopped (words p devices ports s.plain).stop;
              registers = shows 0 (third_phase states p devices) (step p devices).plain k;
            };
        registers = λ n states p s. shows n states p s.phase;
        words = λ n states p s. s.plain;
      }
