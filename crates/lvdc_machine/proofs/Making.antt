-- What is noted and latched, and the room for it.
use Rattle.std.proofs.Common.{◌≡◌, ℕ, zero, suc, ◌+◌, ◌*◌, ◌%◌, ◌≤◌, ◌<◌, List, map, refl, sym, ap, ◌∙◌, arith}
use Rattle.std.proofs.Math.Numerals.{add-one}
use Rattle.std.specs.Prelude.{IsSome}
use Rattle.std.specs.declared.option.Option.{Option}
use Rattle.std.specs.declared.option.Option.TheVariants.{None, Some}
use Rattle.lvdc_port.specs.Device as device
use Rattle.lvdc_vote.specs.Copies.{Copies, vote_of}
use Rattle.lvdc_modules.specs.Rows.{rows, bus_of}
use Rattle.lvdc_modules.specs.declared.bus.Bus.{Bus}
use Rattle.lvdc_plain.specs.declared.records.Exchange.{Exchange}
use Rattle.lvdc_model.specs.Exchanges.{stop_of, latches}
use Rattle.lvdc_model.specs.Known.{last_begun}
use Rattle.lvdc_model.specs.Trial.{Trial}
use Rattle.lvdc_model.specs.Voted.{Voted, next_copies, counted}
use Rattle.lvdc_model.specs.declared.outcome.Outcome.{Outcome}
use Rattle.lvdc_model.specs.declared.repair.Repair.{Repair}
use Rattle.lvdc_machine.specs.declared.stepping.Brought.{Brought}
use Rattle.lvdc_machine.specs.declared.mode.Pace.{Pace}
use Rattle.lvdc_machine.specs.declared.mode.Pace.TheVariants.{ByTime, ByStep}
use Rattle.lvdc_machine.specs.Room.{exchanges_left, repairs_left, MayExchange, MayRepair}
use Rattle.lvdc_machine.specs.Shows.{Shows}
use Rattle.lvdc_machine.specs.Steps.{noted, noting, MadeAs}
use Rattle.lvdc_machine.specs.View.{View}

-- ---- room

-- one step less
exchanges-less : (pace : Pace) (steps limit : ℕ) → exchanges_left pace (steps + 1) limit ≤ exchanges_left pace steps limit
exchanges-less ByTime steps limit = omega arith
exchanges-less ByStep steps limit = omega arith

-- one exchange less
pub exchanges-spent : (pace : Pace) (steps limit : ℕ) → steps < 3 * limit → MayExchange pace steps
    → exchanges_left pace (steps + 1) limit + 1 ≤ exchanges_left pace steps limit
exchanges-spent ByTime steps limit left may = omega arith
exchanges-spent ByStep steps limit left may = omega arith

-- the log has room for what may still come, after a step that may have logged a line
pub log-room : (pace : Pace) (steps limit old new all : ℕ) (line : Option Exchange) → old + exchanges_left pace steps limit ≤ all
    → steps < 3 * limit → (IsSome line → MayExchange pace steps) → new ≤ old + 1 → (line ≡ None → new ≡ old)
    → new + exchanges_left pace (steps + 1) limit ≤ all
log-room pace steps limit old new all None room left may one none =
    let same : new ≡ old = none refl in omega (arith, exchanges-less pace steps limit)
log-room pace steps limit old new all (Some line) room left may one none =
    omega (arith, exchanges-spent pace steps limit left (may refl))

-- a step leaves room for no more repairs
repairs-less : (pace : Pace) (steps limit : ℕ) → repairs_left pace (steps + 1) limit ≤ repairs_left pace steps limit
repairs-less ByTime steps limit = omega arith
repairs-less ByStep steps limit = omega arith

-- a step that may note a repair leaves room for one less
repairs-spent : (pace : Pace) (steps limit : ℕ) → steps < 3 * limit → MayRepair pace steps
    → repairs_left pace (steps + 1) limit + 1 ≤ repairs_left pace steps limit
repairs-spent ByTime steps limit left may = omega arith
repairs-spent ByStep steps limit left may = omega arith

-- so has the list of repairs
pub repair-room : (pace : Pace) (steps limit old new all : ℕ) (repair : Option Repair) → old + repairs_left pace steps limit ≤ all
    → steps < 3 * limit → (IsSome repair → MayRepair pace steps) → new ≤ old + 1 → (repair ≡ None → new ≡ old)
    → new + repairs_left pace (steps + 1) limit ≤ all
repair-room pace steps limit old new all None room left may one none =
    let same : new ≡ old = none refl in omega (arith, repairs-less pace steps limit)
repair-room pace steps limit old new all (Some repair) room left may one none =
    omega (arith, repairs-spent pace steps limit left (may refl))

-- ---- latching

-- the step that was begun is made
begun-by : (k steps : ℕ) → last_begun (stop_of k steps) (suc steps) ≡ Some steps
begun-by zero steps = refl
begun-by (suc zero) steps = refl
begun-by (suc (suc k)) steps = refl

-- the step that was made is the last that was begun
pub begun-made : (k steps : ℕ) (end : Option Outcome) (last : Option ℕ) → end ≡ stop_of k steps → last ≡ Some steps → last ≡ last_begun end (steps + 1)
begun-made k steps end last is begun = begun ∙ sym (rw (add-one, is) (begun-by k steps))

-- by the vote of STOP, a step that latched is counted
ends-by : (k steps : ℕ) → MadeAs (stop_of k steps) steps (steps + 1)
ends-by zero steps = refl
ends-by (suc zero) steps = (omega arith, omega arith)
ends-by (suc (suc k)) steps = (omega arith, omega arith)

-- so it is by the end that the vote means
pub ends-made : (k steps : ℕ) (end : Option Outcome) → end ≡ stop_of k steps → MadeAs end steps (steps + 1)
ends-made k steps end is = rw is (ends-by k steps)

-- what is noted and latched is what the definition notes and latches
pub shows-made : {o : Trial} {m : View} {ds : List device.Device} {v : Voted} → Shows o m ds v → (b : Brought)
    (copies : List Copies) (counts : List (List ℕ)) (log : List Exchange) (repairs : List Repair) (bus : Bus) (end : Option Outcome)
    → copies ≡ next_copies m.script m.steps 1 rows m.copies m.copies (bus_of (map vote_of m.copies) b.memory b.port)
    → counts ≡ counted copies m.counts → log ≡ noted m.log b.line → repairs ≡ noted m.repairs b.repair
    → bus ≡ bus_of (map vote_of copies) 0 0 → end ≡ stop_of (bus.exchange.stop % 4) m.steps
    → Shows o (record m { copies = copies; counts = counts; log = log; repairs = repairs; steps = m.steps + 1; end = end }) ds
    (latches o (noting v b) b.memory b.port)
shows-made {o = o} {m = m} {v = v} s b copies counts log repairs bus end copied counting logging repairing votes ending =
    let latched : copies ≡ next_copies o.script v.steps 1 rows v.copies v.copies (bus_of (map vote_of v.copies) b.memory b.port) =
    copied ∙ (λ i. next_copies (s.script i) (s.steps i) 1 rows (s.copies i) (s.copies i) (bus_of (map vote_of (s.copies i)) b.memory b.port)) in
    record {
      banks = s.banks;
      script = s.script;
      unplugs = s.unplugs;
      copies = latched;
      memory = s.memory;
      left = s.left;
      log = logging ∙ ap (λ l. noted l b.line) s.log;
      repairs = repairing ∙ ap (λ l. noted l b.repair) s.repairs;
      counts = counting ∙ (λ i. counted (latched i) (s.counts i));
      steps = add-one m.steps ∙ ap suc s.steps;
      end = ending ∙ (λ i. stop_of ((votes i).exchange.stop % 4) (s.steps i))
          ∙ (λ i. stop_of ((bus_of (map vote_of (latched i)) 0 0).exchange.stop % 4) v.steps);
    }

-- ---- how many were noted

-- at most one exchange a step
all-exchanges : (pace : Pace) (limit : ℕ) → exchanges_left pace 0 limit ≤ 3 * limit
all-exchanges ByTime limit = omega arith
all-exchanges ByStep limit = omega arith

-- so a log has no more lines than a machine may make steps
pub few-logged : (pace : Pace) (limit steps had : ℕ) → had + exchanges_left pace steps limit ≤ exchanges_left pace 0 limit → limit ≤ 1000000 → had ≤ 3000000
few-logged pace limit steps had room small = omega (arith, all-exchanges pace limit)

-- at most one repair a step
all-repairs : (pace : Pace) (limit : ℕ) → repairs_left pace 0 limit ≤ 3 * limit
all-repairs ByTime limit = omega arith
all-repairs ByStep limit = omega arith

-- so there are no more repairs than a machine may make steps
pub few-noted : (pace : Pace) (limit steps had : ℕ) → had + repairs_left pace steps limit ≤ repairs_left pace 0 limit → limit ≤ 1000000 → had ≤ 3000000
few-noted pace limit steps had room small = omega (arith, all-repairs pace limit)
