-- What an admissible step of the voted machine leaves, by its one exchange.
use Rattle.std.proofs.Common.{◌≡◌, ℕ, suc, ◌+◌, ◌/◌, ◌%◌, ◌^◌, ◌<◌, ◌≤◌, Bool, true, false, cond, List, ◌++◌, length, length-append, subst, refl, sym, ap, ◌∙◌, arith, Result}
use Rattle.std.specs.declared.option.Option.{Option}
use Rattle.std.specs.declared.option.Option.TheVariants.{None, Some}
use Rattle.lvdc_map.specs.Address.{Spot}
use Rattle.lvdc_map.specs.Banks.{HasBank}
use Rattle.lvdc_map.specs.Memory as memory
use Rattle.lvdc_port.specs.Devices.{exchange_word}
use Rattle.lvdc_port.specs.declared.requests.PortRequest.TheVariants as requests
use Rattle.lvdc_twin.specs.declared.both_bad.BothBad.{BothBad}
use Rattle.lvdc_twin.specs.declared.read_out.ReadOut.{ReadOut}
use Rattle.lvdc_modules.specs.Rows.{rows, bus_of}
use Rattle.lvdc_modules.specs.declared.wanted.Wanted.{Wanted}
use Rattle.lvdc_modules.specs.declared.wanted.Wanted.TheVariants.{Nothing, Fetch, Operand, Store, PortRead, PortWrite}
use Rattle.lvdc_plain.specs.Plain.{PlainState}
use Rattle.lvdc_fault.specs.Script.{wrong_module, is_wrong}
use Rattle.lvdc_fault.specs.declared.verdict.Verdict.TheVariants as verdicts
use Rattle.lvdc_laws_phases.specs.Exchanges.{read_wish, word_read, port_answer}
use Rattle.lvdc_laws_phases.specs.States.{Fits, after_phase}
use Rattle.lvdc_model.specs.declared.repair.Repair.{Repair}
use Rattle.lvdc_model.specs.Trial.{Trial, plain_in, read_at, store_at}
use Rattle.lvdc_model.specs.Twins.{read_answer, after_read, after_store}
use Rattle.lvdc_model.specs.Voted.{Voted}
use Rattle.lvdc_model.specs.Judging.{judged, judged_logic, judged_memory, is_recoverable}
use Rattle.lvdc_model.specs.Exchanges.{stop_of, latches, repair_by, reading, exchanges}
use Rattle.lvdc_model.specs.Runs.{read_of_wish}
use Rattle.lvdc_laws_voted.specs.Copies.{Agree, wrong_before}
use Rattle.lvdc_laws_voted.specs.Cells.{StoresBefore, StoresDamaged, ReadsPlain}
use Rattle.lvdc_laws_voted.specs.Leaves.{memory_after, devices_after, log_after}
use Rattle.lvdc_laws_voted.specs.Laws.{StepLaws}
use Rattle.lvdc_laws_voted.proofs.PlainTimes.{store_of_wish}

-- ---- a verdict

-- a step is admissible: no module has two wrong copies, and the address read can be recovered
pub record Judged (o : Trial) (step : ℕ) : Type 0 where
  pub logic : wrong_module o.script step ≡ None
  pub memory : judged_memory o step (read_at o step) ≡ verdicts.Admissible

-- an admissible step names no module, and reads a word that can be recovered
admissible_by : (o : Trial) (step : ℕ) (m : Option ℕ) → wrong_module o.script step ≡ m → judged_logic o step m ≡ verdicts.Admissible → Judged o step
admissible_by o step None e h = record { logic = e; memory = h }
admissible_by o step (Some m) e h = absurd (cc)

pub admissible : (o : Trial) (step : ℕ) → judged o step ≡ verdicts.Admissible → Judged o step
admissible o step h = admissible_by o step (wrong_module o.script step) refl h

-- the word that is read can be recovered
recoverable_by : (b : Bool) (step : ℕ) (at : Spot) → cond b verdicts.Admissible (verdicts.Memory step at) ≡ verdicts.Admissible → b ≡ true
recoverable_by true step at h = refl
recoverable_by false step at h = absurd (cc)

recoverable : (o : Trial) (step : ℕ) (at : Spot) (r : Option Spot) → r ≡ Some at → judged_memory o step r ≡ verdicts.Admissible → is_recoverable o step at ≡ true
recoverable o step at None e h = absurd (cc)
recoverable o step at (Some other) e h =
    let same : other ≡ at = cc in
    ap (is_recoverable o step) (sym same) ∙ recoverable_by (is_recoverable o step other) step other h

-- ---- what a latching leaves

-- the bank of an address, where there is one
abbrev pub HasBanks : ℕ → Option Spot → Type 0
HasBanks banks None = Unit {0}
HasBanks banks (Some at) = HasBank banks at

-- what is known when the exchange is made
pub record Ready (o : Trial) (v : Voted) (states : List (List ℕ)) : Type 0 where
  pub fits : Fits rows states
  pub judged : Judged o v.steps
  pub agree : Agree (wrong_before o.script v.steps) 1 v.copies states
  pub stores : StoresDamaged o v.steps v.twins
  pub words : (at : Spot) → memory.word_at (plain_in o v.steps).memory at < 2 ^ 26
  pub bank : HasBanks o.opening.banks (read_at o v.steps)

record Latched (o : Trial) (v : Voted) (states : List (List ℕ)) (memory_word port_word : ℕ) : Type 0 where
  agree : Agree (is_wrong o.script v.steps) 1 (latches o v memory_word port_word).copies (after_phase states memory_word port_word)
  ended : (latches o v memory_word port_word).end ≡ stop_of ((bus_of (after_phase states memory_word port_word) 0 0).exchange.stop % 4) v.steps

-- all copies latch: those that are right have the next state
latched : {Stands : ℕ → List (List ℕ) → PlainState → Type 0} → StepLaws Stands → (o : Trial) (v : Voted) (states : List (List ℕ)) (wrong : ℕ → ℕ → Bool) (memory_word port_word : ℕ)
    → Fits rows states → wrong_module o.script v.steps ≡ None → Agree wrong 1 v.copies states → Latched o v states memory_word port_word
latched law o v states wrong memory_word port_word fits logic g =
    let agree = law.copies o.script v.steps wrong v.copies states memory_word port_word fits logic g in
    record {
      agree = agree;
      ended = ap (λ (s : List (List ℕ)). stop_of ((bus_of s 0 0).exchange.stop % 4) v.steps)
          (law.votes (is_wrong o.script v.steps) 1 (latches o v memory_word port_word).copies (after_phase states memory_word port_word) agree);
    }

-- ---- a step that reads, or may read

-- after a step in which the word at the address read, if any, was on the bus
pub record AfterRead (o : Trial) (v : Voted) (states : List (List ℕ)) (r : Option Spot) (next : Voted) : Type 0 where
  pub agree : Agree (is_wrong o.script v.steps) 1 next.copies (after_phase states (word_read (plain_in o v.steps) r) 0)
  pub ended : next.end ≡ stop_of ((bus_of (after_phase states (word_read (plain_in o v.steps) r) 0) 0 0).exchange.stop % 4) v.steps
  pub steps : next.steps ≡ suc v.steps
  pub stores : StoresBefore o (suc v.steps) next.twins
  pub repairs : length next.repairs ≤ length v.repairs + 1
  pub intended : next.intended ≡ v.intended
  pub log : next.log ≡ v.log
  pub devices : next.devices ≡ v.devices

-- a step without an exchange leads on
after-none : {Stands : ℕ → List (List ℕ) → PlainState → Type 0} → StepLaws Stands → (o : Trial) (v : Voted) (states : List (List ℕ)) → Ready o v states
    → read_at o v.steps ≡ None → store_at o v.steps ≡ None → AfterRead o v states None (latches o v 0 0)
after-none law o v states h reading_none storing =
    let l = latched law o v states (wrong_before o.script v.steps) 0 0 h.fits h.judged.logic h.agree in
    record {
      agree = l.agree;
      ended = l.ended;
      steps = refl;
      stores = law.idle o v.steps v.twins reading_none storing h.stores;
      repairs = omega arith;
      intended = refl;
      log = refl;
      devices = refl;
    }

-- a read notes one repair at most
few_repairs : (repairs : List Repair) (r : Option ℕ) (step : ℕ) (at : Spot) (switched : Bool) → length (repairs ++ repair_by r step at switched) ≤ length repairs + 1
few_repairs repairs None step at switched = simp length-append (omega arith)
few_repairs repairs (Some twin) step at switched = simp length-append (omega arith)

-- a step with a read leads on
after-reading : {Stands : ℕ → List (List ℕ) → PlainState → Type 0} → StepLaws Stands → (o : Trial) (v : Voted) (states : List (List ℕ)) (at : Spot) → Ready o v states
    → read_at o v.steps ≡ Some at → store_at o v.steps ≡ None
    → AfterRead o v states (Some at) (reading (read_answer o v.steps v.twins at) o v at)
after-reading law o v states at h reads_it storing =
    subst (λ (a : Result ReadOut BothBad). AfterRead o v states (Some at) (reading a o v at)) (sym it.answer)
    (record {
      agree = subst Agreed it.word l.agree;
      ended = subst Ended it.word l.ended;
      steps = refl;
      stores = it.stores;
      repairs = few_repairs v.repairs it.out.repaired v.steps at it.out.switched;
      intended = refl;
      log = refl;
      devices = refl;
    })
  where
    it : ReadsPlain o v.steps v.twins at
    it = law.read o v.steps v.twins at (subst (HasBanks o.opening.banks) reads_it h.bank) h.stores reads_it storing
        (recoverable o v.steps at (read_at o v.steps) reads_it h.judged.memory) (h.words at)

    between : Voted
    between = record v {
      twins = after_read o v.steps v.twins at it.out;
      repairs = v.repairs ++ repair_by it.out.repaired v.steps at it.out.switched;
    }

    l : Latched o between states it.out.word 0
    l = latched law o between states (wrong_before o.script v.steps) it.out.word 0 h.fits h.judged.logic h.agree

    Agreed : ℕ → Type 0
    Agreed w = Agree (is_wrong o.script v.steps) 1 (latches o between it.out.word 0).copies (after_phase states w 0)

    Ended : ℕ → Type 0
    Ended w = (latches o between it.out.word 0).end ≡ stop_of ((bus_of (after_phase states w 0) 0 0).exchange.stop % 4) v.steps

-- so in phase A, in phase B and in phase C
pub after-fetch : {Stands : ℕ → List (List ℕ) → PlainState → Type 0} → StepLaws Stands → (o : Trial) (v : Voted) (states : List (List ℕ)) (r : Option Spot) → Ready o v states
    → read_at o v.steps ≡ r → store_at o v.steps ≡ None → AfterRead o v states r (exchanges o v (read_wish Fetch r))
after-fetch law o v states None h reads_it storing = after-none law o v states h reads_it storing
after-fetch law o v states (Some at) h reads_it storing = after-reading law o v states at h reads_it storing

pub after-operand : {Stands : ℕ → List (List ℕ) → PlainState → Type 0} → StepLaws Stands → (o : Trial) (v : Voted) (states : List (List ℕ)) (r : Option Spot) → Ready o v states
    → read_at o v.steps ≡ r → store_at o v.steps ≡ None → AfterRead o v states r (exchanges o v (read_wish Operand r))
after-operand law o v states None h reads_it storing = after-none law o v states h reads_it storing
after-operand law o v states (Some at) h reads_it storing = after-reading law o v states at h reads_it storing

-- ---- a step that stores, exchanges with a port, or does neither

pub record AfterMade (o : Trial) (v : Voted) (states : List (List ℕ)) (w : Wanted) (next : Voted) : Type 0 where
  pub agree : Agree (is_wrong o.script v.steps) 1 next.copies (after_phase states 0 (port_answer w v.devices (v.steps / 3 % 2 ^ 26)))
  pub ended : next.end ≡ stop_of ((bus_of (after_phase states 0 (port_answer w v.devices (v.steps / 3 % 2 ^ 26))) 0 0).exchange.stop % 4) v.steps
  pub steps : next.steps ≡ suc v.steps
  pub stores : StoresBefore o (suc v.steps) next.twins
  pub repairs : next.repairs ≡ v.repairs
  pub intended : next.intended ≡ memory_after w v.intended
  pub log : next.log ≡ log_after w v.log v.devices (v.steps / 3)
  pub devices : next.devices ≡ devices_after w v.devices

pub after-made : {Stands : ℕ → List (List ℕ) → PlainState → Type 0} → StepLaws Stands → (o : Trial) (v : Voted) (states : List (List ℕ)) (w : Wanted) → Ready o v states
    → read_of_wish w ≡ None → read_at o v.steps ≡ None → store_at o v.steps ≡ store_of_wish w → AfterMade o v states w (exchanges o v w)
after-made law o v states Nothing h none reads_none storing =
    let l = latched law o v states (wrong_before o.script v.steps) 0 0 h.fits h.judged.logic h.agree in
    record { agree = l.agree; ended = l.ended; steps = refl; stores = law.idle o v.steps v.twins reads_none storing h.stores; repairs = refl; intended = refl; log = refl; devices = refl }
after-made law o v states (Fetch at) h none reads_none storing = absurd (cc)
after-made law o v states (Operand at) h none reads_none storing = absurd (cc)
after-made law o v states (Store at x) h none reads_none storing =
    let between = record v { twins = after_store o v.steps at x v.twins; intended = memory.stored v.intended at x } in
    let l = latched law o between states (wrong_before o.script v.steps) 0 0 h.fits h.judged.logic h.agree in
    record { agree = l.agree; ended = l.ended; steps = refl; stores = law.store o v.steps v.twins at x h.stores reads_none storing; repairs = refl; intended = refl; log = refl; devices = refl }
after-made law o v states (PortRead port) h none reads_none storing =
    let x = exchange_word (requests.Read port) (v.steps / 3 % 2 ^ 26) v.devices in
    let l = latched law o v states (wrong_before o.script v.steps) 0 x h.fits h.judged.logic h.agree in
    record { agree = l.agree; ended = l.ended; steps = refl; stores = law.idle o v.steps v.twins reads_none storing h.stores; repairs = refl; intended = refl; log = refl; devices = refl }
after-made law o v states (PortWrite port x) h none reads_none storing =
    let l = latched law o v states (wrong_before o.script v.steps) 0 0 h.fits h.judged.logic h.agree in
    record { agree = l.agree; ended = l.ended; steps = refl; stores = law.idle o v.steps v.twins reads_none storing h.stores; repairs = refl; intended = refl; log = refl; devices = refl }
