-- The run that judges is the run through every fault up to the first step that something is said against; and where a machine then goes on.
use Rattle.std.proofs.Common.{◌≡◌, ◌≢◌, ℕ, zero, suc, ◌+◌, ◌*◌, ◌%◌, ◌≤◌, ◌<◌, true, false, List, length, ◌++◌, map, Result, Ok, Err, refl, sym, ap, ◌∙◌, subst, arith}
use Rattle.std.proofs.Math.Numerals.{add-one}
use Rattle.std.specs.declared.option.Option.{Option}
use Rattle.std.specs.declared.option.Option.TheVariants.{None, Some}
use Rattle.lvdc_map.specs.Address.{Spot}
use Rattle.lvdc_map.specs.Memory.{stored}
use Rattle.lvdc_port.specs.Device as device
use Rattle.lvdc_port.specs.Devices.{has_port, after_exchange}
use Rattle.lvdc_port.specs.declared.requests.PortRequest.TheVariants.{Read, Write}
use Rattle.lvdc_port.specs.Supplies.{ports_of}
use Rattle.lvdc_port.proofs.Lists.{has-map, count-same}
use Rattle.lvdc_plain.specs.Lists.{Since}
use Rattle.lvdc_twin.specs.declared.both_bad.BothBad.{BothBad}
use Rattle.lvdc_twin.specs.declared.read_out.ReadOut.{ReadOut}
use Rattle.lvdc_modules.specs.Wish.{wish}
use Rattle.lvdc_modules.specs.declared.wanted.Wanted.{Wanted}
use Rattle.lvdc_modules.specs.declared.wanted.Wanted.TheVariants.{Nothing, Fetch, Operand, Store, PortRead, PortWrite}
use Rattle.lvdc_fault.specs.declared.verdict.Verdict.{Verdict}
use Rattle.lvdc_fault.specs.declared.verdict.Verdict.TheVariants.{Admissible, Logic, Memory}
use Rattle.lvdc_model.specs.Exchanges.{begin_step, with_end, with_latched, latches, repair_by, reading, port_word, logged, exchanges, wished, voted_step}
use Rattle.lvdc_model.specs.Known.{last_begun}
use Rattle.lvdc_model.specs.Runs.{judged_by, own_verdict}
use Rattle.lvdc_model.specs.Trial.{Trial}
use Rattle.lvdc_model.specs.Twins.{read_answer, after_read, after_store}
use Rattle.lvdc_model.specs.Voted.{Voted, voted_bus}
use Rattle.lvdc_model.specs.declared.outcome.Outcome.{Outcome}
use Rattle.lvdc_model.specs.declared.outcome.Outcome.TheVariants.{Done, Stopped, Inadmissible, Device}
use Rattle.lvdc_machine.specs.declared.mode.Mode.{Mode}
use Rattle.lvdc_machine.specs.declared.mode.Mode.TheVariants.{Guarded, Through}
use Rattle.lvdc_machine.specs.declared.mode.Pace.TheVariants.{ByStep}
use Rattle.lvdc_machine.specs.Calls.{Answers, MakesSteps}
use Rattle.lvdc_machine.specs.Causes.{EndHasCause}
use Rattle.lvdc_machine.specs.Onward.{IsRefusal, HasRefused, Turns, MakesRefused, GoesThrough}
use Rattle.lvdc_machine.specs.Shows.{Shows}
use Rattle.lvdc_machine.specs.Resumed.{steps_after, steps_since, state_from, EndsFrom, StandsFrom}
use Rattle.lvdc_machine.specs.Steps.{run_from, NamesPort, Keeps, MadeAs, IsMade}
use Rattle.lvdc_machine.specs.View.{View, bus_of_votes, answer_of_end}
use Rattle.lvdc_machine.proofs.Blame.{made-unjudged, caused-since}
use Rattle.lvdc_machine.proofs.Calls.{unjudged}
use Rattle.lvdc_machine.proofs.Making.{ends-made}
use Rattle.lvdc_machine.proofs.Resuming.{run-next, run-stays-one, wanted-wished, IsPrepared, stands-made, stands-failed}
use Rattle.lvdc_machine.proofs.Standing.{after-sum, after-none, since-difference}

-- ---- an exchange

-- a step that latched is counted
latches-made : (o : Trial) (v : Voted) (memory port : ℕ) → MadeAs (latches o v memory port).end v.steps (latches o v memory port).steps
latches-made o v memory port =
    subst (λ (n : ℕ). MadeAs (latches o v memory port).end v.steps n) (add-one v.steps)
    (ends-made ((voted_bus (with_latched o v memory port) 0 0).exchange.stop % 4) v.steps (latches o v memory port).end refl)

-- so is one that read, unless it found no good cell
reading-made : (answer : Result ReadOut BothBad) (o : Trial) (v : Voted) (at : Spot) → MadeAs (reading answer o v at).end v.steps (reading answer o v at).steps
reading-made (Err bad) o v at = (omega arith, omega arith)
reading-made (Ok r) o v at =
    latches-made o (record v { twins = after_read o v.steps v.twins at r; repairs = v.repairs ++ repair_by r.repaired v.steps at r.switched }) r.word 0

-- so is every other
exchanges-made : (o : Trial) (v : Voted) (x : Wanted) → MadeAs (exchanges o v x).end v.steps (exchanges o v x).steps
exchanges-made o v Nothing = latches-made o v 0 0
exchanges-made o v (Fetch at) = reading-made (read_answer o v.steps v.twins at) o v at
exchanges-made o v (Operand at) = reading-made (read_answer o v.steps v.twins at) o v at
exchanges-made o v (Store at word) = latches-made o (record v { twins = after_store o v.steps at word v.twins; intended = stored v.intended at word }) 0 0
exchanges-made o v (PortRead port) =
    let word = port_word v (Read port) in
    latches-made o (record v { devices = after_exchange (Read port) v.devices; log = logged v port true word }) 0 word
exchanges-made o v (PortWrite port word) =
    latches-made o (record v { devices = after_exchange (Write port word) v.devices; log = logged v port false word }) 0 0

-- where no end came the step was counted
made-none : (end : Option Outcome) (before after : ℕ) → MadeAs end before after → end ≡ None → after ≡ before + 1
made-none None before after made none = made
made-none (Some e) before after made none = absurd (cc none)

-- an end that was kept has no part in a read
reading-anew : (answer : Result ReadOut BothBad) (o : Trial) (v : Voted) (e : Outcome) (at : Spot) → reading answer o (with_end v e) at ≡ reading answer o v at
reading-anew (Err bad) o v e at = refl
reading-anew (Ok r) o v e at = refl

-- nor in any other exchange
exchanges-anew : (o : Trial) (v : Voted) (e : Outcome) (x : Wanted) → exchanges o (with_end v e) x ≡ exchanges o v x
exchanges-anew o v e Nothing = refl
exchanges-anew o v e (Fetch at) = reading-anew (read_answer o v.steps v.twins at) o v e at
exchanges-anew o v e (Operand at) = reading-anew (read_answer o v.steps v.twins at) o v e at
exchanges-anew o v e (Store at word) = refl
exchanges-anew o v e (PortRead port) = refl
exchanges-anew o v e (PortWrite port word) = refl

-- ---- two runs from one state

-- so many steps after a state either nothing was said against a step, and the two runs are one, or the run through every fault comes to
-- the step that something was said against, which ended the other one
pub data Comes (o : Trial) (first : Voted) (n : ℕ) : Type 0 where
  Same : run_from Through o first n ≡ run_from Guarded o first n → ((w : Verdict) → (run_from Guarded o first n).end ≢ Some (Inadmissible w))
      → ((run_from Guarded o first n).end ≡ None → (run_from Guarded o first n).steps ≡ steps_after first.steps n) → Comes o first n
  Refused : (at : ℕ) (w : Verdict) → at < n → (run_from Through o first at).end ≡ None → (run_from Through o first at).steps ≡ steps_after first.steps at
      → run_from Guarded o first n ≡ with_end (begin_step o (run_from Through o first at)) (Inadmissible w) → Comes o first n

-- one more step that is judged, by what is said of it
comes-judged : (o : Trial) (first : Voted) (n : ℕ) (w : Verdict) → own_verdict o (begin_step o (run_from Guarded o first n)) ≡ w
    → (run_from Guarded o first n).end ≡ None → run_from Through o first n ≡ run_from Guarded o first n
    → (run_from Guarded o first n).steps ≡ steps_after first.steps n → Comes o first (suc n)
comes-judged o first n Admissible is going same steps =
    let p = begin_step o (run_from Guarded o first n) in
    let guarded : run_from Guarded o first (suc n) ≡ voted_step o p = run-next Guarded o first n going ∙ ap (λ x. judged_by x o p) is in
    let through : run_from Through o first (suc n) ≡ voted_step o p =
    run-next Through o first n (ap (λ (v : Voted). v.end) same ∙ going) ∙ ap (λ (v : Voted). voted_step o (begin_step o v)) same in
    let made = subst (λ (v : Voted). MadeAs v.end p.steps v.steps) (sym guarded) (exchanges-made o p (wished o p)) in
    Same (through ∙ sym guarded) (made-unjudged _ _ _ made)
    (λ none. let counted = made-none _ _ _ made none in omega (arith, counted, steps, after-sum first.steps n, after-sum first.steps (suc n)))
comes-judged o first n (Logic step number) is going same steps =
    let p = begin_step o (run_from Guarded o first n) in
    Refused n (Logic step number) (omega arith) (ap (λ (v : Voted). v.end) same ∙ going) (ap (λ (v : Voted). v.steps) same ∙ steps)
    (run-next Guarded o first n going ∙ ap (λ x. judged_by x o p) is ∙ ap (λ (v : Voted). with_end (begin_step o v) (Inadmissible (Logic step number))) (sym same))
comes-judged o first n (Memory step at) is going same steps =
    let p = begin_step o (run_from Guarded o first n) in
    Refused n (Memory step at) (omega arith) (ap (λ (v : Voted). v.end) same ∙ going) (ap (λ (v : Voted). v.steps) same ∙ steps)
    (run-next Guarded o first n going ∙ ap (λ x. judged_by x o p) is ∙ ap (λ (v : Voted). with_end (begin_step o v) (Inadmissible (Memory step at))) (sym same))

-- one more step of two runs that are one, by the end that has come
comes-same : (o : Trial) (first : Voted) (n : ℕ) (end : Option Outcome) → (run_from Guarded o first n).end ≡ end
    → run_from Through o first n ≡ run_from Guarded o first n → ((w : Verdict) → (run_from Guarded o first n).end ≢ Some (Inadmissible w))
    → ((run_from Guarded o first n).end ≡ None → (run_from Guarded o first n).steps ≡ steps_after first.steps n) → Comes o first (suc n)
comes-same o first n None is same free steps = comes-judged o first n (own_verdict o (begin_step o (run_from Guarded o first n))) refl is same (steps is)
comes-same o first n (Some e) is same free steps =
    let stays = run-stays-one Guarded o first n e is in
    let ended = ap (λ (v : Voted). v.end) stays in
    Same (run-stays-one Through o first n e (ap (λ (v : Voted). v.end) same ∙ is) ∙ same ∙ sym stays)
    (λ w bad. free w (sym ended ∙ bad)) (λ none. absurd (cc (none, ended, is)))

-- one more step
comes-on : (o : Trial) (first : Voted) (n : ℕ) → Comes o first n → Comes o first (suc n)
comes-on o first n (Same same free steps) = comes-same o first n (run_from Guarded o first n).end refl same free steps
comes-on o first n (Refused at w less going steps state) =
    Refused at w (omega (arith, less)) going steps (run-stays-one Guarded o first n (Inadmissible w) (ap (λ (v : Voted). v.end) state) ∙ state)

-- from a state in which no end had come
pub comes : (o : Trial) (first : Voted) (n : ℕ) → first.end ≡ None → Comes o first n
comes o first zero going = Same refl (λ w bad. absurd (cc (going, bad))) (λ none. sym (after-none first.steps))
comes o first (suc n) going = comes-on o first n (comes o first n going)

-- ---- where the machine is

-- what was said
refusal-is : (end : Option Outcome) → IsRefusal end → (w : Verdict) × (end ≡ Some (Inadmissible w))
refusal-is None refusal = absurd refusal
refusal-is (Some Done) refusal = absurd refusal
refusal-is (Some (Stopped step stop)) refusal = absurd refusal
refusal-is (Some (Inadmissible w)) refusal = (w, refl)
refusal-is (Some (Device step port)) refusal = absurd refusal

-- the machine in the mode, with the room, and with no end yet, in which it makes the step
abbrev pub anew : View → View
anew m = record m { mode = Through; pace = ByStep; end = None }

-- it has come to that step in the run through every fault
pub record HasCome (o : Trial) (first : Voted) (m : View) (ds : List device.Device) : Type 0 where
  pub at : ℕ
  pub prepared : IsPrepared o first at (anew m) ds
  pub next : at + 1 ≡ steps_since first.steps (m.steps + 1)
  pub later : first.steps ≤ m.steps

-- by what the run has come to
has-come : (o : Trial) (first : Voted) (n : ℕ) (m : View) (ds : List device.Device) (w : Verdict) → m.end ≡ Some (Inadmissible w)
    → m.on_memory.last ≡ Some m.steps → Shows o m ds (run_from Guarded o first n) → Comes o first n → HasCome o first m ds
has-come o first n m ds w is begun s (Same same free steps) = absurd (free w (sym s.end ∙ is))
has-come o first n m ds w is begun s (Refused at bad less going steps state) =
    let c = subst (λ (v : Voted). Shows o m ds v) state s in
    let made : m.steps ≡ steps_after first.steps at = c.steps ∙ steps in
    record {
      at = at;
      prepared = record {
        shows = record {
          banks = c.banks;
          script = c.script;
          unplugs = c.unplugs;
          copies = c.copies;
          memory = c.memory;
          left = c.left;
          log = c.log;
          repairs = c.repairs;
          counts = c.counts;
          steps = c.steps;
          end = sym going;
        };
        going = going;
        steps = made;
        begun = begun;
      };
      next = omega (arith, made, after-sum first.steps at, since-difference first.steps (m.steps + 1));
      later = omega (arith, made, after-sum first.steps at);
    }

-- a machine that judges is in the state of its run, once something is said
shows-judged : (o : Trial) (first : Voted) (n : ℕ) (m : View) (ds : List device.Device) (mode : Mode) (end : Option Outcome) (w : Verdict) → mode ≡ Guarded
    → end ≡ Some (Inadmissible w) → Shows o m ds (state_from end mode o first n) → Shows o m ds (run_from Guarded o first n)
shows-judged o first n m ds mode end w judges is s = rw (is, judges) at s

-- a machine that has said something against a step has come to it
pub refused-comes : (o : Trial) (first : Voted) (n : ℕ) (m : View) (ds : List device.Device) → first.end ≡ None → HasRefused m
    → StandsFrom o first n m ds → HasCome o first m ds
refused-comes o first n m ds going refused h =
    let said = refusal-is m.end refused.refusal in
    has-come o first n m ds said.0 said.1 refused.begun (shows-judged o first n m ds m.mode m.end said.0 refused.mode said.1 h.shows) (comes o first n going)

-- a machine that stands where a run is, and has said something, has begun the step
refused-by : (o : Trial) (first : Voted) (n : ℕ) (m : View) (end : Option Outcome) → m.end ≡ end → IsRefusal end → m.mode ≡ Guarded → length m.log ≤ m.steps
    → m.on_memory.last ≡ last_begun end m.steps → EndsFrom end o first n m.mode m.steps → steps_after first.steps n ≤ 3 * m.limit → HasRefused m
refused-by o first n m None is refusal mode few begun ends most = absurd refusal
refused-by o first n m (Some Done) is refusal mode few begun ends most = absurd refusal
refused-by o first n m (Some (Stopped step stop)) is refusal mode few begun ends most = absurd refusal
refused-by o first n m (Some (Device step port)) is refusal mode few begun ends most = absurd refusal
refused-by o first n m (Some (Inadmissible w)) is refusal mode few begun ends most =
    record { refusal = rw is tt; mode = mode; few = few; begun = begun; left = omega (arith, ends, most) }

-- of a machine with room for all steps
pub refused-stands : (o : Trial) (first : Voted) (n : ℕ) (m : View) (ds : List device.Device) → StandsFrom o first n m ds → m.mode ≡ Guarded → length m.log ≤ m.steps
    → IsRefusal m.end → steps_after first.steps n ≤ 3 * m.limit → HasRefused m
refused-stands o first n m ds h mode few refusal most = refused-by o first n m m.end refl refusal mode few h.begun h.ends most

-- ---- what it makes of the step

-- the exchange that was made of a machine that still kept its end is that of one that keeps none
shown-anew : (o : Trial) (m turned new : View) (ds left : List device.Device) (x : Wanted) → turned ≡ record m { mode = Through; pace = ByStep } → IsRefusal m.end
    → ((v : Voted) → Shows o turned ds v → Shows o new left (exchanges o v x)) → (v : Voted) → Shows o (anew m) ds v → Shows o new left (exchanges o v x)
shown-anew o m turned new ds left x is refusal shown v s =
    let said = refusal-is m.end refusal in
    subst (λ (u : Voted). Shows o new left u) (exchanges-anew o v (Inadmissible said.0) x)
    (shown (with_end v (Inadmissible said.0)) (rw is (record {
      banks = s.banks;
      script = s.script;
      unplugs = s.unplugs;
      copies = s.copies;
      memory = s.memory;
      left = s.left;
      log = s.log;
      repairs = s.repairs;
      counts = s.counts;
      steps = s.steps;
      end = said.1;
    })))

-- the step is made
pub refused-made : (o : Trial) (first : Voted) (m turned new : View) (ds left : List device.Device) (x : Wanted) → HasCome o first m ds
    → turned ≡ record m { mode = Through; pace = ByStep } → IsRefusal m.end → x ≡ wish (bus_of_votes turned.copies) turned.banks
    → ((v : Voted) → Shows o turned ds v → Shows o new left (exchanges o v x)) → IsMade (anew m) new
    → StandsFrom o first (steps_since first.steps (m.steps + 1)) new left
refused-made o first m turned new ds left x h is refusal wanted shown made =
    let p = h.prepared in
    let wish-is = wanted-wished p.shows x (rw is at wanted) in
    subst (λ (n : ℕ). StandsFrom o first n new left) h.next
    (stands-made o first h.at (anew m) new ds left Admissible x p refl refl wish-is (shown-anew o m turned new ds left x is refusal shown) made)

-- a device failed in it
pub refused-failed : (o : Trial) (first : Voted) (m turned new : View) (ds left : List device.Device) (x : Wanted) (port : ℕ) → HasCome o first m ds
    → turned ≡ record m { mode = Through; pace = ByStep } → x ≡ wish (bus_of_votes turned.copies) turned.banks
    → NamesPort x port → left ≡ ds → new ≡ record turned { end = Some (Device turned.steps port) }
    → StandsFrom o first (steps_since first.steps (m.steps + 1)) new left
refused-failed o first m turned new ds left x port h is wanted named kept failed =
    let p = h.prepared in
    let wish-is = wanted-wished p.shows x (rw is at wanted) in
    subst (λ (n : ℕ). StandsFrom o first n new left) h.next
    (stands-failed o first h.at (anew m) new ds left Admissible x port p refl refl wish-is named kept (rw is at failed))

-- ---- what is left of it

-- of a machine that keeps no end, it is made as it was
pub made-anew : (m turned new : View) → turned ≡ record m { mode = Through; pace = ByStep } → IsMade turned new → IsMade (anew m) new
made-anew m turned new is made = record {
  keeps = record {
    banks = made.keeps.banks ∙ ap (λ (v : View). v.banks) is;
    script = made.keeps.script ∙ ap (λ (v : View). v.script) is;
    unplugs = made.keeps.unplugs ∙ ap (λ (v : View). v.unplugs) is;
    limit = made.keeps.limit ∙ ap (λ (v : View). v.limit) is;
    mode = made.keeps.mode ∙ ap (λ (v : View). v.mode) is;
    pace = made.keeps.pace ∙ ap (λ (v : View). v.pace) is;
  };
  begun = made.begun;
  ends = subst (λ (n : ℕ). MadeAs new.end n new.steps) (ap (λ (v : View). v.steps) is) made.ends;
}

-- what stays from the turn on
pub turns-then : (m turned new : View) → turned ≡ record m { mode = Through; pace = ByStep } → Keeps turned new → Turns m new
turns-then m turned new is keeps = record {
  banks = keeps.banks ∙ ap (λ (v : View). v.banks) is;
  script = keeps.script ∙ ap (λ (v : View). v.script) is;
  unplugs = keeps.unplugs ∙ ap (λ (v : View). v.unplugs) is;
  limit = keeps.limit ∙ ap (λ (v : View). v.limit) is;
  mode = keeps.mode ∙ ap (λ (v : View). v.mode) is;
  pace = keeps.pace ∙ ap (λ (v : View). v.pace) is;
}

-- devices that are as they were, with the counts that they had
pub since-same : {B : Type 0} {device_of : B → device.Device} {count : B → ℕ} (old ready : List B) → map device_of ready ≡ map device_of old
    → map count ready ≡ map count old → Since device_of count old ready
since-same {device_of = device_of} {count = count} old ready same counts = record {
  left = λ port has. has-map device_of port old ∙ ap (λ ds. has_port (λ d. d) port ds) (sym same) ∙ sym (has-map device_of port ready) ∙ has;
  counts = λ port has. count-same device_of count port ready old (ap ports_of same) counts;
}

-- ---- all steps that are left

-- the cause of the end, by the end that the step brought
cause-on : {B : Type 0} (device_of : B → device.Device) (faults : B → ℕ) (mid after : View) (old between new : List B) (answer : Outcome)
    → EndHasCause device_of faults (answer_of_end mid.end) old between
    → ((port : ℕ) → has_port device_of port between ≡ true → has_port device_of port old ≡ true)
    → ((port : ℕ) → has_port device_of port new ≡ true → has_port device_of port between ≡ true)
    → Answers device_of faults answer mid after between new → (end : Option Outcome) → mid.end ≡ end → EndHasCause device_of faults answer old new
cause-on device_of faults mid after old between new answer cause left more h None is =
    caused-since {device_of = device_of} {count = faults} (record { left = left; counts = rw is at cause }) new answer more (h.cause (rw is refl))
cause-on device_of faults mid after old between new answer cause left more h (Some e) is =
    let kept = h.kept (rw is refl) in
    rw (h.answer, kept.0, kept.1) cause

-- nor is the end a verdict
unjudged-on : {B : Type 0} (device_of : B → device.Device) (faults : B → ℕ) (mid after : View) (between new : List B) (answer : Outcome)
    → ((verdict : Verdict) → mid.end ≢ Some (Inadmissible verdict)) → mid.mode ≡ Through → Answers device_of faults answer mid after between new
    → (end : Option Outcome) → mid.end ≡ end → (verdict : Verdict) → answer ≢ Inadmissible verdict
unjudged-on device_of faults mid after between new answer free mode h None is verdict = h.through mode (rw is refl) verdict
unjudged-on device_of faults mid after between new answer free mode h (Some e) is verdict =
    let kept = h.kept (rw is refl) in
    rw (h.answer, kept.0) (unjudged mid.end free verdict)

-- the step is made, and then the others
pub goes-through : {B : Type 0} (device_of : B → device.Device) (spare faults : B → ℕ) (m mid after : View) (old between new : List B) (to rest : ℕ) (answer : Outcome)
    → HasRefused m → to ≡ m.steps + 1 + rest → MakesRefused device_of spare faults m mid old between
    → MakesSteps device_of spare faults rest answer mid after between new → GoesThrough device_of spare faults to answer m after old new
goes-through device_of spare faults m mid after old between new to rest answer refused all made more = record {
  stands = λ o first n going h.
      let later = (refused-comes o first n m (map device_of old) going refused h).later in
      let same : steps_since first.steps (m.steps + 1) + rest ≡ steps_since first.steps to =
      omega (arith, all, later, since-difference first.steps (m.steps + 1), since-difference first.steps to) in
      subst (λ (k : ℕ). StandsFrom o first k after (map device_of new)) same (more.stands o first _ (made.stands o first n going h));
  turns = record {
    banks = more.leaves.keeps.banks ∙ made.turns.banks;
    script = more.leaves.keeps.script ∙ made.turns.script;
    unplugs = more.leaves.keeps.unplugs ∙ made.turns.unplugs;
    limit = more.leaves.keeps.limit ∙ made.turns.limit;
    mode = more.leaves.keeps.mode ∙ made.turns.mode;
    pace = more.leaves.keeps.pace ∙ made.turns.pace;
  };
  most = let one = made.most in let rest_most = more.leaves.most in omega (arith, all, one, rest_most);
  answer = more.answers.answer;
  cause = cause-on device_of faults mid after old between new answer made.cause made.left more.leaves.left more.answers mid.end refl;
  unjudged = unjudged-on device_of faults mid after between new answer made.unjudged made.turns.mode more.answers mid.end refl;
  left = λ port has. made.left port (more.leaves.left port has);
  fit = more.leaves.fit;
}
