-- A machine goes on by one step of the run from a state.
use Rattle.std.proofs.Common.{◌≡◌, ◌≢◌, ℕ, zero, suc, ◌+◌, ◌-◌, ◌<◌, List, refl, sym, ap, ◌∙◌, subst, arith, add-zero, add-suc}
use Rattle.std.proofs.Math.Numerals.{add-one}
use Rattle.std.specs.declared.option.Option.{Option}
use Rattle.std.specs.declared.option.Option.TheVariants.{None, Some}
use Rattle.lvdc_port.specs.Device as device
use Rattle.lvdc_modules.specs.Wish.{wish}
use Rattle.lvdc_modules.specs.declared.wanted.Wanted.{Wanted}
use Rattle.lvdc_fault.specs.declared.verdict.Verdict.{Verdict}
use Rattle.lvdc_fault.specs.declared.verdict.Verdict.TheVariants.{Admissible, Logic, Memory}
use Rattle.lvdc_model.specs.Exchanges.{damages, begin_step, with_end, exchanges, wished, voted_step}
use Rattle.lvdc_model.specs.Known.{last_begun}
use Rattle.lvdc_model.specs.Runs.{judged_by, alone_by, through_by, own_verdict}
use Rattle.lvdc_model.specs.Trial.{Trial, devices_left}
use Rattle.lvdc_model.specs.Voted.{Voted}
use Rattle.lvdc_model.specs.declared.outcome.Outcome.{Outcome}
use Rattle.lvdc_model.specs.declared.outcome.Outcome.TheVariants.{Done, Stopped, Inadmissible, Device}
use Rattle.lvdc_machine.specs.declared.mode.Mode.{Mode}
use Rattle.lvdc_machine.specs.declared.mode.Mode.TheVariants.{Guarded, Through}
use Rattle.lvdc_machine.specs.Shows.{Shows}
use Rattle.lvdc_machine.specs.Resumed.{steps_after, steps_since, state_from, EndsFrom, StandsFrom}
use Rattle.lvdc_machine.specs.Steps.{run_from, verdict_of, NamesPort, MadeAs, IsMade}
use Rattle.lvdc_machine.specs.View.{View, bus_of_votes}
use Rattle.lvdc_machine.proofs.Standing.{after-sum, since-difference}

-- ---- the run of a mode

-- without an end a step that judges is prepared and judged
alone-goes : (end : Option Outcome) (o : Trial) (v : Voted) → end ≡ None → alone_by end o v ≡ judged_by (own_verdict o (begin_step o v)) o (begin_step o v)
alone-goes end o v e = rw e refl

-- and one that doesn't is prepared and made
through-goes : (end : Option Outcome) (o : Trial) (v : Voted) → end ≡ None → through_by end o v ≡ voted_step o (begin_step o v)
through-goes end o v e = rw e refl

-- where no end has come, the next step is prepared, judged and made
pub run-next : (mode : Mode) (o : Trial) (r : Voted) (t : ℕ) → (run_from mode o r t).end ≡ None
    → run_from mode o r (suc t) ≡ judged_by (verdict_of mode o (begin_step o (run_from mode o r t))) o (begin_step o (run_from mode o r t))
run-next Guarded o r t e = alone-goes (run_from Guarded o r t).end o (run_from Guarded o r t) e
run-next Through o r t e = through-goes (run_from Through o r t).end o (run_from Through o r t) e

-- after an end a step changes nothing, judged
alone-stays : (end : Option Outcome) (o : Trial) (v : Voted) (e : Outcome) → end ≡ Some e → alone_by end o v ≡ v
alone-stays end o v e is = rw is refl

-- or not
through-stays : (end : Option Outcome) (o : Trial) (v : Voted) (e : Outcome) → end ≡ Some e → through_by end o v ≡ v
through-stays end o v e is = rw is refl

-- so of either mode
pub run-stays-one : (mode : Mode) (o : Trial) (r : Voted) (t : ℕ) (e : Outcome) → (run_from mode o r t).end ≡ Some e → run_from mode o r (suc t) ≡ run_from mode o r t
run-stays-one Guarded o r t e is = alone-stays (run_from Guarded o r t).end o (run_from Guarded o r t) e is
run-stays-one Through o r t e is = through-stays (run_from Through o r t).end o (run_from Through o r t) e is

-- after an end nothing changes
run-stays : (mode : Mode) (o : Trial) (r : Voted) (t n : ℕ) (e : Outcome) → (run_from mode o r t).end ≡ Some e → run_from mode o r (t + n) ≡ run_from mode o r t
run-stays mode o r t zero e is = ap (λ k. run_from mode o r k) (add-zero t)
run-stays mode o r t (suc n) e is =
    let before = run-stays mode o r t n e is in
    ap (λ k. run_from mode o r k) (add-suc t n)
    ∙ run-stays-one mode o r (t + n) e (ap (λ (v : Voted). v.end) before ∙ is) ∙ before

-- a verdict other than Admissible ends the run with it
judged-bad : (w : Verdict) (o : Trial) (v : Voted) → w ≢ Admissible → judged_by w o v ≡ with_end v (Inadmissible w)
judged-bad Admissible o v bad = absurd (bad refl)
judged-bad (Logic step m) o v bad = refl
judged-bad (Memory step at) o v bad = refl

-- ---- a step that is prepared

-- cells damaged and devices taken away, the machine is in the state that is prepared
pub shows-prepared : {o : Trial} {m : View} {ds : List device.Device} (v : Voted) → Shows o m ds (record v { twins = damages v.steps o.script v.twins })
    → (left : List device.Device) → left ≡ devices_left m.unplugs m.steps ds → Shows o m left (begin_step o v)
shows-prepared v s left is =
    record {
      banks = s.banks;
      script = s.script;
      unplugs = s.unplugs;
      copies = s.copies;
      memory = s.memory;
      left = is ∙ (λ i. devices_left (s.unplugs i) (s.steps i) (s.left i));
      log = s.log;
      repairs = s.repairs;
      counts = s.counts;
      steps = s.steps;
      end = s.end;
    }

-- what the machine wants is what the state wishes
pub wanted-wished : {o : Trial} {m : View} {ds : List device.Device} {v : Voted} → Shows o m ds v → (w : Wanted)
    → w ≡ wish (bus_of_votes m.copies) m.banks → w ≡ wished o v
wanted-wished s w is = is ∙ (λ i. wish (bus_of_votes (s.copies i)) (s.banks i))

-- a machine that runs has come to a step, and the step is prepared
pub record IsPrepared (o : Trial) (r : Voted) (t : ℕ) (m : View) (ds : List device.Device) : Type 0 where
  pub shows : Shows o m ds (begin_step o (run_from m.mode o r t))
  pub going : (run_from m.mode o r t).end ≡ None
  pub steps : m.steps ≡ steps_after r.steps t
  pub begun : m.on_memory.last ≡ Some m.steps

-- a machine without an end is in the state of its run
running-by : (o : Trial) (r : Voted) (t : ℕ) (m : View) (ds : List device.Device) (end : Option Outcome) → end ≡ None → Shows o m ds (state_from end m.mode o r t) → Shows o m ds (run_from m.mode o r t)
running-by o r t m ds end e s = rw e at s

-- and has made all its steps
steps-by : (o : Trial) (r : Voted) (t : ℕ) (mode : Mode) (steps : ℕ) (end : Option Outcome) → end ≡ None → EndsFrom end o r t mode steps → steps ≡ steps_after r.steps t
steps-by o r t mode steps end e s = rw e at s

-- what is left of a machine that runs, once its step is begun
pub is-prepared : (o : Trial) (r : Voted) (t : ℕ) (old mid : View) (ds left : List device.Device) → StandsFrom o r t old ds → old.end ≡ None
    → mid ≡ record old { memory = mid.memory; on_memory = mid.on_memory } → mid.on_memory.last ≡ Some old.steps
    → ((v : Voted) → Shows o old ds v → Shows o mid ds (record v { twins = damages v.steps o.script v.twins }))
    → left ≡ devices_left old.unplugs old.steps ds → IsPrepared o r t mid left
is-prepared o r t old mid ds left h none same begun shown is =
    let s = running-by o r t old ds old.end none h.shows in
    let mode : mid.mode ≡ old.mode = ap (λ (m : View). m.mode) same in
    let steps : mid.steps ≡ old.steps = ap (λ (m : View). m.steps) same in
    let unplugs : mid.unplugs ≡ old.unplugs = ap (λ (m : View). m.unplugs) same in
    record {
      shows = subst (λ (k : Mode). Shows o mid left (begin_step o (run_from k o r t))) (sym mode)
          (shows-prepared (run_from old.mode o r t) (shown (run_from old.mode o r t) s) left
          (is ∙ (λ i. devices_left (sym unplugs i) (sym steps i) ds)));
      going = subst (λ (k : Mode). (run_from k o r t).end ≡ None) (sym mode) (sym s.end ∙ none);
      steps = steps ∙ steps-by o r t old.mode old.steps old.end none h.ends;
      begun = begun ∙ ap Some (sym steps);
    }

-- ---- where it then stands

-- nothing is made of a step that isn't admissible
pub stands-judged : (o : Trial) (r : Voted) (t : ℕ) (m new : View) (ds : List device.Device) (w : Verdict) → IsPrepared o r t m ds
    → w ≡ verdict_of m.mode o (begin_step o (run_from m.mode o r t)) → w ≢ Admissible → new ≡ record m { end = Some (Inadmissible w) }
    → StandsFrom o r (t + 1) new ds
stands-judged o r t m new ds w h is bad same =
    let s = h.shows in
    let next : run_from m.mode o r (suc t) ≡ with_end (begin_step o (run_from m.mode o r t)) (Inadmissible w) =
    run-next m.mode o r t h.going ∙ ap (λ x. judged_by x o (begin_step o (run_from m.mode o r t))) (sym is) ∙ judged-bad w o (begin_step o (run_from m.mode o r t)) bad in
    let steps = h.steps in
    rw (same, add-one) (record {
      shows = rw next (record {
        banks = s.banks;
        script = s.script;
        unplugs = s.unplugs;
        copies = s.copies;
        memory = s.memory;
        left = s.left;
        log = s.log;
        repairs = s.repairs;
        counts = s.counts;
        steps = s.steps;
        end = refl;
      });
      begun = h.begun;
      ends = omega (arith, steps, after-sum r.steps t, after-sum r.steps (suc t));
    })

-- by the end that the step brought
stands-by : (o : Trial) (r : Voted) (t before : ℕ) (new : View) (ds : List device.Device) (end : Option Outcome) → new.end ≡ end → before ≡ steps_after r.steps t
    → new.on_memory.last ≡ last_begun new.end new.steps → MadeAs end before new.steps → Shows o new ds (run_from new.mode o r (suc t)) → StandsFrom o r (suc t) new ds
stands-by o r t before new ds None is at begun made s =
    record {
      shows = subst (λ (e : Option Outcome). Shows o new ds (state_from e new.mode o r (suc t))) (sym is) s;
      begun = begun;
      ends = subst (λ (e : Option Outcome). EndsFrom e o r (suc t) new.mode new.steps) (sym is) (omega (arith, made, at, after-sum r.steps t, after-sum r.steps (suc t)));
    }
stands-by o r t before new ds (Some (Stopped step stop)) is at begun made s =
    record {
      shows = subst (λ (e : Option Outcome). Shows o new ds (state_from e new.mode o r (suc t))) (sym is) s;
      begun = begun;
      ends = subst (λ (e : Option Outcome). EndsFrom e o r (suc t) new.mode new.steps) (sym is) (let most = made.1 in omega (arith, at, most, after-sum r.steps t, after-sum r.steps (suc t)));
    }
stands-by o r t before new ds (Some Done) is at begun made s = absurd made
stands-by o r t before new ds (Some (Inadmissible w)) is at begun made s = absurd made
stands-by o r t before new ds (Some (Device step port)) is at begun made s = absurd made

-- a step is made
pub stands-made : (o : Trial) (r : Voted) (t : ℕ) (m new : View) (ds left : List device.Device) (w : Verdict) (x : Wanted) → IsPrepared o r t m ds
    → w ≡ verdict_of m.mode o (begin_step o (run_from m.mode o r t)) → w ≡ Admissible → x ≡ wished o (begin_step o (run_from m.mode o r t))
    → ((v : Voted) → Shows o m ds v → Shows o new left (exchanges o v x)) → IsMade m new → StandsFrom o r (t + 1) new left
stands-made o r t m new ds left w x h is good wish-is shown made =
    let p = begin_step o (run_from m.mode o r t) in
    let next : run_from m.mode o r (suc t) ≡ exchanges o p x =
    run-next m.mode o r t h.going ∙ ap (λ y. judged_by y o p) (sym is ∙ good) ∙ ap (λ y. exchanges o p y) (sym wish-is) in
    rw add-one (stands-by o r t m.steps new left new.end refl h.steps made.begun made.ends
    (subst (λ (k : Mode). Shows o new left (run_from k o r (suc t))) (sym made.keeps.mode) (rw next (shown p h.shows))))

-- a device failed, and the step isn't made
pub stands-failed : (o : Trial) (r : Voted) (t : ℕ) (m new : View) (ds left : List device.Device) (w : Verdict) (x : Wanted) (port : ℕ) → IsPrepared o r t m ds
    → w ≡ verdict_of m.mode o (begin_step o (run_from m.mode o r t)) → w ≡ Admissible → x ≡ wished o (begin_step o (run_from m.mode o r t))
    → NamesPort x port → left ≡ ds → new ≡ record m { end = Some (Device m.steps port) } → StandsFrom o r (t + 1) new left
stands-failed o r t m new ds left w x port h is good wish-is named kept same =
    let steps = h.steps in
    let past : t ≡ steps_since r.steps m.steps = omega (arith, steps, after-sum r.steps t, since-difference r.steps m.steps) in
    let s = subst (λ (k : ℕ). Shows o m ds (begin_step o (run_from m.mode o r k))) past h.shows in
    rw (same, add-one, kept) (record {
      shows = record {
        banks = s.banks;
        script = s.script;
        unplugs = s.unplugs;
        copies = s.copies;
        memory = s.memory;
        left = s.left;
        log = s.log;
        repairs = s.repairs;
        counts = s.counts;
        steps = s.steps;
        end = refl;
      };
      begun = h.begun;
      ends = record {
        later = omega (arith, steps, after-sum r.steps t);
        early = omega (arith, steps, after-sum r.steps t, after-sum r.steps (suc t));
        going = subst (λ (k : ℕ). (run_from m.mode o r k).end ≡ None) past h.going;
        steps = sym s.steps;
        admitted = subst (λ (k : ℕ). verdict_of m.mode o (begin_step o (run_from m.mode o r k)) ≡ Admissible) past (sym is ∙ good);
        asked = subst (λ (k : ℕ). NamesPort (wished o (begin_step o (run_from m.mode o r k))) port) past
            (subst (λ (y : Wanted). NamesPort y port) wish-is named);
      };
    })

-- ---- a kept end

-- by the end that was kept
kept-by : (o : Trial) (r : Voted) (t n : ℕ) (m : View) (ds : List device.Device) (e : Outcome) → m.end ≡ Some e
    → Shows o m ds (state_from (Some e) m.mode o r t) → m.on_memory.last ≡ last_begun m.end m.steps → EndsFrom (Some e) o r t m.mode m.steps → StandsFrom o r (t + n) m ds
kept-by o r t n m ds Done is s begun ends = absurd ends
kept-by o r t n m ds (Stopped step stop) is s begun ends =
    record {
      shows = subst (λ (x : Option Outcome). Shows o m ds (state_from x m.mode o r (t + n))) (sym is)
          (subst (λ (v : Voted). Shows o m ds v) (sym (run-stays m.mode o r t n (Stopped step stop) (sym s.end ∙ is))) s);
      begun = begun;
      ends = subst (λ (x : Option Outcome). EndsFrom x o r (t + n) m.mode m.steps) (sym is) (omega (arith, ends, after-sum r.steps t, after-sum r.steps (t + n)));
    }
kept-by o r t n m ds (Inadmissible w) is s begun ends =
    record {
      shows = subst (λ (x : Option Outcome). Shows o m ds (state_from x m.mode o r (t + n))) (sym is)
          (subst (λ (v : Voted). Shows o m ds v) (sym (run-stays m.mode o r t n (Inadmissible w) (sym s.end ∙ is))) s);
      begun = begun;
      ends = subst (λ (x : Option Outcome). EndsFrom x o r (t + n) m.mode m.steps) (sym is) (omega (arith, ends, after-sum r.steps t, after-sum r.steps (t + n)));
    }
kept-by o r t n m ds (Device step port) is s begun ends =
    record {
      shows = subst (λ (x : Option Outcome). Shows o m ds (state_from x m.mode o r (t + n))) (sym is) s;
      begun = begun;
      ends = subst (λ (x : Option Outcome). EndsFrom x o r (t + n) m.mode m.steps) (sym is) (record {
        later = ends.later;
        early = let early = ends.early in omega (arith, early, after-sum r.steps t, after-sum r.steps (t + n));
        going = ends.going;
        steps = ends.steps;
        admitted = ends.admitted;
        asked = ends.asked;
      });
    }

-- it stands for every later step too
pub stands-kept : (o : Trial) (r : Voted) (t n : ℕ) (m : View) (ds : List device.Device) (e : Outcome) → m.end ≡ Some e → StandsFrom o r t m ds → StandsFrom o r (t + n) m ds
stands-kept o r t n m ds e is h =
    kept-by o r t n m ds e is (subst (λ (x : Option Outcome). Shows o m ds (state_from x m.mode o r t)) is h.shows) h.begun
    (subst (λ (x : Option Outcome). EndsFrom x o r t m.mode m.steps) is h.ends)

-- ---- several steps

-- one more step of a loop
pub stands-next : (o : Trial) (r : Voted) (t n : ℕ) (m : View) (ds : List device.Device) → StandsFrom o r (t + n + 1) m ds → StandsFrom o r (t + (n + 1)) m ds
stands-next o r t n m ds h = let same : t + n + 1 ≡ t + (n + 1) = omega arith in subst (λ (k : ℕ). StandsFrom o r k m ds) same h

-- the end came in an earlier step than the last one asked for
pub stands-early : (o : Trial) (r : Voted) (t n all : ℕ) (m : View) (ds : List device.Device) (e : Outcome) → Some e ≡ m.end → n < all
    → StandsFrom o r (t + n + 1) m ds → StandsFrom o r (t + all) m ds
stands-early o r t n all m ds e is less h =
    let same : t + n + 1 + (all - (n + 1)) ≡ t + all = omega arith in
    subst (λ (k : ℕ). StandsFrom o r k m ds) same (stands-kept o r (t + n + 1) (all - (n + 1)) m ds e (sym is) h)

-- all steps were made
pub stands-at : (o : Trial) (r : Voted) (t n all : ℕ) (m : View) (ds : List device.Device) → n ≡ all → StandsFrom o r (t + n) m ds → StandsFrom o r (t + all) m ds
stands-at o r t n all m ds is h = subst (λ (k : ℕ). StandsFrom o r (t + k) m ds) is h
