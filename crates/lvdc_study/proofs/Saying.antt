-- What was said against a step, and that a machine that said it goes on.
use Rattle.std.proofs.Common.{◌≡◌, ◌≢◌, ℕ, zero, suc, ◌+◌, ◌*◌, ◌≤◌, List, length, refl, sym, ap, ◌∙◌, subst, add-zero, add-suc, arith}
use Rattle.std.specs.declared.option.Option.{Option}
use Rattle.std.specs.declared.option.Option.TheVariants.{None, Some}
use Rattle.lvdc_port.specs.Device.{Device}
use Rattle.lvdc_fault.specs.declared.verdict.Verdict.{Verdict}
use Rattle.lvdc_fault.specs.declared.verdict.Verdict.TheVariants.{Admissible}
use Rattle.lvdc_model.specs.Runs.{alone_by}
use Rattle.lvdc_model.specs.Trial.{Trial}
use Rattle.lvdc_model.specs.Voted.{Voted}
use Rattle.lvdc_model.specs.declared.outcome.Outcome.{Outcome}
use Rattle.lvdc_model.specs.declared.outcome.Outcome.TheVariants.{Done, Stopped, Inadmissible, Device as DeviceFailed}
use Rattle.lvdc_machine.specs.Calls.{IsFresh}
use Rattle.lvdc_machine.specs.Onward.{IsRefusal, HasRefused}
use Rattle.lvdc_machine.specs.Resumed.{steps_since, state_from, EndsFrom, StandsFrom}
use Rattle.lvdc_machine.specs.Shows.{Shows}
use Rattle.lvdc_machine.specs.Steps.{run_from}
use Rattle.lvdc_machine.specs.View.{View}
use Rattle.lvdc_machine.specs.declared.mode.Mode.{Mode}
use Rattle.lvdc_machine.specs.declared.mode.Mode.TheVariants.{Guarded, Through}
use Rattle.lvdc_machine.specs.declared.mode.Pace.TheVariants.{ByStep}
use Rattle.lvdc_machine.proofs.Refused.{refused-stands}
use Rattle.lvdc_machine.proofs.Standing.{after-sum, since-difference}
use Rattle.lvdc_runs.specs.Ran.{verdict_in}
use Rattle.lvdc_study.specs.Rejoins.{HasSaid, Replays, IsReplay}

-- a verdict that isn't Admissible is what was said
pub refusal-is : (end : Option Outcome) (verdict : Verdict) → verdict ≡ verdict_in end → verdict ≢ Admissible → end ≡ Some (Inadmissible verdict)
refusal-is None verdict is bad = absurd (bad is)
refusal-is (Some Done) verdict is bad = absurd (bad is)
refusal-is (Some (Stopped step stop)) verdict is bad = absurd (bad is)
refusal-is (Some (Inadmissible said)) verdict is bad = ap (λ (v : Verdict). Some (Inadmissible v)) (sym is)
refusal-is (Some (DeviceFailed step port)) verdict is bad = absurd (bad is)

-- after an end the run that judges changes nothing
ends-stay : (end : Option Outcome) (o : Trial) (v : Voted) (e : Outcome) → end ≡ Some e → v.end ≡ Some e → (alone_by end o v).end ≡ Some e
ends-stay None o v e is ended = absurd (cc (is))
ends-stay (Some other) o v e is ended = ended

end-stays : (o : Trial) (first : Voted) (n more : ℕ) (e : Outcome) → (run_from Guarded o first n).end ≡ Some e → (run_from Guarded o first (n + more)).end ≡ Some e
end-stays o first n zero e is = ap (λ (k : ℕ). (run_from Guarded o first k).end) (add-zero n) ∙ is
end-stays o first n (suc more) e is =
    let v = run_from Guarded o first (n + more) in
    let before = end-stays o first n more e is in
    ap (λ (k : ℕ). (run_from Guarded o first k).end) (add-suc n more) ∙ ends-stay v.end o v e before before

-- what was said stays said
said-on : (mode : Mode) (o : Trial) (first : Voted) (n more : ℕ) (said : Verdict) → HasSaid mode said (run_from Guarded o first n).end
    → HasSaid mode said (run_from Guarded o first (n + more)).end
said-on Guarded o first n more said h = h
said-on Through o first n more said h = end-stays o first n more (Inadmissible said) h

-- a machine that goes on without an end
pub replays-on : (o : Trial) (first : Voted) (n more : ℕ) (said : Verdict) (m after : View) (ds left : List Device) → Replays o first n said m ds
    → StandsFrom o first (n + more) after left → after.mode ≡ m.mode → after.end ≡ None → Replays o first (n + more) said after left
replays-on o first n more said m after ds left h stands mode none = record {
  begins = h.begins;
  stands = stands;
  going = none;
  said = subst (λ (k : Mode). HasSaid k said (run_from Guarded o first (n + more)).end) (sym mode) (said-on m.mode o first n more said h.said);
}

-- a machine that has not ended has made all steps
made-all : (o : Trial) (first : Voted) (n : ℕ) (mode : Mode) (steps : ℕ) (end : Option Outcome) → end ≡ None → EndsFrom end o first n mode steps → steps ≡ first.steps + n
made-all o first n mode steps None none ends = ends ∙ after-sum first.steps n
made-all o first n mode steps (Some e) none ends = absurd (cc (none))

pub replays-steps : (o : Trial) (first : Voted) (n : ℕ) (said : Verdict) (m : View) (ds : List Device) → Replays o first n said m ds → m.steps ≡ first.steps + n
replays-steps o first n said m ds h = made-all o first n m.mode m.steps m.end h.going h.stands.ends

-- of one that judges and has said something the run that judges has
said-by : (o : Trial) (first : Voted) (n : ℕ) (m : View) (ds : List Device) (mode : Mode) (end : Option Outcome) (said : Verdict) → mode ≡ Guarded → end ≡ Some (Inadmissible said)
    → m.end ≡ end → Shows o m ds (state_from end mode o first n) → (run_from Guarded o first n).end ≡ Some (Inadmissible said)
said-by o first n m ds Guarded (Some (Inadmissible other)) said judges is same h = sym h.end ∙ same ∙ is
said-by o first n m ds Guarded (Some Done) said judges is same h = absurd (cc (is))
said-by o first n m ds Guarded (Some (Stopped step stop)) said judges is same h = absurd (cc (is))
said-by o first n m ds Guarded (Some (DeviceFailed step port)) said judges is same h = absurd (cc (is))
said-by o first n m ds Guarded None said judges is same h = absurd (cc (is))
said-by o first n m ds Through end said judges is same h = absurd (cc (judges))

-- it may go on
refusal-of : (end : Option Outcome) (said : Verdict) → end ≡ Some (Inadmissible said) → IsRefusal end
refusal-of None said is = absurd (cc (is))
refusal-of (Some Done) said is = absurd (cc (is))
refusal-of (Some (Stopped step stop)) said is = absurd (cc (is))
refusal-of (Some (Inadmissible other)) said is = tt
refusal-of (Some (DeviceFailed step port)) said is = absurd (cc (is))

pub may-go-on : (o : Trial) (first : Voted) (n more : ℕ) (said verdict : Verdict) (m after : View) (ds left : List Device) → Replays o first n said m ds
    → StandsFrom o first (n + more) after left → after.mode ≡ Guarded → length after.log ≤ after.steps → after.end ≡ Some (Inadmissible verdict)
    → m.steps + more ≤ 3 * after.limit → HasRefused after
may-go-on o first n more said verdict m after ds left h stands mode few is within =
    let made = replays-steps o first n said m ds h in
    refused-stands o first (n + more) after left stands mode few (refusal-of after.end verdict is) (omega (arith, after-sum first.steps (n + more), made, within))

-- and goes through every fault from there
pub replays-through : (o : Trial) (first : Voted) (n more to : ℕ) (said verdict : Verdict) (m refused after : View) (ds left now : List Device) → Replays o first n said m ds
    → StandsFrom o first (n + more) refused left → refused.mode ≡ Guarded → refused.end ≡ Some (Inadmissible verdict) → to ≡ m.steps + more
    → StandsFrom o first (steps_since first.steps to) after now → after.mode ≡ Through → after.end ≡ None → Replays o first (n + more) verdict after now
replays-through o first n more to said verdict m refused after ds left now h stands judges is step gone mode none =
    let made = replays-steps o first n said m ds h in
    let all : steps_since first.steps to ≡ n + more = omega (arith, since-difference first.steps to, made, step) in
    record {
      begins = h.begins;
      stands = subst (λ (k : ℕ). StandsFrom o first k after now) all gone;
      going = none;
      said =
          subst (λ (k : Mode). HasSaid k verdict (run_from Guarded o first (n + more)).end) (sym mode)
          (said-by o first (n + more) refused left refused.mode refused.end verdict judges is refl stands.shows);
    }

-- so is it of some trial
pub replay-on : (said verdict : Verdict) (m after : View) (ds left : List Device) (more : ℕ)
    → ((o : Trial) (first : Voted) (n : ℕ) → Replays o first n said m ds → Replays o first (n + more) verdict after left) → IsReplay said m ds → IsReplay verdict after left
replay-on said verdict m after ds left more on h = record {
  trial = h.trial;
  first = h.first;
  n = h.n + more;
  replays = on h.trial h.first h.n h.replays;
}

-- a machine that is made stands where it begins
pub fresh-replays : (o : Trial) (first : Voted) (m : View) (ds : List Device) (limit steps : ℕ) → first.end ≡ None → StandsFrom o first 0 m ds
    → IsFresh Guarded ByStep limit steps m → Replays o first 0 Admissible m ds
fresh-replays o first m ds limit steps begins stands fresh = record {
  begins = begins;
  stands = stands;
  going = fresh.end;
  said = subst (λ (k : Mode). HasSaid k Admissible (run_from Guarded o first 0).end) (sym fresh.mode_is) refl;
}
