-- A step that is made is counted, and was begun last.
use Rattle.std.proofs.Common.{◌≡◌, ℕ, suc, zero, ◌+◌, Bool, List, Result, Ok, Err, refl, ap, sym, subst, ◌∙◌, add-one}
use Rattle.std.specs.declared.option.Option.{Option}
use Rattle.std.specs.declared.option.Option.TheVariants.{None, Some}
use Rattle.lvdc_map.specs.Address.{Spot}
use Rattle.lvdc_twin.specs.declared.both_bad.BothBad.{BothBad}
use Rattle.lvdc_twin.specs.declared.read_out.ReadOut.{ReadOut}
use Rattle.lvdc_modules.specs.declared.wanted.Wanted.{Wanted}
use Rattle.lvdc_modules.specs.declared.wanted.Wanted.TheVariants.{Nothing, Fetch, Operand, Store, PortRead, PortWrite}
use Rattle.lvdc_fault.specs.declared.verdict.Verdict.{Verdict}
use Rattle.lvdc_fault.specs.declared.verdict.Verdict.TheVariants.{Admissible, Logic, Memory}
use Rattle.lvdc_port.specs.Device as device
use Rattle.lvdc_model.specs.declared.outcome.Outcome.{Outcome}
use Rattle.lvdc_model.specs.declared.outcome.Outcome.TheVariants.{Done, Stopped, Inadmissible, Device}
use Rattle.lvdc_model.specs.Exchanges.{begin_step, wished, exchanges, reading, stop_of}
use Rattle.lvdc_model.specs.Known.{last_begun}
use Rattle.lvdc_model.specs.Runs.{judged_by, alone_by, through_by}
use Rattle.lvdc_model.specs.Trial.{Trial}
use Rattle.lvdc_model.specs.Twins.{read_answer}
use Rattle.lvdc_model.specs.Voted.{Voted}
use Rattle.lvdc_machine.specs.Made.{read_made, exchange_made, made_if, made_unless, made_next, told_by}
use Rattle.lvdc_machine.specs.Resumed.{state_from, StandsFrom}
use Rattle.lvdc_machine.specs.Shows.{Shows}
use Rattle.lvdc_machine.specs.Steps.{run_from, step_of, verdict_of}
use Rattle.lvdc_machine.specs.View.{View}
use Rattle.lvdc_machine.specs.declared.made.Made.{Made}
use Rattle.lvdc_machine.specs.declared.mode.Mode.{Mode}
use Rattle.lvdc_machine.specs.declared.mode.Mode.TheVariants.{Guarded, Through}
use Rattle.lvdc_trace.specs.Steps.{step_text}
use Rattle.lvdc_trace.specs.Traces.{block}

-- a stop by the votes is one of a step that was made
stop-made : (stop step : ℕ) → last_begun (stop_of stop step) (suc step) ≡ Some step
stop-made zero step = refl
stop-made (suc zero) step = refl
stop-made (suc (suc n)) step = refl

-- a step from a state was made: it is counted, and the votes bring an end or none
record IsMade (v after : Voted) : Type 0 where
  stop : ℕ
  end : after.end ≡ stop_of stop v.steps
  steps : after.steps ≡ suc v.steps

read-made : (wanted : Wanted) (r : Result ReadOut BothBad) (o : Trial) (v : Voted) (at : Spot) (made : Made)
    → read_made r v.steps at wanted ≡ Some made → IsMade v (reading r o v at)
read-made wanted (Ok r) o v at made is = record { stop = _; end = refl; steps = refl }
read-made wanted (Err bad) o v at made is = absurd (cc (is))

exchange-made : (o : Trial) (v : Voted) (w : Wanted) (made : Made) → exchange_made o v w ≡ Some made → IsMade v (exchanges o v w)
exchange-made o v Nothing made is = record { stop = _; end = refl; steps = refl }
exchange-made o v (Fetch at) made is = read-made (Fetch at) (read_answer o v.steps v.twins at) o v at made is
exchange-made o v (Operand at) made is = read-made (Operand at) (read_answer o v.steps v.twins at) o v at made is
exchange-made o v (Store at word) made is = record { stop = _; end = refl; steps = refl }
exchange-made o v (PortRead port) made is = record { stop = _; end = refl; steps = refl }
exchange-made o v (PortWrite port word) made is = record { stop = _; end = refl; steps = refl }

judged-made : (verdict : Verdict) (o : Trial) (v : Voted) (made : Made) → made_if verdict o v ≡ Some made → IsMade v (judged_by verdict o v)
judged-made Admissible o v made is = exchange-made o v (wished o v) made is
judged-made (Logic step number) o v made is = absurd (cc (is))
judged-made (Memory step at) o v made is = absurd (cc (is))

by-end : (end : Option Outcome) (mode : Mode) (o : Trial) (v : Voted) (made : Made) → end ≡ v.end → made_unless end mode o v ≡ Some made → IsMade v (step_of mode o v)
by-end None Guarded o v made end is =
    let it = judged-made (verdict_of Guarded o (begin_step o v)) o (begin_step o v) made is in
    subst (λ (e : Option Outcome). IsMade v (alone_by e o v)) end (record { stop = it.stop; end = it.end; steps = it.steps })
by-end None Through o v made end is =
    let it = exchange-made o (begin_step o v) (wished o (begin_step o v)) made is in
    subst (λ (e : Option Outcome). IsMade v (through_by e o v)) end (record { stop = it.stop; end = it.end; steps = it.steps })
by-end (Some e) mode o v made end is = absurd (cc (is))

step-made : (mode : Mode) (o : Trial) (v : Voted) (made : Made) → made_next mode o v ≡ Some made → IsMade v (step_of mode o v)
step-made mode o v made is = by-end v.end mode o v made refl is

-- so the next step of a state, where it is made, was begun last
pub made-last : (mode : Mode) (o : Trial) (v : Voted) (made : Made) → made_next mode o v ≡ Some made
    → last_begun (step_of mode o v).end (step_of mode o v).steps ≡ Some v.steps
made-last mode o v made is =
    let it = step-made mode o v made is in
    let end = it.end in
    let steps = it.steps in
    (λ i. last_begun (end i) (steps i)) ∙ stop-made it.stop v.steps

-- no stop is a verdict
stop-unjudged : (stop step : ℕ) (verdict : Verdict) → stop_of stop step ≡ Some (Inadmissible verdict) → ⊥
stop-unjudged zero step verdict is = absurd (cc (is))
stop-unjudged (suc zero) step verdict is = absurd (cc (is))
stop-unjudged (suc (suc n)) step verdict is = absurd (cc (is))

-- and no verdict has come with it
pub made-unjudged : (mode : Mode) (o : Trial) (v : Voted) (made : Made) → made_next mode o v ≡ Some made
    → (verdict : Verdict) → (step_of mode o v).end ≡ Some (Inadmissible verdict) → ⊥
made-unjudged mode o v made is verdict end =
    let it = step-made mode o v made is in
    let stop = it.end in
    stop-unjudged it.stop v.steps verdict (sym stop ∙ end)

-- where an end has come nothing is made
pub made-none : (mode : Mode) (o : Trial) (v : Voted) (end : Outcome) → v.end ≡ Some end → made_next mode o v ≡ None
made-none mode o v end is = ap (λ (e : Option Outcome). made_unless e mode o v) is

-- so where something is made no end had come
pub made-going : (mode : Mode) (o : Trial) (v : Voted) (made : Made) → made_next mode o v ≡ Some made → v.end ≡ None
made-going mode o v made is = by v.end refl
  where
    by : (end : Option Outcome) → v.end ≡ end → v.end ≡ None
    by None e = e
    by (Some end) e = let none = made-none mode o v end e in absurd (cc (none, is))

-- ---- a step that was told

-- by the end that is then kept: it is no failed device, and what was made is what the step makes
record IsTold (end : Option Outcome) (x : Option Made) (made : Made) : Type 0 where
  kept : x ≡ Some made
  state : (mode : Mode) (o : Trial) (v : Voted) (n : ℕ) → state_from end mode o v n ≡ run_from mode o v n

told-by : (end : Option Outcome) (x : Option Made) (made : Made) → told_by end x ≡ Some made → IsTold end x made
told-by None x made is = record { kept = is; state = λ mode o v n. refl }
told-by (Some Done) x made is = record { kept = is; state = λ mode o v n. refl }
told-by (Some (Stopped step stop)) x made is = record { kept = is; state = λ mode o v n. refl }
told-by (Some (Inadmissible verdict)) x made is = record { kept = is; state = λ mode o v n. refl }
told-by (Some (Device step port)) x made is = absurd (cc (is))

-- where no end has come, the state of a machine is that of its run
going-state : (end : Option Outcome) (mode : Mode) (o : Trial) (v : Voted) (n : ℕ) → end ≡ None → state_from end mode o v n ≡ run_from mode o v n
going-state None mode o v n is = refl
going-state (Some e) mode o v n is = absurd (cc (is))

module _ (first : Bool) (o : Trial) (v : Voted) (n : ℕ) (m after : View) (ds later : List device.Device) (made : Made)
    (s : StandsFrom o v n m ds) (t : StandsFrom o v (n + 1) after later) (mode : after.mode ≡ m.mode)
    (is : told_by after.end (made_next m.mode o (state_from m.end m.mode o v n)) ≡ Some made) where
  abbrev before : Voted
  before = state_from m.end m.mode o v n

  abbrev then : Voted
  then = state_from after.end m.mode o v (n + 1)

  told : IsTold after.end (made_next m.mode o before) made
  told = told-by after.end (made_next m.mode o before) made is

  -- no end had come, and the state after the step is one step further
  next : then ≡ step_of m.mode o before
  next =
      let going = made-going m.mode o before made told.kept in
      let none : m.end ≡ None = s.shows.end ∙ going in
      let at : run_from m.mode o v n ≡ before = sym (going-state m.end m.mode o v n none) in
      let more : run_from m.mode o v (n + 1) ≡ step_of m.mode o (run_from m.mode o v n) = rw add-one refl in
      told.state m.mode o v (n + 1) ∙ more ∙ ap (λ (w : Voted). step_of m.mode o w) at

  -- what stands after the step
  shown : Shows o after later then
  shown = subst (λ (k : Mode). Shows o after later (state_from after.end k o v (n + 1))) mode t.shows

  -- the step was begun last
  pub told-last : after.on_memory.last ≡ Some m.steps
  told-last =
      let end = shown.end in
      let steps = shown.steps in
      let at = s.shows.steps in
      let last = made-last m.mode o before made told.kept in
      t.begun ∙ (λ i. last_begun (end i) (steps i)) ∙ ap (λ (w : Voted). last_begun w.end w.steps) next ∙ last ∙ ap (λ (k : ℕ). Some k) (sym at)

  -- its lines are those of the definition
  pub told-block : step_text first after.script m.steps made m.copies after.copies ≡ block first (told_by after.end (made_next m.mode o before)) o before then
  told-block =
      let script = shown.script in
      let steps = s.shows.steps in
      let copies = s.shows.copies in
      let later_copies = shown.copies in
      (λ i. step_text first (script i) (steps i) made (copies i) (later_copies i)) ∙ ap (λ (x : Option Made). block first x o before then) (sym is)
