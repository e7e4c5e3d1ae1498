-- A machine may begin in a state of the run without events.
use Rattle.std.proofs.Common.{◌≡◌, ℕ, zero, suc, ◌≤◌, List, Result, Ok, Err, refl, sym, subst, ap, ◌∙◌}
use Rattle.std.specs.declared.option.Option.{Option}
use Rattle.std.specs.declared.option.Option.TheVariants.{None, Some}
use Rattle.lvdc_map.specs.Address.{Spot}
use Rattle.lvdc_port.specs.Device.{Device}
use Rattle.lvdc_twin.specs.declared.both_bad.BothBad.{BothBad}
use Rattle.lvdc_twin.specs.declared.read_out.ReadOut.{ReadOut}
use Rattle.lvdc_modules.specs.declared.wanted.Wanted.{Wanted}
use Rattle.lvdc_modules.specs.declared.wanted.Wanted.TheVariants.{Nothing, Fetch, Operand, Store, PortRead, PortWrite}
use Rattle.lvdc_fault.specs.declared.verdict.Verdict.{Verdict}
use Rattle.lvdc_fault.specs.declared.verdict.Verdict.TheVariants.{Admissible, Logic, Memory}
use Rattle.lvdc_model.specs.declared.outcome.Outcome.{Outcome}
use Rattle.lvdc_model.specs.Exchanges.{begin_step, reading, exchanges, wished}
use Rattle.lvdc_model.specs.Runs.{alone, alone_by, through, through_by, judged_by, own_verdict}
use Rattle.lvdc_model.specs.Twins.{read_answer}
use Rattle.lvdc_model.specs.Trial.{Trial}
use Rattle.lvdc_model.specs.Voted.{Voted, voted_start}
use Rattle.lvdc_machine.specs.Resumed.{state_from, EndsFrom, StandsFrom}
use Rattle.lvdc_machine.specs.Shows.{Shows}
use Rattle.lvdc_machine.specs.Stands.{Stands}
use Rattle.lvdc_machine.specs.Steps.{run_of}
use Rattle.lvdc_machine.specs.View.{View}
use Rattle.lvdc_machine.specs.declared.mode.Mode.{Mode}
use Rattle.lvdc_machine.specs.declared.mode.Mode.TheVariants.{Guarded, Through}
use Rattle.lvdc_laws_runs.specs.Early.{AllBeginFrom, fault_free}

-- ---- a run that has no end has made each of its steps

read-counts : (o : Trial) (v : Voted) (at : Spot) (answer : Result ReadOut BothBad) → (reading answer o v at).end ≡ None
    → (reading answer o v at).steps ≡ suc v.steps
read-counts o v at (Err bad) none = absurd (cc none)
read-counts o v at (Ok r) none = refl

exchange-counts : (o : Trial) (v : Voted) (wanted : Wanted) → (exchanges o v wanted).end ≡ None → (exchanges o v wanted).steps ≡ suc v.steps
exchange-counts o v Nothing none = refl
exchange-counts o v (Fetch at) none = read-counts o v at (read_answer o v.steps v.twins at) none
exchange-counts o v (Operand at) none = read-counts o v at (read_answer o v.steps v.twins at) none
exchange-counts o v (Store at word) none = refl
exchange-counts o v (PortRead port) none = refl
exchange-counts o v (PortWrite port word) none = refl

judged-counts : (o : Trial) (v : Voted) (verdict : Verdict) → (judged_by verdict o v).end ≡ None → (judged_by verdict o v).steps ≡ suc v.steps
judged-counts o v Admissible none = exchange-counts o v (wished o v) none
judged-counts o v (Logic step m) none = absurd (cc none)
judged-counts o v (Memory step at) none = absurd (cc none)

alone-counts : (o : Trial) (v : Voted) (n : ℕ) (end : Option Outcome) → v.end ≡ end → (v.end ≡ None → v.steps ≡ n)
    → (alone_by end o v).end ≡ None → (alone_by end o v).steps ≡ suc n
alone-counts o v n (Some e) is counts none = absurd (cc (sym is ∙ none))
alone-counts o v n None is counts none = judged-counts o (begin_step o v) (own_verdict o (begin_step o v)) none ∙ ap suc (counts is)

through-counts : (o : Trial) (v : Voted) (n : ℕ) (end : Option Outcome) → v.end ≡ end → (v.end ≡ None → v.steps ≡ n)
    → (through_by end o v).end ≡ None → (through_by end o v).steps ≡ suc n
through-counts o v n (Some e) is counts none = absurd (cc (sym is ∙ none))
through-counts o v n None is counts none =
    exchange-counts o (begin_step o v) (wished o (begin_step o v)) none ∙ ap suc (counts is)

alone-made : (o : Trial) (n : ℕ) → (alone o n).end ≡ None → (alone o n).steps ≡ n
alone-made o zero none = refl
alone-made o (suc n) none = alone-counts o (alone o n) n (alone o n).end refl (alone-made o n) none

through-made : (o : Trial) (n : ℕ) → (through o n).end ≡ None → (through o n).steps ≡ n
through-made o zero none = refl
through-made o (suc n) none = through-counts o (through o n) n (through o n).end refl (through-made o n) none

-- in either mode
steps-made : (mode : Mode) (o : Trial) (n : ℕ) → (run_of mode o n).end ≡ None → (run_of mode o n).steps ≡ n
steps-made Guarded = alone-made
steps-made Through = through-made

-- ---- runs that begin alike

-- up to the first event two runs are one
abbrev IsLate : (Trial → ℕ → Voted) → Type 0
IsLate run = (o : Trial) (first : ℕ) → AllBeginFrom first o.script → (n : ℕ) → n ≤ first → run o n ≡ run (fault_free o) n

module _ (judging : IsLate alone) (unjudged : IsLate through) where
  -- so in either mode
  pub late-run : (mode : Mode) → IsLate (run_of mode)
  late-run Guarded = judging
  late-run Through = unjudged

  -- where no end has come, the state of a machine that begins in a state is that state
  begun-state : (o : Trial) (v : Voted) (m : View) (devices : List Device) (end : Option Outcome) → end ≡ None
      → Shows o m devices (state_from end m.mode o v 0) → Shows o m devices v
  begun-state o v m devices None none h = h
  begun-state o v m devices (Some e) none h = absurd (cc none)

  ended-state : (o : Trial) (n : ℕ) (m : View) (devices : List Device) (end : Option Outcome) → end ≡ None → m.steps ≡ n
      → Shows o m devices (run_of m.mode o n) → Shows o m devices (state_from end m.mode o (voted_start o) n) × EndsFrom end o (voted_start o) n m.mode m.steps
  ended-state o n m devices None none made h = (h, made)
  ended-state o n m devices (Some e) none made h = absurd (cc none)

  -- a machine that stands in a state of the run without events stands in its own
  pub late-stands : (o : Trial) (first : ℕ) → AllBeginFrom first o.script → (n : ℕ) → n ≤ first → (m : View) (devices : List Device)
      → m.end ≡ None → StandsFrom o (run_of m.mode (fault_free o) n) 0 m devices → Stands o n m devices
  late-stands o first later n early m devices none h =
      let state = run_of m.mode (fault_free o) n in
      let there : Shows o m devices state = begun-state o state m devices m.end none h.shows in
      let own : Shows o m devices (run_of m.mode o n) =
      subst (λ (v : Voted). Shows o m devices v) (sym (late-run m.mode o first later n early)) there in
      let made : m.steps ≡ n = there.steps ∙ steps-made m.mode (fault_free o) n (sym there.end ∙ none) in
      let both = ended-state o n m devices m.end none made own in
      record { shows = both.0; begun = h.begun; ends = both.1 }
