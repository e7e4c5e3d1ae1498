-- How a run of either mode ends that begins in a state without an end: by a stop, or by a verdict where it judges, if at all.
use Rattle.std.proofs.Common.{◌≡◌, ℕ, zero, suc, Result, Ok, Err, None, Some, refl, inl, inr}
use Rattle.std.specs.declared.option.Option.{Option}
use Rattle.lvdc_map.specs.Address.{Spot}
use Rattle.lvdc_twin.specs.declared.both_bad.BothBad.{BothBad}
use Rattle.lvdc_twin.specs.declared.read_out.ReadOut.{ReadOut}
use Rattle.lvdc_modules.specs.declared.wanted.Wanted.{Wanted}
use Rattle.lvdc_modules.specs.declared.wanted.Wanted.TheVariants.{Nothing, Fetch, Operand, Store, PortRead, PortWrite}
use Rattle.lvdc_fault.specs.declared.verdict.Verdict.{Verdict}
use Rattle.lvdc_fault.specs.declared.verdict.Verdict.TheVariants.{Admissible, Logic, Memory}
use Rattle.lvdc_model.specs.Exchanges.{begin_step, stop_of, exchanges, reading, wished}
use Rattle.lvdc_model.specs.Runs.{alone_by, through_by, judged_by, own_verdict}
use Rattle.lvdc_model.specs.Trial.{Trial}
use Rattle.lvdc_model.specs.Twins.{read_answer}
use Rattle.lvdc_model.specs.Voted.{Voted}
use Rattle.lvdc_model.specs.declared.outcome.Outcome.{Outcome}
use Rattle.lvdc_model.specs.declared.outcome.Outcome.TheVariants.{Done, Stopped, Inadmissible, Device}
use Rattle.lvdc_machine.specs.Steps.{step_of, run_from}
use Rattle.lvdc_machine.specs.View.{answer_of_end}
use Rattle.lvdc_machine.specs.declared.mode.Mode.{Mode}
use Rattle.lvdc_machine.specs.declared.mode.Mode.TheVariants.{Guarded, Through}
use Rattle.lvdc_reply.proofs.Statuses.{IsMadeStatus}
use Rattle.lvdc_command_run.specs.Accounts.{end_status}

-- a stop, a verdict where the mode judges, or none
abbrev pub IsEndOf : Mode → Option Outcome → Type 0
IsEndOf mode None = Unit {0}
IsEndOf mode (Some Done) = ⊥
IsEndOf mode (Some (Stopped step stop)) = Unit {0}
IsEndOf Guarded (Some (Inadmissible verdict)) = Unit {0}
IsEndOf Through (Some (Inadmissible verdict)) = ⊥
IsEndOf mode (Some (Device step port)) = ⊥

module _ (mode : Mode) where
  stop-end : (n step : ℕ) → IsEndOf mode (stop_of n step)
  stop-end zero step = tt
  stop-end (suc zero) step = tt
  stop-end (suc (suc n)) step = tt

  reading-end : (answer : Result ReadOut BothBad) (o : Trial) (v : Voted) (at : Spot) → IsEndOf mode (reading answer o v at).end
  reading-end (Ok r) o v at = stop-end _ v.steps
  reading-end (Err e) o v at = tt

  exchange-end : (w : Wanted) (o : Trial) (v : Voted) → IsEndOf mode (exchanges o v w).end
  exchange-end Nothing o v = stop-end _ v.steps
  exchange-end (Fetch at) o v = reading-end (read_answer o v.steps v.twins at) o v at
  exchange-end (Operand at) o v = reading-end (read_answer o v.steps v.twins at) o v at
  exchange-end (Store at word) o v = stop-end _ v.steps
  exchange-end (PortRead port) o v = stop-end _ v.steps
  exchange-end (PortWrite port word) o v = stop-end _ v.steps

-- a step of the run that judges
judged-end : (w : Verdict) (o : Trial) (v : Voted) → IsEndOf Guarded (judged_by w o v).end
judged-end Admissible o v = exchange-end Guarded (wished o v) o v
judged-end (Logic step m) o v = tt
judged-end (Memory step at) o v = tt

alone-end : (end : Option Outcome) (o : Trial) (v : Voted) → v.end ≡ end → IsEndOf Guarded v.end → IsEndOf Guarded (alone_by end o v).end
alone-end None o v is h = judged-end (own_verdict o (begin_step o v)) o (begin_step o v)
alone-end (Some e) o v is h = h

-- a step of the run through every fault
through-end : (end : Option Outcome) (o : Trial) (v : Voted) → v.end ≡ end → IsEndOf Through v.end → IsEndOf Through (through_by end o v).end
through-end None o v is h = exchange-end Through (wished o (begin_step o v)) o (begin_step o v)
through-end (Some e) o v is h = h

step-end : (mode : Mode) (o : Trial) (v : Voted) → IsEndOf mode v.end → IsEndOf mode (step_of mode o v).end
step-end Guarded o v h = alone-end v.end o v refl h
step-end Through o v h = through-end v.end o v refl h

from-end : (mode : Mode) (o : Trial) (first : Voted) (n : ℕ) → IsEndOf mode first.end → IsEndOf mode (run_from mode o first n).end
from-end mode o first zero h = h
from-end mode o first (suc n) h = step-end mode o (run_from mode o first n) (from-end mode o first n h)

begun-end : (mode : Mode) (end : Option Outcome) → end ≡ None → IsEndOf mode end
begun-end mode None e = tt
begun-end mode (Some end) e = absurd (cc)

pub run-end : (mode : Mode) (o : Trial) (first : Voted) (n : ℕ) → first.end ≡ None → IsEndOf mode (run_from mode o first n).end
run-end mode o first n none = from-end mode o first n (begun-end mode first.end none)

-- the status of such an end
end-made : (mode : Mode) (end : Option Outcome) → IsEndOf mode end → IsMadeStatus (end_status (answer_of_end end))
end-made mode None h = record { is = inl refl }
end-made mode (Some Done) h = absurd h
end-made mode (Some (Stopped step stop)) h = record { is = inr (inr refl) }
end-made mode (Some (Inadmissible verdict)) h = record { is = inr (inl refl) }
end-made mode (Some (Device step port)) h = absurd h

pub run-status : (mode : Mode) (o : Trial) (first : Voted) (n : ℕ) → first.end ≡ None → IsMadeStatus (end_status (answer_of_end (run_from mode o first n).end))
run-status mode o first n none = end-made mode (run_from mode o first n).end (run-end mode o first n none)
