-- What a machine that judges has counted, where all steps are admissible.
use Rattle.std.proofs.Common.{◌≡◌, ℕ, ◌*◌, refl, sym, ap, ◌∙◌}
use Rattle.std.specs.declared.option.Option.{Option}
use Rattle.std.specs.declared.option.Option.TheVariants.{None, Some}
use Rattle.lvdc_fault.specs.declared.verdict.Verdict.TheVariants.{Admissible}
use Rattle.lvdc_plain.specs.Run.{IsOpening}
use Rattle.lvdc_model.specs.Judging.{first_bad, first_bad_below}
use Rattle.lvdc_model.specs.Runs.{through, guarded, alone}
use Rattle.lvdc_model.specs.Trial.{Trial}
use Rattle.lvdc_model.specs.declared.outcome.Outcome.{Outcome}
use Rattle.lvdc_model.specs.declared.outcome.Outcome.TheVariants.{Done, Stopped, Inadmissible, Device}
use Rattle.lvdc_machine.specs.Stands.{state_by}
use Rattle.lvdc_machine.specs.View.{View}
use Rattle.lvdc_machine.specs.declared.mode.Mode.{Mode}
use Rattle.lvdc_machine.specs.declared.mode.Mode.TheVariants.{Guarded}
use Rattle.lvdc_runs.specs.Ran.{HasRun, NoneFailed}

-- where no device failed the state is that of the run
by_end : (end : Option Outcome) → NoneFailed end → (o : Trial) (n : ℕ) → state_by end Guarded o n ≡ alone o n
by_end None u o n = refl
by_end (Some Done) u o n = refl
by_end (Some (Stopped step stop)) u o n = refl
by_end (Some (Inadmissible verdict)) u o n = refl
by_end (Some (Device step port)) u o n = absurd u

pub state-through : ((o : Trial) (n : ℕ) → IsOpening o.opening → first_bad_below o n ≡ Admissible → through o n ≡ guarded o n)
    → ((o : Trial) → IsOpening o.opening → (n : ℕ) → alone o n ≡ guarded o n)
    → (o : Trial) (times : ℕ) (m : View) → HasRun Guarded o times m → first_bad o times ≡ Admissible
    → state_by m.end m.mode o (3 * times) ≡ through o (3 * times)
state-through goes judges o times m h good =
    ap (λ (k : Mode). state_by m.end k o (3 * times)) h.mode_is ∙ by_end m.end h.unfailed o (3 * times)
    ∙ judges o h.opening (3 * times) ∙ sym (goes o (3 * times) h.opening good)
