-- Where a machine stands that went through every fault.
use Rattle.std.proofs.Common.{◌≡◌, ℕ, ◌*◌, ap, ◌∙◌, refl}
use Rattle.std.specs.declared.option.Option.{Option}
use Rattle.std.specs.declared.option.Option.TheVariants.{None, Some}
use Rattle.lvdc_model.specs.Runs.{through}
use Rattle.lvdc_model.specs.Trial.{Trial}
use Rattle.lvdc_model.specs.declared.outcome.Outcome.{Outcome}
use Rattle.lvdc_model.specs.declared.outcome.Outcome.TheVariants.{Done, Stopped, Inadmissible, Device}
use Rattle.lvdc_machine.specs.Stands.{state_by}
use Rattle.lvdc_machine.specs.View as view
use Rattle.lvdc_machine.specs.declared.mode.Mode.{Mode}
use Rattle.lvdc_machine.specs.declared.mode.Mode.TheVariants.{Through}
use Rattle.lvdc_runs.specs.Ran.{HasRun, NoneFailed}

-- where no device failed the state is that of the run
by_end : (end : Option Outcome) → NoneFailed end → (o : Trial) (n : ℕ) → state_by end Through o n ≡ through o n
by_end None u o n = refl
by_end (Some Done) u o n = refl
by_end (Some (Stopped step stop)) u o n = refl
by_end (Some (Inadmissible verdict)) u o n = refl
by_end (Some (Device step port)) u o n = absurd u

pub state-through : (o : Trial) (times : ℕ) (m : view.View) → HasRun Through o times m → state_by m.end m.mode o (3 * times) ≡ through o (3 * times)
state-through o times m h = ap (λ (k : Mode). state_by m.end k o (3 * times)) h.mode_is ∙ by_end m.end h.unfailed o (3 * times)
