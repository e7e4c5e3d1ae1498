-- The verdict of a machine that judges, by the end that it keeps.
use Rattle.std.proofs.Common.{◌≡◌, ℕ, ◌*◌, sym}
use Rattle.std.specs.declared.option.Option.{Option}
use Rattle.std.specs.declared.option.Option.TheVariants.{None, Some}
use Rattle.lvdc_model.specs.Judging.{first_bad}
use Rattle.lvdc_model.specs.Trial.{Trial}
use Rattle.lvdc_model.specs.Voted.{Voted}
use Rattle.lvdc_model.specs.declared.outcome.Outcome.{Outcome}
use Rattle.lvdc_model.specs.declared.outcome.Outcome.TheVariants.{Done, Stopped, Inadmissible, Device}
use Rattle.lvdc_laws_runs.specs.Guarded.{GuardedBy}
use Rattle.lvdc_runs.specs.Ran.{NoneFailed, verdict_in}

-- where no device failed it is that of the first step that isn't admissible
pub verdict-first : (o : Trial) (times : ℕ) (v : Voted) (end : Option Outcome) → NoneFailed end → GuardedBy end o (3 * times) v
    → verdict_in end ≡ first_bad o times
verdict-first o times v None unfailed h = sym h.admissible
verdict-first o times v (Some Done) unfailed h = absurd h
verdict-first o times v (Some (Stopped step stop)) unfailed h = sym h.0.admissible
verdict-first o times v (Some (Inadmissible verdict)) unfailed h = h.first
verdict-first o times v (Some (Device step port)) unfailed h = absurd unfailed
