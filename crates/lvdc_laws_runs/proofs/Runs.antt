-- Up to the first event each run is the run of the trial without its script.
use Rattle.std.proofs.Common.{◌≡◌, ℕ, zero, suc, ◌<◌, ◌≤◌, [], refl, ap, ◌∙◌, arith}
use Rattle.std.specs.declared.option.Option.{Option}
use Rattle.std.specs.declared.option.Option.TheVariants.{None, Some}
use Rattle.lvdc_fault.specs.Script.{active_events}
use Rattle.lvdc_model.specs.declared.outcome.Outcome.{Outcome}
use Rattle.lvdc_model.specs.Trial.{Trial}
use Rattle.lvdc_model.specs.Voted.{Voted, voted_start}
use Rattle.lvdc_model.specs.Exchanges.{begin_step, voted_step}
use Rattle.lvdc_model.specs.Judging.{judged}
use Rattle.lvdc_model.specs.Runs.{after_steps, through_by, through_step, through, guarded_by, guarded_step, guarded, own_verdict, judged_by, alone_by, alone_step, alone}
use Rattle.lvdc_laws_runs.specs.Early.{AllBeginFrom, fault_free}
use Rattle.lvdc_laws_runs.proofs.Idle.{none-before}
use Rattle.lvdc_laws_runs.proofs.Steps.{begin-same, step-same, own-verdict-same, judged-by-same, step-steps, judged-steps}
use Rattle.lvdc_laws_runs.proofs.Judged.{judged-same}

-- ---- two kinds of steps that are the same up to a step

module _ (one other : Voted → Voted) (first : Voted) (begins : first.steps ≡ 0) (most : (v : Voted) → (other v).steps ≤ suc v.steps) where
  steps-most : (n : ℕ) → (after_steps other first n).steps ≤ n
  steps-most zero = omega (arith, begins)
  steps-most (suc n) = omega (arith, most (after_steps other first n), steps-most n)

  runs-same : (last : ℕ) → ((v : Voted) → v.steps < last → one v ≡ other v) → (n : ℕ) → n ≤ last → after_steps one first n ≡ after_steps other first n
  runs-same last same zero early = refl
  runs-same last same (suc n) early =
      ap one (runs-same last same n (omega arith)) ∙ same (after_steps other first n) (omega (arith, steps-most n))

-- ---- the steps of the three runs

through-most : (end : Option Outcome) (o : Trial) (v : Voted) → (through_by end o v).steps ≤ suc v.steps
through-most (Some e) o v = omega arith
through-most None o v = step-steps o (begin_step o v)

guarded-most : (end : Option Outcome) (o : Trial) (v : Voted) → (guarded_by end o v).steps ≤ suc v.steps
guarded-most (Some e) o v = omega arith
guarded-most None o v = judged-steps (judged o v.steps) o (begin_step o v)

alone-most : (end : Option Outcome) (o : Trial) (v : Voted) → (alone_by end o v).steps ≤ suc v.steps
alone-most (Some e) o v = omega arith
alone-most None o v = judged-steps (own_verdict o (begin_step o v)) o (begin_step o v)

module _ (o : Trial) (first : ℕ) (later : AllBeginFrom first o.script) where
  module _ (v : Voted) (early : v.steps < first) where
    none-here : active_events o.script v.steps ≡ []
    none-here = none-before first v.steps early o.script later

    begun-same : begin_step o v ≡ begin_step (fault_free o) v
    begun-same = begin-same o v none-here

    goes-same : (end : Option Outcome) → through_by end o v ≡ through_by end (fault_free o) v
    goes-same (Some e) = refl
    goes-same None = step-same o (begin_step o v) none-here ∙ ap (voted_step (fault_free o)) begun-same

    judges-same : (end : Option Outcome) → guarded_by end o v ≡ guarded_by end (fault_free o) v
    judges-same (Some e) = refl
    judges-same None =
        judged-by-same o (begin_step o v) none-here (judged o v.steps)
        ∙ λ i. judged_by (judged-same o first later v.steps early i) (fault_free o) (begun-same i)

    own-same : (end : Option Outcome) → alone_by end o v ≡ alone_by end (fault_free o) v
    own-same (Some e) = refl
    own-same None =
        judged-by-same o (begin_step o v) none-here (own_verdict o (begin_step o v))
        ∙ ap (λ w. judged_by w (fault_free o) (begin_step o v)) (own-verdict-same o (begin_step o v) none-here)
        ∙ ap (λ v. judged_by (own_verdict (fault_free o) v) (fault_free o) v) begun-same

  -- ---- the runs

  pub through-same : (n : ℕ) → n ≤ first → through o n ≡ through (fault_free o) n
  through-same = runs-same (through_step o) (through_step (fault_free o)) (voted_start o) refl (λ v. through-most v.end (fault_free o) v) first (λ v early. goes-same v early v.end)

  pub guarded-same : (n : ℕ) → n ≤ first → guarded o n ≡ guarded (fault_free o) n
  guarded-same = runs-same (guarded_step o) (guarded_step (fault_free o)) (voted_start o) refl (λ v. guarded-most v.end (fault_free o) v) first (λ v early. judges-same v early v.end)

  pub alone-same : (n : ℕ) → n ≤ first → alone o n ≡ alone (fault_free o) n
  alone-same = runs-same (alone_step o) (alone_step (fault_free o)) (voted_start o) refl (λ v. alone-most v.end (fault_free o) v) first (λ v early. own-same v early v.end)
