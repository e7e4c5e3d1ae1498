-- What a run notes stands behind what its first state has.
use Rattle.std.proofs.Common.{◌≡◌, ℕ, zero, suc, List, [], ◌∷◌, ◌++◌, Result, Ok, Err, None, Some, refl, sym, ap, ◌∙◌, append_assoc}
use Rattle.std.proofs.lemmas.List.{append-nil}
use Rattle.std.specs.declared.option.Option.{Option}
use Rattle.lvdc_map.specs.Address.{Spot}
use Rattle.lvdc_twin.specs.declared.both_bad.BothBad.{BothBad}
use Rattle.lvdc_twin.specs.declared.read_out.ReadOut.{ReadOut}
use Rattle.lvdc_modules.specs.declared.wanted.Wanted.{Wanted}
use Rattle.lvdc_modules.specs.declared.wanted.Wanted.TheVariants.{Nothing, Fetch, Operand, Store, PortRead, PortWrite}
use Rattle.lvdc_fault.specs.declared.verdict.Verdict.{Verdict}
use Rattle.lvdc_fault.specs.declared.verdict.Verdict.TheVariants.{Admissible, Logic, Memory}
use Rattle.lvdc_plain.specs.declared.records.Exchange.{Exchange}
use Rattle.lvdc_model.specs.declared.outcome.Outcome.{Outcome}
use Rattle.lvdc_model.specs.declared.outcome.Outcome.TheVariants.{Done, Stopped, Inadmissible, Device}
use Rattle.lvdc_model.specs.declared.repair.Repair.{Repair}
use Rattle.lvdc_model.specs.Exchanges.{begin_step, repair_by, reading, exchanges, wished}
use Rattle.lvdc_model.specs.Runs.{after_steps, alone_step, alone_by, through_step, through_by, judged_by, own_verdict}
use Rattle.lvdc_model.specs.Trial.{Trial}
use Rattle.lvdc_model.specs.Twins.{read_answer}
use Rattle.lvdc_model.specs.Voted.{Voted}
use Rattle.lvdc_machine.specs.Resumed.{steps_since, state_from}
use Rattle.lvdc_machine.specs.Steps.{run_from}
use Rattle.lvdc_machine.specs.declared.mode.Mode.{Mode}
use Rattle.lvdc_machine.specs.declared.mode.Mode.TheVariants.{Guarded, Through}

-- the log and the repairs of a state begin with these
pub record IsBehind (log : List Exchange) (repairs : List Repair) (v : Voted) : Type 0 where
  pub exchanges : List Exchange
  pub log_is : v.log ≡ log ++ exchanges
  pub mended : List Repair
  pub repairs_is : v.repairs ≡ repairs ++ mended

module _ (log : List Exchange) (repairs : List Repair) where
  -- one exchange more
  logged : (v w : Voted) (line : Exchange) → IsBehind log repairs v → w.log ≡ v.log ++ line ∷ [] → w.repairs ≡ v.repairs → IsBehind log repairs w
  logged v w line h l r = record {
    exchanges = h.exchanges ++ line ∷ [];
    log_is = l ∙ ap (λ (x : List Exchange). x ++ line ∷ []) h.log_is ∙ append_assoc log h.exchanges (line ∷ []);
    mended = h.mended;
    repairs_is = r ∙ h.repairs_is;
  }

  reading-behind : (answer : Result ReadOut BothBad) (o : Trial) (v : Voted) (at : Spot) → IsBehind log repairs v → IsBehind log repairs (reading answer o v at)
  reading-behind (Err bad) o v at h = record { exchanges = h.exchanges; log_is = h.log_is; mended = h.mended; repairs_is = h.repairs_is }
  reading-behind (Ok r) o v at h =
      let more = repair_by r.repaired v.steps at r.switched in
      record {
        exchanges = h.exchanges;
        log_is = h.log_is;
        mended = h.mended ++ more;
        repairs_is = ap (λ (x : List Repair). x ++ more) h.repairs_is ∙ append_assoc repairs h.mended more;
      }

  exchanges-behind : (wanted : Wanted) (o : Trial) (v : Voted) → IsBehind log repairs v → IsBehind log repairs (exchanges o v wanted)
  exchanges-behind Nothing o v h = record { exchanges = h.exchanges; log_is = h.log_is; mended = h.mended; repairs_is = h.repairs_is }
  exchanges-behind (Fetch at) o v h = reading-behind (read_answer o v.steps v.twins at) o v at h
  exchanges-behind (Operand at) o v h = reading-behind (read_answer o v.steps v.twins at) o v at h
  exchanges-behind (Store at word) o v h = record { exchanges = h.exchanges; log_is = h.log_is; mended = h.mended; repairs_is = h.repairs_is }
  exchanges-behind (PortRead port) o v h = logged v (exchanges o v (PortRead port)) _ h refl refl
  exchanges-behind (PortWrite port word) o v h = logged v (exchanges o v (PortWrite port word)) _ h refl refl

  judged-behind : (verdict : Verdict) (o : Trial) (v : Voted) → IsBehind log repairs v → IsBehind log repairs (judged_by verdict o v)
  judged-behind Admissible o v h = exchanges-behind (wished o v) o v h
  judged-behind (Logic step m) o v h = record { exchanges = h.exchanges; log_is = h.log_is; mended = h.mended; repairs_is = h.repairs_is }
  judged-behind (Memory step at) o v h = record { exchanges = h.exchanges; log_is = h.log_is; mended = h.mended; repairs_is = h.repairs_is }

  prepared-behind : (o : Trial) (v : Voted) → IsBehind log repairs v → IsBehind log repairs (begin_step o v)
  prepared-behind o v h = record { exchanges = h.exchanges; log_is = h.log_is; mended = h.mended; repairs_is = h.repairs_is }

  step-behind : (end : Option Outcome) (o : Trial) (v : Voted) → IsBehind log repairs v → IsBehind log repairs (alone_by end o v)
  step-behind (Some e) o v h = h
  step-behind None o v h = judged-behind (own_verdict o (begin_step o v)) o (begin_step o v) (prepared-behind o v h)

  alone-behind : (o : Trial) (first : Voted) (n : ℕ) → IsBehind log repairs first → IsBehind log repairs (after_steps (alone_step o) first n)
  alone-behind o first zero h = h
  alone-behind o first (suc n) h =
      let v = after_steps (alone_step o) first n in
      step-behind v.end o v (alone-behind o first n h)

  passed-behind : (end : Option Outcome) (o : Trial) (v : Voted) → IsBehind log repairs v → IsBehind log repairs (through_by end o v)
  passed-behind (Some e) o v h = h
  passed-behind None o v h = exchanges-behind (wished o (begin_step o v)) o (begin_step o v) (prepared-behind o v h)

  through-behind : (o : Trial) (first : Voted) (n : ℕ) → IsBehind log repairs first → IsBehind log repairs (after_steps (through_step o) first n)
  through-behind o first zero h = h
  through-behind o first (suc n) h =
      let v = after_steps (through_step o) first n in
      passed-behind v.end o v (through-behind o first n h)

  run-behind : (mode : Mode) (o : Trial) (first : Voted) (n : ℕ) → IsBehind log repairs first → IsBehind log repairs (run_from mode o first n)
  run-behind Guarded o first n h = alone-behind o first n h
  run-behind Through o first n h = through-behind o first n h

  state-behind : (end : Option Outcome) (mode : Mode) (o : Trial) (first : Voted) (n : ℕ) → IsBehind log repairs first
      → IsBehind log repairs (state_from end mode o first n)
  state-behind None mode o first n h = run-behind mode o first n h
  state-behind (Some Done) mode o first n h = run-behind mode o first n h
  state-behind (Some (Stopped step stop)) mode o first n h = run-behind mode o first n h
  state-behind (Some (Inadmissible verdict)) mode o first n h = run-behind mode o first n h
  state-behind (Some (Device step port)) mode o first n h =
      let r = run-behind mode o first (steps_since first.steps step) h in
      record { exchanges = r.exchanges; log_is = r.log_is; mended = r.mended; repairs_is = r.repairs_is }

-- whatever end a machine has come to
pub state_from_behind : (end : Option Outcome) (mode : Mode) (o : Trial) (first : Voted) (n : ℕ)
    → IsBehind first.log first.repairs (state_from end mode o first n)
state_from_behind end mode o first n =
    state-behind first.log first.repairs end mode o first n
    (record { exchanges = []; log_is = sym (append-nil first.log); mended = []; repairs_is = sym (append-nil first.repairs) })
