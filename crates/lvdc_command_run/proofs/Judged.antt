-- A machine that judges tells the account of the plain run, by the laws of guarded runs.
use Rattle.std.proofs.Common.{◌≡◌, ℕ, ◌*◌, ◌/◌, List, map, None, Some, refl, sym, ap, subst, ◌∙◌}
use Rattle.std.specs.declared.option.Option.{Option}
use Rattle.lvdc_port.specs.Device as device
use Rattle.lvdc_map.specs.Address.{Spot}
use Rattle.lvdc_map.specs.Banks.{HasBank}
use Rattle.lvdc_plain.specs.Run.{Opening, run, IsOpening}
use Rattle.lvdc_fault.specs.declared.verdict.Verdict.TheVariants.{Admissible}
use Rattle.lvdc_laws_phases.specs.Standing.{Standing}
use Rattle.lvdc_model.specs.Exchanges.{begin_step, with_end, wished}
use Rattle.lvdc_model.specs.Judging.{first_bad, first_bad_below, is_recoverable, is_recoverable_after}
use Rattle.lvdc_model.specs.Known.{last_begun, is_known}
use Rattle.lvdc_model.specs.Runs.{guarded, alone}
use Rattle.lvdc_model.specs.Trial.{Trial, plain_at}
use Rattle.lvdc_model.specs.Voted.{Voted}
use Rattle.lvdc_model.specs.declared.outcome.Outcome.{Outcome}
use Rattle.lvdc_model.specs.declared.outcome.Outcome.TheVariants.{Done, Stopped, Inadmissible, Device}
use Rattle.lvdc_laws_voted.specs.Ends.{Comes, ShowsTimes, IsBegun, stop_end}
use Rattle.lvdc_laws_runs.specs.Guarded.{IsExchanged, GuardedBy}
use Rattle.lvdc_machine.specs.Stands.{Stands, EndsAs, HasFailed, state_by}
use Rattle.lvdc_machine.specs.Steps.{NamesPort}
use Rattle.lvdc_machine.specs.View.{View}
use Rattle.lvdc_machine.specs.declared.mode.Mode.{Mode}
use Rattle.lvdc_machine.specs.declared.mode.Mode.TheVariants.{Guarded}
use Rattle.lvdc_command_run.specs.Accounts.{account, begun_account}
use Rattle.lvdc_command_run.specs.Finished.{HasRun, Tells, TellsBy, HasJudged}
use Rattle.lvdc_command_run.specs.Runs.{ExchangesAdmitted}
use Rattle.lvdc_command_run.proofs.Told.{KnownLaw, guarded-told, begun-told, running-there}

-- the laws of guarded runs, where this end was kept
record GuardedLaws (o : Trial) (n : ℕ) (kept : Option Outcome) : Type 0 where
  pub same : (k : ℕ) → alone o k ≡ guarded o k
  pub comes : (k : ℕ) → Comes Standing o k
  pub known : KnownLaw o
  pub times : (k : ℕ) → (plain_at o k).stop ≡ None → (plain_at o k).times ≡ k
  pub tells : Tells o (account o n) (guarded o (3 * n)) (guarded o (3 * n))
  pub exchanged : (step port : ℕ) → (guarded o step).end ≡ None → NamesPort (wished o (begin_step o (guarded o step))) port → IsExchanged o step port
  pub broken : GuardedBy kept o (3 * n) (state_by kept Guarded o (3 * n))

-- ---- where a device failed

module _ (o : Trial) (n : ℕ) (step port : ℕ) (law : GuardedLaws o n (Some (Device step port))) (h : HasFailed o (3 * n) Guarded step port) where
  going : (guarded o step).end ≡ None
  going = ap (λ (v : Voted). v.end) (sym (law.same step)) ∙ h.going

  admitted : ExchangesAdmitted o n step port
  admitted =
      let wish = subst (λ (v : Voted). NamesPort (wished o (begin_step o v)) port) (law.same step) h.asked in
      record {
        plainly = record { early = h.early; exchanged = law.exchanged step port going wish };
        admissible = law.broken.admissible;
      }

  -- the state in which it failed tells the account of its step
  broken-told : Tells o (begun_account o step (Device step port)) (with_end (begin_step o (guarded o step)) (Device step port)) (guarded o step)
  broken-told =
      begun-told o step (Device step port) (begin_step o (guarded o step)) (guarded o step) law.known law.broken.begun
      (law.times (step / 3) (running-there o step (law.comes step) going)) refl refl refl

-- ---- by the end

alone-told : (o : Trial) (n : ℕ) (kept : Option Outcome) → GuardedLaws o n kept → Tells o (account o n) (alone o (3 * n)) (guarded o (3 * n))
alone-told o n kept law = subst (λ (v : Voted). Tells o (account o n) v (guarded o (3 * n))) (sym (law.same (3 * n))) law.tells

tells_by : (o : Trial) (n steps : ℕ) (kept : Option Outcome) → GuardedLaws o n kept → EndsAs kept o (3 * n) Guarded steps
    → TellsBy kept o n (state_by kept Guarded o (3 * n))
tells_by o n steps None law ends = alone-told o n None law
tells_by o n steps (Some Done) law ends = absurd ends
tells_by o n steps (Some (Stopped step stop)) law ends = alone-told o n (Some (Stopped step stop)) law
tells_by o n steps (Some (Inadmissible verdict)) law ends = alone-told o n (Some (Inadmissible verdict)) law
tells_by o n steps (Some (Device step port)) law h = (
  admitted o n step port law h,
  subst (λ (v : Voted). Tells o (begun_account o step (Device step port)) (with_end (begin_step o v) (Device step port)) (guarded o step))
      (sym (law.same step)) (broken-told o n step port law h),
)

-- it is so of a machine that has run: from the laws that hold of each opening of words
pub has_judged : {B : Type 0} (device_of : B → device.Device) (faults : B → ℕ) (o : Trial) (n : ℕ) (old new : List B) (m : View)
    → HasRun device_of faults Guarded o n old new m
    → ((o : Trial) → IsOpening o.opening → (k : ℕ) → alone o k ≡ guarded o k)
    → ((o : Trial) → IsOpening o.opening → (k : ℕ) → Comes Standing o k)
    → ((o : Trial) → IsOpening o.opening → (k : ℕ) → first_bad_below o k ≡ Admissible → (at : Spot) → HasBank o.opening.banks at
    → is_known o (guarded o k) at ≡ is_recoverable_after o (guarded o k).steps at)
    → ((o : Trial) (k : ℕ) (v : Voted) (e : Outcome) (at : Spot) → HasBank o.opening.banks at → IsBegun o k v → last_begun (Some e) k ≡ Some k
    → is_known o (with_end v e) at ≡ is_recoverable o k at)
    → ((o : Opening) (k : ℕ) → (run o k).plain.stop ≡ None → (run o k).plain.times ≡ k)
    → ((o : Trial) → IsOpening o.opening → (k : ℕ) → first_bad o k ≡ Admissible → ShowsTimes o k (guarded o (3 * k)))
    → ((o : Trial) → IsOpening o.opening → (k : ℕ) → first_bad o k ≡ Admissible
    → (guarded o (3 * k)).end ≡ stop_end (plain_at o k).stop (plain_at o k).times)
    → ((o : Trial) → IsOpening o.opening → (k : ℕ) → first_bad o k ≡ Admissible → (guarded o (3 * k)).steps ≡ 3 * (plain_at o k).times)
    → ((o : Trial) → IsOpening o.opening → (step port : ℕ) → (guarded o step).end ≡ None → NamesPort (wished o (begin_step o (guarded o step))) port
    → IsExchanged o step port)
    → ((o : Trial) (k : ℕ) (m : View) (ds : List device.Device) → IsOpening o.opening → m.mode ≡ Guarded → Stands o k m ds
    → GuardedBy m.end o k (state_by m.end m.mode o k))
    → HasJudged device_of faults o n old new m
has_judged device_of faults o n old new m h same comes known_made known_begun times shows ends steps exchanged follows =
    let opens = h.opening in
    let known : KnownLaw o = record { made = known_made o opens; begun = known_begun o } in
    let law : GuardedLaws o n m.end =
    record {
      same = same o opens;
      comes = comes o opens;
      known = known;
      times = times o.opening;
      tells = guarded-told o n known (times o.opening) (comes o opens) (shows o opens n) (ends o opens n) (steps o opens n);
      exchanged = exchanged o opens;
      broken = subst (λ (k : Mode). GuardedBy m.end o (3 * n) (state_by m.end k o (3 * n))) h.mode_is
          (follows o (3 * n) m (map device_of new) opens h.mode_is h.stands);
    } in
    record {
      run = h;
      tells = tells_by o n m.steps m.end law (subst (λ (k : Mode). EndsAs m.end o (3 * n) k m.steps) h.mode_is h.stands.ends);
    }
