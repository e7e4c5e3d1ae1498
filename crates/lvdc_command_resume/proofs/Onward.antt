-- A run that goes on from a state of a trial's run is that run, later.
use Rattle.std.proofs.Common.{◌≡◌, ◌≢◌, ℕ, zero, suc, ◌+◌, ◌*◌, ◌≤◌, List, map, Result, Ok, Err, None, Some, refl, sym, ap, subst, ◌∙◌, arith, add-zero}
use Rattle.std.specs.declared.option.Option.{Option}
use Rattle.std.proofs.Math.Nat.{add-suc}
use Rattle.lvdc_port.specs.Device as device
use Rattle.lvdc_model.specs.Runs.{alone, guarded}
use Rattle.lvdc_model.specs.Trial.{Trial}
use Rattle.lvdc_model.specs.Voted.{Voted, voted_start}
use Rattle.lvdc_model.specs.declared.outcome.Outcome.{Outcome}
use Rattle.lvdc_model.specs.declared.outcome.Outcome.TheVariants.{Done, Stopped, Inadmissible, Device}
use Rattle.lvdc_machine.specs.Resumed.{state_from}
use Rattle.lvdc_machine.specs.Shows.{Shows}
use Rattle.lvdc_machine.specs.Steps.{step_of, run_from}
use Rattle.lvdc_machine.specs.View.{View, answer_of_end}
use Rattle.lvdc_machine.specs.declared.mode.Mode.{Mode}
use Rattle.lvdc_machine.specs.declared.mode.Mode.TheVariants.{Guarded}
use Rattle.lvdc_report.specs.Voted.{voted_text}
use Rattle.lvdc_report.specs.declared.title.Title.TheVariants.{Run}
use Rattle.lvdc_reply.specs.Answer.{Answer, answer_with}
use Rattle.lvdc_command_run.specs.Accounts.{end_status}
use Rattle.lvdc_command_run.specs.Answers.{guarded_answer}
use Rattle.lvdc_save.specs.declared.fault.SaveFault.{SaveFault}
use Rattle.lvdc_save.specs.declared.saved.Saved.{Saved}
use Rattle.lvdc_command_resume.specs.Finished.{MeansOf, HasRun}
use Rattle.lvdc_command_resume.specs.GoesOn.{GoesOn}
use Rattle.lvdc_command_resume.specs.Reordered.{AreReordered, IsAnswerReordered, GoesOnReordered}
use Rattle.lvdc_command_resume.specs.Runs.{steps_left}
use Rattle.lvdc_command_resume.proofs.Reordering.{with_devices, IsReordered, run-reordered}

later-run : (o : Trial) (first : Voted) (t n : ℕ) → run_from Guarded o (run_from Guarded o first t) n ≡ run_from Guarded o first (t + n)
later-run o first t zero = ap (run_from Guarded o first) (sym (add-zero t))
later-run o first t (suc n) = ap (step_of Guarded o) (later-run o first t n) ∙ ap (run_from Guarded o first) (sym (add-suc t n))

-- the steps before and those that are left are all of the count
whole-run : (o : Trial) (s : Saved) → ((k : ℕ) → alone o k ≡ guarded o k) → s.snapshot.steps ≤ 3 * s.count
    → run_from Guarded o (guarded o s.snapshot.steps) (steps_left s) ≡ guarded o (3 * s.count)
whole-run o s same within =
    let all : s.snapshot.steps + steps_left s ≡ 3 * s.count = omega (arith, within) in
    ap (λ (v : Voted). run_from Guarded o v (steps_left s)) (sym (same s.snapshot.steps))
    ∙ later-run o (voted_start o) s.snapshot.steps (steps_left s) ∙ ap (alone o) all ∙ same (3 * s.count)

module _ {B : Type 0} (device_of : B → device.Device) (faults : B → ℕ) (s : Saved) (old new : List B) (m : View)
    (h : HasRun device_of faults s old new m) (o : Trial) (same : (k : ℕ) → alone o k ≡ guarded o k) (within : s.snapshot.steps ≤ 3 * s.count)
    (means : MeansOf s (map device_of old) o (guarded o s.snapshot.steps)) where
  abbrev first : Voted
  first = guarded o s.snapshot.steps

  whole : run_from Guarded o first (steps_left s) ≡ guarded o (3 * s.count)
  whole = whole-run o s same within

  shows_as : (kept : Option Outcome) → m.end ≡ kept → Shows o m (map device_of new) (state_from kept Guarded o first (steps_left s))
  shows_as kept is =
      subst (λ (k : Option Outcome). Shows o m (map device_of new) (state_from k Guarded o first (steps_left s))) is
      (subst (λ (k : Mode). Shows o m (map device_of new) (state_from m.end k o first (steps_left s))) h.mode (h.stands o first means).shows)

  module _ (status : ℕ) (text : List ℕ) (unfailed : status ≢ 10) where
    -- where no device has failed
    made : (kept : Option Outcome) → m.end ≡ kept → status ≡ end_status (answer_of_end kept) → text ≡ voted_text Run o (run_from Guarded o first (steps_left s))
        → Shows o m (map device_of new) (run_from Guarded o first (steps_left s))
        → answer_with status text (map device_of new) ≡ guarded_answer o (guarded o (3 * s.count))
    made kept is st t shows =
        let end : kept ≡ (guarded o (3 * s.count)).end = sym is ∙ shows.end ∙ ap (λ (v : Voted). v.end) whole in
        let same_status = st ∙ ap (λ (k : Option Outcome). end_status (answer_of_end k)) end in
        let same_text = t ∙ ap (voted_text Run o) whole in
        let left = shows.left ∙ ap (λ (v : Voted). v.devices) whole in
        λ i. answer_with (same_status i) (same_text i) (left i)

    by_kept : (kept : Option Outcome) → m.end ≡ kept → status ≡ end_status (answer_of_end kept)
        → text ≡ voted_text Run o (state_from kept Guarded o first (steps_left s))
        → answer_with status text (map device_of new) ≡ guarded_answer o (guarded o (3 * s.count))
    by_kept None is st t = made None is st t (shows_as None is)
    by_kept (Some Done) is st t = made (Some Done) is st t (shows_as (Some Done) is)
    by_kept (Some (Stopped step stop)) is st t = made (Some (Stopped step stop)) is st t (shows_as (Some (Stopped step stop)) is)
    by_kept (Some (Inadmissible verdict)) is st t = made (Some (Inadmissible verdict)) is st t (shows_as (Some (Inadmissible verdict)) is)
    by_kept (Some (Device step port)) is st t = absurd (unfailed st)

    pub onward : status ≡ end_status (answer_of_end m.end) → text ≡ voted_text Run o (state_from m.end Guarded o first (steps_left s))
        → answer_with status text (map device_of new) ≡ guarded_answer o (guarded o (3 * s.count))
    onward st t = by_kept m.end refl st t

-- ---- over devices in another order

module _ {B : Type 0} (device_of : B → device.Device) (faults : B → ℕ) (s : Saved) (old new : List B) (m : View)
    (h : HasRun device_of faults s old new m) (o : Trial) (same : (k : ℕ) → alone o k ≡ guarded o k) (within : s.snapshot.steps ≤ 3 * s.count)
    (devices : List device.Device) (means : MeansOf s (map device_of old) o (with_devices (guarded o s.snapshot.steps) devices))
    (re : AreReordered (guarded o s.snapshot.steps).devices devices) where
  abbrev other : Voted
  other = with_devices (guarded o s.snapshot.steps) devices

  reached : IsReordered (run_from Guarded o (guarded o s.snapshot.steps) (steps_left s)) (run_from Guarded o other (steps_left s))
  reached = run-reordered o (guarded o s.snapshot.steps) devices re (steps_left s)

  last : run_from Guarded o other (steps_left s) ≡ with_devices (guarded o (3 * s.count)) reached.devices
  last = reached.is ∙ ap (λ (v : Voted). with_devices v reached.devices) (whole-run o s same within)

  other_shows : (kept : Option Outcome) → m.end ≡ kept → Shows o m (map device_of new) (state_from kept Guarded o other (steps_left s))
  other_shows kept is =
      subst (λ (k : Option Outcome). Shows o m (map device_of new) (state_from k Guarded o other (steps_left s))) is
      (subst (λ (k : Mode). Shows o m (map device_of new) (state_from m.end k o other (steps_left s))) h.mode (h.stands o other means).shows)

  module _ (status : ℕ) (text : List ℕ) (unfailed : status ≢ 10) where
    other_made : (kept : Option Outcome) → m.end ≡ kept → status ≡ end_status (answer_of_end kept) → text ≡ voted_text Run o (run_from Guarded o other (steps_left s))
        → Shows o m (map device_of new) (run_from Guarded o other (steps_left s))
        → IsAnswerReordered (guarded_answer o (guarded o (3 * s.count))) (answer_with status text (map device_of new))
    other_made kept is st t shows = record {
      status = st ∙ ap (λ (k : Option Outcome). end_status (answer_of_end k)) (sym is ∙ shows.end ∙ ap (λ (v : Voted). v.end) last);
      text = t ∙ ap (voted_text Run o) last;
      devices = subst (AreReordered (guarded o (3 * s.count)).devices) (sym (shows.left ∙ ap (λ (v : Voted). v.devices) last))
          (subst (λ (v : Voted). AreReordered v.devices reached.devices) (whole-run o s same within) reached.reordered);
    }

    by_end : (kept : Option Outcome) → m.end ≡ kept → status ≡ end_status (answer_of_end kept)
        → text ≡ voted_text Run o (state_from kept Guarded o other (steps_left s))
        → IsAnswerReordered (guarded_answer o (guarded o (3 * s.count))) (answer_with status text (map device_of new))
    by_end None is st t = other_made None is st t (other_shows None is)
    by_end (Some Done) is st t = other_made (Some Done) is st t (other_shows (Some Done) is)
    by_end (Some (Stopped step stop)) is st t = other_made (Some (Stopped step stop)) is st t (other_shows (Some (Stopped step stop)) is)
    by_end (Some (Inadmissible verdict)) is st t = other_made (Some (Inadmissible verdict)) is st t (other_shows (Some (Inadmissible verdict)) is)
    by_end (Some (Device step port)) is st t = absurd (unfailed st)

    pub onward-reordered : status ≡ end_status (answer_of_end m.end) → text ≡ voted_text Run o (state_from m.end Guarded o other (steps_left s))
        → (due : Answer) → guarded_answer o (guarded o (3 * s.count)) ≡ due → IsAnswerReordered due (answer_with status text (map device_of new))
    onward-reordered st t due is =
        subst (λ (a : Answer). IsAnswerReordered a (answer_with status text (map device_of new))) is (by_end m.end refl st t)

-- the same for each saved state that a text means: there is one
pub goes-on-by : (devices : List device.Device) (read : Result Saved SaveFault) (s : Saved) (reply : Answer) → read ≡ Ok s → GoesOn s devices reply
    → (other : Saved) → read ≡ Ok other → GoesOn other devices reply
goes-on-by devices read s reply is h other e =
    let same : s ≡ other = cc (is, e) in
    subst (λ (x : Saved). GoesOn x devices reply) same h

-- a refused text means none
pub goes-on-refused : (devices : List device.Device) (read : Result Saved SaveFault) (fault : SaveFault) (reply : Answer) → read ≡ Err fault
    → (other : Saved) → read ≡ Ok other → GoesOn other devices reply
goes-on-refused devices read fault reply is other e = absurd (cc (is, e))

-- the same of devices in another order
pub reordered-by : (devices : List device.Device) (read : Result Saved SaveFault) (s : Saved) (reply : Answer) → read ≡ Ok s → GoesOnReordered s devices reply
    → (other : Saved) → read ≡ Ok other → GoesOnReordered other devices reply
reordered-by devices read s reply is h other e =
    let same : s ≡ other = cc (is, e) in
    subst (λ (x : Saved). GoesOnReordered x devices reply) same h

pub reordered-refused : (devices : List device.Device) (read : Result Saved SaveFault) (fault : SaveFault) (reply : Answer) → read ≡ Err fault
    → (other : Saved) → read ≡ Ok other → GoesOnReordered other devices reply
reordered-refused devices read fault reply is other e = absurd (cc (is, e))
