-- What the run that goes on comes to, from where its machine and devices stand.
use Rattle.std.proofs.Common.{◌≡◌, ℕ, List, map, None, Some, refl, sym, ap, subst, ◌∙◌}
use Rattle.std.specs.declared.option.Option.{Option}
use Rattle.lvdc_port.specs.Device as device
use Rattle.lvdc_port.specs.Supplies.{kind_at}
use Rattle.lvdc_port.specs.declared.device.Kind.TheVariants.{Tape}
use Rattle.lvdc_model.specs.Trial.{Trial}
use Rattle.lvdc_model.specs.Voted.{Voted}
use Rattle.lvdc_model.specs.declared.outcome.Outcome.{Outcome}
use Rattle.lvdc_model.specs.declared.outcome.Outcome.TheVariants.{Done, Stopped, Inadmissible, Device}
use Rattle.lvdc_machine.specs.Causes.{EndHasCause}
use Rattle.lvdc_machine.specs.Resumed.{EndsFrom, StandsFrom, state_from}
use Rattle.lvdc_machine.specs.Shows.{Shows}
use Rattle.lvdc_snapshot.specs.Snapshot.{Means}
use Rattle.lvdc_machine.specs.View.{View, answer_of_end}
use Rattle.lvdc_machine.specs.declared.mode.Mode.{Mode}
use Rattle.lvdc_machine.specs.declared.mode.Mode.TheVariants.{Guarded}
use Rattle.lvdc_report.specs.Voted.{voted_text}
use Rattle.lvdc_report.specs.declared.title.Title.TheVariants.{Run}
use Rattle.lvdc_reply.specs.Answer.{Answer, answer_with}
use Rattle.lvdc_command_run.specs.Accounts.{end_status}
use Rattle.lvdc_save.specs.declared.saved.Saved.{Saved}
use Rattle.lvdc_command_resume.specs.declared.restore.Unrestored.{Unrestored}
use Rattle.lvdc_command_resume.specs.declared.restore.Unrestored.TheVariants.{NoMemory, Failed}
use Rattle.lvdc_command_resume.specs.Answers.{report_answer, run_answer, failed_answer, device_text, unrestored_answer}
use Rattle.lvdc_command_resume.specs.Finished.{HasRun}
use Rattle.lvdc_command_resume.specs.Replies.{IsResumed, made, failed, unrestored, IsUnreported, restoring, reporting}
use Rattle.lvdc_command_resume.specs.Restore.{left_of, HaveFailedAt, HaveRefused}
use Rattle.lvdc_command_resume.specs.Runs.{trial_of, first_state, steps_left, Exchanges}

-- ---- the answer by the end that was kept

abbrev AnswersBy : Option Outcome → Saved → List device.Device → Answer → Type 0
AnswersBy (Some (Device step port)) s devices a = Exchanges s devices step port × (a ≡ failed_answer s devices step port)
AnswersBy kept s devices a = a ≡ run_answer s devices

answers : (s : Saved) (devices : List device.Device) (steps : ℕ) (kept : Option Outcome)
    → EndsFrom kept (trial_of s devices) (first_state s devices) (steps_left s) Guarded steps
    → AnswersBy kept s devices (report_answer s devices (state_from kept Guarded (trial_of s devices) (first_state s devices) (steps_left s)))
answers s devices steps None ends = refl
answers s devices steps (Some Done) ends = refl
answers s devices steps (Some (Stopped step stop)) ends = refl
answers s devices steps (Some (Inadmissible verdict)) ends = refl
answers s devices steps (Some (Device step port)) ends = (ends, refl)

module _ {B : Type 0} (device_of : B → device.Device) (faults : B → ℕ) (s : Saved) (old new : List B) where
  by_kept : (kept : Option Outcome) (a : Answer) → AnswersBy kept s (map device_of old) a → EndHasCause device_of faults (answer_of_end kept) old new
      → IsResumed device_of faults s old new a
  by_kept None a is quiet = subst (λ (x : Answer). IsResumed device_of faults s old new x) (sym is) (made quiet)
  by_kept (Some Done) a is quiet = subst (λ (x : Answer). IsResumed device_of faults s old new x) (sym is) (made quiet)
  by_kept (Some (Stopped step stop)) a is quiet = subst (λ (x : Answer). IsResumed device_of faults s old new x) (sym is) (made quiet)
  by_kept (Some (Inadmissible verdict)) a is quiet = subst (λ (x : Answer). IsResumed device_of faults s old new x) (sym is) (made quiet)
  by_kept (Some (Device step port)) a (exchanges, is) alone =
      subst (λ (x : Answer). IsResumed device_of faults s old new x) (sym is) (failed step port exchanges alone.rose alone.others)

  -- ---- the run

  module _ (m : View) (h : HasRun device_of faults s old new m)
      (means : Means s.snapshot (first_state s (map device_of old))) where
    abbrev o : Trial
    o = trial_of s (map device_of old)

    abbrev first : Voted
    first = first_state s (map device_of old)

    abbrev came_to : Voted
    came_to = state_from m.end Guarded o first (steps_left s)

    pub run-stands : StandsFrom o first (steps_left s) m (map device_of new)
    run-stands = h.stands o first (record { script = refl; unplugs = refl; banks = refl; state = means; left = refl })

    shows : Shows o m (map device_of new) came_to
    shows = subst (λ (k : Mode). Shows o m (map device_of new) (state_from m.end k o first (steps_left s))) h.mode run-stands.shows

    ends : EndsFrom m.end o first (steps_left s) Guarded m.steps
    ends = subst (λ (k : Mode). EndsFrom m.end o first (steps_left s) k m.steps) h.mode run-stands.ends

    due : IsResumed device_of faults s old new (report_answer s (map device_of old) came_to)
    due = by_kept m.end (report_answer s (map device_of old) came_to) (answers s (map device_of old) m.steps m.end ends) h.cause

    -- its report was told
    pub run-resumed : (status : ℕ) (text : List ℕ) → status ≡ end_status (answer_of_end m.end) → text ≡ voted_text Run o came_to
        → IsResumed device_of faults s old new (answer_with status text (map device_of new))
    run-resumed status text is t =
        let st : end_status (answer_of_end came_to.end) ≡ status = ap (λ (e : Option Outcome). end_status (answer_of_end e)) (sym shows.end) ∙ sym is in
        let same : report_answer s (map device_of old) came_to ≡ answer_with status text (map device_of new) =
        λ i. answer_with (st i) (sym t i) (sym shows.left i) in
        subst (λ (a : Answer). IsResumed device_of faults s old new a) same due

    -- or found no memory
    pub run-unreported : IsUnreported device_of faults s old new
    run-unreported = reporting (report_answer s (map device_of old) came_to) due shows.left

  -- ---- devices without their states

  fails : (port : ℕ) (f : HaveFailedAt device_of faults s.states (left_of s (map device_of old)) port old new) (a : Answer)
      → a ≡ unrestored_answer s (map device_of old) f.index port → a.devices ≡ map device_of new → IsResumed device_of faults s old new a
  fails port f a is left =
      unrestored port a
      (record {
        index = f.index;
        word = f.word;
        is_next = f.next;
        is = is;
        kind = λ tape. f.failed.kind (subst (λ (ds : List device.Device). kind_at (λ d. d) port ds ≡ Some Tape) left tape);
      })
      f.failed.rose f.failed.others

  -- that a device failed was told
  pub failed-resumed : (port status : ℕ) (text : List ℕ) → HaveRefused device_of faults s.states (left_of s (map device_of old)) (Failed port) old new
      → status ≡ 10 → text ≡ device_text port → IsResumed device_of faults s old new (answer_with status text (map device_of new))
  failed-resumed port status text f is t =
      fails port f (answer_with status text (map device_of new)) (λ i. answer_with (is i) (t i) (f.devices i)) refl

  -- or found no memory, as a word did
  pub refused-unreported : (e : Unrestored) → HaveRefused device_of faults s.states (left_of s (map device_of old)) e old new → IsUnreported device_of faults s old new
  refused-unreported NoMemory (taken, quiet) = restoring taken quiet
  refused-unreported (Failed port) f =
      reporting (unrestored_answer s (map device_of old) f.index port)
      (fails port f (unrestored_answer s (map device_of old) f.index port) refl (sym f.devices)) f.devices
