-- A trace of the run that goes on from a saved state, and that of the whole run.
use Rattle.std.proofs.Common.{◌≡◌, ◌≢◌, ℕ, zero, suc, ◌+◌, ◌-◌, ◌*◌, ◌≤◌, Bool, true, false, List, ◌++◌, map, Result, Ok, Err, refl, sym, ap, subst, ◌∙◌, arith, add-zero}
use Rattle.std.specs.Prelude.{◌==◌, nat_le}
use Rattle.std.specs.declared.option.Option.TheVariants.{Some}
use Rattle.std.proofs.Math.Nat.{add-suc}
use Rattle.std.proofs.lemmas.Bool.Decides.{nat_tests}
use Rattle.lvdc_port.specs.Device as device
use Rattle.lvdc_port.specs.Supplies.{kind_at}
use Rattle.lvdc_port.specs.declared.device.Kind.TheVariants.{Tape}
use Rattle.lvdc_snapshot.specs.Snapshot.{Means}
use Rattle.lvdc_model.specs.Trial.{Trial}
use Rattle.lvdc_model.specs.Voted.{Voted, voted_start}
use Rattle.lvdc_machine.specs.Calls.{IsFresh}
use Rattle.lvdc_machine.specs.Made.{made_next}
use Rattle.lvdc_machine.specs.Resumed.{StandsFrom}
use Rattle.lvdc_machine.specs.Steps.{step_of, run_from, run_of}
use Rattle.lvdc_machine.specs.View.{View, answer_of_end}
use Rattle.lvdc_machine.specs.declared.mode.Mode.{Mode}
use Rattle.lvdc_machine.specs.declared.mode.Mode.TheVariants.{Guarded}
use Rattle.lvdc_machine.specs.declared.mode.Pace.TheVariants.{ByStep}
use Rattle.lvdc_lines.specs.Noted.{lines_below}
use Rattle.lvdc_reply.specs.Answer.{Answer, answer_with}
use Rattle.lvdc_command_run.specs.Accounts.{end_status}
use Rattle.lvdc_save.specs.declared.fault.SaveFault.{SaveFault}
use Rattle.lvdc_save.specs.declared.saved.Saved.{Saved}
use Rattle.lvdc_command_resume.specs.declared.restore.Unrestored.TheVariants.{NoMemory, Failed}
use Rattle.lvdc_command_resume.specs.Answers.{device_text, unrestored_answer}
use Rattle.lvdc_command_resume.specs.Finished.{MeansOf}
use Rattle.lvdc_command_resume.specs.Replies.{FailsRestored}
use Rattle.lvdc_command_resume.specs.Restore.{left_of, HaveFailedAt, HaveRefused}
use Rattle.lvdc_command_resume.specs.Runs as resumed
use Rattle.lvdc_command_resume.specs.Runs.{first_state, steps_left}
use Rattle.lvdc_trace.specs.declared.window.Window.{Window}
use Rattle.lvdc_trace.specs.Going.{IsAt}
use Rattle.lvdc_trace.specs.Traces.{block, step_block, blocks, window_after, steps_asked, steps_told, title_line, last_line, text_from}
use Rattle.lvdc_trace.specs.Answers.{answer_from, whole_trace}
use Rattle.lvdc_trace.specs.Replies.{IsTraced, made, failed, IsSavedTraced, unrestored, TracesOn, IsAmid, IsUnsaved, restoring, refusing, amid}

-- ---- where the run goes on

-- a machine that was made of a saved state stands at each state that it means
pub at-state : (mode : Mode) (s : Saved) (ds ready : List device.Device) (m : View) → mode ≡ Guarded
    → ((o : Trial) (v : Voted) → MeansOf s ds o v → StandsFrom o v 0 m ready) → IsFresh Guarded ByStep s.count s.snapshot.steps m
    → (o : Trial) (v : Voted) → MeansOf s ds o v → IsAt o v mode (steps_left s) m ready
at-state mode s ds ready m guarded stands fresh o v means = record {
  stands = stands o v means;
  mode_is = fresh.mode_is ∙ sym guarded;
  left_is = let limit = fresh.limit_is in let steps = fresh.steps_are in (λ i. 3 * limit i - steps i);
  going = fresh.end;
}

-- so at the first state of its own
pub own-state : (s : Saved) (ds : List device.Device) → Means s.snapshot (first_state s ds) → MeansOf s ds (resumed.trial_of s ds) (first_state s ds)
own-state s ds means = record { script = refl; unplugs = refl; banks = refl; state = means; left = refl }

-- ---- the same run, later

module _ (mode : Mode) (o : Trial) where
  later-run : (begin : Voted) (t n : ℕ) → run_from mode o (run_from mode o begin t) n ≡ run_from mode o begin (t + n)
  later-run begin t zero = ap (run_from mode o begin) (sym (add-zero t))
  later-run begin t (suc n) = ap (step_of mode o) (later-run begin t n) ∙ ap (run_from mode o begin) (sym (add-suc t n))

  -- the lines of a step
  later-step : (first : Bool) (begin : Voted) (t n k : ℕ) → t + n ≡ k → step_block first mode o (run_from mode o begin t) n ≡ step_block first mode o begin k
  later-step first begin t n k at =
      let now : run_from mode o (run_from mode o begin t) n ≡ run_from mode o begin k = later-run begin t n ∙ ap (run_from mode o begin) at in
      λ i. block first (made_next mode o (now i)) o (now i) (step_of mode o (now i))

  -- of so many steps
  later-blocks : (begin : Voted) (t from place count : ℕ) → t + from ≡ place
      → blocks mode o (run_from mode o begin t) from count ≡ blocks mode o begin place count
  later-blocks begin t from place count at =
      let each : (index : ℕ) → step_block (index == 0) mode o (run_from mode o begin t) (from + index) ≡ step_block (index == 0) mode o begin (place + index) =
      λ index. later-step (index == 0) begin t (from + index) (place + index) (omega (arith, at)) in
      λ i. lines_below (λ index. each index i) count

  all-left : (steps left first count : ℕ) → steps ≤ left → steps ≤ first → nat_le (left - steps) (first - steps + count) ≡ nat_le left (first + count)
  all-left steps left first count within later = by (nat_le left (first + count)) refl
    where
      by : (all : Bool) → nat_le left (first + count) ≡ all → nat_le (left - steps) (first - steps + count) ≡ all
      by true is = grind (arith, nat_tests)
      by false is = grind (arith, nat_tests)

  module _ (begin : Voted) (steps left : ℕ) (w : Window) (within : steps ≤ left) (later : steps ≤ w.first) where
    abbrev then : Voted
    then = run_from mode o begin steps

    asked-later : steps + steps_asked (window_after steps w) (left - steps) ≡ steps_asked w left
    asked-later = omega (arith, within, later)

    told-later : steps_told (window_after steps w) (left - steps) ≡ steps_told w left
    told-later = omega (arith, within, later)

    cut-later : run_from mode o then (steps_asked (window_after steps w) (left - steps)) ≡ run_from mode o begin (steps_asked w left)
    cut-later = later-run begin steps (steps_asked (window_after steps w) (left - steps)) ∙ ap (run_from mode o begin) asked-later

    lines-later : blocks mode o then (w.first - steps) (steps_told (window_after steps w) (left - steps)) ≡ blocks mode o begin w.first (steps_told w left)
    lines-later =
        later-blocks begin steps (w.first - steps) w.first (steps_told (window_after steps w) (left - steps)) (omega (arith, later))
        ∙ ap (λ (k : ℕ). blocks mode o begin w.first k) told-later

    text-later : text_from mode o then (left - steps) (window_after steps w) ≡ text_from mode o begin left w
    text-later =
        let all = all-left steps left w.first w.count within later in
        λ i. title_line mode ++ lines-later i ++ last_line (cut-later i).end (all i)

    pub answer-later : answer_from mode o then (left - steps) (window_after steps w) ≡ answer_from mode o begin left w
    answer-later = λ i. answer_with (end_status (answer_of_end (cut-later i).end)) (text-later i) (cut-later i).devices

-- a saved state of a trial's run is traced as that run is
pub traces-on : {B : Type 0} (device_of : B → device.Device) (faults : B → ℕ) (mode : Mode) (w : Window) (s : Saved) (old new : List B) (o : Trial)
    → s.snapshot.steps ≤ 3 * s.count → s.snapshot.steps ≤ w.first → (due : Answer) → due.status ≢ 10
    → IsTraced device_of faults mode (window_after s.snapshot.steps w) o (run_of mode o s.snapshot.steps) (steps_left s) old new due
    → due ≡ whole_trace mode o s.count w
traces-on device_of faults mode w s old new o within later due unfailed (made quiet) =
    answer-later mode o (voted_start o) s.snapshot.steps (3 * s.count) w within later
traces-on device_of faults mode w s old new o within later due unfailed (failed step port x rose others) = absurd (unfailed refl)

-- the same for each saved state that a text means: there is one
pub traces-by : (mode : Mode) (w : Window) (devices : List device.Device) (read : Result Saved SaveFault) (s : Saved) (reply : Answer) → read ≡ Ok s
    → TracesOn mode w s devices reply → (other : Saved) → read ≡ Ok other → TracesOn mode w other devices reply
traces-by mode w devices read s reply is h other e =
    let same : s ≡ other = cc (is, e) in
    subst (λ (x : Saved). TracesOn mode w x devices reply) same h

-- a refused text means none
pub traces-refused : (mode : Mode) (w : Window) (devices : List device.Device) (read : Result Saved SaveFault) (fault : SaveFault) (reply : Answer) → read ≡ Err fault
    → (other : Saved) → read ≡ Ok other → TracesOn mode w other devices reply
traces-refused mode w devices read fault reply is other e = absurd (cc (is, e))

-- ---- devices without their states

module _ {B : Type 0} (device_of : B → device.Device) (faults : B → ℕ) (mode : Mode) (w : Window) (s : Saved) (old new : List B) where
  fails : (port : ℕ) (f : HaveFailedAt device_of faults s.states (left_of s (map device_of old)) port old new) (a : Answer)
      → a ≡ unrestored_answer s (map device_of old) f.index port → a.devices ≡ map device_of new → FailsRestored s (map device_of old) port a
  fails port f a is left = record {
    index = f.index;
    word = f.word;
    is_next = f.next;
    is = is;
    kind = λ tape. f.failed.kind (subst (λ (ds : List device.Device). kind_at (λ d. d) port ds ≡ Some Tape) left tape);
  }

  -- that a device failed was told
  pub failed-told : (port status : ℕ) (text : List ℕ) → HaveRefused device_of faults s.states (left_of s (map device_of old)) (Failed port) old new
      → status ≡ 10 → text ≡ device_text port → IsSavedTraced device_of faults mode w s old new (answer_with status text (map device_of new))
  failed-told port status text f is t =
      unrestored port (answer_with status text (map device_of new))
      (fails port f (answer_with status text (map device_of new)) (λ i. answer_with (is i) (t i) (f.devices i)) refl) f.failed.rose f.failed.others

  -- or found no memory
  pub failed-untold : (port : ℕ) → HaveRefused device_of faults s.states (left_of s (map device_of old)) (Failed port) old new
      → IsUnsaved device_of faults mode w s old new
  failed-untold port f =
      refusing port (unrestored_answer s (map device_of old) f.index port)
      (fails port f (unrestored_answer s (map device_of old) f.index port) refl (sym f.devices)) f.failed.rose f.failed.others f.devices

  -- or the run on its way
  pub amid-saved : IsAmid device_of faults mode (window_after s.snapshot.steps w) (resumed.trial_of s (map device_of old)) (first_state s (map device_of old)) (steps_left s) old new
      → IsUnsaved device_of faults mode w s old new
  amid-saved is = amid is

  -- as a word did
  pub wanting-untold : HaveRefused device_of faults s.states (left_of s (map device_of old)) NoMemory old new → IsUnsaved device_of faults mode w s old new
  wanting-untold (taken, quiet) = restoring taken quiet
