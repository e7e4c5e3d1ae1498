-- How a trace is answered over devices that may fail, and what a want of memory leaves of them.
use Rattle.std.specs.Prelude.{◌≡◌, ◌≢◌, ℕ, ◌*◌, ◌≤◌, true, false, List, map, take, Ok}
use Rattle.std.specs.declared.option.Option.{Option}
use Rattle.lvdc_port.specs.Device.{Device}
use Rattle.lvdc_port.specs.Devices.{count_at}
use Rattle.lvdc_port.specs.Supplies.{supplied}
use Rattle.lvdc_model.specs.declared.outcome.Outcome.{Outcome}
use Rattle.lvdc_model.specs.Trial.{Trial}
use Rattle.lvdc_model.specs.Voted.{Voted, voted_start}
use Rattle.lvdc_machine.specs.Resumed.{state_from, FailedFrom}
use Rattle.lvdc_machine.specs.Steps.{run_of}
use Rattle.lvdc_machine.specs.declared.mode.Mode.{Mode}
use Rattle.lvdc_deck.specs.Deck.{deck_of}
use Rattle.lvdc_deck.specs.declared.deck.Deck.{Deck}
use Rattle.lvdc_reply.specs.Answer.{Answer}
use Rattle.lvdc_reply.specs.Replies.{Quiet, RoseAt, OthersQuiet, IsReply}
use Rattle.lvdc_debug.specs.Standing.{CausedSince}
use Rattle.lvdc_command_run.specs.Trials.{trial_of}
use Rattle.lvdc_save.specs.Reading.{saved_of}
use Rattle.lvdc_save.specs.declared.saved.Saved.{Saved}
use Rattle.lvdc_command_resume.specs.Finished.{MeansOf}
use Rattle.lvdc_command_resume.specs.Replies.{FailsRestored}
use Rattle.lvdc_command_resume.specs.Restore.{left_of, HaveTaken}
use Rattle.lvdc_command_resume.specs.Runs as resumed
use Rattle.lvdc_command_resume.specs.Runs.{first_state, steps_left}
use Rattle.lvdc_trace.specs.declared.window.Window.{Window}
use Rattle.lvdc_trace.specs.Traces.{window_after, steps_asked}
use Rattle.lvdc_trace.specs.Answers.{answer_from, broken_from, whole_trace, failed_trace, broken_trace, takes_saved, trace_answer}

-- ---- traces

-- How the trace of the run from a state ends over these devices, which has so many steps left: all is as the run says; or a device failed
-- in an exchange of the run up to the end of the window, and no other that is left has failed.
pub data IsTraced {B : Type 0} (device_of : B → Device) (faults : B → ℕ) (mode : Mode) (w : Window) (o : Trial) (begin : Voted) (left : ℕ) (old new : List B) : Answer → Type 0 where
  made : Quiet device_of faults old new → IsTraced device_of faults mode w o begin left old new (answer_from mode o begin left w)
  failed : (step port : ℕ) → FailedFrom o begin (steps_asked w left) mode step port → RoseAt device_of faults port old new → OthersQuiet device_of faults port old new
      → IsTraced device_of faults mode w o begin left old new (broken_from mode o begin w step port)

-- that of a deck's run
abbrev pub IsDeckTraced : {B : Type 0} → (B → Device) → (B → ℕ) → Mode → Window → Deck → List B → List B → Answer → Type 0
IsDeckTraced device_of faults mode w deck old new =
    let o = trial_of (map device_of old) deck in IsTraced device_of faults mode w o (voted_start o) (3 * deck.count) old new

-- how that of the run from a saved state ends: so; or a device failed at a word of its state
pub data IsSavedTraced {B : Type 0} (device_of : B → Device) (faults : B → ℕ) (mode : Mode) (w : Window) (s : Saved) (old new : List B) : Answer → Type 0 where
  told : (due : Answer)
      → IsTraced device_of faults mode (window_after s.snapshot.steps w) (resumed.trial_of s (map device_of old)) (first_state s (map device_of old)) (steps_left s) old new due
      → IsSavedTraced device_of faults mode w s old new due
  unrestored : (port : ℕ) (reply : Answer) → FailsRestored s (map device_of old) port reply → RoseAt device_of faults port old new
      → OthersQuiet device_of faults port old new → IsSavedTraced device_of faults mode w s old new reply

-- ---- the answer

-- This is the answer where the device at this port fails: in the exchange of this step, which the run makes before the window ends; or at
-- a word of its state, before the first step that is left.
pub data FailsInTrace (mode : Mode) (w : Window) (bytes : List ℕ) (devices : List Device) (step port : ℕ) (reply : Answer) : Type 0 where
  running : (deck : Deck) → takes_saved mode bytes ≡ false → deck_of bytes devices false ≡ Ok deck
      → FailedFrom (trial_of devices deck) (voted_start (trial_of devices deck)) (steps_asked w (3 * deck.count)) mode step port
      → reply ≡ failed_trace mode (trial_of devices deck) w step port → FailsInTrace mode w bytes devices step port reply
  resuming : (s : Saved) → takes_saved mode bytes ≡ true → saved_of devices bytes ≡ Ok s
      → FailedFrom (resumed.trial_of s devices) (first_state s devices) (steps_asked (window_after s.snapshot.steps w) (steps_left s)) mode step port
      → reply ≡ broken_trace mode w s devices step port → FailsInTrace mode w bytes devices step port reply
  restoring : (s : Saved) → takes_saved mode bytes ≡ true → saved_of devices bytes ≡ Ok s → step ≡ s.snapshot.steps → FailsRestored s devices port reply
      → FailsInTrace mode w bytes devices step port reply

-- how a trace is answered over these bytes and devices
abbrev pub IsTraceReply : {B : Type 0} → (B → Device) → (B → ℕ) → Mode → Window → List ℕ → List B → List B → Answer → Type 0
IsTraceReply device_of faults mode w bytes old new reply =
    IsReply device_of faults (trace_answer mode w bytes (map device_of old)) (FailsInTrace mode w bytes (map device_of old)) old new reply

-- ---- two texts of one run

-- Where a saved state means the state of a trial's run after its steps, the window doesn't begin before that, and no device has failed, it
-- is answered as the trace of that run is.
abbrev pub TracesOn : Mode → Window → Saved → List Device → Answer → Type 0
TracesOn mode w s devices reply =
    (o : Trial) → MeansOf s devices o (run_of mode o s.snapshot.steps) → s.snapshot.steps ≤ w.first → reply.status ≢ 10
    → reply ≡ whole_trace mode o s.count w

-- ---- want of memory

-- the devices are as after some of the steps up to the end of the window, with an end or none
pub record IsAmid {B : Type 0} (device_of : B → Device) (faults : B → ℕ) (mode : Mode) (w : Window) (o : Trial) (begin : Voted) (left : ℕ) (old new : List B) : Type 0 where
  pub end : Option Outcome
  pub steps : ℕ
  pub few : steps ≤ steps_asked w left
  pub devices : map device_of new ≡ (state_from end mode o begin steps).devices
  pub cause : CausedSince device_of faults (λ port. count_at device_of faults port old) end new

-- What a want of memory leaves of the devices of a deck's trace: words of its TAPE lines were supplied, the first so many or all, and no
-- count has grown; or they are as after so many steps of the run.
pub data IsUntold {B : Type 0} (device_of : B → Device) (faults : B → ℕ) (mode : Mode) (w : Window) (deck : Deck) (old new : List B) : Type 0 where
  supplying : (count : ℕ) → map device_of new ≡ supplied (take count deck.supplies) (map device_of old) → Quiet device_of faults old new
      → IsUntold device_of faults mode w deck old new
  amid : IsAmid device_of faults mode w (trial_of (map device_of old) deck) (voted_start (trial_of (map device_of old) deck)) (3 * deck.count) old new
      → IsUntold device_of faults mode w deck old new

-- What it leaves of those of a saved state: those that are left have the first so many words of their states, or all, and no count has
-- grown; or a device failed at such a word, and only the refusal found no memory; or they are as after so many steps of the run.
pub data IsUnsaved {B : Type 0} (device_of : B → Device) (faults : B → ℕ) (mode : Mode) (w : Window) (s : Saved) (old new : List B) : Type 0 where
  restoring : HaveTaken s.states (left_of s (map device_of old)) (map device_of new) → Quiet device_of faults old new
      → IsUnsaved device_of faults mode w s old new
  refusing : (port : ℕ) (due : Answer) → FailsRestored s (map device_of old) port due → RoseAt device_of faults port old new
      → OthersQuiet device_of faults port old new → map device_of new ≡ due.devices → IsUnsaved device_of faults mode w s old new
  amid : IsAmid device_of faults mode (window_after s.snapshot.steps w) (resumed.trial_of s (map device_of old)) (first_state s (map device_of old)) (steps_left s) old new
      → IsUnsaved device_of faults mode w s old new

-- What it leaves of the devices of a trace over these bytes: they are the same objects as before; or the run of their deck, or of their
-- saved state, was begun.
pub data IsUnanswered {B : Type 0} (device_of : B → Device) (faults : B → ℕ) (mode : Mode) (w : Window) (bytes : List ℕ) (old new : List B) : Type 0 where
  untouched : new ≡ old → IsUnanswered device_of faults mode w bytes old new
  begun : (deck : Deck) → takes_saved mode bytes ≡ false → deck_of bytes (map device_of old) false ≡ Ok deck → IsUntold device_of faults mode w deck old new
      → IsUnanswered device_of faults mode w bytes old new
  opened : (s : Saved) → takes_saved mode bytes ≡ true → saved_of (map device_of old) bytes ≡ Ok s → IsUnsaved device_of faults mode w s old new
      → IsUnanswered device_of faults mode w bytes old new
