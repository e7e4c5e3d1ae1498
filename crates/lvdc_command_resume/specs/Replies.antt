-- How a saved text is answered over devices that may fail, and what a want of memory leaves of them.
use Rattle.std.specs.Prelude.{◌≡◌, ◌≢◌, ℕ, List, map, slice_get, Ok}
use Rattle.std.specs.declared.option.Option.TheVariants.{Some}
use Rattle.lvdc_port.specs.Device.{Device}
use Rattle.lvdc_port.specs.Supplies.{kind_at}
use Rattle.lvdc_port.specs.declared.device.Kind.TheVariants.{Tape}
use Rattle.lvdc_reply.specs.Answer.{Answer}
use Rattle.lvdc_reply.specs.Replies.{Quiet, RoseAt, OthersQuiet, IsReply}
use Rattle.lvdc_save.specs.Reading.{saved_of}
use Rattle.lvdc_save.specs.declared.saved.Saved.{Saved}
use Rattle.lvdc_command_resume.specs.Restore.{left_of, HaveTaken}
use Rattle.lvdc_command_resume.specs.Runs.{Exchanges}
use Rattle.lvdc_command_resume.specs.Answers.{run_answer, failed_answer, unrestored_answer, resume_answer}

-- ---- devices that are given their states

-- the device at this port has failed at one of the words of its state: it is no tape, and it has the words before that one
pub record FailsRestored (s : Saved) (devices : List Device) (port : ℕ) (reply : Answer) : Type 0 where
  pub index : ℕ
  pub word : ℕ
  pub is_next : slice_get s.states index ≡ Some (record { port = port; word = word })
  pub is : reply ≡ unrestored_answer s devices index port
  pub kind : kind_at (λ device. device) port reply.devices ≢ Some Tape

-- ---- runs

-- How a saved run ends over these devices: all is as the run says that goes on; or a device failed in an exchange of the run, or at a
-- word of its state, and no other that is left has failed.
pub data IsResumed {B : Type 0} (device_of : B → Device) (faults : B → ℕ) (s : Saved) (old new : List B) : Answer → Type 0 where
  made : Quiet device_of faults old new → IsResumed device_of faults s old new (run_answer s (map device_of old))
  failed : (step port : ℕ) → Exchanges s (map device_of old) step port → RoseAt device_of faults port old new → OthersQuiet device_of faults port old new
      → IsResumed device_of faults s old new (failed_answer s (map device_of old) step port)
  unrestored : (port : ℕ) (reply : Answer) → FailsRestored s (map device_of old) port reply → RoseAt device_of faults port old new
      → OthersQuiet device_of faults port old new → IsResumed device_of faults s old new reply

-- ---- the answer

-- This is the answer where the device at this port fails: at a word of its state, before the first step that is left; or in the
-- exchange of this step of the run.
pub data FailsInResume (bytes : List ℕ) (devices : List Device) (step port : ℕ) (reply : Answer) : Type 0 where
  restoring : (s : Saved) → saved_of devices bytes ≡ Ok s → step ≡ s.snapshot.steps → FailsRestored s devices port reply
      → FailsInResume bytes devices step port reply
  running : (s : Saved) → saved_of devices bytes ≡ Ok s → Exchanges s devices step port → reply ≡ failed_answer s devices step port
      → FailsInResume bytes devices step port reply

-- how a saved text is answered over these devices
abbrev pub IsResumeReply : {B : Type 0} → (B → Device) → (B → ℕ) → List ℕ → List B → List B → Answer → Type 0
IsResumeReply device_of faults bytes old new reply =
    IsReply device_of faults (resume_answer bytes (map device_of old)) (FailsInResume bytes (map device_of old)) old new reply

-- ---- want of memory

-- What a want of memory leaves of the devices of a saved run: those that are left have the first so many words of their states, or
-- all, and no count has grown; or the run has ended, and only its report found no memory.
pub data IsUnreported {B : Type 0} (device_of : B → Device) (faults : B → ℕ) (s : Saved) (old new : List B) : Type 0 where
  restoring : HaveTaken s.states (left_of s (map device_of old)) (map device_of new) → Quiet device_of faults old new
      → IsUnreported device_of faults s old new
  reporting : (due : Answer) → IsResumed device_of faults s old new due → map device_of new ≡ due.devices
      → IsUnreported device_of faults s old new

-- What it leaves of these devices: they are the same objects as before; or the run that the bytes tell was begun.
pub data IsUnresumed {B : Type 0} (device_of : B → Device) (faults : B → ℕ) (bytes : List ℕ) (old new : List B) : Type 0 where
  untouched : new ≡ old → IsUnresumed device_of faults bytes old new
  begun : (s : Saved) → saved_of (map device_of old) bytes ≡ Ok s → IsUnreported device_of faults s old new
      → IsUnresumed device_of faults bytes old new
