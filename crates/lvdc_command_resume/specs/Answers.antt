-- The answer to a saved text: the report of the run that goes on from it, or its refusal.
use Rattle.std.specs.Prelude.{ℕ, List, ◌++◌, codes, take, Result, Ok, Err}
use Rattle.lvdc_text.specs.Numbers.{octal_text}
use Rattle.lvdc_port.specs.Device as device
use Rattle.lvdc_model.specs.Voted.{Voted}
use Rattle.lvdc_machine.specs.View.{answer_of_end}
use Rattle.lvdc_report.specs.Voted.{voted_text}
use Rattle.lvdc_report.specs.declared.title.Title.TheVariants.{Run}
use Rattle.lvdc_reply.specs.Answer.{Answer, answer_with, refusal_text}
use Rattle.lvdc_command_run.specs.Accounts.{end_status}
use Rattle.lvdc_save.specs.Faults.{name_of, line_of}
use Rattle.lvdc_save.specs.Reading.{saved_of}
use Rattle.lvdc_save.specs.declared.fault.SaveFault.{SaveFault}
use Rattle.lvdc_save.specs.declared.saved.Saved.{Saved}
use Rattle.lvdc_command_resume.specs.Restore.{left_of, with_states}
use Rattle.lvdc_command_resume.specs.Runs.{trial_of, last_state, failed_state}

-- the report of a state of the run, with the status of its end and the devices that it leaves
abbrev pub report_answer : Saved → List device.Device → Voted → Answer
report_answer s devices v = answer_with (end_status (answer_of_end v.end)) (voted_text Run (trial_of s devices) v) v.devices

-- the answer of the run that goes on from a saved state with these devices
abbrev pub run_answer : Saved → List device.Device → Answer
run_answer s devices = report_answer s devices (last_state s devices)

-- the same where the device at this port fails in this step
abbrev pub failed_answer : Saved → List device.Device → ℕ → ℕ → Answer
failed_answer s devices step port = report_answer s devices (failed_state s devices step port)

-- a device has failed while it was given its state
abbrev pub device_text : ℕ → List ℕ
device_text port = codes "REFUSED Device " ++ octal_text 3 port ++ codes "\n"

-- the answer where the device at this port fails at the word of this index: those before it were given
abbrev pub unrestored_answer : Saved → List device.Device → ℕ → ℕ → Answer
unrestored_answer s devices index port = answer_with 10 (device_text port) (with_states (take index s.states) (left_of s devices))

-- the answer to a saved state, or to the refusal of its text, which leaves the devices as they were
abbrev pub saved_answer : List device.Device → Result Saved SaveFault → Answer
saved_answer devices (Ok s) = run_answer s devices
saved_answer devices (Err fault) = answer_with 2 (refusal_text (name_of fault) (line_of fault)) devices

-- the answer to these bytes and devices, where no device fails
abbrev pub resume_answer : List ℕ → List device.Device → Answer
resume_answer bytes devices = saved_answer devices (saved_of devices bytes)
