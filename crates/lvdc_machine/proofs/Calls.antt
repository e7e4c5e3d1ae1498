-- What a call answers and leaves where an end had come before it, and where steps were made.
use Rattle.std.proofs.Common.{◌≡◌, ◌≢◌, ℕ, List, refl, arith}
use Rattle.std.specs.declared.option.Option.{Option}
use Rattle.std.specs.declared.option.Option.TheVariants.{None, Some}
use Rattle.lvdc_port.specs.Device as device
use Rattle.lvdc_port.proofs.Lists.{spare-less}
use Rattle.lvdc_plain.specs.Lists.{AreFit}
use Rattle.lvdc_fault.specs.declared.verdict.Verdict.{Verdict}
use Rattle.lvdc_model.specs.declared.outcome.Outcome.{Outcome}
use Rattle.lvdc_model.specs.declared.outcome.Outcome.TheVariants.{Inadmissible}
use Rattle.lvdc_machine.specs.declared.mode.Mode.TheVariants.{Through}
use Rattle.lvdc_machine.specs.Calls.{LeavesAfterSteps, Answers}
use Rattle.lvdc_machine.specs.Causes.{EndHasCause}
use Rattle.lvdc_machine.specs.Room.{exchanges_to_come}
use Rattle.lvdc_machine.specs.Steps.{IsMade}
use Rattle.lvdc_machine.specs.View.{View, answer_of_end}
use Rattle.lvdc_machine.proofs.Frames.{made-least}
use Rattle.lvdc_machine.proofs.Ports.{room-kept}

-- an end that had come is answered again
pub answers-kept : {B : Type 0} (device_of : B → device.Device) (faults : B → ℕ) (m : View) (devices : List B) (end : Outcome)
    → m.end ≡ Some end → Answers device_of faults end m m devices devices
answers-kept device_of faults m devices end is = record {
  answer = rw is refl;
  kept = λ some. (refl, refl);
  cause = λ none. absurd (cc (rw is at none));
  through = λ mode none. absurd (cc (rw is at none));
}

-- then nothing is left otherwise than it was
pub answers-still : {B : Type 0} (device_of : B → device.Device) (faults : B → ℕ) (m : View) (devices : List B) (end : Outcome)
    → m.end ≡ Some end → Answers device_of faults (answer_of_end m.end) m m devices devices
answers-still device_of faults m devices end is = record {
  answer = refl;
  kept = λ some. (refl, refl);
  cause = λ none. absurd (cc (rw is at none));
  through = λ mode none. absurd (cc (rw is at none));
}

pub leaves-kept : {B : Type 0} (device_of : B → device.Device) (spare : B → ℕ) (steps : ℕ) (m : View) (devices : List B)
    → AreFit device_of spare (exchanges_to_come m) devices → LeavesAfterSteps device_of spare steps m m devices devices
leaves-kept device_of spare steps m devices fit = record {
  keeps = record { banks = refl; script = refl; unplugs = refl; limit = refl; mode = refl; pace = refl };
  most = omega arith;
  left = λ port has. has;
  fit = fit;
}

-- a kept end that is no verdict answers with none
pub unjudged : (end : Option Outcome) → ((verdict : Verdict) → end ≢ Some (Inadmissible verdict)) → (verdict : Verdict) → answer_of_end end ≢ Inadmissible verdict
unjudged None free verdict is = absurd (cc is)
unjudged (Some end) free verdict is = free verdict (rw is refl)

-- where none had come, the end that is then kept is answered
pub answers-made : {B : Type 0} (device_of : B → device.Device) (faults : B → ℕ) (before after : View) (old new : List B) (end : Outcome)
    → before.end ≡ None → end ≡ answer_of_end after.end → EndHasCause device_of faults (answer_of_end after.end) old new
    → (before.mode ≡ Through → (verdict : Verdict) → after.end ≢ Some (Inadmissible verdict))
    → Answers device_of faults end before after old new
answers-made device_of faults before after old new end going answer cause through = record {
  answer = answer;
  kept = λ some. absurd (cc (rw going at some));
  cause = λ none. rw answer cause;
  through = λ mode none verdict. rw answer (unjudged after.end (through mode) verdict);
}

-- devices that no port exchange was made with are as fit after a step as before
pub fit-made : {B : Type 0} (device_of : B → device.Device) (spare : B → ℕ) (before after : View) (devices : List B)
    → AreFit device_of spare (exchanges_to_come before) devices → IsMade before after → AreFit device_of spare (exchanges_to_come after) devices
fit-made device_of spare before after devices fit made = record {
  distinct = fit.distinct;
  room = spare-less spare _ _ devices (room-kept before after made.keeps (made-least after.end _ _ made.ends)) fit.room;
}
