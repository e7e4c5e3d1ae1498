-- What a call answers and leaves where an end had come before it, and where it made times.
use Rattle.std.proofs.Common.{◌≡◌, ℕ, List, refl, ◌∙◌, arith}
use Rattle.std.specs.declared.option.Option.TheVariants.{None, Some}
use Rattle.lvdc_port.specs.Device as device
use Rattle.lvdc_plain.specs.Calls.{times_left, Keeps, Leaves, PlainEndHasCause, Answers}
use Rattle.lvdc_plain.specs.Lists.{AreFit}
use Rattle.lvdc_plain.specs.View.{View, answer_of_end, IsPlainEnd}
use Rattle.lvdc_plain.specs.declared.records.PlainEnd.{PlainEnd}

-- an end that had come is answered again
pub answers-kept : {B : Type 0} (device_of : B → device.Device) (faults : B → ℕ) (m : View) (devices : List B) (end : PlainEnd) →
    m.end ≡ Some end → IsPlainEnd end → Answers device_of faults end m m devices devices
answers-kept device_of faults m devices end is plain = record {
  answer = rw is refl;
  plain = plain;
  kept = λ some. (refl, refl);
  cause = λ none. absurd (cc (rw is at none));
}

-- then nothing is left otherwise than it was
pub leaves-kept : {B : Type 0} (device_of : B → device.Device) (spare : B → ℕ) (times : ℕ) (m : View) (devices : List B) →
    AreFit device_of spare (times_left m) devices → Leaves device_of spare times m m devices devices
leaves-kept device_of spare times m devices fit = record {
  keeps = record { banks = refl; limit = refl; unplugs = refl };
  most = omega arith;
  left = λ port has. has;
  fit = fit;
}

-- where none had come, the end that is then kept is answered
pub answers-made : {B : Type 0} (device_of : B → device.Device) (faults : B → ℕ) (before after : View) (old new : List B) (end : PlainEnd) →
    before.end ≡ None → end ≡ answer_of_end after.end → IsPlainEnd end → PlainEndHasCause device_of faults (answer_of_end after.end) old new →
    Answers device_of faults end before after old new
answers-made device_of faults before after old new end going answer plain cause = record {
  answer = answer;
  plain = plain;
  kept = λ some. absurd (cc (rw going at some));
  cause = λ none. rw answer cause;
}

-- two calls keep what each keeps
pub keeps-then : {a b c : View} → Keeps a b → Keeps b c → Keeps a c
keeps-then one other = record {
  banks = other.banks ∙ one.banks;
  limit = other.limit ∙ one.limit;
  unplugs = other.unplugs ∙ one.unplugs;
}
