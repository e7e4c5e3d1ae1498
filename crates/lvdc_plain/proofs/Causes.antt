-- Causes over several times.
use Rattle.std.proofs.Common.{◌≡◌, ℕ, List, Bool, true, refl, ◌∙◌, subst}
use Rattle.std.specs.declared.option.Option.{Option}
use Rattle.std.specs.declared.option.Option.TheVariants.{None, Some}
use Rattle.lvdc_plain.specs.Processor.{end_of}
use Rattle.lvdc_plain.specs.View.{answer_of_end}
use Rattle.lvdc_plain.specs.declared.records.Stop.{Stop}
use Rattle.lvdc_port.specs.Causes.{Rose}
use Rattle.lvdc_port.specs.Device as device
use Rattle.lvdc_port.specs.Devices.{has_port, count_at}
use Rattle.lvdc_port.proofs.Lists.{rose-has}
use Rattle.lvdc_plain.specs.Lists.{Since}
use Rattle.lvdc_plain.specs.Stands.{Caused}
use Rattle.lvdc_plain.specs.declared.records.PlainEnd.{PlainEnd}
use Rattle.lvdc_plain.specs.declared.records.PlainEnd.TheVariants.{Done, Stopped, Device}

pub since-start : {B : Type 0} {device_of : B → device.Device} {count : B → ℕ} {bs : List B} → Since device_of count bs bs
since-start = record { left = λ port has. has; counts = λ port has. refl }

-- one more time, in which no device failed
pub since-more : {B : Type 0} {device_of : B → device.Device} {count : B → ℕ} {old mid : List B} →
    Since device_of count old mid → (new : List B) →
    ((port : ℕ) → has_port device_of port new ≡ true → has_port device_of port mid ≡ true) →
    ((port : ℕ) → has_port device_of port new ≡ true → count_at device_of count port new ≡ count_at device_of count port mid) →
    Since device_of count old new
since-more h new left same = record {
  left = λ port has. h.left port (left port has);
  counts = λ port has. same port has ∙ h.counts port (left port has);
}

-- the end of a time is the end of all of them
pub since-caused : {B : Type 0} {device_of : B → device.Device} {count : B → ℕ} {old mid : List B} →
    Since device_of count old mid → (new : List B) (end : PlainEnd) →
    ((port : ℕ) → has_port device_of port new ≡ true → has_port device_of port mid ≡ true) →
    Caused end (λ port. count_at device_of count port mid) (λ port. count_at device_of count port new) (λ port. has_port device_of port new) →
    Caused end (λ port. count_at device_of count port old) (λ port. count_at device_of count port new) (λ port. has_port device_of port new)
since-caused {device_of = device_of} {count = count} {mid = mid} h new (Device step port) left alone =
    record {
      rose = subst (λ n. Rose n (count_at device_of count port new))
          (h.counts port (left port (rose-has device_of count port (count_at device_of count port mid) new alone.rose))) alone.rose;
      others = λ other apart has. alone.others other apart has ∙ h.counts other (left other has);
    }
since-caused h new Done left same = λ port has. same port has ∙ h.counts port (left port has)
since-caused h new (Stopped step stop) left same = λ port has. same port has ∙ h.counts port (left port has)

-- the end of a time that no device has failed
pub caused-made : (end : Option PlainEnd) (time : ℕ) (stop : Option Stop) (before after : ℕ → ℕ) (left : ℕ → Bool) →
    end ≡ end_of time stop → ((port : ℕ) → left port ≡ true → after port ≡ before port) →
    Caused (answer_of_end end) before after left
caused-made end time None before after left is same = rw is same
caused-made end time (Some stop) before after left is same = rw is same
