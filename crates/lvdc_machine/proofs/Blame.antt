-- Causes over a step, and over several.
use Rattle.std.proofs.Common.{◌≡◌, ◌≢◌, ℕ, List, true, sym, ◌∙◌, ap, subst}
use Rattle.std.specs.declared.option.Option.{Option}
use Rattle.std.specs.declared.option.Option.TheVariants.{None, Some}
use Rattle.lvdc_port.specs.Causes.{Rose}
use Rattle.lvdc_port.specs.Device as device
use Rattle.lvdc_port.specs.Devices.{has_port, count_at}
use Rattle.lvdc_port.proofs.Lists.{has-map, rose-has}
use Rattle.lvdc_plain.specs.Lists.{Since}
use Rattle.lvdc_plain.specs.Stands.{FailedAlone}
use Rattle.lvdc_fault.specs.declared.verdict.Verdict.{Verdict}
use Rattle.lvdc_model.specs.declared.outcome.Outcome.{Outcome}
use Rattle.lvdc_model.specs.declared.outcome.Outcome.TheVariants.{Done, Stopped, Inadmissible, Device}
use Rattle.lvdc_machine.specs.Causes.{Fails, EndHasCause}
use Rattle.lvdc_machine.specs.Steps.{MadeAs}
use Rattle.lvdc_machine.specs.View.{answer_of_end}

-- what holds since one state of the devices and from there since another
pub since-then : {B : Type 0} {device_of : B → device.Device} {count : B → ℕ} {old mid new : List B} →
    Since device_of count old mid → Since device_of count mid new → Since device_of count old new
since-then h g = record {
  left = λ port has. h.left port (g.left port has);
  counts = λ port has. g.counts port has ∙ h.counts port (g.left port has);
}

-- the end that a step brought says that no count has grown
pub made-caused : {B : Type 0} {device_of : B → device.Device} {count : B → ℕ} {old new : List B} → Since device_of count old new
    → (end : Option Outcome) (before after : ℕ) → MadeAs end before after
    → EndHasCause device_of count (answer_of_end end) old new
made-caused h None before after made = h.counts
made-caused h (Some (Stopped step stop)) before after made = h.counts
made-caused h (Some Done) before after made = absurd made
made-caused h (Some (Inadmissible w)) before after made = absurd made
made-caused h (Some (Device step port)) before after made = absurd made

-- nor is it a verdict
pub made-unjudged : (end : Option Outcome) (before after : ℕ) → MadeAs end before after → (verdict : Verdict) → end ≢ Some (Inadmissible verdict)
made-unjudged None before after made verdict is = absurd (cc)
made-unjudged (Some (Stopped step stop)) before after made verdict is = absurd (cc)
made-unjudged (Some Done) before after made verdict is = absurd made
made-unjudged (Some (Inadmissible w)) before after made verdict is = absurd made
made-unjudged (Some (Device step port)) before after made verdict is = absurd made

-- a device that failed keeps its port
pub fails-has : {B : Type 0} {device_of : B → device.Device} {count : B → ℕ} {port : ℕ} {old new : List B} → Fails device_of count port old new
    → (p : ℕ) → has_port device_of p new ≡ true → has_port device_of p old ≡ true
fails-has {device_of = device_of} {old = old} {new = new} h p has =
    has-map device_of p old ∙ ap (λ ds. has_port (λ d. d) p ds) (sym h.states) ∙ sym (has-map device_of p new) ∙ has

-- what failed now has failed since
pub fails-since : {B : Type 0} {device_of : B → device.Device} {count : B → ℕ} {port : ℕ} {old mid new : List B} → Since device_of count old mid
    → Fails device_of count port mid new
    → FailedAlone port (λ p. count_at device_of count p old) (λ p. count_at device_of count p new) (λ p. has_port device_of p new)
fails-since {device_of = device_of} {count = count} {port = port} {mid = mid} {new = new} h g =
    record {
      rose = subst (λ n. Rose n (count_at device_of count port new))
          (h.counts port (fails-has g port (rose-has device_of count port (count_at device_of count port mid) new g.alone.rose))) g.alone.rose;
      others = λ other apart has. g.alone.others other apart has ∙ h.counts other (fails-has g other has);
    }

-- the cause of the last step is that of all of them
pub caused-since : {B : Type 0} {device_of : B → device.Device} {count : B → ℕ} {old mid : List B} → Since device_of count old mid
    → (new : List B) (end : Outcome) → ((port : ℕ) → has_port device_of port new ≡ true → has_port device_of port mid ≡ true)
    → EndHasCause device_of count end mid new → EndHasCause device_of count end old new
caused-since h new Done left same = λ port has. same port has ∙ h.counts port (left port has)
caused-since h new (Stopped step stop) left same = λ port has. same port has ∙ h.counts port (left port has)
caused-since h new (Inadmissible w) left same = λ port has. same port has ∙ h.counts port (left port has)
caused-since {device_of = device_of} {count = count} {mid = mid} h new (Device step port) left alone =
    record {
      rose = subst (λ n. Rose n (count_at device_of count port new))
          (h.counts port (left port (rose-has device_of count port (count_at device_of count port mid) new alone.rose))) alone.rose;
      others = λ other apart has. alone.others other apart has ∙ h.counts other (left other has);
    }
