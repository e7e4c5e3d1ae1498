-- A machine that has gone on from a saved state.
use Rattle.std.proofs.Common.{◌≡◌, ℕ, ◌+◌, ◌-◌, ◌*◌, ◌/◌, List, true, length, map, sym, ap, ◌∙◌, subst, arith}
use Rattle.std.proofs.lemmas.List.{take_all}
use Rattle.lvdc_port.specs.Causes.{Rose}
use Rattle.lvdc_port.specs.Device as device
use Rattle.lvdc_port.specs.Devices.{has_port, count_at}
use Rattle.lvdc_port.specs.declared.requests.Supply.{Supply}
use Rattle.lvdc_port.proofs.Lists.{rose-has}
use Rattle.lvdc_plain.specs.Lists.{Since}
use Rattle.lvdc_model.specs.Trial.{Trial}
use Rattle.lvdc_model.specs.Voted.{Voted}
use Rattle.lvdc_model.specs.declared.outcome.Outcome.{Outcome}
use Rattle.lvdc_model.specs.declared.outcome.Outcome.TheVariants.{Done, Stopped, Inadmissible, Device}
use Rattle.lvdc_machine.specs.Causes.{EndHasCause}
use Rattle.lvdc_machine.specs.Resumed.{StandsFrom}
use Rattle.lvdc_machine.specs.View.{View, answer_of_end}
use Rattle.lvdc_machine.specs.declared.mode.Mode.TheVariants.{Guarded}
use Rattle.lvdc_save.specs.declared.saved.Saved.{Saved}
use Rattle.lvdc_command_resume.specs.Finished.{MeansOf, HasRun}
use Rattle.lvdc_command_resume.specs.Restore.{left_of, with_states, devices_of, HaveTaken}
use Rattle.lvdc_command_resume.specs.Runs.{IsRunnable, steps_left}

-- ---- before the run

-- devices have taken all words
pub all-taken : (s : Saved) (old now : List device.Device) → now ≡ devices_of s old → HaveTaken s.states (left_of s old) now
all-taken s old now is = record {
  count = length s.states;
  devices = is ∙ ap (λ (states : List Supply). with_states states (left_of s old)) (sym (take_all (length s.states) s.states (omega arith)));
}

-- ---- the run

-- its end has its cause since before it
since-caused : {B : Type 0} {device_of : B → device.Device} {faults : B → ℕ} {old mid : List B} → Since device_of faults old mid → (new : List B) (end : Outcome)
    → ((port : ℕ) → has_port device_of port new ≡ true → has_port device_of port mid ≡ true) → EndHasCause device_of faults end mid new
    → EndHasCause device_of faults end old new
since-caused h new Done left same = λ port has. same port has ∙ h.counts port (left port has)
since-caused h new (Stopped step stop) left same = λ port has. same port has ∙ h.counts port (left port has)
since-caused h new (Inadmissible verdict) left same = λ port has. same port has ∙ h.counts port (left port has)
since-caused {device_of = device_of} {faults = faults} {mid = mid} h new (Device step port) left alone = record {
  rose = subst (λ n. Rose n (count_at device_of faults port new))
      (h.counts port (left port (rose-has device_of faults port (count_at device_of faults port mid) new alone.rose))) alone.rose;
  others = λ other apart has. alone.others other apart has ∙ h.counts other (left other has);
}

-- the times that are left have the steps that are left
times-left : (s : Saved) → IsRunnable s → 0 + 3 * (s.count - s.snapshot.steps / 3) ≡ steps_left s
times-left s h =
    let whole = h.whole.times in
    let within = h.steps in
    omega (arith, whole, within)

-- a machine that was made of a saved state has run through the times that are left
pub has-run : {B : Type 0} (device_of : B → device.Device) (faults : B → ℕ) (s : Saved) (old mid new : List B) (made m : View) (end : Outcome)
    → IsRunnable s → m.mode ≡ Guarded
    → ((o : Trial) (v : Voted) → MeansOf s (map device_of old) o v → StandsFrom o v 0 made (map device_of mid))
    → ((o : Trial) (v : Voted) (n : ℕ) → StandsFrom o v n made (map device_of mid) → StandsFrom o v (n + 3 * (s.count - s.snapshot.steps / 3)) m (map device_of new))
    → end ≡ answer_of_end m.end → Since device_of faults old mid
    → ((port : ℕ) → has_port device_of port new ≡ true → has_port device_of port mid ≡ true) → EndHasCause device_of faults end mid new
    → HasRun device_of faults s old new m
has-run device_of faults s old mid new made m end runnable mode begins goes answer since left cause = record {
  mode = mode;
  stands = λ o v means.
      subst (λ (n : ℕ). StandsFrom o v n m (map device_of new)) (times-left s runnable) (goes o v 0 (begins o v means));
  cause = subst (λ (e : Outcome). EndHasCause device_of faults e old new) answer (since-caused since new end left cause);
}
