-- Runs over devices that have the words of the TAPE lines.
use Rattle.std.proofs.Common.{◌≡◌, ℕ, ◌+◌, ◌-◌, ◌*◌, ◌/◌, ◌≤◌, ◌==◌, true, List, [], ◌∷◌, map, refl, sym, subst, ◌∙◌, arith, length, zero-add, Result, Ok, Err}
use Rattle.std.proofs.lemmas.Bool.{eqb-true}
use Rattle.std.proofs.lemmas.List.{nil_from_length}
use Rattle.std.specs.Prelude.{IfErr}
use Rattle.std.specs.Bool.{if◌then◌else◌}
use Rattle.std.specs.declared.option.Option.{Option}
use Rattle.std.specs.declared.option.Option.TheVariants.{None, Some}
use Rattle.lvdc_port.specs.Causes.{Rose}
use Rattle.lvdc_port.specs.Device as device
use Rattle.lvdc_port.specs.Devices.{has_port, count_at, AreDistinct}
use Rattle.lvdc_port.specs.Supplies.{ports_of, supplied}
use Rattle.lvdc_port.proofs.Lists.{rose-has, count-same}
use Rattle.lvdc_plain.specs.Lists.{Since}
use Rattle.lvdc_plain.specs.Calls as plain_calls
use Rattle.lvdc_plain.specs.Run.{Opening, run, IsOpening}
use Rattle.lvdc_plain.specs.Stands as plain
use Rattle.lvdc_plain.specs.View as plain_view
use Rattle.lvdc_plain.specs.declared.records.PlainEnd.{PlainEnd}
use Rattle.lvdc_plain.specs.declared.records.PlainEnd.TheVariants as plain_ends
use Rattle.lvdc_plain.specs.declared.records.Unplug.{Unplug}
use Rattle.lvdc_fault.specs.declared.event.Event.{Event}
use Rattle.lvdc_model.specs.declared.outcome.Outcome.{Outcome}
use Rattle.lvdc_model.specs.declared.outcome.Outcome.TheVariants.{Done, Stopped, Inadmissible, Device}
use Rattle.lvdc_model.specs.Trial.{Trial}
use Rattle.lvdc_machine.specs.Calls.{IsFresh, Answers}
use Rattle.lvdc_machine.specs.Causes.{EndHasCause}
use Rattle.lvdc_machine.specs.Room.{pace_of}
use Rattle.lvdc_machine.specs.Stands.{Stands, EndsAs}
use Rattle.lvdc_machine.specs.View.{View, answer_of_end}
use Rattle.lvdc_machine.specs.declared.mode.Mode.{Mode}
use Rattle.lvdc_snapshot.specs.declared.snapshot.Snapshot.{Snapshot}
use Rattle.lvdc_machine.specs.declared.mode.Mode.TheVariants.{Guarded}
use Rattle.lvdc_runs.specs.Scripts.{trial_under}
use Rattle.lvdc_runs.specs.Ran.{HasRunWithin, HasRunPlainly, NoneFailed, NonePlainlyFailed}
use Rattle.lvdc_runs.specs.Stations.{IsUnderWay, IsStation}
use Rattle.lvdc_runs.proofs.Stationed.{under_way-start, all-left}
use Rattle.lvdc_study.specs.Failures.{HasFailed, FailsUnder, EndsIn, EndsPlainlyIn, Exchanges, ExchangesPlainly}
use Rattle.lvdc_study.specs.declared.fault.Unstudied.{Unstudied}
use Rattle.lvdc_study.specs.declared.fault.Unstudied.TheVariants.{NoMemory, Device as DeviceFailed}
use Rattle.lvdc_study.specs.Study.{opening_over}
use Rattle.lvdc_study.specs.declared.program.Program.{Program}

-- ---- a run that a device's failure ended comes to an exchange with that device

plain-exchange : (o : Opening) (times : ℕ) (m : plain_view.View) (now : List device.Device) (port : ℕ) (end : Option PlainEnd) → plain.EndsAs o times m now end
    → EndsPlainlyIn end port → (step : ℕ) × ExchangesPlainly o times step port
plain-exchange o times m now port None e is = absurd is
plain-exchange o times m now port (Some plain_ends.Done) e is = absurd is
plain-exchange o times m now port (Some (plain_ends.Stopped step stop)) e is = absurd is
plain-exchange o times m now port (Some (plain_ends.Device step failed)) e is =
    subst (λ (q : ℕ). (step : ℕ) × ExchangesPlainly o times step q) is (step, record { machine = m; left = now; exchange = e })

-- a plain machine over whose devices none has failed leaves them as the run does
plain-left : (o : Opening) (times : ℕ) (m : plain_view.View) (now : List device.Device) (end : Option PlainEnd) → NonePlainlyFailed end → plain.EndsAs o times m now end
    → now ≡ (run o times).devices
plain-left o times m now None u e = e.left
plain-left o times m now (Some plain_ends.Done) u e = absurd e
plain-left o times m now (Some (plain_ends.Stopped step stop)) u e = e.left
plain-left o times m now (Some (plain_ends.Device step port)) u e = absurd u

voted-exchange : (o : Trial) (times : ℕ) (mode : Mode) (steps port : ℕ) (end : Option Outcome) → EndsAs end o (3 * times) mode steps
    → EndsIn end port → (step : ℕ) × Exchanges o times step port
voted-exchange o times mode steps port None e is = absurd is
voted-exchange o times mode steps port (Some Done) e is = absurd is
voted-exchange o times mode steps port (Some (Stopped step stop)) e is = absurd is
voted-exchange o times mode steps port (Some (Inadmissible verdict)) e is = absurd is
voted-exchange o times mode steps port (Some (Device step failed)) e is =
    subst (λ (q : ℕ). (step : ℕ) × Exchanges o times step q) is (step, record { mode = mode; exchange = e })

-- the same of a machine that went on from a station
pub late-exchange : (p : Opening) (count times : ℕ) (s : Snapshot) (script : List Event) (m : View) (now : List device.Device) (port : ℕ) → IsStation p count s
    → s.steps ≤ 3 * times → Stands (trial_under p script) (s.steps + 3 * (times - s.steps / 3)) m now → EndsIn m.end port
    → (step : ℕ) × Exchanges (trial_under p script) times step port
late-exchange p count times s script m now port at ahead stands is =
    let o = trial_under p script in
    let all : Stands o (3 * times) m now = subst (λ (n : ℕ). Stands o n m now) (all-left p count s script times ahead at) stands in
    voted-exchange o times m.mode m.steps port m.end all.ends is

-- a run comes to an exchange in more times too
exchanges-within : (o : Trial) (times count step port : ℕ) → times ≤ count → Exchanges o times step port → Exchanges o count step port
exchanges-within o times count step port within exchanges =
    let there = exchanges.exchange in
    let early = there.early in
    record {
      mode = exchanges.mode;
      exchange = record {
        later = there.later;
        early = omega (arith, early, within);
        going = there.going;
        steps = there.steps;
        admitted = there.admitted;
        asked = there.asked;
      };
    }

fails-within : (o : Trial) (times count : ℕ) → times ≤ count → (e : Unstudied) → FailsUnder o times e → FailsUnder o count e
fails-within o times count within NoMemory fails = tt
fails-within o times count within (DeviceFailed port) fails = (fails.0, exchanges-within o times count fails.0 port within fails.1)

pub answer-within : {A : Type 0} (o : Trial) (times count : ℕ) → times ≤ count → (answer : Result A Unstudied) → IfErr answer (λ e. FailsUnder o times e)
    → IfErr answer (λ e. FailsUnder o count e)
answer-within o times count within (Ok machine) fails = tt
answer-within o times count within (Err e) fails = fails-within o times count within e fails

-- ---- what a machine was made of is the opening of the program over the devices

module _ (p : Program) (devices ready : List device.Device) (unplugs : List Unplug) (u : unplugs ≡ p.unplugs.now) (r : ready ≡ supplied p.supplies.now devices) where
  opening-same : record { image = p.image.now; banks = p.banks; start = p.start; unplugs = unplugs; devices = ready } ≡ opening_over p devices
  opening-same = λ i. record { image = p.image.now; banks = p.banks; start = p.start; unplugs = u i; devices = r i }

  plainly-stands : (m : plain_view.View) (now : List device.Device)
      → plain.Stands (record { image = p.image.now; banks = p.banks; start = p.start; unplugs = unplugs; devices = ready }) (0 + p.count) m now
      → plain.Stands (opening_over p devices) p.count m now
  plainly-stands m now stands =
      let here : plain.Stands (opening_over p devices) (0 + p.count) m now = subst (λ (o : Opening). plain.Stands o (0 + p.count) m now) opening-same stands in
      subst (λ (n : ℕ). plain.Stands (opening_over p devices) n m now) (zero-add p.count) here

  stands-under : (script : List Event) (times : ℕ) (m : View) (now : List device.Device)
      → Stands (trial_under (record { image = p.image.now; banks = p.banks; start = p.start; unplugs = unplugs; devices = ready }) script) (0 + 3 * times) m now
      → Stands (trial_under (opening_over p devices) script) (3 * times) m now
  stands-under script times m now stands =
      let o = trial_under (opening_over p devices) script in
      let here : Stands o (0 + 3 * times) m now = subst (λ (q : Opening). Stands (trial_under q script) (0 + 3 * times) m now) opening-same stands in
      subst (λ (n : ℕ). Stands o n m now) (zero-add (3 * times)) here

  pub plainly-run : ((program : Opening) (times : ℕ) (m : plain_view.View) (ds : List device.Device) → m.banks ≡ program.banks → plain.Stands program times m ds
      → NonePlainlyFailed m.end → HasRunPlainly program times m)
      → (m : plain_view.View) (now : List device.Device) → m.banks ≡ p.banks
      → plain.Stands (record { image = p.image.now; banks = p.banks; start = p.start; unplugs = unplugs; devices = ready }) (0 + p.count) m now
      → NonePlainlyFailed m.end → HasRunPlainly (opening_over p devices) p.count m
  plainly-run law m now banks stands unfailed = law (opening_over p devices) p.count m now banks (plainly-stands m now stands) unfailed

  pub plainly-asked : (m : plain_view.View) (now : List device.Device) (port : ℕ)
      → plain.Stands (record { image = p.image.now; banks = p.banks; start = p.start; unplugs = unplugs; devices = ready }) (0 + p.count) m now
      → EndsPlainlyIn m.end port → (step : ℕ) × ExchangesPlainly (opening_over p devices) p.count step port
  plainly-asked m now port stands = plain-exchange (opening_over p devices) p.count m now port m.end (plainly-stands m now stands).ends

  pub plainly-brought : (m : plain_view.View) (now : List device.Device)
      → plain.Stands (record { image = p.image.now; banks = p.banks; start = p.start; unplugs = unplugs; devices = ready }) (0 + p.count) m now
      → NonePlainlyFailed m.end → now ≡ (run (opening_over p devices) p.count).devices
  plainly-brought m now stands unfailed = plain-left (opening_over p devices) p.count m now m.end unfailed (plainly-stands m now stands).ends

  -- the machine of the fault-free run
  pub starts-free : (script : List Event) (m : View) (now : List device.Device) → script ≡ []
      → IsOpening (record { image = p.image.now; banks = p.banks; start = p.start; unplugs = unplugs; devices = ready })
      → IsFresh Guarded (pace_of Guarded) p.count 0 m
      → Stands (trial_under (record { image = p.image.now; banks = p.banks; start = p.start; unplugs = unplugs; devices = ready }) script) 0 m now
      → IsUnderWay (opening_over p devices) m now
  starts-free script m now none opens fresh stands =
      under_way-start (opening_over p devices) (pace_of Guarded) p.count m now (subst IsOpening opening-same opens) fresh
      (subst (λ (o : Trial). Stands o 0 m now) (λ i. trial_under (opening-same i) (none i)) stands)

  pub has-judged : (script : List Event) (times : ℕ) (m : View) (now : List device.Device)
      → IsOpening (record { image = p.image.now; banks = p.banks; start = p.start; unplugs = unplugs; devices = ready }) → m.mode ≡ Guarded
      → m.limit ≡ p.count → AreDistinct now
      → Stands (trial_under (record { image = p.image.now; banks = p.banks; start = p.start; unplugs = unplugs; devices = ready }) script) (0 + 3 * times) m now
      → NoneFailed m.end → HasRunWithin (trial_under (opening_over p devices) script) times p.count m now
  has-judged script times m now opens mode_is limit distinct stands unfailed =
      let later = stands-under script times m now stands in
      record {
        run = record {
          opening = subst IsOpening opening-same opens;
          banks = later.shows.banks;
          script = later.shows.script;
          mode_is = mode_is;
          left = now;
          stands = later;
          unfailed = unfailed;
        };
        stands = later;
        distinct = distinct;
        limit = limit;
      }

  pub asked-under : (script : List Event) (times : ℕ) (m : View) (now : List device.Device) (port : ℕ)
      → Stands (trial_under (record { image = p.image.now; banks = p.banks; start = p.start; unplugs = unplugs; devices = ready }) script) (0 + 3 * times) m now
      → EndsIn m.end port → (step : ℕ) × Exchanges (trial_under (opening_over p devices) script) times step port
  asked-under script times m now port stands =
      voted-exchange (trial_under (opening_over p devices) script) times m.mode m.steps port m.end (stands-under script times m now stands).ends

-- ---- devices that fail

-- where none has failed each that is left has the count that it had
pub none-rose : {B : Type 0} (device_of : B → device.Device) (faults : B → ℕ) (ready new : List B) (end : Option Outcome) → NoneFailed end
    → EndHasCause device_of faults (answer_of_end end) ready new → (port : ℕ) → has_port device_of port new ≡ true
    → count_at device_of faults port new ≡ count_at device_of faults port ready
none-rose device_of faults ready new None u c = c
none-rose device_of faults ready new (Some Done) u c = c
none-rose device_of faults ready new (Some (Stopped step stop)) u c = c
none-rose device_of faults ready new (Some (Inadmissible verdict)) u c = c
none-rose device_of faults ready new (Some (Device step port)) u c = absurd u

-- the same of the plain machine
none-plainly-rose : {B : Type 0} (device_of : B → device.Device) (faults : B → ℕ) (ready new : List B) (end : Option PlainEnd) → NonePlainlyFailed end
    → plain_calls.PlainEndHasCause device_of faults (plain_view.answer_of_end end) ready new → (port : ℕ) → has_port device_of port new ≡ true
    → count_at device_of faults port new ≡ count_at device_of faults port ready
none-plainly-rose device_of faults ready new None u c = c
none-plainly-rose device_of faults ready new (Some plain_ends.Done) u c = c
none-plainly-rose device_of faults ready new (Some (plain_ends.Stopped step stop)) u c = c
none-plainly-rose device_of faults ready new (Some (plain_ends.Device step port)) u c = absurd u

-- lists with the same ports have each of them
has-ports : {B : Type 0} (device_of : B → device.Device) (xs ys : List B) → ports_of (map device_of xs) ≡ ports_of (map device_of ys) → (port : ℕ)
    → has_port device_of port xs ≡ has_port device_of port ys
has-ports device_of [] [] e port = refl
has-ports device_of [] (y ∷ ys) e port = absurd (cc)
has-ports device_of (x ∷ xs) [] e port = absurd (cc)
has-ports device_of (x ∷ xs) (y ∷ ys) e port =
    let place : (device_of x).port ≡ (device_of y).port = cc in
    let later : ports_of (map device_of xs) ≡ ports_of (map device_of ys) = cc in
    let rest = has-ports device_of xs ys later port in
    λ i. if place i == port then true else rest i

-- a list of no items is the empty one
pub is-nil : {A : Type 0} (items : List A) → (length items == 0) ≡ true → items ≡ []
is-nil items none = nil_from_length items (eqb-true (length items) 0 none)

module _ {B : Type 0} (device_of : B → device.Device) (faults : B → ℕ) (old ready new : List B)
    (ports : ports_of (map device_of ready) ≡ ports_of (map device_of old)) (counts : map faults ready ≡ map faults old) where
  rose-since : (failed port : ℕ) → failed ≡ port → Rose (count_at device_of faults failed ready) (count_at device_of faults failed new)
      → Rose (count_at device_of faults port old) (count_at device_of faults port new)
  rose-since failed port is rose =
      subst (λ (k : ℕ). Rose k (count_at device_of faults port new)) (count-same device_of faults port ready old ports counts)
      (subst (λ (q : ℕ). Rose (count_at device_of faults q ready) (count_at device_of faults q new)) is rose)

  pub has-failed : (end : Option Outcome) (port : ℕ) → EndsIn end port → EndHasCause device_of faults (answer_of_end end) ready new
      → Rose (count_at device_of faults port old) (count_at device_of faults port new)
  has-failed None port is c = absurd is
  has-failed (Some Done) port is c = absurd is
  has-failed (Some (Stopped step stop)) port is c = absurd is
  has-failed (Some (Inadmissible verdict)) port is c = absurd is
  has-failed (Some (Device step failed)) port is c = rose-since failed port is c.rose

  pub has-plainly-failed : (end : Option PlainEnd) (port : ℕ) → EndsPlainlyIn end port → plain_calls.PlainEndHasCause device_of faults (plain_view.answer_of_end end) ready new
      → Rose (count_at device_of faults port old) (count_at device_of faults port new)
  has-plainly-failed None port is c = absurd is
  has-plainly-failed (Some plain_ends.Done) port is c = absurd is
  has-plainly-failed (Some (plain_ends.Stopped step stop)) port is c = absurd is
  has-plainly-failed (Some (plain_ends.Device step failed)) port is c = rose-since failed port is c.rose

  -- devices of the same ports and counts are since then what they were
  pub since-supplied : Since device_of faults old ready
  since-supplied = record {
    left = λ port has. sym (has-ports device_of ready old ports port) ∙ has;
    counts = λ port has. count-same device_of faults port ready old ports counts;
  }

  -- nothing has failed of what is left
  pub since-run : (end : Option Outcome) → NoneFailed end → EndHasCause device_of faults (answer_of_end end) ready new
      → ((port : ℕ) → has_port device_of port new ≡ true → has_port device_of port ready ≡ true) → Since device_of faults old new
  since-run end unfailed cause left = record {
    left = λ port has. sym (has-ports device_of ready old ports port) ∙ left port has;
    counts = λ port has. none-rose device_of faults ready new end unfailed cause port has ∙ count-same device_of faults port ready old ports counts;
  }

  pub since-plain : (end : Option PlainEnd) → NonePlainlyFailed end → plain_calls.PlainEndHasCause device_of faults (plain_view.answer_of_end end) ready new
      → ((port : ℕ) → has_port device_of port new ≡ true → has_port device_of port ready ≡ true) → Since device_of faults old new
  since-plain end unfailed cause left = record {
    left = λ port has. sym (has-ports device_of ready old ports port) ∙ left port has;
    counts = λ port has. none-plainly-rose device_of faults ready new end unfailed cause port has ∙ count-same device_of faults port ready old ports counts;
  }

-- ---- the machine goes on

-- what is so since then, and was so since an earlier time
pub since-on : {B : Type 0} {device_of : B → device.Device} {count : B → ℕ} (old mid new : List B) → Since device_of count old mid → Since device_of count mid new
    → Since device_of count old new
since-on old mid new before since = record {
  left = λ port has. before.left port (since.left port has);
  counts = λ port has. since.counts port has ∙ before.counts port (since.left port has);
}

-- what failed then has failed since
pub failed-since : {B : Type 0} (device_of : B → device.Device) (faults : B → ℕ) (old mid new : List B) → Since device_of faults old mid
    → ((port : ℕ) → has_port device_of port new ≡ true → has_port device_of port mid ≡ true) → (e : Unstudied) → HasFailed device_of faults e mid new
    → HasFailed device_of faults e old new
failed-since device_of faults old mid new since left NoMemory failed = tt
failed-since device_of faults old mid new since left (DeviceFailed port) rose =
    subst (λ (k : ℕ). Rose k (count_at device_of faults port new))
    (since.counts port (left port (rose-has device_of faults port (count_at device_of faults port mid) new rose))) rose

-- a machine that ran on, or had ended before, has let no device fail where none is the end
pub run-since : {B : Type 0} (device_of : B → device.Device) (faults : B → ℕ) (old new : List B) (before after : View) (answer : Outcome)
    → Answers device_of faults answer before after old new → ((port : ℕ) → has_port device_of port new ≡ true → has_port device_of port old ≡ true)
    → NoneFailed after.end → (end : Option Outcome) → before.end ≡ end → Since device_of faults old new
run-since device_of faults old new before after answer h left unfailed None is = record {
  left = left;
  counts = none-rose device_of faults old new after.end unfailed (rw (sym h.answer) (h.cause (rw is refl)));
}
run-since device_of faults old new before after answer h left unfailed (Some e) is =
    let kept = h.kept (rw is refl) in
    rw kept.1 (record { left = λ port has. has; counts = λ port has. refl })

pub answer-since : {A B : Type 0} (device_of : B → device.Device) (faults : B → ℕ) (old mid new : List B) → Since device_of faults old mid
    → ((port : ℕ) → has_port device_of port new ≡ true → has_port device_of port mid ≡ true) → (answer : Result A Unstudied)
    → IfErr answer (λ e. HasFailed device_of faults e mid new) → IfErr answer (λ e. HasFailed device_of faults e old new)
answer-since device_of faults old mid new since left (Ok a) failed = tt
answer-since device_of faults old mid new since left (Err e) failed = failed-since device_of faults old mid new since left e failed
