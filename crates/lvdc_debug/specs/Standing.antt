-- When a machine and its devices stand where a session is.
use Rattle.std.specs.Prelude.{◌≡◌, ℕ, ◌*◌, ◌≤◌, ◌<◌, List, length, map, take, AllPairs, Option, None, Some}
use Rattle.lvdc_port.specs.Device as device
use Rattle.lvdc_port.specs.Devices.{has_port, count_at}
use Rattle.lvdc_plain.specs.Lists.{AreFit}
use Rattle.lvdc_text.specs.Lines.{part_of}
use Rattle.lvdc_text.specs.declared.cutting.Line.{Line}
use Rattle.lvdc_plain.specs.Run.{IsOpening}
use Rattle.lvdc_model.specs.declared.outcome.Outcome.{Outcome}
use Rattle.lvdc_model.specs.declared.outcome.Outcome.TheVariants.{Device}
use Rattle.lvdc_model.specs.Trial.{Trial}
use Rattle.lvdc_machine.specs.Causes.{Caused}
use Rattle.lvdc_machine.specs.Room.{exchanges_to_come}
use Rattle.lvdc_machine.specs.Stands.{Stands}
use Rattle.lvdc_machine.specs.View.{View, answer_of_end}
use Rattle.lvdc_machine.specs.declared.mode.Mode.TheVariants.{Guarded}
use Rattle.lvdc_debug.specs.Session.{Failure, Subject, state_after, times_asked}

-- the texts of the lines of commands
abbrev pub command_texts : List ℕ → List Line → List (List ℕ)
command_texts bytes commands = map (part_of bytes) commands

-- each line ends before the next one begins
abbrev pub AreApart : List Line → Type 0
AreApart lines = AllPairs (λ before after. before.end < after.start) lines

-- the failure that an end is, if it is one
abbrev pub failure_of : Option Outcome → Option Failure
failure_of (Some (Device step port)) = Some (record { step = step; port = port })
failure_of end = None

-- what the machine has run of a trial, with the end that it keeps
abbrev pub subject_of : Trial → View → Subject
subject_of o m = record { trial = o; state = state_after (failure_of m.end) o; limit = m.limit }

-- up to so many times this is what the machine has run of the trial
pub record IsSubject (o : Trial) (m : View) (asked : ℕ) (s : Subject) : Type 0 where
  pub trial : s.trial ≡ o
  pub limit : s.limit ≡ m.limit
  pub state : (times : ℕ) → times ≤ asked → s.state times ≡ state_after (failure_of m.end) o times

-- an end has its cause in the devices' counts of faults, which at first were these
abbrev pub CausedSince : {B : Type 0} → (B → device.Device) → (B → ℕ) → (ℕ → ℕ) → Option Outcome → List B → Type 0
CausedSince device_of faults first end devices =
    Caused (answer_of_end end) first (λ port. count_at device_of faults port devices) (λ port. has_port device_of port devices)

-- a machine stands at the start of a trial whose opening is one of words
pub record AtStart (o : Trial) (m : View) (devices : List device.Device) : Type 0 where
  pub opening : IsOpening o.opening
  pub stands : Stands o 0 m devices

-- a guarded machine of this limit that has made no more than so many times, and devices that are fit for it
pub record IsReady {B : Type 0} (device_of : B → device.Device) (spare : B → ℕ) (asked limit : ℕ) (m : View) (devices : List B) : Type 0 where
  pub mode : m.mode ≡ Guarded
  pub limit_is : m.limit ≡ limit
  pub few : asked ≤ limit
  pub made : m.steps ≤ 3 * asked
  pub fit : AreFit device_of spare (exchanges_to_come m) devices

-- a machine that went on from so many times to so many stands there, and what it had run before is the same
pub record GoesOn (o : Trial) (from to : ℕ) (before after : View) (devices : List device.Device) : Type 0 where
  pub stands : Stands o (3 * to) after devices
  pub same : (times : ℕ) → times ≤ from → state_after (failure_of after.end) o times ≡ state_after (failure_of before.end) o times

-- machine and devices went on so for each trial for which they stood, and the end has its cause
pub record Moves {B : Type 0} (device_of : B → device.Device) (faults : B → ℕ) (from to : ℕ) (before after : View) (old new : List B) : Type 0 where
  pub forward : from ≤ to
  pub goes : (o : Trial) → Stands o (3 * from) before (map device_of old) → GoesOn o from to before after (map device_of new)
  pub cause : (first : ℕ → ℕ) → CausedSince device_of faults first before.end old → CausedSince device_of faults first after.end new

-- they stand after the times for which these lines ask, and what is left and the end are those of the state then
pub record StandsAfter (o : Trial) (texts : List (List ℕ)) (m : View) (devices : List device.Device) : Type 0 where
  pub stands : Stands o (3 * times_asked (subject_of o m) texts) m devices
  pub left : devices ≡ (state_after (failure_of m.end) o (times_asked (subject_of o m) texts)).devices
  pub end : m.end ≡ (state_after (failure_of m.end) o (times_asked (subject_of o m) texts)).end

-- so they stand after the first so many of the lines
pub record StandsAmid (o : Trial) (texts : List (List ℕ)) (m : View) (devices : List device.Device) : Type 0 where
  pub count : ℕ
  pub within : count ≤ length texts
  pub after : StandsAfter o (take count texts) m devices
