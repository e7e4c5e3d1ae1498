-- The plain run without devices has none after any number of times.
use Rattle.std.proofs.Common.{◌≡◌, ℕ, zero, suc, Bool, true, false, List, [], ◌∷◌, ◌==◌, refl, sym, ap, ◌∙◌}
use Rattle.std.specs.Bool.{if◌then◌else◌}
use Rattle.std.specs.declared.option.Option.{Option}
use Rattle.std.specs.declared.option.Option.TheVariants.{None, Some}
use Rattle.lvdc_port.specs.Device.{Device}
use Rattle.lvdc_port.specs.Devices.{without}
use Rattle.lvdc_port.specs.Supplies.{supplied}
use Rattle.lvdc_port.specs.declared.requests.PortRequest.{PortRequest}
use Rattle.lvdc_port.specs.declared.requests.Supply.{Supply}
use Rattle.lvdc_plain.specs.Plain.{PlainState, World}
use Rattle.lvdc_plain.specs.Run.{Opening, run, time_by, left_at, plugged}
use Rattle.lvdc_plain.specs.Table.{fetched_instr, request_by, exchanged, step_by, step}
use Rattle.lvdc_plain.specs.declared.records.Stop.{Stop}
use Rattle.lvdc_plain.specs.declared.records.Unplug.{Unplug}
use Rattle.lvdc_study.specs.Study.{opening_over}
use Rattle.lvdc_study.specs.declared.program.Program.{Program}

supplied-none : (supplies : List Supply) → supplied supplies [] ≡ []
supplied-none [] = refl
supplied-none (supply ∷ supplies) = supplied-none supplies

taken-none : (now : Bool) (port : ℕ) → (if now then without (λ (device : Device). device) port [] else []) ≡ []
taken-none true port = refl
taken-none false port = refl

left-none : (lines : List Unplug) (time : ℕ) → plugged lines time [] ≡ []
left-none [] time = refl
left-none (line ∷ lines) time = ap (left_at (λ (device : Device). device) lines time) (taken-none (line.time == time) line.port) ∙ left-none lines time

exchanged-none : (r : Option PortRequest) → exchanged r [] ≡ []
exchanged-none None = refl
exchanged-none (Some request) = refl

step-none : (stop : Option Stop) (hold : ℕ) (p : PlainState) → (step_by stop hold p []).devices ≡ []
step-none (Some s) hold p = refl
step-none None (suc hold) p = refl
step-none None zero p = exchanged-none (request_by (fetched_instr p).op p (fetched_instr p).address)

time-none : (stop : Option Stop) (lines : List Unplug) (w : World) → w.devices ≡ [] → (time_by stop lines w).devices ≡ []
time-none (Some s) lines w none = none
time-none None lines w none =
    ap (λ ds. (step w.plain ds).devices) (ap (plugged lines w.plain.times) none ∙ left-none lines w.plain.times) ∙ step-none w.plain.stop w.plain.hold w.plain

run-none : (o : Opening) → o.devices ≡ [] → (n : ℕ) → (run o n).devices ≡ []
run-none o none zero = none
run-none o none (suc n) = time-none (run o n).plain.stop o.unplugs (run o n) (run-none o none n)

-- so devices that aren't there are where the plain run has them
pub stay-none : (p : Program) (n : ℕ) (devices : List Device) → devices ≡ [] → devices ≡ (run (opening_over p devices) n).devices
stay-none p n devices none =
    none ∙ sym (run-none (opening_over p devices) (ap (supplied p.supplies.now) none ∙ supplied-none p.supplies.now) n)
