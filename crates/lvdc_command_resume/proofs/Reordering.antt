-- A voted machine whose devices stand in another order makes the same steps.
use Rattle.std.proofs.Common.{◌≡◌, ℕ, zero, suc, ◌%◌, ◌==◌, Bool, true, false, List, Result, Ok, Err, refl, sym, subst, if◌then◌else◌}
use Rattle.std.specs.declared.option.Option.{Option}
use Rattle.std.specs.declared.option.Option.TheVariants.{None, Some}
use Rattle.lvdc_twin.specs.declared.both_bad.BothBad.{BothBad}
use Rattle.lvdc_twin.specs.declared.read_out.ReadOut.{ReadOut}
use Rattle.lvdc_map.specs.Address.{Spot}
use Rattle.lvdc_port.specs.Device as device
use Rattle.lvdc_port.specs.Devices.{after_exchange}
use Rattle.lvdc_port.specs.declared.requests.PortRequest.TheVariants as requests
use Rattle.lvdc_fault.specs.declared.verdict.Verdict.{Verdict}
use Rattle.lvdc_fault.specs.declared.verdict.Verdict.TheVariants.{Admissible, Logic, Memory}
use Rattle.lvdc_modules.specs.declared.wanted.Wanted.{Wanted}
use Rattle.lvdc_modules.specs.declared.wanted.Wanted.TheVariants.{Nothing, Fetch, Operand, Store, PortRead, PortWrite}
use Rattle.lvdc_model.specs.declared.outcome.Outcome.{Outcome}
use Rattle.lvdc_model.specs.Exchanges.{begin_step, latches, logged, device_time, port_word, reading, exchanges, wished}
use Rattle.lvdc_model.specs.Runs.{own_verdict, judged_by, alone_by, alone_step}
use Rattle.lvdc_model.specs.Trial.{Trial, devices_left, plugged_at}
use Rattle.lvdc_model.specs.Twins.{read_answer}
use Rattle.lvdc_model.specs.Voted.{Voted}
use Rattle.lvdc_machine.specs.Steps.{run_from}
use Rattle.lvdc_machine.specs.declared.mode.Mode.TheVariants.{Guarded}
use Rattle.lvdc_plain.specs.declared.records.Unplug.{Unplug}
use Rattle.lvdc_command_resume.specs.Reordered.{AreReordered}
use Rattle.lvdc_command_resume.proofs.InAnyOrder.{word-reordered, exchange-reordered, left-reordered}

-- the state with these devices
abbrev pub with_devices : Voted → List device.Device → Voted
with_devices v devices = record v { devices = devices }

-- the other state is this one, but for the order of the devices
pub record IsReordered (v other : Voted) : Type 0 where
  pub devices : List device.Device
  pub is : other ≡ with_devices v devices
  pub reordered : AreReordered v.devices devices

module _ (o : Trial) where
  module _ (v : Voted) (devices : List device.Device) (re : AreReordered v.devices devices) where
    read-by : (at : Spot) (found : Result ReadOut BothBad) → IsReordered (reading found o v at) (reading found o (with_devices v devices) at)
    read-by at (Ok r) = record { devices = devices; is = refl; reordered = re }
    read-by at (Err bad) = record { devices = devices; is = refl; reordered = re }

    -- a read of a port, by the word that it answers
    asked : (port word : ℕ) → port_word v (requests.Read port) ≡ word
        → IsReordered (exchanges o v (PortRead port))
        (latches o (record v { devices = after_exchange (requests.Read port) devices; log = logged v port true word }) 0 word)
    asked port word is =
        subst (λ (w : ℕ). IsReordered (exchanges o v (PortRead port))
        (latches o (record v { devices = after_exchange (requests.Read port) devices; log = logged v port true w }) 0 w)) is
        (record { devices = after_exchange (requests.Read port) devices; is = refl; reordered = exchange-reordered (requests.Read port) v.devices devices re })

    made : (wanted : Wanted) → IsReordered (exchanges o v wanted) (exchanges o (with_devices v devices) wanted)
    made Nothing = record { devices = devices; is = refl; reordered = re }
    made (Fetch at) = read-by at (read_answer o v.steps v.twins at)
    made (Operand at) = read-by at (read_answer o v.steps v.twins at)
    made (Store at word) = record { devices = devices; is = refl; reordered = re }
    made (PortRead port) = asked port (port_word (with_devices v devices) (requests.Read port)) (sym (word-reordered (requests.Read port) (device_time v) v.devices devices re))
    made (PortWrite port word) =
        record { devices = after_exchange (requests.Write port word) devices; is = refl; reordered = exchange-reordered (requests.Write port word) v.devices devices re }

    judged-so : (verdict : Verdict) → IsReordered (judged_by verdict o v) (judged_by verdict o (with_devices v devices))
    judged-so Admissible = made (wished o v)
    judged-so (Logic step m) = record { devices = devices; is = refl; reordered = re }
    judged-so (Memory step at) = record { devices = devices; is = refl; reordered = re }

  unplugged : (begins : Bool) (unplugs : List Unplug) (step : ℕ) (old new : List device.Device) → AreReordered old new
      → AreReordered (if begins then plugged_at unplugs step old else old) (if begins then plugged_at unplugs step new else new)
  unplugged true unplugs step old new re = left-reordered unplugs _ old new re
  unplugged false unplugs step old new re = re

  stepped-by : (v : Voted) (devices : List device.Device) → AreReordered v.devices devices → (end : Option Outcome)
      → IsReordered (alone_by end o v) (alone_by end o (with_devices v devices))
  stepped-by v devices re (Some e) = record { devices = devices; is = refl; reordered = re }
  stepped-by v devices re None =
      judged-so (begin_step o v) (devices_left o.opening.unplugs v.steps devices)
      (unplugged (v.steps % 3 == 0) o.opening.unplugs v.steps v.devices devices re) (own_verdict o (begin_step o v))

  stepped : (v : Voted) (devices : List device.Device) → AreReordered v.devices devices → IsReordered (alone_step o v) (alone_step o (with_devices v devices))
  stepped v devices re = stepped-by v devices re v.end

  further : (v other : Voted) → IsReordered v other → IsReordered (alone_step o v) (alone_step o other)
  further v other so_far =
      subst (λ (w : Voted). IsReordered (alone_step o v) (alone_step o w)) (sym so_far.is) (stepped v so_far.devices so_far.reordered)

  pub run-reordered : (v : Voted) (devices : List device.Device) → AreReordered v.devices devices → (n : ℕ)
      → IsReordered (run_from Guarded o v n) (run_from Guarded o (with_devices v devices) n)
  run-reordered v devices re zero = record { devices = devices; is = refl; reordered = re }
  run-reordered v devices re (suc n) = further (run_from Guarded o v n) (run_from Guarded o (with_devices v devices) n) (run-reordered v devices re n)
