-- A plain run that has made no port exchange leaves the devices as they were, if none is taken away.
use Rattle.std.proofs.Common.{◌≡◌, ℕ, zero, suc, List, [], ◌∷◌, ◌++◌, refl, sym, ap, ◌∙◌}
use Rattle.std.specs.declared.option.Option.{Option}
use Rattle.std.specs.declared.option.Option.TheVariants.{None, Some}
use Rattle.lvdc_port.specs.Device.{Device}
use Rattle.lvdc_modules.specs.declared.wanted.Wanted.{Wanted}
use Rattle.lvdc_modules.specs.declared.wanted.Wanted.TheVariants as wanted
use Rattle.lvdc_plain.specs.Plain.{World}
use Rattle.lvdc_plain.specs.Run.{Opening, plugged, time_by, run}
use Rattle.lvdc_plain.specs.declared.records.Exchange.{Exchange}
use Rattle.lvdc_plain.specs.declared.records.Stop.{Stop}
use Rattle.lvdc_plain.specs.declared.records.Unplug.{Unplug}
use Rattle.lvdc_laws_phases.specs.Exchanges.{made}
use Rattle.lvdc_laws_voted.specs.Laws.{PortLaw}
use Rattle.lvdc_laws_voted.specs.Leaves.{devices_after, log_after}

-- ---- one time

-- a list with one line more isn't empty
not-empty : (lines : List Exchange) (line : Exchange) → lines ++ line ∷ [] ≡ [] → ⊥
not-empty [] line e = cc
not-empty (first ∷ rest) line e = cc

-- an exchange that leaves the log empty leaves the devices as they are
quiet-exchange : (w : Wanted) (log : List Exchange) (left : List Device) (time : ℕ) → log_after w log left time ≡ [] → (log ≡ []) × (devices_after w left ≡ left)
quiet-exchange (wanted.PortRead port) log left time e = absurd (not-empty log _ e)
quiet-exchange (wanted.PortWrite port word) log left time e = absurd (not-empty log _ e)
quiet-exchange wanted.Nothing log left time e = (e, refl)
quiet-exchange (wanted.Fetch at) log left time e = (e, refl)
quiet-exchange (wanted.Operand at) log left time e = (e, refl)
quiet-exchange (wanted.Store at word) log left time e = (e, refl)

quiet-time : PortLaw → (stop : Option Stop) (unplugs : List Unplug) (w : World) → w.plain.stop ≡ stop → unplugs ≡ [] → (time_by stop unplugs w).plain.log ≡ []
    → (w.plain.log ≡ []) × ((time_by stop unplugs w).devices ≡ w.devices)
quiet-time law (Some s) unplugs w is none e = (e, refl)
quiet-time law None unplugs w is none e =
    let p = w.plain in
    let left = plugged unplugs p.times w.devices in
    let leaves = law p left is in
    let quiet = quiet-exchange (made p.stop p.hold p) p.log left p.times (sym leaves.log ∙ e) in
    (quiet.0, leaves.devices ∙ quiet.1 ∙ ap (λ (lines : List Unplug). plugged lines p.times w.devices) none)

-- ---- all times

pub quiet-run : PortLaw → (o : Opening) → o.unplugs ≡ [] → (n : ℕ) → (run o n).plain.log ≡ [] → (run o n).devices ≡ o.devices
quiet-run law o none zero e = refl
quiet-run law o none (suc n) e =
    let quiet = quiet-time law (run o n).plain.stop o.unplugs (run o n) refl none e in
    quiet.1 ∙ quiet-run law o none n quiet.0
