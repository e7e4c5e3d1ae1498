-- The log of a plain run is the beginning of its later logs.
use Rattle.std.proofs.Common.{◌≡◌, ℕ, zero, suc, ◌+◌, ◌-◌, ◌≤◌, List, [], ◌++◌, refl, sym, ap, ◌∙◌, subst, append_assoc, add-zero, add-suc, arith}
use Rattle.std.proofs.lemmas.List.{append-nil}
use Rattle.std.specs.declared.option.Option.{Option}
use Rattle.std.specs.declared.option.Option.TheVariants.{None, Some}
use Rattle.lvdc_port.specs.Device.{Device}
use Rattle.lvdc_modules.specs.declared.wanted.Wanted.{Wanted}
use Rattle.lvdc_modules.specs.declared.wanted.Wanted.TheVariants as wanted
use Rattle.lvdc_plain.specs.Plain.{World}
use Rattle.lvdc_plain.specs.Run.{Opening, plugged, time_by, run}
use Rattle.lvdc_plain.specs.declared.records.Exchange.{Exchange}
use Rattle.lvdc_plain.specs.declared.records.Stop.{Stop}
use Rattle.lvdc_plain.specs.declared.records.Unplug.{Unplug}
use Rattle.lvdc_laws_phases.specs.Exchanges.{made}
use Rattle.lvdc_laws_voted.specs.Laws.{PortLaw}
use Rattle.lvdc_laws_voted.specs.Leaves.{log_after}
use Rattle.lvdc_study.specs.Waypoints.{IsPrefix}

begins-self : (log : List Exchange) → IsPrefix log log
begins-self log = record { rest = []; is = append-nil log }

begins-on : (one two three : List Exchange) → IsPrefix one two → IsPrefix two three → IsPrefix one three
begins-on one two three early late = record {
  rest = early.rest ++ late.rest;
  is = sym (append_assoc one early.rest late.rest) ∙ ap (λ (log : List Exchange). log ++ late.rest) early.is ∙ late.is;
}

exchange-begins : (w : Wanted) (log : List Exchange) (left : List Device) (time : ℕ) → IsPrefix log (log_after w log left time)
exchange-begins (wanted.PortRead port) log left time = record { rest = _; is = refl }
exchange-begins (wanted.PortWrite port word) log left time = record { rest = _; is = refl }
exchange-begins (wanted.Store at word) log left time = begins-self log
exchange-begins (wanted.Fetch at) log left time = begins-self log
exchange-begins (wanted.Operand at) log left time = begins-self log
exchange-begins wanted.Nothing log left time = begins-self log

time-begins : PortLaw → (stop : Option Stop) (unplugs : List Unplug) (w : World) → w.plain.stop ≡ stop → IsPrefix w.plain.log (time_by stop unplugs w).plain.log
time-begins law (Some why) unplugs w is = begins-self w.plain.log
time-begins law None unplugs w is =
    let p = w.plain in
    let left = plugged unplugs p.times w.devices in
    let leaves = law p left is in
    subst (λ (log : List Exchange). IsPrefix p.log log) (sym leaves.log) (exchange-begins (made p.stop p.hold p) p.log left p.times)

run-begins : PortLaw → (o : Opening) (n more : ℕ) → IsPrefix (run o n).plain.log (run o (n + more)).plain.log
run-begins law o n zero = subst (λ (k : ℕ). IsPrefix (run o n).plain.log (run o k).plain.log) (sym (add-zero n)) (begins-self (run o n).plain.log)
run-begins law o n (suc more) =
    let w = run o (n + more) in
    subst (λ (k : ℕ). IsPrefix (run o n).plain.log (run o k).plain.log) (sym (add-suc n more))
    (begins-on (run o n).plain.log w.plain.log (run o (suc (n + more))).plain.log (run-begins law o n more) (time-begins law w.plain.stop o.unplugs w refl))

pub log-begins : PortLaw → (o : Opening) (times count : ℕ) → times ≤ count → IsPrefix (run o times).plain.log (run o count).plain.log
log-begins law o times count within =
    let whole : times + (count - times) ≡ count = omega (arith, within) in
    subst (λ (k : ℕ). IsPrefix (run o times).plain.log (run o k).plain.log) whole (run-begins law o times (count - times))
