-- A plain machine that stands after so many times, of whose devices none has failed, has run plainly.
use Rattle.std.proofs.Common.{◌≡◌, ℕ, ◌-◌, ◌*◌, List, sym, ap, ◌∙◌, arith}
use Rattle.std.specs.declared.option.Option.{Option}
use Rattle.std.specs.declared.option.Option.TheVariants.{None, Some}
use Rattle.lvdc_port.specs.Device as device
use Rattle.lvdc_plain.specs.Run.{Opening, run}
use Rattle.lvdc_plain.specs.Stands as plain
use Rattle.lvdc_plain.specs.View as plain_view
use Rattle.lvdc_plain.specs.declared.records.PlainEnd.{PlainEnd}
use Rattle.lvdc_plain.specs.declared.records.PlainEnd.TheVariants as plain_ends
use Rattle.lvdc_plain.specs.declared.records.Stop.{Stop}
use Rattle.lvdc_runs.specs.Ran.{HasRunPlainly, NonePlainlyFailed}
use Rattle.lvdc_runs.specs.Same.{end_by}

-- it shows the plain run with its end
plain-end : (p : Opening) (n : ℕ) (m : plain_view.View) (ds : List device.Device) (end : Option PlainEnd) → NonePlainlyFailed end → plain.EndsAs p n m ds end
    → plain.Shows m (run p n).plain × (end ≡ end_by (run p n).plain.stop (run p n).plain.times)
plain-end p n m ds None u r = (r.shows, sym (ap (λ (s : Option Stop). end_by s (run p n).plain.times) r.stop))
plain-end p n m ds (Some plain_ends.Done) u r = absurd r
plain-end p n m ds (Some (plain_ends.Stopped step stop)) u r =
    let times = r.shows.times in
    let is = r.step in
    let last : step ≡ 3 * (run p n).plain.times - 1 = omega (arith, times, is) in
    (r.shows, ap (λ (k : ℕ). Some (plain_ends.Stopped k stop)) last ∙ sym (ap (λ (s : Option Stop). end_by s (run p n).plain.times) r.stop))
plain-end p n m ds (Some (plain_ends.Device step port)) u r = absurd u

pub ran-plainly : (p : Opening) (n : ℕ) (m : plain_view.View) (ds : List device.Device) → m.banks ≡ p.banks → plain.Stands p n m ds → NonePlainlyFailed m.end
    → HasRunPlainly p n m
ran-plainly p n m ds banks stands unfailed =
    let both = plain-end p n m ds m.end unfailed stands.ends in
    record { banks = banks; shows = both.0; end = both.1 }
