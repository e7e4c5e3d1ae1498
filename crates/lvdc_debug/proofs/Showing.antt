-- What a guarded machine that stands shows is the state of the session.
use Rattle.std.proofs.Common.{◌≡◌, ℕ, ◌*◌, List, true, None, Some, ap, subst, ◌∙◌, arith}
use Rattle.std.specs.Prelude.{nat_lt}
use Rattle.std.specs.declared.option.Option.{Option}
use Rattle.std.proofs.lemmas.Bool.Decides.{nat_tests}
use Rattle.lvdc_port.specs.Device as device
use Rattle.lvdc_model.specs.Exchanges.{begin_step, with_end}
use Rattle.lvdc_model.specs.Runs.{guarded, alone}
use Rattle.lvdc_model.specs.Trial.{Trial}
use Rattle.lvdc_model.specs.Voted.{Voted}
use Rattle.lvdc_model.specs.declared.outcome.Outcome.{Outcome}
use Rattle.lvdc_model.specs.declared.outcome.Outcome.TheVariants.{Done, Stopped, Inadmissible, Device}
use Rattle.lvdc_machine.specs.Stands.{Stands, EndsAs, state_by}
use Rattle.lvdc_machine.specs.View.{View}
use Rattle.lvdc_machine.specs.declared.mode.Mode.{Mode}
use Rattle.lvdc_machine.specs.declared.mode.Mode.TheVariants.{Guarded}
use Rattle.lvdc_debug.specs.Session.{state_after}
use Rattle.lvdc_debug.specs.Session.{times_asked}
use Rattle.lvdc_debug.specs.Standing.{failure_of, subject_of, StandsAfter}

-- the state of a guarded machine is that of the guarded run, as the end that it keeps left it
by_end : (o : Trial) (times steps : ℕ) (end : Option Outcome) → ((k : ℕ) → alone o k ≡ guarded o k) → EndsAs end o (3 * times) Guarded steps
    → state_by end Guarded o (3 * times) ≡ state_after (failure_of end) o times
by_end o times steps None same ends = same (3 * times)
by_end o times steps (Some Done) same ends = same (3 * times)
by_end o times steps (Some (Stopped step stop)) same ends = same (3 * times)
by_end o times steps (Some (Inadmissible verdict)) same ends = same (3 * times)
by_end o times steps (Some (Device step port)) same ends =
    let e = ends.early in
    let early : nat_lt step (3 * times) ≡ true = grind (arith, nat_tests) in
    rw early (ap (λ (v : Voted). with_end (begin_step o v) (Device step port)) (same step))

pub state_shown : (o : Trial) (times : ℕ) (m : View) (ds : List device.Device) → ((k : ℕ) → alone o k ≡ guarded o k) → m.mode ≡ Guarded
    → Stands o (3 * times) m ds → state_by m.end m.mode o (3 * times) ≡ state_after (failure_of m.end) o times
state_shown o times m ds same mode s =
    ap (λ (k : Mode). state_by m.end k o (3 * times)) mode
    ∙ by_end o times m.steps m.end same (subst (λ (k : Mode). EndsAs m.end o (3 * times) k m.steps) mode s.ends)

-- after the times for which lines ask
pub stands_after : (o : Trial) (texts : List (List ℕ)) (asked : ℕ) (m : View) (ds : List device.Device) → ((k : ℕ) → alone o k ≡ guarded o k) → m.mode ≡ Guarded
    → asked ≡ times_asked (subject_of o m) texts → Stands o (3 * asked) m ds → StandsAfter o texts m ds
stands_after o texts asked m ds same mode is s =
    let there : Stands o (3 * times_asked (subject_of o m) texts) m ds = subst (λ (k : ℕ). Stands o (3 * k) m ds) is s in
    let v = state_shown o (times_asked (subject_of o m) texts) m ds same mode there in
    record {
      stands = there;
      left = there.shows.left ∙ ap (λ (x : Voted). x.devices) v;
      end = there.shows.end ∙ ap (λ (x : Voted). x.end) v;
    }
