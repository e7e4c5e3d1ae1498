-- The devices of a guarded run that goes on: those that it began with, less those that were taken away.
use Rattle.std.proofs.Common.{◌≡◌, ℕ, zero, suc, ◌+◌, ◌*◌, ◌/◌, ◌%◌, ◌==◌, Bool, true, false, List, map, Result, Ok, Err, None, Some, refl, sym, ap, subst, ◌∙◌, arith}
use Rattle.std.specs.Bool.{if◌then◌else◌}
use Rattle.std.specs.declared.option.Option.{Option}
use Rattle.std.proofs.lemmas.Bool.{eqb-true, eqb-false}
use Rattle.lvdc_map.specs.Address.{Spot}
use Rattle.lvdc_port.specs.Device as device
use Rattle.lvdc_port.specs.declared.requests.PortRequest.TheVariants.{Read, Write}
use Rattle.lvdc_twin.specs.declared.both_bad.BothBad.{BothBad}
use Rattle.lvdc_twin.specs.declared.read_out.ReadOut.{ReadOut}
use Rattle.lvdc_modules.specs.declared.wanted.Wanted.{Wanted}
use Rattle.lvdc_modules.specs.declared.wanted.Wanted.TheVariants.{Nothing, Fetch, Operand, Store, PortRead, PortWrite}
use Rattle.lvdc_fault.specs.declared.verdict.Verdict.{Verdict}
use Rattle.lvdc_fault.specs.declared.verdict.Verdict.TheVariants.{Admissible, Logic, Memory}
use Rattle.lvdc_plain.specs.Run.{plugged}
use Rattle.lvdc_model.specs.Exchanges.{begin_step, exchanges, reading, wished}
use Rattle.lvdc_model.specs.Judging.{judged}
use Rattle.lvdc_model.specs.Runs.{guarded, guarded_by, judged_by}
use Rattle.lvdc_model.specs.Trial.{Trial, devices_left}
use Rattle.lvdc_model.specs.Twins.{read_answer}
use Rattle.lvdc_model.specs.Voted.{Voted}
use Rattle.lvdc_model.specs.declared.outcome.Outcome.{Outcome}
use Rattle.lvdc_cli.specs.Alike.{renewed}
use Rattle.lvdc_command_resume.specs.Restore.{left_before}
use Rattle.lvdc_cli.proofs.Renewing.{AreDevices, renewed-exchange, renewed-plugged, devices-exchange, devices-plugged}
use Rattle.lvdc_cli.proofs.LeftInTime.{left-none, left-next}

-- devices of these ports and kinds
pub record AreOf (first ds : List device.Device) : Type 0 where
  pub devices : AreDevices ds
  pub same : map renewed ds ≡ first

-- ---- an exchange

module _ (first : List device.Device) (o : Trial) (v : Voted) (h : AreOf first v.devices) where
  reading-of : (answer : Result ReadOut BothBad) (at : Spot) → AreOf first (reading answer o v at).devices
  reading-of (Err bad) at = h
  reading-of (Ok r) at = h

  exchange-of : (wanted : Wanted) → AreOf first (exchanges o v wanted).devices
  exchange-of Nothing = h
  exchange-of (Fetch at) = reading-of (read_answer o v.steps v.twins at) at
  exchange-of (Operand at) = reading-of (read_answer o v.steps v.twins at) at
  exchange-of (Store at word) = h
  exchange-of (PortRead port) = record { devices = devices-exchange (Read port) v.devices h.devices; same = renewed-exchange (Read port) v.devices ∙ h.same }
  exchange-of (PortWrite port word) =
      record { devices = devices-exchange (Write port word) v.devices h.devices; same = renewed-exchange (Write port word) v.devices ∙ h.same }

reading-steps : (answer : Result ReadOut BothBad) (o : Trial) (v : Voted) (at : Spot) → (reading answer o v at).end ≡ None
    → (reading answer o v at).steps ≡ suc v.steps
reading-steps (Err bad) o v at none = absurd (cc none)
reading-steps (Ok r) o v at none = refl

exchange-steps : (wanted : Wanted) (o : Trial) (v : Voted) → (exchanges o v wanted).end ≡ None → (exchanges o v wanted).steps ≡ suc v.steps
exchange-steps Nothing o v none = refl
exchange-steps (Fetch at) o v none = reading-steps (read_answer o v.steps v.twins at) o v at none
exchange-steps (Operand at) o v none = reading-steps (read_answer o v.steps v.twins at) o v at none
exchange-steps (Store at word) o v none = refl
exchange-steps (PortRead port) o v none = refl
exchange-steps (PortWrite port word) o v none = refl

-- ---- a step

-- how many times were begun in so many steps
abbrev pub begun : ℕ → ℕ
begun n = (n + 2) / 3

-- the run has come so far without an end, with devices of those that it began with
pub record Goes (o : Trial) (first : List device.Device) (made times : ℕ) (v : Voted) : Type 0 where
  pub steps : v.steps ≡ made
  pub devices : AreOf (left_before o.opening.unplugs times first) v.devices

module _ (o : Trial) (first : List device.Device) where
  judged-goes : (verdict : Verdict) (n times : ℕ) (v : Voted) → (judged_by verdict o v).end ≡ None → Goes o first n times v
      → Goes o first (suc n) times (judged_by verdict o v)
  judged-goes Admissible n times v none h =
      record {
        steps = exchange-steps (wished o v) o v none ∙ ap suc h.steps;
        devices = exchange-of (left_before o.opening.unplugs times first) o v h.devices (wished o v);
      }
  judged-goes (Logic step m) n times v none h = absurd (cc none)
  judged-goes (Memory step at) n times v none h = absurd (cc none)

  -- where a time begins, the devices of its lines are taken away
  left-begun : (b : Bool) (n : ℕ) (ds : List device.Device) → (n % 3 == 0) ≡ b → AreOf (left_before o.opening.unplugs (begun n) first) ds
      → AreOf (left_before o.opening.unplugs (begun (suc n)) first) (if b then plugged o.opening.unplugs (n / 3) ds else ds)
  left-begun true n ds is h =
      let whole = eqb-true (n % 3) 0 is in
      let now : begun n ≡ n / 3 = omega (arith, whole) in
      let later : begun (suc n) ≡ suc (n / 3) = omega (arith, whole) in
      record {
        devices = devices-plugged o.opening.unplugs (n / 3) ds h.devices;
        same = renewed-plugged o.opening.unplugs (n / 3) ds
            ∙ ap (plugged o.opening.unplugs (n / 3)) (h.same ∙ ap (λ (t : ℕ). left_before o.opening.unplugs t first) now)
            ∙ sym (left-next o.opening.unplugs (n / 3) first) ∙ ap (λ (t : ℕ). left_before o.opening.unplugs t first) (sym later);
      }
  left-begun false n ds is h =
      let part = eqb-false (n % 3) 0 is in
      let same : begun n ≡ begun (suc n) = omega (arith, part) in
      subst (λ (t : ℕ). AreOf (left_before o.opening.unplugs t first) ds) same h

  prepared-goes : (n : ℕ) (v : Voted) → Goes o first n (begun n) v → Goes o first n (begun (suc n)) (begin_step o v)
  prepared-goes n v h =
      record {
        steps = h.steps;
        devices = subst (λ (k : ℕ). AreOf (left_before o.opening.unplugs (begun (suc n)) first) (devices_left o.opening.unplugs k v.devices)) (sym h.steps)
            (left-begun (n % 3 == 0) n v.devices refl h.devices);
      }

  step-goes : (end : Option Outcome) (n : ℕ) (v : Voted) → v.end ≡ end → (guarded_by end o v).end ≡ None → (v.end ≡ None → Goes o first n (begun n) v)
      → Goes o first (suc n) (begun (suc n)) (guarded_by end o v)
  step-goes (Some e) n v is none h = absurd (cc (is, none))
  step-goes None n v is none h = judged-goes (judged o v.steps) n (begun (suc n)) (begin_step o v) none (prepared-goes n v (h is))

-- ---- the run

pub run-goes : (o : Trial) (n : ℕ) → AreDevices o.opening.devices → (guarded o n).end ≡ None
    → Goes o (map renewed o.opening.devices) n (begun n) (guarded o n)
run-goes o zero h none =
    record { steps = refl; devices = record { devices = h; same = sym (left-none o.opening.unplugs (map renewed o.opening.devices)) } }
run-goes o (suc n) h none =
    step-goes o (map renewed o.opening.devices) (guarded o n).end n (guarded o n) refl none (λ going. run-goes o n h going)

-- after whole times
pub record HasGone (o : Trial) (n : ℕ) (v : Voted) : Type 0 where
  pub steps : v.steps ≡ 3 * n
  pub devices : AreOf (left_before o.opening.unplugs n (map renewed o.opening.devices)) v.devices

pub times-gone : (o : Trial) (n : ℕ) → AreDevices o.opening.devices → (guarded o (3 * n)).end ≡ None → HasGone o n (guarded o (3 * n))
times-gone o n h none =
    let g = run-goes o (3 * n) h none in
    let times : begun (3 * n) ≡ n = omega arith in
    record {
      steps = g.steps;
      devices = subst (λ (t : ℕ). AreOf (left_before o.opening.unplugs t (map renewed o.opening.devices)) (guarded o (3 * n)).devices) times g.devices;
    }
