-- The devices that lines of earlier times have taken away: time after time, or line after line.
use Rattle.std.proofs.Common.{◌≡◌, ℕ, suc, ◌<◌, ◌≤◌, ◌==◌, nat_lt, Bool, true, false, List, [], ◌∷◌, refl, sym, ap, ◌∙◌, arith, inl, inr, ◌⊎◌}
use Rattle.std.specs.Bool.{if◌then◌else◌}
use Rattle.std.proofs.lemmas.Bool.{lt-ltb, le-ltb, eq-eqb, ne_eqb, eqb-true, cases_lt}
use Rattle.lvdc_port.specs.Device.{Device}
use Rattle.lvdc_port.specs.Devices.{without}
use Rattle.lvdc_plain.specs.Run.{plugged}
use Rattle.lvdc_plain.specs.declared.records.Unplug.{Unplug}
use Rattle.lvdc_command_resume.specs.Restore.{left_before}

-- two devices are taken away in either order
without-swap : (p q : ℕ) (ds : List Device) → without (λ d. d) p (without (λ d. d) q ds) ≡ without (λ d. d) q (without (λ d. d) p ds)
without-swap p q [] = refl
without-swap p q (d ∷ ds) = by_ports (without-swap p q ds) (d.port == p) (d.port == q) refl refl
  where
    by_ports : without (λ x. x) p (without (λ x. x) q ds) ≡ without (λ x. x) q (without (λ x. x) p ds) → (a b : Bool) → (d.port == p) ≡ a → (d.port == q) ≡ b
        → without (λ x. x) p (without (λ x. x) q (d ∷ ds)) ≡ without (λ x. x) q (without (λ x. x) p (d ∷ ds))
    by_ports rest true true at_p at_q = rw (at_p, at_q) (ap (λ (r : ℕ). without (λ x. x) r ds) (sym (eqb-true d.port p at_p) ∙ eqb-true d.port q at_q))
    by_ports rest true false at_p at_q = rw (at_p, at_q) (rw at_p refl)
    by_ports rest false true at_p at_q = rw (at_p, at_q) refl
    by_ports rest false false at_p at_q = rw (at_p, at_q) (rw at_p (ap (λ (xs : List Device). d ∷ xs) rest))

pub left-without : (lines : List Unplug) (times port : ℕ) (ds : List Device)
    → left_before lines times (without (λ d. d) port ds) ≡ without (λ d. d) port (left_before lines times ds)
left-without [] times port ds = refl
left-without (line ∷ lines) times port ds =
    elim (nat_lt line.time times) as (λ t. left_before lines times (if t then without (λ x. x) line.port (without (λ x. x) port ds) else without (λ x. x) port ds)
    ≡ without (λ x. x) port (left_before lines times (if t then without (λ x. x) line.port ds else ds))) [
      | true ↦ ap (left_before lines times) (without-swap line.port port ds) ∙ left-without lines times port (without (λ x. x) line.port ds)
      | false ↦ left-without lines times port ds
    ]

-- no line is of a time before the first
pub left-none : (lines : List Unplug) (ds : List Device) → left_before lines 0 ds ≡ ds
left-none [] ds = refl
left-none (line ∷ lines) ds = rw (le-ltb line.time 0 (omega arith)) (left-none lines ds)

-- one time more
pub left-next : (lines : List Unplug) (time : ℕ) (ds : List Device) → left_before lines (suc time) ds ≡ plugged lines time (left_before lines time ds)
left-next [] time ds = refl
left-next (line ∷ lines) time ds = by_time (left-next lines time) (cases_lt line.time time) (cases_lt time line.time)
  where
    taken : List Device
    taken = without (λ d. d) line.port ds

    by_time : ((left : List Device) → left_before lines (suc time) left ≡ plugged lines time (left_before lines time left))
        → (line.time < time) ⊎ (time ≤ line.time) → (time < line.time) ⊎ (line.time ≤ time)
        → left_before (line ∷ lines) (suc time) ds ≡ plugged (line ∷ lines) time (left_before (line ∷ lines) time ds)
    by_time next (inl early) now =
        rw (lt-ltb line.time (suc time) (omega (arith, early)), lt-ltb line.time time early, ne_eqb line.time time (λ e. omega (arith, early, e)))
        (next taken)
    by_time next (inr not_early) (inl late) =
        rw (le-ltb line.time (suc time) (omega (arith, late)), le-ltb line.time time not_early, ne_eqb line.time time (λ e. omega (arith, late, e)))
        (next ds)
    by_time next (inr not_early) (inr not_late) =
        rw (lt-ltb line.time (suc time) (omega (arith, not_late)), le-ltb line.time time not_early, eq-eqb line.time time (omega (arith, not_early, not_late)))
        (next taken ∙ ap (plugged lines time) (left-without lines time line.port ds))
