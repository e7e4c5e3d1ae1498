-- What a machine that has replayed a trial has counted.
use Rattle.std.proofs.Common.{◌≡◌, ℕ, zero, suc, ◌+◌, ◌-◌, ◌*◌, ◌≤◌, cond, refl, sym, ap, ◌∙◌, add-zero, add-suc, arith}
use Rattle.lvdc_plain.specs.Run.{IsOpening}
use Rattle.lvdc_fault.specs.declared.verdict.Verdict.{Verdict}
use Rattle.lvdc_fault.specs.declared.verdict.Verdict.TheVariants.{Admissible, Logic, Memory}
use Rattle.lvdc_model.specs.Judging.{is_begun, judged, or_else, first_bad, first_bad_below}
use Rattle.lvdc_model.specs.Runs.{through, guarded}
use Rattle.lvdc_model.specs.Trial.{Trial}
use Rattle.lvdc_model.specs.Voted.{Voted}
use Rattle.lvdc_machine.specs.View.{View}
use Rattle.lvdc_study.specs.Waypoints.{HasReplayed}

-- it has the counts and the repairs of the run through every fault
pub replayed-counts : ((o : Trial) (n : ℕ) → IsOpening o.opening → first_bad_below o n ≡ Admissible → through o n ≡ guarded o n)
    → (o : Trial) (times lines : ℕ) (m : View) → IsOpening o.opening → HasReplayed o times lines m → first_bad o times ≡ Admissible
    → (m.counts ≡ (through o (3 * times)).counts) × (m.repairs ≡ (through o (3 * times)).repairs)
replayed-counts goes o times lines m opens h good =
    let same = goes o (3 * times) opens good in (
      h.shows.counts ∙ ap (λ (v : Voted). v.counts) h.same ∙ sym (ap (λ (v : Voted). v.counts) same),
      h.shows.repairs ∙ ap (λ (v : Voted). v.repairs) h.same ∙ sym (ap (λ (v : Voted). v.repairs) same),
    )

first-good : (a b : Verdict) → or_else a b ≡ Admissible → a ≡ Admissible
first-good Admissible b h = refl
first-good (Logic step m) b h = absurd (cc)
first-good (Memory step at) b h = absurd (cc)

good-below : (o : Trial) (n more : ℕ) → first_bad_below o (n + more) ≡ Admissible → first_bad_below o n ≡ Admissible
good-below o n zero h = ap (first_bad_below o) (sym (add-zero n)) ∙ h
good-below o n (suc more) h =
    good-below o n more
    (first-good (first_bad_below o (n + more)) (cond (is_begun o (n + more)) (judged o (n + more)) Admissible) (ap (first_bad_below o) (sym (add-suc n more)) ∙ h))

-- where all steps of a count are admissible, so are those of fewer times
pub admissible-early : (o : Trial) (times count : ℕ) → times ≤ count → first_bad o count ≡ Admissible → first_bad o times ≡ Admissible
admissible-early o times count within h =
    let whole : 3 * times + (3 * count - 3 * times) ≡ 3 * count = omega (arith, within) in
    good-below o (3 * times) (3 * count - 3 * times) (ap (first_bad_below o) whole ∙ h)
