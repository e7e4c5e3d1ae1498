-- An admissible script makes at most one copy of each module fail in each step.
use Rattle.std.proofs.Common.{◌≡◌, ℕ, zero, suc, ◌<◌, ◌≤◌, false, cond, List, ◌⊎◌, refl, inl, inr, subst, sym, ◌∙◌, arith}
use Rattle.std.specs.declared.option.Option.TheVariants.{None, Some}
use Rattle.std.proofs.lemmas.Bool.{cases_lt}
use Rattle.lvdc_plain.specs.Run.{IsOpening}
use Rattle.lvdc_fault.specs.Script.{is_wrong, are_two, wrong_module, NoneWrong}
use Rattle.lvdc_fault.specs.declared.event.Event.{Event}
use Rattle.lvdc_fault.specs.declared.verdict.Verdict.TheVariants as verdicts
use Rattle.lvdc_laws_phases.specs.Standing.{Standing}
use Rattle.lvdc_model.specs.declared.outcome.Outcome.TheVariants.{Stopped}
use Rattle.lvdc_model.specs.Trial.{Trial}
use Rattle.lvdc_model.specs.Judging.{judged, is_begun, first_bad_below}
use Rattle.lvdc_model.specs.Runs.{guarded}
use Rattle.lvdc_laws_voted.specs.Relation.{Follows, Goes, Halts}
use Rattle.lvdc_laws_failures.specs.Steps.{voted_after}
use Rattle.lvdc_laws_failures.specs.Scripts.{scripted}
use Rattle.lvdc_laws_failures.specs.Laws.{OneOfEach, IsMasked}
use Rattle.lvdc_laws_failures.proofs.Masking.{Cited, both-admissible, begun, none-named_by, follows, masked}

-- where no module is named, none has two wrong copies
abbrev pub NamedLaw : Type 0
NamedLaw = (script : List Event) (step : ℕ) → wrong_module script step ≡ None → NoneWrong script step

-- one step more
one-more : Cited → NamedLaw → (o : Trial) → IsOpening o.opening → (n : ℕ) → first_bad_below o n ≡ verdicts.Admissible
    → cond (is_begun o n) (judged o n) verdicts.Admissible ≡ verdicts.Admissible → OneOfEach o (scripted o) n → OneOfEach o (scripted o) (suc n)
one-more law named o ok n good verdict before = λ step lt going m low high. by_step step (cases_lt step n) lt going m low high
  where
    same : IsMasked o (scripted o) n
    same = masked law o (scripted o) ok n good before

    here : (voted_after o (scripted o) n).end ≡ None → (m : ℕ) → 1 ≤ m → m ≤ 7 → Follows Standing o n (guarded o n)
        → are_two (is_wrong o.script (voted_after o (scripted o) n).steps m) ≡ false
    here going m low high (Goes e k) =
        subst (λ (step : ℕ). are_two (is_wrong o.script step m) ≡ false) (sym (same.same.steps ∙ e))
        (named o.script n (none-named_by o n (wrong_module o.script n) refl (sym (begun o n k.running) ∙ verdict)) m low high)
    here going m low high (Halts le d) = absurd (let both : Some (Stopped d.last d.why) ≡ None = sym d.ended ∙ sym same.same.end ∙ going in cc)

    by_step : (step : ℕ) → (step < n) ⊎ (n ≤ step) → step < suc n → (voted_after o (scripted o) step).end ≡ None → (m : ℕ) → 1 ≤ m → m ≤ 7
        → are_two (is_wrong o.script (voted_after o (scripted o) step).steps m) ≡ false
    by_step step (inl less) lt going m low high = before step less going m low high
    by_step step (inr more) lt going m low high =
        let last : step ≡ n = omega arith in
        subst (λ (k : ℕ). are_two (is_wrong o.script (voted_after o (scripted o) k).steps m) ≡ false) (sym last)
        (here (subst (λ (k : ℕ). (voted_after o (scripted o) k).end ≡ None) last going) m low high (follows law o ok n good))

-- so under the adversary of an admissible script
pub scripted-one : Cited → NamedLaw → (o : Trial) → IsOpening o.opening → (n : ℕ) → first_bad_below o n ≡ verdicts.Admissible → OneOfEach o (scripted o) n
scripted-one law named o ok zero good = λ step lt. absurd (omega arith)
scripted-one law named o ok (suc n) good =
    let parts = both-admissible (first_bad_below o n) _ good in
    one-more law named o ok n parts.0 parts.1 (scripted-one law named o ok n parts.0)
