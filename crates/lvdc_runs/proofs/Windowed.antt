-- Where the times in which the events of a script act are admissible, what a run tells after them is what it tells in the end.
use Rattle.std.proofs.Common.{◌≡◌, ℕ, ◌*◌, ◌<◌, ◌≤◌, ◌⊎◌, inl, inr, refl, sym, ap, ◌∙◌, subst, arith}
use Rattle.std.proofs.lemmas.Bool.{cases_lt}
use Rattle.lvdc_plain.specs.Run.{IsOpening}
use Rattle.lvdc_fault.specs.declared.verdict.Verdict.TheVariants.{Admissible}
use Rattle.lvdc_laws_runs.specs.Joined.{AllSpareMemory, StoresWords, HasJoined, StaysJoined}
use Rattle.lvdc_model.specs.Judging.{first_bad, first_bad_below}
use Rattle.lvdc_model.specs.Runs.{through, guarded}
use Rattle.lvdc_model.specs.Trial.{Trial}
use Rattle.lvdc_model.specs.Voted.{Voted}
use Rattle.lvdc_runs.specs.Window.{IsWindow, TellsAll}

module _ (goes : (o : Trial) (n : ℕ) → IsOpening o.opening → first_bad_below o n ≡ Admissible → through o n ≡ guarded o n)
    (stays : (o : Trial) (step : ℕ) → IsOpening o.opening → HasJoined o step → (later : ℕ) → step ≤ later → StaysJoined o step later)
    (stores : (o : Trial) → AllSpareMemory o.script → (step : ℕ) → StoresWords o step) where
  module _ (o : Trial) (times count : ℕ) (opens : IsOpening o.opening) (window : IsWindow o.script times count) (good : first_bad o times ≡ Admissible) where
    tells-joined : times < count → TellsAll o times count
    tells-joined less =
        let joined : HasJoined o (3 * times) = record { admissible = good; over = window.over less; stores = stores o (window.spares less) (3 * times) } in
        let stay = stays o (3 * times) opens joined (3 * count) (omega (arith, less)) in
        let early = goes o (3 * times) opens good in
        let late = goes o (3 * count) opens stay.admissible in
        record {
          admissible = stay.admissible;
          counts = ap (λ (v : Voted). v.counts) early ∙ sym stay.counts ∙ sym (ap (λ (v : Voted). v.counts) late);
          repairs = ap (λ (v : Voted). v.repairs) early ∙ sym stay.repairs ∙ sym (ap (λ (v : Voted). v.repairs) late);
        }

    by-order : (times < count) ⊎ (count ≤ times) → TellsAll o times count
    by-order (inl less) = tells-joined less
    by-order (inr most) =
        let within = window.within in
        let same : times ≡ count = omega (arith, within, most) in
        subst (λ (n : ℕ). TellsAll o times n) same (record { admissible = good; counts = refl; repairs = refl })

    pub tells-all : TellsAll o times count
    tells-all = by-order (cases_lt times count)
