-- Rows that are made one after the other, and what is so of each.
use Rattle.std.proofs.Common.{◌≡◌, ℕ, true, List, [], ◌∷◌, ◌++◌, All, Contains, map, sym, ap, ◌∙◌, append_assoc, get_or}
use Rattle.std.proofs.lemmas.List.Elements.{All-map}
use Rattle.lvdc_plain.specs.Run.{Opening, IsOpening}
use Rattle.lvdc_fault.specs.declared.named.Named.{Named}
use Rattle.lvdc_fault.specs.declared.verdict.Verdict.TheVariants.{Admissible}
use Rattle.lvdc_withstands.specs.Form.{masks}
use Rattle.lvdc_model.specs.Judging.{first_bad}
use Rattle.lvdc_model.specs.Trial.{Trial}
use Rattle.lvdc_withstands.specs.Withstood.{Masked}
use Rattle.lvdc_runs.specs.Scripts.{trial_under}
use Rattle.lvdc_study.specs.Failures.{FailsUnder, FailsPlainly, plainly, under, FailsInRuns}
use Rattle.lvdc_study.specs.Study.{row_of, rows_of, IsSame, KeepsLaws}
use Rattle.lvdc_study.specs.declared.fault.Unstudied.{Unstudied}
use Rattle.lvdc_study.specs.declared.fault.Unstudied.TheVariants.{NoMemory, Device}

-- one more item that a list is mapped to
pub mapped-more : {A B : Type 0} (f : A → B) (left rest : List A) (item : A) (so_far next all : List B) (made : B) → left ≡ item ∷ rest → made ≡ f item
    → next ≡ so_far ++ made ∷ [] → so_far ++ map f left ≡ all → next ++ map f rest ≡ all
mapped-more f left rest item so_far next all made is row grown e =
    ap (λ t. t ++ map f rest) grown ∙ append_assoc so_far (made ∷ []) (map f rest)
    ∙ ap (λ b. so_far ++ (b ∷ map f rest)) row ∙ ap (λ t. so_far ++ map f t) (sym is) ∙ e

-- each row of the definition keeps the laws
pub each-keeps : ((o : Trial) (times : ℕ) → IsOpening o.opening → first_bad o times ≡ Admissible → IsSame o times)
    → ((o : Trial) (count : ℕ) → IsOpening o.opening → masks o.script o.opening.banks count ≡ true → Masked o count)
    → (opening : Opening) (times : ℕ) (scripts : List Named) → IsOpening opening → All KeepsLaws (rows_of opening times scripts)
each-keeps same form opening times scripts opens =
    All-map KeepsLaws (row_of opening times) scripts
    (λ k d l.
    let o = trial_under opening (get_or scripts k d).script in
    record {
      same = λ good. (same o times opens good).difference;
      form = λ masking. (form o times opens masking).verdict;
    })

-- ---- why there are no rows

-- there is no plain run
pub plain-fails : (opening : Opening) (times : ℕ) (scripts : List Named) (e : Unstudied) → FailsPlainly opening times e → FailsInRuns opening times scripts e
plain-fails opening times scripts NoMemory fails = tt
plain-fails opening times scripts (Device port) fails = (fails.0, plainly fails.1)

-- a script has no row
pub script-fails : (opening : Opening) (times : ℕ) (scripts : List Named) (named : Named) → Contains scripts named → (e : Unstudied)
    → FailsUnder (trial_under opening named.script) times e → FailsInRuns opening times scripts e
script-fails opening times scripts named there NoMemory fails = tt
script-fails opening times scripts named there (Device port) fails = (fails.0, under named there fails.1)
