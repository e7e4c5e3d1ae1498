-- What is read can be run, and its rows have short names.
use Rattle.std.proofs.Common.{◌≡◌, ℕ, ◌≤◌, List, [], ◌∷◌, length, All, refl, subst, ◌∙◌, arith}
use Rattle.std.proofs.lemmas.List.Elements.{All-map}
use Rattle.lvdc_plain.specs.Run.{Opening}
use Rattle.lvdc_fault.specs.declared.named.Named.{Named}
use Rattle.lvdc_runs.specs.Scripts.{IsScript}
use Rattle.lvdc_campaign_deck.specs.Scripts.{CanRun}
use Rattle.lvdc_fault.specs.declared.TheConstants.{MOST_EVENTS}
use Rattle.lvdc_study.specs.Failures.{FailsInRuns}
use Rattle.lvdc_study.specs.Study.{row_of, rows_of}
use Rattle.lvdc_study.specs.declared.fault.Unstudied.{Unstudied}
use Rattle.lvdc_study.specs.declared.row.Row.{Row}

pub scripts-run : (scripts : List Named) → All (CanRun MOST_EVENTS) scripts → All IsScript scripts
scripts-run scripts h = λ k d l. let can = h k d l in record { few = can.few; events = can.events }

pub rows-short : (opening : Opening) (times : ℕ) (scripts : List Named) → All (CanRun MOST_EVENTS) scripts
    → All (λ (row : Row). length row.name ≤ 8) (rows_of opening times scripts)
rows-short opening times scripts h = All-map (λ (row : Row). length row.name ≤ 8) (row_of opening times) scripts (λ k d l. (h k d l).short)

pub as-many : (opening : Opening) (times : ℕ) (scripts : List Named) → length (rows_of opening times scripts) ≡ length scripts
as-many opening times [] = refl
as-many opening times (named ∷ scripts) = let rest = as-many opening times scripts in omega (arith, rest)

-- ---- a study by its parts

-- its rows
pub rows-alike : (a b : Opening) (m n : ℕ) (xs ys : List Named) → a ≡ b → m ≡ n → xs ≡ ys → (rows : List Row) → rows ≡ rows_of a m xs → rows ≡ rows_of b n ys
rows-alike a b m n xs ys opening times scripts rows is = is ∙ (λ i. rows_of (opening i) (times i) (scripts i))

-- why there are none
pub fails-alike : (a b : Opening) (m n : ℕ) (xs ys : List Named) → a ≡ b → m ≡ n → xs ≡ ys → (e : Unstudied) → FailsInRuns a m xs e → FailsInRuns b n ys e
fails-alike a b m n xs ys opening times scripts e fails =
    subst (λ (zs : List Named). FailsInRuns b n zs e) scripts
    (subst (λ (k : ℕ). FailsInRuns b k xs e) times (subst (λ (o : Opening). FailsInRuns o m xs e) opening fails))
