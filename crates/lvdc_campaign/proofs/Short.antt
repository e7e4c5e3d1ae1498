-- The rows of a campaign and those of a study.
use Rattle.std.proofs.Common.{◌≡◌, ℕ, List, [], ◌∷◌, is_none, map, refl}
use Rattle.lvdc_plain.specs.Run.{Opening}
use Rattle.lvdc_fault.specs.declared.named.Named.{Named}
use Rattle.lvdc_model.specs.Judging.{first_bad}
use Rattle.lvdc_model.specs.Trial.{Trial}
use Rattle.lvdc_runs.specs.Same.{is_same}
use Rattle.lvdc_runs.specs.Scripts.{trial_under}
use Rattle.lvdc_study.specs.Outcomes.{first_difference}
use Rattle.lvdc_study.specs.Study as study
use Rattle.lvdc_campaign.specs.Campaign.{short_row, rows_of}

pub rows-short : ((o : Trial) (times : ℕ) → is_none (first_difference o times) ≡ is_same o times)
    → (program : Opening) (times : ℕ) (scripts : List Named) → map short_row (study.rows_of program times scripts) ≡ rows_of program times scripts
rows-short same program times [] = refl
rows-short same program times (named ∷ scripts) =
    let o = trial_under program named.script in
    λ i. record { name = named.name; verdict = first_bad o times; same = same o times i } ∷ rows-short same program times scripts i
