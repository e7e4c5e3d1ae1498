-- What is read can be run, and its rows have short names.
use Rattle.std.proofs.Common.{◌≡◌, ℕ, ◌≤◌, List, [], ◌∷◌, length, All, refl, arith}
use Rattle.std.proofs.lemmas.List.Elements.{All-head, All-tail, All-cons}
use Rattle.lvdc_plain.specs.Run.{Opening}
use Rattle.lvdc_fault.specs.declared.named.Named.{Named}
use Rattle.lvdc_runs.specs.Scripts.{IsScript}
use Rattle.lvdc_campaign.specs.Campaign.{row_of, rows_of}
use Rattle.lvdc_campaign.specs.declared.row.Row.{Row}
use Rattle.lvdc_campaign_deck.specs.Scripts.{CanRun}
use Rattle.lvdc_fault.specs.declared.TheConstants.{MOST_EVENTS}

pub scripts-run : (scripts : List Named) → All (CanRun MOST_EVENTS) scripts → All IsScript scripts
scripts-run scripts h = λ k d l. let can = h k d l in record { few = can.few; events = can.events }

pub rows-short : (program : Opening) (times : ℕ) (scripts : List Named) → All (CanRun MOST_EVENTS) scripts
    → All (λ (row : Row). length row.name ≤ 8) (rows_of program times scripts)
rows-short program times [] h = λ k d l. absurd (omega (arith, l))
rows-short program times (named ∷ scripts) h =
    All-cons (λ (row : Row). length row.name ≤ 8) (row_of program times named) (rows_of program times scripts)
    (All-head (CanRun MOST_EVENTS) named scripts h).short
    (rows-short program times scripts (All-tail (CanRun MOST_EVENTS) named scripts h))

pub as-many : (program : Opening) (times : ℕ) (scripts : List Named) → length (rows_of program times scripts) ≡ length scripts
as-many program times [] = refl
as-many program times (named ∷ scripts) = let rest = as-many program times scripts in omega (arith, rest)
