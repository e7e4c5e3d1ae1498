-- The line of a word by what is shown of it.
use Rattle.std.proofs.Common.{◌≡◌, ℕ, Bool, true, false, refl}
use Rattle.lvdc_map.specs.Address.{Spot}
use Rattle.lvdc_machine.specs.Stands.{shown_by}
use Rattle.lvdc_machine.specs.declared.shown.Shown.TheVariants.{Known, Unknown}
use Rattle.lvdc_report.specs.Report.{told_line, unknown_line}

pub told_known : (known : Bool) (at : Spot) (word told : ℕ) → Known told ≡ shown_by known word → told_line true at told ≡ told_line known at word
told_known true at word told e = search e
told_known false at word told e = search e

pub told_unknown : (known : Bool) (at : Spot) (word : ℕ) → Unknown ≡ shown_by known word → unknown_line at ≡ told_line known at word
told_unknown true at word e = search e
told_unknown false at word e = refl
