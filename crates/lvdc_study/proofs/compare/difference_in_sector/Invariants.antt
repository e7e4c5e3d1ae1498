use Rattle.std.proofs.Common.{◌≡◌, ℕ, ◌*◌, None}
use Rattle.lvdc_model.specs.Runs.{through}
use Rattle.lvdc_model.specs.Trial.{Trial, plain_at}
use Rattle.lvdc_machine.specs.declared.mode.Mode.TheVariants.{Through}
use Rattle.lvdc_runs.specs.Ran.{HasRun, HasRunPlainly}
use Rattle.lvdc_study.specs.Outcomes.{least_below}
use Rattle.lvdc_study.proofs.compare.difference_in_sector.Given as goal

abbrev pub invariant-loop-number : goal.invariant-loop-number
invariant-loop-number l =
    (o : Trial) (times : ℕ) → HasRun Through o times l.machine → HasRunPlainly o.opening times l.plain
    → least_below o.opening.banks (through o (3 * times)).intended (plain_at o times).memory (256 * l.sector) ≡ None
    → least_below o.opening.banks (through o (3 * times)).intended (plain_at o times).memory l.number ≡ None
