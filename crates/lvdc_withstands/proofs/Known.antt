-- A run of so many steps makes no more.
use Rattle.std.proofs.Common.{◌≡◌, ℕ, ◌≤◌, sym, ◌∙◌, arith}
use Rattle.lvdc_fault.specs.declared.verdict.Verdict.TheVariants.{Admissible}
use Rattle.lvdc_laws_phases.specs.Standing.{Standing}
use Rattle.lvdc_model.specs.Trial.{Trial}
use Rattle.lvdc_model.specs.Judging.{first_bad_below}
use Rattle.lvdc_model.specs.Runs.{guarded}
use Rattle.lvdc_laws_voted.specs.Ends.{Comes, Good, Bad}
use Rattle.lvdc_laws_voted.specs.Relation.{Goes, Halts}

pub few-steps : (o : Trial) (n : ℕ) → Comes Standing o n → first_bad_below o n ≡ Admissible → (guarded o n).steps ≤ n
few-steps o n (Good h (Goes e kept)) good = omega arith
few-steps o n (Good h (Halts le halted)) good = le
few-steps o n (Bad m lt same stuck ends) good = absurd (ends.bad (sym same ∙ good))
