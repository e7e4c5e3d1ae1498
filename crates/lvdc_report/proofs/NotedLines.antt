-- How long the lines are of what a run has noted.
use Rattle.std.proofs.Common.{◌≡◌, ℕ, ◌+◌, ◌*◌, ◌^◌, ◌<◌, ◌≤◌, List, [], ◌∷◌, ◌++◌, All, length, ap, ◌∙◌, subst, arith, length-append}
use Rattle.std.proofs.lemmas.List.Elements.{All-tail}
use Rattle.lvdc_plain.specs.declared.records.Exchange.{Exchange}
use Rattle.lvdc_model.specs.Voted.{Voted}
use Rattle.lvdc_model.specs.declared.repair.Repair.{Repair}
use Rattle.lvdc_lines.specs.Noted.{exchange_line, log_text, repair_line, repairs_text, noted_size}
use Rattle.lvdc_report.proofs.Behind.{IsBehind}
use Rattle.lvdc_report.proofs.Noted.{HasFewNotes}
use Rattle.lvdc_lines.proofs.LineSizes.{length-both, length-lines}

-- a line of the log, and that of a repair in a step of seven digits at most
abbrev pub IsShortExchange : Exchange → Type 0
IsShortExchange e = length (exchange_line e) ≤ 39

abbrev pub IsShortRepair : Repair → Type 0
IsShortRepair r = r.step < 10 ^ 7 → length (repair_line r) ≤ 35

-- what holds of all of a list holds of its later part
All-behind : {A : Type 0} (P : A → Type 0) (xs ys : List A) → All P (xs ++ ys) → All P ys
All-behind P [] ys all = all
All-behind P (x ∷ xs) ys all = All-behind P xs ys (All-tail P x (xs ++ ys) all)

-- repairs of a run that has made few steps
short-repairs : (steps : ℕ) (repairs : List Repair) → steps < 10 ^ 7 → All (λ (r : Repair). r.step < steps) repairs
    → All IsShortRepair repairs → All (λ (r : Repair). length (repair_line r) ≤ 35) repairs
short-repairs steps repairs few below short = λ k d within. let early = below k d within in short k d within (omega (arith, few, early))

-- behind the lines of a first state stand no more than 39 bytes for each step
pub noted-short : (first v : Voted) → IsBehind first.log first.repairs v → HasFewNotes first v → v.steps < 10 ^ 7
    → All IsShortExchange v.log → All IsShortRepair v.repairs
    → length (log_text v.log) + length (repairs_text v.repairs) ≤ noted_size first.log first.repairs + 39 * v.steps
noted-short first v behind noted few exchanges repairs =
    let log : length (log_text v.log) ≡ length (log_text first.log) + length (log_text behind.exchanges) =
    ap (λ (l : List Exchange). length (log_text l)) behind.log_is ∙ length-both exchange_line first.log behind.exchanges in
    let mended : length (repairs_text v.repairs) ≡ length (repairs_text first.repairs) + length (repairs_text behind.mended) =
    ap (λ (l : List Repair). length (repairs_text l)) behind.repairs_is ∙ length-both repair_line first.repairs behind.mended in
    let exchange = length-lines exchange_line 39 behind.exchanges
    (All-behind IsShortExchange first.log behind.exchanges (subst (All IsShortExchange) behind.log_is exchanges)) in
    let repair = length-lines repair_line 35 behind.mended
    (All-behind (λ (r : Repair). length (repair_line r) ≤ 35) first.repairs behind.mended
    (subst (All (λ (r : Repair). length (repair_line r) ≤ 35)) behind.repairs_is (short-repairs v.steps v.repairs few noted.dated repairs))) in
    omega (
      arith,
      log,
      mended,
      exchange,
      repair,
      noted.few,
      ap length behind.log_is,
      ap length behind.repairs_is,
      length-append first.log behind.exchanges,
      length-append first.repairs behind.mended,
    )
