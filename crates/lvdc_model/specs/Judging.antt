-- Which words can be recovered, which steps are admissible, and the first step that is not: by script and plain run alone.
use Rattle.std.specs.Prelude.{ℕ, zero, suc, ◌*◌, Bool, true, if◌then◌else◌, is_none, unwrap_or, option_map}
use Rattle.std.specs.declared.option.Option.{Option}
use Rattle.lvdc_map.specs.Address.{Spot}
use Rattle.lvdc_map.specs.Banks.{home}
use Rattle.lvdc_fault.specs.Damage.{shown_of}
use Rattle.lvdc_fault.specs.Recoverable.{is_recovered}
use Rattle.lvdc_fault.specs.Script.{wrong_module}
use Rattle.lvdc_fault.specs.declared.verdict.Verdict.{Verdict}
use Rattle.lvdc_fault.specs.declared.verdict.Verdict.TheVariants.{Admissible, Logic, Memory}
use Rattle.lvdc_model.specs.Trial.{Trial, plain_in, read_at}
use Rattle.lvdc_model.specs.CellsBefore.{cell_before, shown_at}

-- the plain run's word of an address can be recovered in a step, once the damage of the step is done
abbrev pub is_recoverable : Trial → ℕ → Spot → Bool
is_recoverable o step at = is_recovered o.opening.banks at ((plain_in o step).memory at) (λ twin. shown_at o twin at step)

-- a step's verdict: the lowest module with two wrong copies, else the address that is read and can't be recovered
abbrev pub judged : Trial → ℕ → Verdict
judged o step =
    let memory = unwrap_or (option_map (λ at. if is_recoverable o step at then Admissible else Memory step at) (read_at o step)) Admissible in
    unwrap_or (option_map (Logic step) (wrong_module o.script step)) memory

-- the first of two verdicts that isn't admissible
abbrev pub or_else : Verdict → Verdict → Verdict
or_else Admissible later = later
or_else found later = found

-- the verdict of the first step below n that is begun, since the plain run hasn't stopped before it, and isn't admissible
abbrev pub first_bad_below : Trial → ℕ → Verdict
first_bad_below o zero = Admissible
first_bad_below o (suc step) = or_else (first_bad_below o step) (if is_none (plain_in o step).stop then judged o step else Admissible)

-- the verdict of the first such step of so many whole times
abbrev pub first_bad : Trial → ℕ → Verdict
first_bad o times = first_bad_below o (3 * times)

-- the plain run's word of an address can be recovered after so many steps, with what was stuck and dead in the last one, if one was made
abbrev pub is_recoverable_after : Trial → ℕ → Spot → Bool
is_recoverable_after o zero at = true
is_recoverable_after o (suc step) at =
    is_recovered o.opening.banks at ((plain_in o (suc step)).memory at)
    (λ twin. shown_of o.script step twin (home at) (cell_before o twin at (suc step)))

-- ---- for the laws

-- what is said of the address that is read
abbrev pub judged_memory : Trial → ℕ → Option Spot → Verdict
judged_memory o step asked = unwrap_or (option_map (λ at. if is_recoverable o step at then Admissible else Memory step at) asked) Admissible

-- a module with two wrong copies comes first
abbrev pub judged_logic : Trial → ℕ → Option ℕ → Verdict
judged_logic o step wrong = unwrap_or (option_map (Logic step) wrong) (judged_memory o step (read_at o step))

-- a step is begun where the plain run has not stopped before it
abbrev pub is_begun : Trial → ℕ → Bool
is_begun o step = is_none (plain_in o step).stop
