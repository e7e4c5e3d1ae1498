-- The first difference between what a run of the voted machine came to and what the plain run came to.
use Rattle.std.specs.Prelude.{ℕ, zero, suc, ◌*◌, min, Bool, true, false, if◌then◌else◌, List, [], ◌∷◌}
use Rattle.std.specs.declared.option.Option.{Option}
use Rattle.std.specs.declared.option.Option.TheVariants.{None, Some}
use Rattle.lvdc_map.specs.Address.{Spot, spot_at}
use Rattle.lvdc_map.specs.Memory.{Memory}
use Rattle.lvdc_plain.specs.Plain.{PlainState}
use Rattle.lvdc_plain.specs.declared.records.Exchange.{Exchange}
use Rattle.lvdc_model.specs.Runs.{through}
use Rattle.lvdc_model.specs.Trial.{Trial, plain_at}
use Rattle.lvdc_model.specs.Voted.{Voted}
use Rattle.lvdc_report.specs.Report.{visible_in}
use Rattle.lvdc_report.specs.Voted.{visible_of}
use Rattle.lvdc_runs.specs.Same.{are_same_registers, is_same_exchange, end_in, is_same_end, is_same_word}
use Rattle.lvdc_study.specs.declared.difference.Difference.{Difference}
use Rattle.lvdc_study.specs.declared.difference.Difference.TheVariants.{End, Port, Registers, Words}

-- the time of the first line that two logs don't share: a line that the other log lacks, or the earlier of two lines that differ
abbrev pub time_of_difference : List Exchange → List Exchange → Option ℕ
time_of_difference [] [] = None
time_of_difference [] (b ∷ later) = Some b.time
time_of_difference (a ∷ more) [] = Some a.time
time_of_difference (a ∷ more) (b ∷ later) =
    if is_same_exchange a b then time_of_difference more later else Some (min a.time b.time)

-- one address more: an earlier one is kept, else it is this one, unless its words are the same
abbrev pub least_by : Option Spot → Bool → Spot → Option Spot
least_by (Some earlier) same at = Some earlier
least_by None true at = None
least_by None false at = Some at

-- of the first so many addresses the least one whose words differ
unfoldable pub least_below : ℕ → Memory → Memory → ℕ → Option Spot
least_below banks one other zero = None
least_below banks one other (suc number) =
    least_by (least_below banks one other number) (is_same_word banks one other (spot_at number)) (spot_at number)

-- of all addresses
abbrev pub address_of_difference : ℕ → Memory → Memory → Option Spot
address_of_difference banks one other = least_below banks one other 32768

-- by whether the ends are the same, by the logs, by whether the registers are the same, and by the words: the first that differs
abbrev pub difference_by : Bool → Option ℕ → Bool → Option Spot → Option Difference
difference_by false time registers at = Some End
difference_by true (Some time) registers at = Some (Port time)
difference_by true None false at = Some Registers
difference_by true None true (Some at) = Some (Words at)
difference_by true None true None = None

-- between a state and a plain state
abbrev pub difference_in : ℕ → Voted → PlainState → Option Difference
difference_in banks v p =
    difference_by (is_same_end v.end (end_in p)) (time_of_difference v.log p.log) (are_same_registers (visible_of v) (visible_in p))
    (address_of_difference banks v.intended p.memory)

-- between the run through every fault and the plain run, after so many times
abbrev pub first_difference : Trial → ℕ → Option Difference
first_difference o times = difference_in o.opening.banks (through o (3 * times)) (plain_at o times)
