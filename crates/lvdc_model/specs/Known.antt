-- Which words a report can tell: those that the machine's cells still show, whatever end it has come to.
use Rattle.std.specs.Prelude.{ℕ, zero, suc, Bool}
use Rattle.std.specs.declared.option.Option.{Option}
use Rattle.std.specs.declared.option.Option.TheVariants.{None, Some}
use Rattle.lvdc_map.specs.Address.{Spot}
use Rattle.lvdc_map.specs.Memory.{word_at}
use Rattle.lvdc_plain.specs.declared.records.Stop.TheVariants as stops
use Rattle.lvdc_fault.specs.Recoverable.{is_recovered}
use Rattle.lvdc_model.specs.declared.outcome.Outcome.{Outcome}
use Rattle.lvdc_model.specs.declared.outcome.Outcome.TheVariants.{Stopped, Inadmissible, Device}
use Rattle.lvdc_model.specs.Trial.{Trial}
use Rattle.lvdc_model.specs.Twins.{Twins, cell_at, shows}
use Rattle.lvdc_model.specs.Voted.{Voted}

-- the last of so many steps made, if one was
abbrev pub last_made : ℕ → Option ℕ
last_made zero = None
last_made (suc step) = Some step

-- the last step that was begun, by the end that has come: where a verdict, a device or a read without a good cell ended the run,
-- it was not made
abbrev pub last_begun : Option Outcome → ℕ → Option ℕ
last_begun (Some (Inadmissible verdict)) steps = Some steps
last_begun (Some (Device step port)) steps = Some steps
last_begun (Some (Stopped step (stops.Memory at))) steps = Some steps
last_begun _ steps = last_made steps

-- what a twin shows with what was stuck and dead in this step; before any step nothing is
abbrev pub shows_since : Option ℕ → Trial → Twins → ℕ → Spot → ℕ
shows_since None o t twin at = cell_at t twin at
shows_since (Some step) o t twin at = shows o step t twin at

-- the intended word of an address can be told
abbrev pub is_known : Trial → Voted → Spot → Bool
is_known o v at = is_recovered o.opening.banks at (word_at v.intended at) (λ twin. shows_since (last_begun v.end v.steps) o v.twins twin at)
