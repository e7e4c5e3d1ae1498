-- Whole runs of the voted machine: through every fault, guarded by the verdicts, and guarded by what the machine itself sees.
use Rattle.std.specs.Prelude.{ℕ, zero, suc, Bool, if◌then◌else◌}
use Rattle.std.specs.declared.option.Option.{Option}
use Rattle.std.specs.declared.option.Option.TheVariants.{None, Some}
use Rattle.lvdc_map.specs.Address.{Spot}
use Rattle.lvdc_map.specs.Memory.{word_at}
use Rattle.lvdc_modules.specs.declared.wanted.Wanted.{Wanted}
use Rattle.lvdc_modules.specs.declared.wanted.Wanted.TheVariants.{Fetch, Operand}
use Rattle.lvdc_fault.specs.Recoverable.{is_recovered}
use Rattle.lvdc_fault.specs.Script.{wrong_module}
use Rattle.lvdc_fault.specs.declared.verdict.Verdict.{Verdict}
use Rattle.lvdc_fault.specs.declared.verdict.Verdict.TheVariants.{Admissible, Logic, Memory}
use Rattle.lvdc_model.specs.declared.outcome.Outcome.{Outcome}
use Rattle.lvdc_model.specs.declared.outcome.Outcome.TheVariants.{Inadmissible}
use Rattle.lvdc_model.specs.Trial.{Trial}
use Rattle.lvdc_model.specs.Judging.{judged}
use Rattle.lvdc_model.specs.Twins.{shows}
use Rattle.lvdc_model.specs.Voted.{Voted, voted_start}
use Rattle.lvdc_model.specs.Exchanges.{begin_step, with_end, wished, voted_step}

-- the state after so many steps of one kind from a first state
abbrev pub after_steps : (Voted → Voted) → Voted → ℕ → Voted
after_steps step first zero = first
after_steps step first (suc n) = step (after_steps step first n)

-- ---- through every fault

-- one step that no one judges; after an end nothing changes
abbrev pub through_by : Option Outcome → Trial → Voted → Voted
through_by (Some e) o v = v
through_by None o v = voted_step o (begin_step o v)

-- the same, by the end that has come
abbrev pub through_step : Trial → Voted → Voted
through_step o v = through_by v.end o v

-- the voted machine after so many steps, or fewer where it ends
abbrev pub through : Trial → ℕ → Voted
through o n = after_steps (through_step o) (voted_start o) n

-- ---- guarded

-- a step that was judged: any verdict but Admissible ends the run, once the step's devices are unplugged and its cells damaged
abbrev pub judged_by : Verdict → Trial → Voted → Voted
judged_by Admissible o v = voted_step o v
judged_by (Logic step m) o v = with_end v (Inadmissible (Logic step m))
judged_by (Memory step at) o v = with_end v (Inadmissible (Memory step at))

-- one step, judged by script and plain run
abbrev pub guarded_by : Option Outcome → Trial → Voted → Voted
guarded_by (Some e) o v = v
guarded_by None o v = judged_by (judged o v.steps) o (begin_step o v)

-- the same, by the end that has come
abbrev pub guarded_step : Trial → Voted → Voted
guarded_step o v = guarded_by v.end o v

-- the guarded machine after so many steps, or fewer where it ends
abbrev pub guarded : Trial → ℕ → Voted
guarded o n = after_steps (guarded_step o) (voted_start o) n

-- ---- guarded by what the machine itself has

-- the address that is to be read
abbrev pub read_of_wish : Wanted → Option Spot
read_of_wish (Fetch at) = Some at
read_of_wish (Operand at) = Some at
read_of_wish _ = None

-- the intended word of an address can be recovered from the machine's own cells
abbrev pub recovers : Trial → Voted → Spot → Bool
recovers o v at = is_recovered o.opening.banks at (word_at v.intended at) (λ twin. shows o v.steps v.twins twin at)

-- what the machine says of the address that it is to read
abbrev pub own_memory : Trial → Voted → Option Spot → Verdict
own_memory o v None = Admissible
own_memory o v (Some at) = if recovers o v at then Admissible else Memory v.steps at

-- a module with two wrong copies comes first
abbrev pub own_logic : Trial → Voted → Option ℕ → Verdict
own_logic o v (Some m) = Logic v.steps m
own_logic o v None = own_memory o v (read_of_wish (wished o v))

-- the verdict that the machine finds by its own votes, cells and intended words, once the step is prepared
abbrev pub own_verdict : Trial → Voted → Verdict
own_verdict o v = own_logic o v (wrong_module o.script v.steps)

-- one step, judged so
abbrev pub alone_by : Option Outcome → Trial → Voted → Voted
alone_by (Some e) o v = v
alone_by None o v = judged_by (own_verdict o (begin_step o v)) o (begin_step o v)

-- the same, by the end that has come
abbrev pub alone_step : Trial → Voted → Voted
alone_step o v = alone_by v.end o v

-- the machine that judges alone, after so many steps, or fewer where it ends
abbrev pub alone : Trial → ℕ → Voted
alone o n = after_steps (alone_step o) (voted_start o) n
