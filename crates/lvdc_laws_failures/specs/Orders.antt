-- The copies latch one after another: what is told in a step is what was held before it.
use Rattle.std.specs.Prelude.{ℕ, zero, suc, ◌+◌, ◌*◌, ◌/◌, ◌%◌, ◌==◌, List, [], ◌∷◌, if◌then◌else◌, slice_index_or, unwrap_or}
use Rattle.std.specs.declared.option.Option.{Option}
use Rattle.std.specs.declared.option.Option.TheVariants.{None, Some}
use Rattle.lvdc_modules.specs.Rows.{rows}
use Rattle.lvdc_modules.specs.Timer.{timer_row}
use Rattle.lvdc_laws_failures.specs.Listeners.{Teller, Sound, Three}
use Rattle.lvdc_laws_failures.specs.Split.{Run, Adversary}
use Rattle.lvdc_laws_failures.specs.Steps.{next_teller}

-- within a step: the run before it, whose copies tell, and by the number of a copy from 0 to 20 what it has latched, if it has
pub record Within : Type 0 where
  pub run : Run
  pub latched : ℕ → Option Teller

-- no copy has latched
abbrev pub none_latched : Run → Within
none_latched run = record { run = run; latched = λ number. None }

-- what the copy of a number latches: its module is number / 3, counted from 0
abbrev pub latches_now : Adversary → Within → ℕ → ℕ → ℕ → Teller
latches_now a w memory port number =
    next_teller a w.run (number / 3 + 1) (number % 3 + 1) (slice_index_or rows (number / 3) timer_row) memory port

-- the copy of a number latches
abbrev pub with_one_latched : Adversary → ℕ → ℕ → Within → ℕ → Within
with_one_latched a memory port w number =
    record w { latched = λ other. if number == other then Some (latches_now a w memory port number) else w.latched other }

-- copies latch, one after another
abbrev pub with_latched : Adversary → ℕ → ℕ → Within → List ℕ → Within
with_latched a memory port w [] = w
with_latched a memory port w (number ∷ order) = with_latched a memory port (with_one_latched a memory port w number) order

-- what a copy has latched, and no latches where it hasn't
abbrev pub latched_by : Within → ℕ → Teller
latched_by w number = unwrap_or (w.latched number) (Sound [])

-- what the three copies of a module have latched
abbrev pub three_latched : Within → ℕ → Three
three_latched w index =
    record { one = latched_by w (3 * index); two = latched_by w (3 * index + 1); three = latched_by w (3 * index + 2) }

-- so of so many modules, from this one on
abbrev pub all_latched : Within → ℕ → ℕ → List Three
all_latched w index zero = []
all_latched w index (suc n) = three_latched w index ∷ all_latched w (suc index) n
