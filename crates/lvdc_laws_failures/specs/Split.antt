-- The split machine, in which nothing is heard in common, a run of it, and who makes its copies fail.
use Rattle.std.specs.Prelude.{ℕ, Bool, List}
use Rattle.lvdc_model.specs.Voted.{Voted}
use Rattle.lvdc_laws_failures.specs.Listeners.{Listener, Three}

-- the copies of the seven modules, and the voted machine as the exchange hears it: memory, ports, log, counts, steps and end
pub record Split : Type 0 where
  pub copies : List Three
  pub voted : Voted

-- a run so far: how it stands, and how it stood before each of its steps, the last first
pub record Run : Type 0 where
  pub now : Split
  pub before : List Split

-- by all of the run so far: does copy c of module m fail in the step that comes, and the word of each latch, counted from 0, that
-- one which fails then tells a listener
pub record Adversary : Type 0 where
  pub fails : Run → ℕ → ℕ → Bool
  pub says : Run → ℕ → ℕ → Listener → ℕ → ℕ
