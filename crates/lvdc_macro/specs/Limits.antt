-- The limits of an expansion (this project's profile).
use Rattle.std.specs.Prelude.{ℕ}

-- the most levels of calls that stand in one another; a call in the source is on the first
abbrev pub most_levels : ℕ
most_levels = 16

-- the most calls of a source
abbrev pub most_calls : ℕ
most_calls = 999

-- the most arguments of a call
abbrev pub most_arguments : ℕ
most_arguments = 9

-- the most bytes of an expansion, each line with its LF
abbrev pub longest_expansion : ℕ
longest_expansion = 1048576
