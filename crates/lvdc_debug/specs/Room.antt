-- How long the texts of a session are.
use Rattle.std.specs.Prelude.{ℕ, ◌*◌}
use Rattle.lvdc_debug.specs.declared.command.Command.{Command}
use Rattle.lvdc_debug.specs.declared.command.Command.TheVariants.{Mem, Dis}

-- the answer to a command has no more bytes
abbrev pub most_answer : Command → ℕ
most_answer (Mem at count) = 23 * count
most_answer (Dis at syl count) = 25 * count
most_answer command = 300
