-- What is told for what is due: a status, and a text that stands in the program or is a reply's.
use Rattle.std.specs.Prelude.{ℕ, List, []}
use Rattle.lvdc_cli.specs.declared.due.Due.{Due}
use Rattle.lvdc_cli.specs.declared.due.Due.TheVariants.{Usage, ReadFault, TooLong, Replied, NoMemory}
use Rattle.lvdc_cli.specs.Texts.{usage_text, read_fault_text, too_long_text}

-- the status that goes with what is due
abbrev pub due_status : Due → ℕ
due_status Usage = 1
due_status ReadFault = 7
due_status TooLong = 11
due_status (Replied reply) = reply.status
due_status NoMemory = 9

-- the text that is due
abbrev pub due_text : Due → List ℕ
due_text Usage = usage_text
due_text ReadFault = read_fault_text
due_text TooLong = too_long_text
due_text (Replied reply) = reply.text
due_text NoMemory = []
