-- What a step makes, as the step hands it out: after the step it can't be told any more, since a syllable alone is latched, and a
-- read may rewrite the cell.
use Rattle.std.specs.Prelude.{ℕ, Result, Ok, Err}
use Rattle.std.specs.declared.option.Option.{Option}
use Rattle.std.specs.declared.option.Option.TheVariants.{None, Some}
use Rattle.lvdc_map.specs.Address.{Spot}
use Rattle.lvdc_port.specs.declared.requests.PortRequest.TheVariants as requests
use Rattle.lvdc_twin.specs.declared.both_bad.BothBad.{BothBad}
use Rattle.lvdc_twin.specs.declared.read_out.ReadOut.{ReadOut}
use Rattle.lvdc_modules.specs.declared.wanted.Wanted.{Wanted}
use Rattle.lvdc_modules.specs.declared.wanted.Wanted.TheVariants.{Nothing, Fetch, Operand, Store, PortRead, PortWrite}
use Rattle.lvdc_fault.specs.declared.verdict.Verdict.{Verdict}
use Rattle.lvdc_fault.specs.declared.verdict.Verdict.TheVariants.{Admissible}
use Rattle.lvdc_model.specs.declared.outcome.Outcome.{Outcome}
use Rattle.lvdc_model.specs.declared.outcome.Outcome.TheVariants.{Device}
use Rattle.lvdc_model.specs.Exchanges.{begin_step, port_word, wished}
use Rattle.lvdc_model.specs.Trial.{Trial}
use Rattle.lvdc_model.specs.Twins.{read_answer}
use Rattle.lvdc_model.specs.Voted.{Voted}
use Rattle.lvdc_machine.specs.declared.made.Made.{Made}
use Rattle.lvdc_machine.specs.declared.mode.Mode.{Mode}
use Rattle.lvdc_machine.specs.Steps.{verdict_of, repair_noted}

-- an exchange that brings no word
abbrev pub without_a_word : Wanted → Made
without_a_word wanted = record { wanted = wanted; word = 0; repair = None }

-- a read of a port brought this word
abbrev pub of_port : ℕ → ℕ → Made
of_port port word = record { wanted = PortRead port; word = word; repair = None }

-- a read of memory brought its word and noted its repair; where it found no good cell the step isn't made
abbrev pub read_made : Result ReadOut BothBad → ℕ → Spot → Wanted → Option Made
read_made (Err bad) step at wanted = None
read_made (Ok r) step at wanted = Some (record { wanted = wanted; word = r.word; repair = repair_noted r.repaired step at r.switched })

-- what an exchange makes of a step that is prepared
abbrev pub exchange_made : Trial → Voted → Wanted → Option Made
exchange_made o v Nothing = Some (without_a_word Nothing)
exchange_made o v (Fetch at) = read_made (read_answer o v.steps v.twins at) v.steps at (Fetch at)
exchange_made o v (Operand at) = read_made (read_answer o v.steps v.twins at) v.steps at (Operand at)
exchange_made o v (Store at word) = Some (without_a_word (Store at word))
exchange_made o v (PortRead port) = Some (of_port port (port_word v (requests.Read port)))
exchange_made o v (PortWrite port word) = Some (without_a_word (PortWrite port word))

-- a step that is prepared makes the exchange that the votes wish for, where nothing is said against it
abbrev pub made_if : Verdict → Trial → Voted → Option Made
made_if Admissible o v = exchange_made o v (wished o v)
made_if _ o v = None

-- after an end no step is made
abbrev pub made_unless : Option Outcome → Mode → Trial → Voted → Option Made
made_unless (Some end) mode o v = None
made_unless None mode o v = made_if (verdict_of mode o (begin_step o v)) o (begin_step o v)

-- what the next step of a run makes, where it is made
abbrev pub made_next : Mode → Trial → Voted → Option Made
made_next mode o v = made_unless v.end mode o v

-- by the end that is then kept: a step in which a device failed isn't made
abbrev pub told_by : Option Outcome → Option Made → Option Made
told_by (Some (Device step port)) made = None
told_by _ made = made
