-- What a contract sees of a voted machine.
use Rattle.std.specs.Prelude.{ℕ, ◌/◌, List, map}
use Rattle.std.specs.declared.option.Option.{Option}
use Rattle.std.specs.declared.option.Option.TheVariants.{None, Some}
use Rattle.lvdc_vote.specs.Copies.{Copies, vote_of}
use Rattle.lvdc_modules.specs.Rows.{bus_of}
use Rattle.lvdc_modules.specs.Seen.{here}
use Rattle.lvdc_modules.specs.declared.bus.Bus.{Bus}
use Rattle.lvdc_plain.specs.declared.records.Exchange.{Exchange}
use Rattle.lvdc_plain.specs.declared.records.Unplug.{Unplug}
use Rattle.lvdc_plain.specs.declared.records.Visible.{Visible}
use Rattle.lvdc_fault.specs.declared.event.Event.{Event}
use Rattle.lvdc_model.specs.declared.outcome.Outcome.{Outcome}
use Rattle.lvdc_model.specs.declared.outcome.Outcome.TheVariants.{Done, Stopped, Inadmissible, Device}
use Rattle.lvdc_model.specs.declared.repair.Repair.{Repair}
use Rattle.lvdc_memory.specs.Events.{MemoryEvents}
use Rattle.lvdc_memory.specs.Holds.{MemoryState}
use Rattle.lvdc_machine.specs.declared.kept_end.KeptEnd.{KeptEnd}
use Rattle.lvdc_machine.specs.declared.kept_end.KeptEnd.TheVariants as kept
use Rattle.lvdc_machine.specs.declared.mode.Mode.{Mode}
use Rattle.lvdc_machine.specs.declared.mode.Pace.{Pace}

-- the copies of the seven modules and their counts, the memory, the script and its events on memory, which devices
-- are taken away when, the log, the repairs noted, the steps made, the most times that may be made, how it judges, how many
-- exchanges it has room for, and the end that has come, if one has
pub record View : Type 0 where
  pub banks : ℕ
  pub copies : List Copies
  pub counts : List (List ℕ)
  pub memory : MemoryState
  pub script : List Event
  pub on_memory : MemoryEvents
  pub unplugs : List Unplug
  pub log : List Exchange
  pub repairs : List Repair
  pub steps : ℕ
  pub limit : ℕ
  pub mode : Mode
  pub pace : Pace
  pub end : Option Outcome

-- the bus of the votes over these copies
abbrev pub bus_of_votes : List Copies → Bus
bus_of_votes copies = bus_of (map vote_of copies) 0 0

-- the registers on a bus, after so many steps
abbrev pub registers_on : Bus → ℕ → Visible
registers_on b steps =
    record { place = here b; a = b.accumulator.a; pq = b.multiplier.pq; saver = b.locator.saver; times = steps / 3 }

-- the voted registers that a report shows
abbrev pub visible_of : View → Visible
visible_of m = registers_on (bus_of_votes m.copies) m.steps

-- the outcome that a kept end is
abbrev pub outcome_of : KeptEnd → Outcome
outcome_of (kept.Stopped step stop) = Stopped step stop
outcome_of (kept.Inadmissible verdict) = Inadmissible verdict
outcome_of (kept.Device step port) = Device step port

-- the end that is seen of a machine, by the one that it keeps; `Done` is none
abbrev pub end_seen : Option KeptEnd → Option Outcome
end_seen None = None
end_seen (Some end) = Some (outcome_of end)

-- the answer of a call by the end that the machine then keeps
abbrev pub answer_of_end : Option Outcome → Outcome
answer_of_end None = Done
answer_of_end (Some end) = end
