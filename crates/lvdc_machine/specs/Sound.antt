-- What is true of every machine.
use Rattle.std.specs.Prelude.{◌≡◌, ℕ, ◌+◌, ◌*◌, ◌/◌, ◌%◌, ◌≤◌, List, All, IfSome, vec_len, vec_capacity}
use Rattle.std.specs.declared.option.Option.{Option}
use Rattle.std.specs.declared.option.Option.TheVariants.{None}
use Rattle.lvdc_fault.specs.declared.event.Event.{Event}
use Rattle.lvdc_fault.specs.Events.{IsEvent}
use Rattle.lvdc_logic.specs.Logic.{DifferedAtMost}
use Rattle.lvdc_forces.specs.Parts.{AreForces, IsRightAt}
use Rattle.lvdc_forces.specs.declared.known.Known.{Known}
use Rattle.lvdc_machine.specs.declared.machine.Machine.TheInside.{Inside}
use Rattle.lvdc_machine.specs.declared.mode.Mode.TheVariants.{Guarded}
use Rattle.lvdc_machine.specs.declared.mode.Pace.TheVariants.{ByTime}
use Rattle.lvdc_memory.specs.Order.{AreOnMemory}
use Rattle.lvdc_machine.specs.Room.{pace_of, exchanges_left, repairs_left, IsInTime}
use Rattle.lvdc_snapshot.specs.Notes.{IsLog, AreRepairs}
use Rattle.lvdc_machine.specs.View.{bus_of_votes, end_seen}

-- what is known of the copies is what the script does in the step in force, if one is: what is in force on each, which are wrong, and
-- which module has two of them
abbrev pub KnowsForce : List Event → Option ℕ → Known → Type 0
KnowsForce script last known = IfSome last (λ step. IsRightAt script step known)

-- the script is in range, and the events on memory are those of it; what is kept of the copies fits the
-- script, what is known of them is so in the step in force, and there is room for what may still come; the log of a machine with the
-- room of its mode is of its own steps alone; a machine with room by times judges, and one that judges has phases that go with the
-- steps; where no end has come the votes are against a stop; and what is noted is of steps that were made
pub record IsSoundMachine (m : Inside) : Type 0 where
  pub events : All IsEvent m.script
  pub on_memory : AreOnMemory m.script m.on_memory.events
  pub forces : AreForces m.script m.forces
  pub known : KnowsForce m.script m.on_memory.last m.forces.known
  pub differed : DifferedAtMost m.steps m.logic.counts
  pub banks : m.memory.twins.banks ≡ m.banks
  pub log : m.pace ≡ pace_of m.mode → vec_len m.log + exchanges_left m.pace m.steps m.limit ≤ exchanges_left m.pace 0 m.limit
  pub log_room : vec_len m.log + exchanges_left m.pace m.steps m.limit ≤ vec_capacity m.log
  pub repairs : vec_len m.repairs + repairs_left m.pace m.steps m.limit ≤ repairs_left m.pace 0 m.limit
  pub repairs_room : vec_len m.repairs + repairs_left m.pace m.steps m.limit ≤ vec_capacity m.repairs
  pub steps : m.steps ≤ 3 * m.limit
  pub limit : m.limit ≤ 1000000
  pub judges : m.pace ≡ ByTime → m.mode ≡ Guarded
  pub timed : IsInTime m.mode m.logic.copies m.steps
  pub going : end_seen m.end ≡ None → (bus_of_votes m.logic.copies).exchange.stop % 4 ≡ 0
  pub logged : IsLog ((m.steps + 2) / 3) m.log.items
  pub noted : AreRepairs m.banks m.steps m.repairs.items
