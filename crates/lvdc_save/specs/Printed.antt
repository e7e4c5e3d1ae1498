-- When the line of an entry says it again: its numbers fit their columns and are in the ranges that a reader takes.
use Rattle.std.specs.Prelude.{◌≡◌, ℕ, ◌*◌, ◌^◌, ◌<◌, ◌≤◌, true, length, All}
use Rattle.lvdc_map.specs.Address.{IsAddress}
use Rattle.lvdc_image.specs.Image.{IsPlaced}
use Rattle.lvdc_twin.specs.Cells.{NamesPlace}
use Rattle.lvdc_twin.specs.declared.held.Held.{Held}
use Rattle.lvdc_fault.specs.Events.{TIMES, IsCopy, IsEvent}
use Rattle.lvdc_orders.specs.Orders.{is_order}
use Rattle.lvdc_port.specs.declared.requests.Supply.{Supply}
use Rattle.lvdc_plain.specs.declared.records.Exchange.{Exchange}
use Rattle.lvdc_plain.specs.declared.records.Unplug.{Unplug}
use Rattle.lvdc_model.specs.declared.repair.Repair.{Repair}
use Rattle.lvdc_lines.specs.Noted.{IsInRange}
use Rattle.lvdc_save.specs.declared.entry.CopyState.{CopyState}
use Rattle.lvdc_save.specs.declared.entry.Entry.{Entry}
use Rattle.lvdc_save.specs.declared.entry.Entry.TheVariants as says
use Rattle.lvdc_save.specs.declared.saved.Saved.{Saved}

-- as many steps as the times of a deck have, or fewer
abbrev pub AreSteps : ℕ → Type 0
AreSteps steps = steps ≤ 3 * TIMES

-- a copy with its latches
pub record IsCopyState (c : CopyState) : Type 0 where
  pub named : IsCopy c.number c.copy
  pub count : AreSteps c.count
  pub latches : All (λ latch. latch < 2 ^ 26) c.latches

-- a stored cell and its place
pub record IsHeld (h : Held) : Type 0 where
  pub place : NamesPlace h
  pub cell : h.cell < 2 ^ 28

-- a port exchange
pub record IsExchange (e : Exchange) : Type 0 where
  pub time : e.time ≤ TIMES
  pub numbers : IsInRange e

-- a repair
pub record IsRepair (r : Repair) : Type 0 where
  pub step : AreSteps r.step
  pub at : IsAddress r.at
  pub twin : r.twin < 2

-- a word of a device
pub record IsSupply (s : Supply) : Type 0 where
  pub port : s.port < 2 ^ 8
  pub word : s.word < 2 ^ 26

-- a device that is taken away
pub record IsUnplug (u : Unplug) : Type 0 where
  pub port : u.port < 2 ^ 8
  pub time : u.time ≤ TIMES

-- the line of the entry says it again
abbrev pub IsPrinted : Entry → Type 0
IsPrinted says.Title = Unit {0}
IsPrinted (says.Steps steps) = AreSteps steps
IsPrinted (says.Count count) = count ≤ TIMES
IsPrinted (says.Simplex banks) = (0 < banks) × (banks < 16)
IsPrinted (says.Copy copy) = IsCopyState copy
IsPrinted (says.Select twins) = (length twins ≡ 4) × All (λ twin. twin < 2) twins
IsPrinted (says.Cell held) = IsHeld held
IsPrinted (says.Word placed) = IsPlaced placed
IsPrinted (says.Exchange exchange) = IsExchange exchange
IsPrinted (says.Repair repair) = IsRepair repair
IsPrinted (says.State supply) = IsSupply supply
IsPrinted (says.Unplug unplug) = IsUnplug unplug
IsPrinted (says.Fault event) = IsEvent event
IsPrinted (says.Order order) = is_order order ≡ true
IsPrinted says.End = Unit {0}

-- the times of a saved state are those that a deck may have, and its events are in their ranges
pub record IsOfADeck (s : Saved) : Type 0 where
  pub steps : AreSteps s.snapshot.steps
  pub count : s.count ≤ TIMES
  pub times : All (λ unplug. unplug.time ≤ TIMES) s.unplugs
  pub events : All IsEvent s.script
