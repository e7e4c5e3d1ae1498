-- What a contract sees of a plain machine.
use Rattle.std.specs.Prelude.{ℕ, List}
use Rattle.std.specs.declared.option.Option.{Option}
use Rattle.std.specs.declared.option.Option.TheVariants.{None, Some}
use Rattle.lvdc_map.specs.Hop.{HopConstant}
use Rattle.lvdc_plain.specs.declared.records.Exchange.{Exchange}
use Rattle.lvdc_plain.specs.declared.records.Pending.{Pending}
use Rattle.lvdc_plain.specs.declared.records.PlainEnd.{PlainEnd}
use Rattle.lvdc_plain.specs.declared.records.PlainEnd.TheVariants.{Done, Stopped, Device}
use Rattle.lvdc_plain.specs.declared.records.Stop.{Stop}
use Rattle.lvdc_plain.specs.declared.records.Stop.TheVariants.{Shift, Exm, Memory}
use Rattle.lvdc_plain.specs.declared.records.Unplug.{Unplug}
use Rattle.lvdc_plain.specs.declared.records.Visible.{Visible}

-- the registers, the words of memory in the order of their addresses, the log, the times made and the most that may be
-- made, which devices are taken away when, and the end that has come, if one has
pub record View : Type 0 where
  pub banks : ℕ
  pub place : HopConstant
  pub a : ℕ
  pub pq : ℕ
  pub saver : ℕ
  pub pending : Option Pending
  pub hold : ℕ
  pub words : List ℕ
  pub log : List Exchange
  pub times : ℕ
  pub limit : ℕ
  pub unplugs : List Unplug
  pub end : Option PlainEnd

-- the registers that a report shows
abbrev pub visible_of : View → Visible
visible_of m = record { place = m.place; a = m.a; pq = m.pq; saver = m.saver; times = m.times }

-- the answer of a call by the end that the machine then keeps
abbrev pub answer_of_end : Option PlainEnd → PlainEnd
answer_of_end None = Done
answer_of_end (Some end) = end

-- if it is a stop, an instruction is its cause
abbrev pub ByInstruction : Option Stop → Type 0
ByInstruction None = Unit {0}
ByInstruction (Some Shift) = Unit {0}
ByInstruction (Some Exm) = Unit {0}
ByInstruction (Some (Memory at)) = ⊥

-- an end that the plain machine can come to: it never stops for the want of a good cell
abbrev pub IsPlainEnd : PlainEnd → Type 0
IsPlainEnd Done = Unit {0}
IsPlainEnd (Stopped step stop) = ByInstruction (Some stop)
IsPlainEnd (Device step port) = Unit {0}
