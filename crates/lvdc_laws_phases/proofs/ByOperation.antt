-- What each operation makes of the latches is what it makes of the plain state.
use Rattle.std.proofs.Common.{rules, ◌≡◌, ℕ, ◌^◌, ◌<◌, Bool, true, false}
use Rattle.std.specs.declared.option.Option.{Option}
use Rattle.lvdc_map.specs.Hop.{IsHopConstant}
use Rattle.lvdc_map.specs.Place.{a9}
use Rattle.lvdc_isa.specs.Instr.{takes_operand}
use Rattle.lvdc_isa.specs.declared.op.Op.{Op}
use Rattle.lvdc_isa.specs.declared.op.Op.TheVariants.{Pio}
use Rattle.lvdc_plain.specs.declared.records.Pending.{Pending}
use Rattle.lvdc_plain.specs.Plain.{PlainState}
use Rattle.lvdc_plain.specs.Table.{effect, pq_after, pending_after}
use Rattle.lvdc_modules.specs.declared.bus.Bus.{Bus}
use Rattle.lvdc_modules.specs.declared.locator.LocatorState.{LocatorState}
use Rattle.lvdc_modules.specs.Timer.{held_by}
use Rattle.lvdc_modules.specs.Locator.{place_fields, located}
use Rattle.lvdc_modules.specs.Selector.{data_fields, selected}
use Rattle.lvdc_modules.specs.Accumulator.{accumulated}
use Rattle.lvdc_modules.specs.Multiplier as unit
use Rattle.lvdc_modules.specs.Exchange.{stopped}
use Rattle.lvdc_laws_phases.specs.Work.{IsWork, IsHeld}
use Rattle.lvdc_laws_phases.specs.Phase.{stop_number}

-- a port is read
abbrev pub reads_port : Op → ℕ → Bool
reads_port Pio address = a9 address
reads_port _ address = false

-- the word that the instruction takes is there
pub record IsGiven (op : Op) (address : ℕ) (b : Bus) (m : ℕ) : Type 0 where
  pub operand : takes_operand op ≡ true → b.accumulator.operand ≡ m
  pub port : reads_port op address ≡ true → b.port ≡ m

-- the latches that the rows read
pub record IsRead (b : Bus) (p : PlainState) : Type 0 where
  pub place : b.locator.place ≡ place_fields p.place
  pub data_place : b.selector.hold_place ≡ data_fields p.place
  pub saver : b.locator.saver ≡ p.saver
  pub a : b.accumulator.a ≡ p.a

-- PLACE and SAVER of a plain state
abbrev pub place_after : PlainState → LocatorState
place_after q = record { place = place_fields q.place; saver = q.saver }

-- by operation: PLACE and SAVER after it are those of the plain machine
pub located-is : (op : Op) (b : Bus) (p : PlainState) (address m : ℕ) → IsRead b p → IsGiven op address b m
    → located op b p.place address ≡ place_after (effect op p address m)
located-is op b p address m r g = search rules

-- DATA has the data place of the plain machine
pub selected-is : (op : Op) (b : Bus) (p : PlainState) (address m : ℕ) → IsRead b p → IsGiven op address b m
    → (selected op b p.place address).hold_place ≡ data_fields (effect op p address m).place
selected-is op b p address m r g = search rules

-- A is that of the effect, before a landing
pub accumulated-is : (op : Op) (b : Bus) (p : PlainState) (address m : ℕ) → IsRead b p → IsGiven op address b m
    → accumulated op b address ≡ (effect op p address m).a
accumulated-is op b p address m r g = search rules

-- an operation begins the hold that its effect has
pub held_by-is : (op : Op) (p : PlainState) (address m : ℕ) → p.hold ≡ 0 → held_by op ≡ (effect op p address m).hold
held_by-is op p address m e = search rules

-- STOP numbers the stop that the effect has
pub stopped-is : (op : Op) (p : PlainState) (address m stop : ℕ) → stop ≡ stop_number p.stop
    → stopped op stop ≡ stop_number (effect op p address m).stop
stopped-is op p address m stop e = search rules

-- PQ after an operation, where the landing left it so
pub pq_after-is : (op : Op) (b : Bus) (p : PlainState) (address pq : ℕ) → IsRead b p → unit.unit_pq b ≡ pq
    → unit.pq_after op b address ≡ pq_after op p address pq
pq_after-is op b p address pq r e = search rules

-- what the unit works on is what is pending
pub working_after-is : (op : Op) (b : Bus) (p : PlainState) (address m : ℕ) (r : Option Pending) → IsRead b p → IsGiven op address b m
    → b.accumulator.a < 2 ^ 26 → b.accumulator.operand < 2 ^ 26
    → IsWork r 0 (unit.unit_working b) → IsWork (pending_after op p address m r) 0 (unit.working_after op b address)
working_after-is op b p address m r s g a_word m_word w = search rules

-- the place after an effect is a HOP constant
pub in_range-effect : (op : Op) (p : PlainState) (address m : ℕ) → IsHopConstant p.place → IsHopConstant (effect op p address m).place
in_range-effect op p address m ok = search rules

-- a product on its way to A lands as the hold of its operation ends
pub held_after : (op : Op) (p : PlainState) (address m : ℕ) (r : Option Pending) → ((n : ℕ) → IsHeld r n)
    → IsHeld (pending_after op p address m r) (effect op p address m).hold
held_after op p address m r h = search rules
