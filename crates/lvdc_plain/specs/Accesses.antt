-- What an instruction time reads and stores in memory.
use Rattle.std.specs.Prelude.{ℕ, zero, if◌then◌else◌}
use Rattle.std.specs.declared.option.Option.{Option}
use Rattle.std.specs.declared.option.Option.TheVariants.{None, Some}
use Rattle.lvdc_map.specs.Address.{Spot}
use Rattle.lvdc_map.specs.Hop.{fetch_of}
use Rattle.lvdc_map.specs.Place.{place_of}
use Rattle.lvdc_map.specs.declared.placed.Placed.{Placed}
use Rattle.lvdc_map.specs.declared.place.Place.{Place}
use Rattle.lvdc_map.specs.declared.place.Place.TheVariants.{Memory, Pq, Saver}
use Rattle.lvdc_isa.specs.Instr.{takes_operand}
use Rattle.lvdc_isa.specs.declared.instr.Instr.{Instr}
use Rattle.lvdc_isa.specs.declared.op.Op.{Op}
use Rattle.lvdc_isa.specs.declared.op.Op.TheVariants.{Sto}
use Rattle.lvdc_plain.specs.declared.records.Stop.{Stop}
use Rattle.lvdc_plain.specs.Plain.{PlainState}
use Rattle.lvdc_plain.specs.Table.{fetched_instr}

-- what is accessed in a time, by stop and hold: nothing after a stop or while a hold is left
abbrev pub accessed : {B : Type 0} → Option Stop → ℕ → Option B → Option B
accessed None zero access = access
accessed _ _ access = None

-- the address that is fetched in the next time of a plain state, if any
abbrev pub fetched : PlainState → Option Spot
fetched p = accessed p.stop p.hold (Some (fetch_of p.banks p.place))

-- the address in memory of a place
abbrev pub address_of_place : Place → Option Spot
address_of_place (Memory at) = Some at
address_of_place Pq = None
address_of_place (Saver at) = Some at

-- the address that is read as an operand in the next time, if any
abbrev pub operand : PlainState → Option Spot
operand p =
    let i = fetched_instr p in accessed p.stop p.hold (if takes_operand i.op then address_of_place (place_of p.banks p.place i.address) else None)

-- what STO stores at a place: A in memory, the saver in a saver's word, nothing in memory at PQ
abbrev pub store_to : PlainState → Place → Option Placed
store_to p (Memory at) = Some (record { at = at; word = p.a })
store_to p (Saver at) = Some (record { at = at; word = p.saver })
store_to p Pq = None

-- what an instruction stores in memory, if anything
abbrev pub store_of : PlainState → Op → ℕ → Option Placed
store_of p Sto address = store_to p (place_of p.banks p.place address)
store_of p _ address = None

-- the store that a time makes, where it makes one
abbrev pub store : PlainState → Option Placed
store p = accessed p.stop p.hold (store_of p (fetched_instr p).op (fetched_instr p).address)

-- ---- for the laws

-- the address of an instruction's operand in memory, where it takes one there
abbrev pub operand_of : PlainState → Instr → Option Spot
operand_of p i = if takes_operand i.op then address_of_place (place_of p.banks p.place i.address) else None
