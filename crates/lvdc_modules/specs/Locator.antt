-- LOCATOR, module 2: where the next instruction is fetched, and the saver.
use Rattle.std.specs.Prelude.{ℕ, false, List, ◌==◌, if◌then◌else◌}
use Rattle.lvdc_map.specs.Hop.{HopConstant, hop_of, word_of_hop, after, bit}
use Rattle.lvdc_map.specs.Place.{jumped}
use Rattle.lvdc_isa.specs.declared.instr.Instr.{Instr}
use Rattle.lvdc_isa.specs.declared.op.Op.{Op}
use Rattle.lvdc_isa.specs.declared.op.Op.TheVariants.{Hop, Tnz, Tra, Tmi, WrongShift, Exm}
use Rattle.lvdc_modules.specs.declared.bus.Bus.{Bus}
use Rattle.lvdc_modules.specs.declared.locator.LocatorState.{LocatorState}
use Rattle.lvdc_modules.specs.declared.seen.Doing.{Doing}
use Rattle.lvdc_modules.specs.declared.seen.Doing.TheVariants.{Executing}
use Rattle.lvdc_modules.specs.Seen.{doing, instruction, here}
use Rattle.lvdc_modules.specs.States.{locator_latches}

-- the fields that PLACE keeps: all but the data fields
abbrev pub place_fields : HopConstant → ℕ
place_fields h = word_of_hop (record h { dmod = 0; dsec = 0; dupdn = false })

-- from the place h on to the next location of the sector
abbrev pub moves_on : Bus → HopConstant → LocatorState
moves_on b h = record { place = place_fields (after h); saver = b.locator.saver }

-- from the place h to another; the saver has the constant of the location after h
abbrev pub moves_to : HopConstant → HopConstant → LocatorState
moves_to h to = record { place = place_fields to; saver = word_of_hop (after h) }

-- a transfer from h goes to the syllable and location of its address
abbrev pub jumps : HopConstant → ℕ → LocatorState
jumps h address = moves_to h (jumped h address)

-- what each operation makes of PLACE and SAVER at the place h
abbrev pub located : Op → Bus → HopConstant → ℕ → LocatorState
located Hop b h address = moves_to h (hop_of b.accumulator.operand)
located Tra b h address = jumps h address
located Tnz b h address = if b.accumulator.a == 0 then moves_on b h else jumps h address
located Tmi b h address = if bit b.accumulator.a 25 then jumps h address else moves_on b h
located WrongShift b h address = b.locator
located Exm b h address = b.locator
located _ b h address = moves_on b h

-- both change only where an instruction is executed
abbrev pub locator_by : Doing → Bus → HopConstant → Instr → LocatorState
locator_by Executing b h i = located i.op b h i.address
locator_by _ b h i = b.locator

-- LOCATOR: what its latches become in a phase
abbrev pub locator : Bus → LocatorState
locator b = locator_by (doing b) b (here b) (instruction b)

-- the same as a list
abbrev pub locator_row : Bus → List ℕ
locator_row b = locator_latches (locator b)
