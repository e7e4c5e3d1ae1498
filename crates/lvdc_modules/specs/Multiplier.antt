-- MULTIPLIER, module 6: PQ, and the working latches of the arithmetic unit.
use Rattle.std.specs.Prelude.{ℕ, true, false, List}
use Rattle.std.specs.declared.option.Option.{Option}
use Rattle.std.specs.declared.option.Option.TheVariants.{None, Some}
use Rattle.lvdc_map.specs.Place.{operand_kind}
use Rattle.lvdc_map.specs.declared.operand.OperandKind.{OperandKind}
use Rattle.lvdc_map.specs.declared.operand.OperandKind.TheVariants.{Pq}
use Rattle.lvdc_isa.specs.declared.instr.Instr.{Instr}
use Rattle.lvdc_isa.specs.declared.op.Op.{Op}
use Rattle.lvdc_isa.specs.declared.op.Op.TheVariants.{Mpy, Mph, Div, Sto}
use Rattle.lvdc_mul.specs.Latches.{Latches}
use Rattle.lvdc_mul.specs.Unit.{issued_multiply, issued_divide, cancelled, phase_of, lands_of}
use Rattle.lvdc_modules.specs.declared.bus.Bus.{Bus}
use Rattle.lvdc_modules.specs.declared.multiplier.MultiplierState.{MultiplierState}
use Rattle.lvdc_modules.specs.declared.seen.Doing.{Doing}
use Rattle.lvdc_modules.specs.declared.seen.Doing.TheVariants.{Executing}
use Rattle.lvdc_modules.specs.Seen.{doing, instruction}
use Rattle.lvdc_modules.specs.States.{multiplier_latches}

-- the working latches of the unit
abbrev pub working : Bus → Latches
working b = record { control = b.multiplier.control; m = b.multiplier.m; h = b.multiplier.h; q = b.multiplier.q }

-- the result that the unit lands in this phase
abbrev pub landing : Bus → Option ℕ
landing b = lands_of (working b)

-- PQ after the unit's phase: the result where one lands
abbrev pub pq_landed : Option ℕ → ℕ → ℕ
pq_landed (Some result) pq = result
pq_landed None pq = pq

-- the working latches after the unit's phase: CONTROL is 0 where a result lands
abbrev pub worked : Option ℕ → Latches → Latches
worked (Some result) u = cancelled (phase_of u)
worked None u = phase_of u

-- PQ as the unit leaves it
abbrev pub unit_pq : Bus → ℕ
unit_pq b = pq_landed (landing b) b.multiplier.pq

-- the working latches as the unit leaves them
abbrev pub unit_working : Bus → Latches
unit_working b = worked (landing b) (working b)

-- a store to PQ comes after the landing, and ends the unit's work
abbrev pub pq_stored : OperandKind → Bus → ℕ
pq_stored Pq b = b.accumulator.a
pq_stored _ b = unit_pq b

-- the same of the working latches
abbrev pub working_stored : OperandKind → Bus → Latches
working_stored Pq b = cancelled (unit_working b)
working_stored _ b = unit_working b

-- what each operation makes of PQ
abbrev pub pq_after : Op → Bus → ℕ → ℕ
pq_after Sto b address = pq_stored (operand_kind address) b
pq_after _ b address = unit_pq b

-- what each operation makes of the working latches: a new multiply or divide takes the place of the unit's work
abbrev pub working_after : Op → Bus → ℕ → Latches
working_after Mpy b address = issued_multiply b.accumulator.a b.accumulator.operand false
working_after Mph b address = issued_multiply b.accumulator.a b.accumulator.operand true
working_after Div b address = issued_divide b.accumulator.a b.accumulator.operand
working_after Sto b address = working_stored (operand_kind address) b
working_after _ b address = unit_working b

-- the unit makes its phase in every phase; the instruction counts where it is executed
abbrev pub pq_by : Doing → Bus → Instr → ℕ
pq_by Executing b i = pq_after i.op b i.address
pq_by _ b i = unit_pq b

-- the same of the working latches
abbrev pub working_by : Doing → Bus → Instr → Latches
working_by Executing b i = working_after i.op b i.address
working_by _ b i = unit_working b

-- the state with this PQ and these working latches
abbrev pub multiplier_with : ℕ → Latches → MultiplierState
multiplier_with pq u = record { pq = pq; control = u.control; m = u.m; h = u.h; q = u.q }

-- MULTIPLIER: what its latches become in a phase
abbrev pub multiplier : Bus → MultiplierState
multiplier b = multiplier_with (pq_by (doing b) b (instruction b)) (working_by (doing b) b (instruction b))

-- the same as a list
abbrev pub multiplier_row : Bus → List ℕ
multiplier_row b = multiplier_latches (multiplier b)
