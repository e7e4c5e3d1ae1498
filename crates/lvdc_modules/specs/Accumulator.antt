-- ACCUMULATOR, module 5: A, and the operand word of the instruction.
use Rattle.std.specs.Prelude.{ℕ, ◌%◌, ◌^◌, List, if◌then◌else◌, bit_and, bit_xor}
use Rattle.std.specs.declared.option.Option.{Option}
use Rattle.std.specs.declared.option.Option.TheVariants.{Some}
use Rattle.lvdc_word.specs.Word.{sum, difference}
use Rattle.lvdc_map.specs.Place.{a9, operand_kind}
use Rattle.lvdc_map.specs.declared.operand.OperandKind.{OperandKind}
use Rattle.lvdc_map.specs.declared.operand.OperandKind.TheVariants.{Pq}
use Rattle.lvdc_isa.specs.Instr.{takes_operand}
use Rattle.lvdc_isa.specs.Shift.{shifted}
use Rattle.lvdc_isa.specs.declared.instr.Instr.{Instr}
use Rattle.lvdc_isa.specs.declared.op.Op.{Op}
use Rattle.lvdc_isa.specs.declared.op.Op.TheVariants.{Sub, And, Add, Xor, Pio, Rsu, Shf, Cla}
use Rattle.lvdc_mul.specs.declared.control.Kind.{Kind}
use Rattle.lvdc_mul.specs.declared.control.Kind.TheVariants.{MultiplyHigh}
use Rattle.lvdc_mul.specs.Unit.{kind}
use Rattle.lvdc_modules.specs.declared.bus.Bus.{Bus}
use Rattle.lvdc_modules.specs.declared.accumulator.AccumulatorState.{AccumulatorState}
use Rattle.lvdc_modules.specs.declared.seen.Doing.{Doing}
use Rattle.lvdc_modules.specs.declared.seen.Doing.TheVariants.{Taking, Executing}
use Rattle.lvdc_modules.specs.Seen.{doing, instruction}
use Rattle.lvdc_modules.specs.Multiplier.{working, landing}
use Rattle.lvdc_modules.specs.States.{accumulator_latches}

-- what each operation makes of A
abbrev pub accumulated : Op → Bus → ℕ → ℕ
accumulated Sub b address = difference b.accumulator.a b.accumulator.operand
accumulated And b address = bit_and b.accumulator.a b.accumulator.operand
accumulated Add b address = sum b.accumulator.a b.accumulator.operand
accumulated Xor b address = bit_xor b.accumulator.a b.accumulator.operand
accumulated Pio b address = if a9 address then b.port else b.accumulator.a
accumulated Rsu b address = difference b.accumulator.operand b.accumulator.a
accumulated Shf b address = shifted b.accumulator.a (address % 2 ^ 7)
accumulated Cla b address = b.accumulator.operand
accumulated _ b address = b.accumulator.a

-- A changes where an instruction is executed
abbrev pub a_by : Doing → Bus → Instr → ℕ
a_by Executing b i = accumulated i.op b i.address
a_by _ b i = b.accumulator.a

-- in any phase in which the product of an MPH lands, A is that product instead
abbrev pub a_landed : Kind → Option ℕ → ℕ → ℕ
a_landed MultiplyHigh (Some result) a = result
a_landed _ _ a = a

-- the operand word: PQ, or what was read from memory
abbrev pub operand_from : OperandKind → Bus → ℕ
operand_from Pq b = b.multiplier.pq
operand_from _ b = b.memory

-- OPERAND changes only where an instruction takes its operand
abbrev pub operand_by : Doing → Bus → Instr → ℕ
operand_by Taking b i = if takes_operand i.op then operand_from (operand_kind i.address) b else b.accumulator.operand
operand_by _ b i = b.accumulator.operand

-- ACCUMULATOR: what its latches become in a phase
abbrev pub accumulator : Bus → AccumulatorState
accumulator b =
    record {
      a = a_landed (kind (working b)) (landing b) (a_by (doing b) b (instruction b));
      operand = operand_by (doing b) b (instruction b);
    }

-- the same as a list
abbrev pub accumulator_row : Bus → List ℕ
accumulator_row b = accumulator_latches (accumulator b)
