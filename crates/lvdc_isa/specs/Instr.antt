-- Instructions: the operation and the address of a syllable.
use Rattle.std.specs.Prelude.{◌≡◌, ℕ, ◌+◌, ◌*◌, ◌/◌, ◌%◌, ◌^◌, ◌<◌, Bool, true, false, ◌==◌, ◌||◌, if◌then◌else◌, List, [], ◌∷◌, slice_index_or}
use Rattle.lvdc_isa.specs.declared.op.Op.{Op}
use Rattle.lvdc_isa.specs.declared.op.Op.TheVariants.{Hop, Mpy, Sub, Div, Tnz, Mph, And, Add, Tra, Xor, Pio, Sto, Tmi, Rsu, Cds, Shf, WrongShift, Exm, Cla}
use Rattle.lvdc_isa.specs.declared.instr.Instr.{Instr}

-- a pattern that shifts: to 0, one or two places right, one or two places left
abbrev pub is_shift : ℕ → Bool
is_shift pattern = pattern == 0 || pattern == 0o1 || pattern == 0o2 || pattern == 0o20 || pattern == 0o40

-- what code 14 means: CDS where A8 is 0; else EXM where A9 is 1, and a shift by its pattern where it is 0
abbrev pub fourteen : ℕ → Op
fourteen address =
    if address / 2 ^ 7 % 2 == 0 then Cds
    else (if address / 2 ^ 8 == 1 then Exm else (if is_shift (address % 2 ^ 7) then Shf else WrongShift))

-- the operations in the order of their codes; code 14 stands apart, and CDS keeps its place
abbrev pub operations : List Op
operations = Hop ∷ Mpy ∷ Sub ∷ Div ∷ Tnz ∷ Mph ∷ And ∷ Add ∷ Tra ∷ Xor ∷ Pio ∷ Sto ∷ Tmi ∷ Rsu ∷ Cds ∷ Cla ∷ []

-- the operation of a code; code 14 is told apart by the address
abbrev pub operation : ℕ → ℕ → Op
operation c address = if c == 14 then fourteen address else slice_index_or operations c Cla

-- bits 12 to 9 of a syllable are the code, of which 14 is told apart by the address, the nine bits below them
abbrev pub instr : ℕ → Instr
instr s = record { op = if s / 2 ^ 9 == 14 then fourteen (s % 2 ^ 9) else slice_index_or operations (s / 2 ^ 9) Cla; address = s % 2 ^ 9 }

-- the code of an operation
abbrev pub operation_code : Op → ℕ
operation_code Hop = 0
operation_code Mpy = 1
operation_code Sub = 2
operation_code Div = 3
operation_code Tnz = 4
operation_code Mph = 5
operation_code And = 6
operation_code Add = 7
operation_code Tra = 8
operation_code Xor = 9
operation_code Pio = 10
operation_code Sto = 11
operation_code Tmi = 12
operation_code Rsu = 13
operation_code Cds = 14
operation_code Shf = 14
operation_code WrongShift = 14
operation_code Exm = 14
operation_code Cla = 15

-- the syllable of an instruction
abbrev pub syllable_of : Instr → ℕ
syllable_of i = operation_code i.op * 2 ^ 9 + i.address

-- an instruction that some syllable is: its address has nine bits, and its operation is what its code means at that address
pub record IsInstruction (i : Instr) : Type 0 where
  pub nine_bits : i.address < 2 ^ 9
  pub meant : operation (operation_code i.op) i.address ≡ i.op

-- all operations but nine take an operand word
abbrev pub takes_operand : Op → Bool
takes_operand Tnz = false
takes_operand Tra = false
takes_operand Pio = false
takes_operand Sto = false
takes_operand Tmi = false
takes_operand Cds = false
takes_operand Shf = false
takes_operand WrongShift = false
takes_operand Exm = false
takes_operand _ = true
