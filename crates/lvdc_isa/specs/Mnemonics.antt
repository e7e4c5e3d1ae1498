-- Mnemonics: the names of the operations, and how an instruction is written.
use Rattle.std.specs.Prelude.{ℕ, ◌+◌, ◌/◌, ◌%◌, List, [], ◌∷◌, ◌++◌, codes}
use Rattle.std.specs.List.{find}
use Rattle.std.specs.Str.{bytes_eq}
use Rattle.std.specs.declared.option.Option.{Option}
use Rattle.lvdc_isa.specs.declared.op.Op.{Op}
use Rattle.lvdc_isa.specs.declared.op.Op.TheVariants.{Hop, Mpy, Sub, Div, Tnz, Mph, And, Add, Tra, Xor, Pio, Sto, Tmi, Rsu, Cds, Shf, WrongShift, Exm, Cla}
use Rattle.lvdc_isa.specs.declared.instr.Instr.{Instr}

-- the mnemonic of an operation; a shift whose pattern means nothing is written as a shift
abbrev pub mnemonic_of : Op → List ℕ
mnemonic_of Hop = codes "HOP"
mnemonic_of Mpy = codes "MPY"
mnemonic_of Sub = codes "SUB"
mnemonic_of Div = codes "DIV"
mnemonic_of Tnz = codes "TNZ"
mnemonic_of Mph = codes "MPH"
mnemonic_of And = codes "AND"
mnemonic_of Add = codes "ADD"
mnemonic_of Tra = codes "TRA"
mnemonic_of Xor = codes "XOR"
mnemonic_of Pio = codes "PIO"
mnemonic_of Sto = codes "STO"
mnemonic_of Tmi = codes "TMI"
mnemonic_of Rsu = codes "RSU"
mnemonic_of Cds = codes "CDS"
mnemonic_of Shf = codes "SHF"
mnemonic_of WrongShift = codes "SHF"
mnemonic_of Exm = codes "EXM"
mnemonic_of Cla = codes "CLA"

-- the eighteen operations that a mnemonic names
abbrev pub named_operations : List Op
named_operations = Hop ∷ Mpy ∷ Sub ∷ Div ∷ Tnz ∷ Mph ∷ And ∷ Add ∷ Tra ∷ Xor ∷ Pio ∷ Sto ∷ Tmi ∷ Rsu ∷ Cds ∷ Shf ∷ Exm ∷ Cla ∷ []

-- the operation that a text names, where it is a mnemonic
abbrev pub operation_named : List ℕ → Option Op
operation_named text = find (λ op. bytes_eq text (mnemonic_of op)) named_operations

-- an octal digit as a character
abbrev pub octal_digit : ℕ → ℕ
octal_digit n = 48 + n % 8

-- nine bits as three octal digits
abbrev pub three_digits : ℕ → List ℕ
three_digits n = octal_digit (n / 64) ∷ octal_digit (n / 8) ∷ octal_digit n ∷ []

-- an instruction as text: its mnemonic, a blank and its address
abbrev pub printed : Instr → List ℕ
printed i = mnemonic_of i.op ++ codes " " ++ three_digits i.address
