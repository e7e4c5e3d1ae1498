-- Worked codes: the code of each operation and its name, and the control words of the arithmetic unit.
use Rattle.std.proofs.Common.{◌≡◌, [], ◌∷◌, true, false, map, codes, Some, refl}
use Rattle.lvdc_isa.specs.Instr.{instr, operation_code, syllable_of}
use Rattle.lvdc_isa.specs.Mnemonics.{operation_named, printed}
use Rattle.lvdc_isa.specs.declared.op.Op.TheVariants.{Hop, Mpy, Sub, Div, Tnz, Mph, And, Add, Tra, Xor, Pio, Sto, Tmi, Rsu, Cds, Shf, WrongShift, Exm, Cla}
use Rattle.lvdc_mul.specs.Control.{kind_of, kind_code, control_of, control_word, is_idle, is_last}
use Rattle.lvdc_mul.specs.declared.control.Kind.TheVariants.{Idle, Multiply, MultiplyHigh, Divide}

-- ---- operations

codes_0_to_7 : map operation_code (Hop ∷ Mpy ∷ Sub ∷ Div ∷ Tnz ∷ Mph ∷ And ∷ Add ∷ []) ≡ 0 ∷ 1 ∷ 2 ∷ 3 ∷ 4 ∷ 5 ∷ 6 ∷ 7 ∷ []
codes_0_to_7 = refl

codes_8_to_15 : map operation_code (Tra ∷ Xor ∷ Pio ∷ Sto ∷ Tmi ∷ Rsu ∷ Cds ∷ Cla ∷ []) ≡ 8 ∷ 9 ∷ 10 ∷ 11 ∷ 12 ∷ 13 ∷ 14 ∷ 15 ∷ []
codes_8_to_15 = refl

all_of_code_14 : map operation_code (Cds ∷ Shf ∷ WrongShift ∷ Exm ∷ []) ≡ 14 ∷ 14 ∷ 14 ∷ 14 ∷ []
all_of_code_14 = refl

names_of_codes_0_to_7 : map operation_named (codes "HOP" ∷ codes "MPY" ∷ codes "SUB" ∷ codes "DIV" ∷ codes "TNZ" ∷ codes "MPH" ∷ codes "AND" ∷ codes "ADD" ∷ [])
    ≡ Some Hop ∷ Some Mpy ∷ Some Sub ∷ Some Div ∷ Some Tnz ∷ Some Mph ∷ Some And ∷ Some Add ∷ []
names_of_codes_0_to_7 = refl

names_of_the_others : map operation_named (codes "TRA" ∷ codes "XOR" ∷ codes "PIO" ∷ codes "STO" ∷ codes "TMI" ∷ codes "RSU" ∷ codes "CDS" ∷ codes "SHF" ∷ codes "EXM" ∷ codes "CLA" ∷ [])
    ≡ Some Tra ∷ Some Xor ∷ Some Pio ∷ Some Sto ∷ Some Tmi ∷ Some Rsu ∷ Some Cds ∷ Some Shf ∷ Some Exm ∷ Some Cla ∷ []
names_of_the_others = refl

-- pattern 101 (octal) has seven bits, and shifts nowhere
seven_bits_of_a_pattern : instr 0o16301 ≡ record { op = WrongShift; address = 0o301 }
seven_bits_of_a_pattern = refl

the_highest_address : (printed (instr 0o17777) ≡ codes "CLA 777") × (syllable_of (record { op = Cla; address = 0o777 }) ≡ 0o17777)
the_highest_address = (refl, refl)

-- ---- CONTROL: the kind in bits 1 and 0, the phases left in bits 6 to 2, NEG, SAT, and what has no name

kinds_of_codes : (map kind_of (0 ∷ 1 ∷ 2 ∷ 3 ∷ []) ≡ Idle ∷ Multiply ∷ MultiplyHigh ∷ Divide ∷ [])
    × (map kind_code (Idle ∷ Multiply ∷ MultiplyHigh ∷ Divide ∷ []) ≡ 0 ∷ 1 ∷ 2 ∷ 3 ∷ [])
kinds_of_codes = (refl, refl)

-- 101 0 1 10110 10
not_saturated : control_of 0o5332 ≡ record { kind = MultiplyHigh; count = 22; negative = true; saturated = false; unnamed = 5 }
not_saturated = refl

-- 110 1 0 01101 01
saturated : (control_of 0o6465 ≡ record { kind = Multiply; count = 13; negative = false; saturated = true; unnamed = 6 })
    × (control_word (record { kind = Multiply; count = 13; negative = false; saturated = true; unnamed = 6 }) ≡ 0o6465)
saturated = (refl, refl)

only_idle_is_idle : map is_idle (Idle ∷ Multiply ∷ MultiplyHigh ∷ Divide ∷ []) ≡ true ∷ false ∷ false ∷ false ∷ []
only_idle_is_idle = refl

-- the last phase of work, and a count without work
last_phases : (is_last (control_of 0o5) ≡ true) × (is_last (control_of 0o11) ≡ false) × (is_last (control_of 0o4) ≡ false)
last_phases = (refl, refl, refl)
