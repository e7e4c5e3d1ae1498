-- Worked sources, and each refusal where it is the first.
use Rattle.std.proofs.Common.{◌≡◌, ℕ, ◌+◌, List, [], ◌∷◌, Ok, Err, Result, refl, codes}
use Rattle.std.specs.Prelude.{pos, neg_ℤ}
use Rattle.std.specs.declared.option.Option.TheVariants.{None, Some}
use Rattle.lvdc_isa.specs.declared.op.Op.TheVariants as op
use Rattle.lvdc_source.specs.declared.fault.SourceFault.{SourceFault}
use Rattle.lvdc_source.specs.declared.fault.SourceFault.TheVariants.{LineTooLong, BadLabel, UnknownOperation, ExecuteModified, BadDirective, BadOperand, MissingEnd, AfterEnd}
use Rattle.lvdc_source.specs.declared.item.Constant.TheVariants as constant
use Rattle.lvdc_source.specs.declared.item.Operand.{Operand}
use Rattle.lvdc_source.specs.declared.item.Operand.TheVariants.{Number, Pair, Name, Literal}
use Rattle.lvdc_source.specs.declared.item.Body.{Body}
use Rattle.lvdc_source.specs.declared.item.Body.TheVariants.{Code, Org, Words, Sector, Room, Constant, Instruction}
use Rattle.lvdc_source.specs.declared.item.Item.{Item}
use Rattle.lvdc_source.specs.Names.{is_name}
use Rattle.lvdc_source.specs.Numbers.{signed_of, octals_of}
use Rattle.lvdc_text.specs.Lines.{NumberedLine}
use Rattle.lvdc_source.specs.Lines.{parts_of}
use Rattle.lvdc_source.specs.Operations.{operation_of}
use Rattle.lvdc_source.specs.Operands.{address_in, literal_in, body_in}
use Rattle.lvdc_source.specs.Source.{meaning_of, after_end, items_from, source_of}

-- lines numbered from this one on
from : ℕ → List (List ℕ) → List NumberedLine
from number [] = []
from number (text ∷ texts) = record { number = number; text = text } ∷ from (number + 1) texts

meaning : List (List ℕ) → Result (List Item) SourceFault
meaning texts = source_of (from 1 texts)

-- an item of a line without a label, and of one with a label
plain : ℕ → Body → Item
plain number said = record { line = number; label = []; body = said }

labelled : ℕ → List ℕ → Body → Item
labelled number label said = record { line = number; label = label; body = said }

-- the place of a name
place : List ℕ → Operand
place name = Name name 0

fixed_places : meaning
    (codes "        ORG   0,00,0,000" ∷ codes "        CLA   X" ∷ codes "        ADD   X+1" ∷ codes "        STO   X+2" ∷ codes "LOOP    TRA   LOOP"
    ∷ codes "        WORDS 0,01,000" ∷ codes "X       OCT   177777777" ∷ codes "        DEC   1" ∷ codes "        BSS   1" ∷ codes "        END" ∷ [])
    ≡ Ok
    (plain 1 (Org (record { pair = 0; sector = 0; loc = 0 }) 0) ∷ plain 2 (Instruction op.Cla (place (codes "X"))) ∷ plain 3 (Instruction op.Add (Name (codes "X") 1))
    ∷ plain 4 (Instruction op.Sto (Name (codes "X") 2)) ∷ labelled 5 (codes "LOOP") (Instruction op.Tra (place (codes "LOOP"))) ∷ plain 6 (Words 0 1 (Some 0))
    ∷ labelled 7 (codes "X") (Constant (constant.Oct 0o177777777)) ∷ plain 8 (Constant (constant.Dec (pos 1))) ∷ plain 9 (Room 1) ∷ [])
unfolding meaning from plain labelled place is_name signed_of octals_of parts_of operation_of address_in literal_in body_in meaning_of after_end items_from
fixed_places = refl

-- a literal, and a word in a sector
pooled_word : meaning
    (codes "        CODE" ∷ codes "BEGIN   CLA   X" ∷ codes "        ADD   =O1" ∷ codes "        TRA   BEGIN" ∷ codes "        WORDS 0,01" ∷ codes "X       OCT   5" ∷ codes "        END" ∷ [])
    ≡ Ok
    (plain 1 Code
    ∷ labelled 2 (codes "BEGIN") (Instruction op.Cla (place (codes "X")))
    ∷ plain 3 (Instruction op.Add (Literal (constant.Oct 1)))
    ∷ plain 4 (Instruction op.Tra (place (codes "BEGIN")))
    ∷ plain 5 (Words 0 1 None)
    ∷ labelled 6 (codes "X") (Constant (constant.Oct 5)) ∷ [])
unfolding meaning from plain labelled place is_name signed_of octals_of parts_of operation_of address_in literal_in body_in meaning_of after_end items_from
pooled_word = refl

-- a whole program, with comments
whole_program : meaning
    (codes "* DISCRETES, HALVED BY A SUBROUTINE, TO TELEMETRY" ∷ codes "        CODE" ∷ codes "MAIN    PIO   400" ∷ codes "        STO   DISC"
    ∷ codes "        TNZ   WORK" ∷ codes "DONE    TRA   DONE" ∷ codes "WORK    HOP   =HSCALE" ∷ codes "BACK    CLA   SUM"
    ∷ codes "        PIO   017" ∷ codes "        TRA   MAIN" ∷ codes "        CODE" ∷ codes "SCALE   STO   776      RETURN"
    ∷ codes "        CLA   DISC" ∷ codes "        MPY   HALF" ∷ codes "        CLA   SUM" ∷ codes "        CLA   SUM"
    ∷ codes "        CLA   SUM" ∷ codes "        CLA   SUM" ∷ codes "        ADD   775" ∷ codes "        STO   SUM"
    ∷ codes "        HOP   776" ∷ codes "        WORDS 0,01" ∷ codes "DISC    BSS   1" ∷ codes "SUM     OCT   0"
    ∷ codes "        WORDS 0,17" ∷ codes "HALF    OCT   100000000" ∷ codes "        END" ∷ [])
    ≡ Ok
    (plain 2 Code
    ∷ labelled 3 (codes "MAIN") (Instruction op.Pio (Number 0o400))
    ∷ plain 4 (Instruction op.Sto (place (codes "DISC")))
    ∷ plain 5 (Instruction op.Tnz (place (codes "WORK")))
    ∷ labelled 6 (codes "DONE") (Instruction op.Tra (place (codes "DONE")))
    ∷ labelled 7 (codes "WORK") (Instruction op.Hop (Literal (constant.HopOf (codes "SCALE"))))
    ∷ labelled 8 (codes "BACK") (Instruction op.Cla (place (codes "SUM")))
    ∷ plain 9 (Instruction op.Pio (Number 0o17))
    ∷ plain 10 (Instruction op.Tra (place (codes "MAIN")))
    ∷ plain 11 Code
    ∷ labelled 12 (codes "SCALE") (Instruction op.Sto (Number 0o776))
    ∷ plain 13 (Instruction op.Cla (place (codes "DISC")))
    ∷ plain 14 (Instruction op.Mpy (place (codes "HALF")))
    ∷ plain 15 (Instruction op.Cla (place (codes "SUM")))
    ∷ plain 16 (Instruction op.Cla (place (codes "SUM")))
    ∷ plain 17 (Instruction op.Cla (place (codes "SUM")))
    ∷ plain 18 (Instruction op.Cla (place (codes "SUM")))
    ∷ plain 19 (Instruction op.Add (Number 0o775))
    ∷ plain 20 (Instruction op.Sto (place (codes "SUM")))
    ∷ plain 21 (Instruction op.Hop (Number 0o776))
    ∷ plain 22 (Words 0 1 None)
    ∷ labelled 23 (codes "DISC") (Room 1)
    ∷ labelled 24 (codes "SUM") (Constant (constant.Oct 0))
    ∷ plain 25 (Words 0 15 None)
    ∷ labelled 26 (codes "HALF") (Constant (constant.Oct 0o100000000)) ∷ [])
unfolding meaning from plain labelled place is_name signed_of octals_of parts_of operation_of address_in literal_in body_in meaning_of after_end items_from
whole_program = refl

-- an instruction that this profile leaves out
modified : meaning
    (codes "        CODE" ∷ codes "        EXM   000" ∷ codes "        END" ∷ [])
    ≡ Err (ExecuteModified 2)
unfolding meaning from is_name signed_of octals_of parts_of operation_of address_in literal_in body_in meaning_of after_end items_from
modified = refl

-- every directive, and the blanks between
directives : meaning
    (codes "        USE 3,17  COMMENT" ∷ codes "        WORDS 1,2,377" ∷ codes "A1234567 HOPC A1234567" ∷ codes "        DEC   -000000001" ∷ codes "        DEC   +5" ∷ codes "        BSS   256" ∷ codes "        ORG   3,017,001,377" ∷ codes "        CDS   4,20 AND MORE" ∷ codes "        SHF   0777" ∷ codes "        CLA   =D-12" ∷ codes "        MPH   A1234567+999" ∷ codes "        END   OF ALL" ∷ codes "* BEHIND" ∷ codes "  " ∷ [])
    ≡ Ok
    (plain 1 (Sector 3 15)
    ∷ plain 2 (Words 1 2 (Some 255))
    ∷ labelled 3 (codes "A1234567") (Constant (constant.HopOf (codes "A1234567")))
    ∷ plain 4 (Constant (constant.Dec (neg_ℤ (pos 1))))
    ∷ plain 5 (Constant (constant.Dec (pos 5)))
    ∷ plain 6 (Room 256)
    ∷ plain 7 (Org (record { pair = 3; sector = 15; loc = 255 }) 1)
    ∷ plain 8 (Instruction op.Cds (Pair 4 16))
    ∷ plain 9 (Instruction op.Shf (Number 0o777))
    ∷ plain 10 (Instruction op.Cla (Literal (constant.Dec (neg_ℤ (pos 12)))))
    ∷ plain 11 (Instruction op.Mph (Name (codes "A1234567") 999)) ∷ [])
unfolding meaning from plain labelled place is_name signed_of octals_of parts_of operation_of address_in literal_in body_in meaning_of after_end items_from
directives = refl

label_of_nine : meaning
    (codes "        CODE" ∷ codes "A12345678 CLA X" ∷ [])
    ≡ Err (BadLabel 2)
unfolding meaning from is_name signed_of octals_of parts_of operation_of address_in literal_in body_in meaning_of after_end items_from
label_of_nine = refl

label_of_digit : meaning
    (codes "        CODE" ∷ codes "1A      CLA   X" ∷ [])
    ≡ Err (BadLabel 2)
unfolding meaning from is_name signed_of octals_of parts_of operation_of address_in literal_in body_in meaning_of after_end items_from
label_of_digit = refl

label_on_use : meaning
    (codes "X       USE   0,01" ∷ [])
    ≡ Err (BadLabel 1)
unfolding meaning from is_name signed_of octals_of parts_of operation_of address_in literal_in body_in meaning_of after_end items_from
label_on_use = refl

-- a label alone has no operation
label_alone : meaning
    (codes "X" ∷ [])
    ≡ Err (UnknownOperation 1)
unfolding meaning from is_name signed_of octals_of parts_of operation_of address_in literal_in body_in meaning_of after_end items_from
label_alone = refl

-- a wrong label comes before an unknown operation
label_first : meaning
    (codes "x       NOP" ∷ [])
    ≡ Err (BadLabel 1)
unfolding meaning from is_name signed_of octals_of parts_of operation_of address_in literal_in body_in meaning_of after_end items_from
label_first = refl

-- an unknown operation comes before its block
unknown_first : meaning
    (codes "        NOP" ∷ [])
    ≡ Err (UnknownOperation 1)
unfolding meaning from is_name signed_of octals_of parts_of operation_of address_in literal_in body_in meaning_of after_end items_from
unknown_first = refl

-- EXM comes before its block
modified_first : meaning
    (codes "        EXM" ∷ [])
    ≡ Err (ExecuteModified 1)
unfolding meaning from is_name signed_of octals_of parts_of operation_of address_in literal_in body_in meaning_of after_end items_from
modified_first = refl

-- an instruction before any block
code_outside : meaning
    (codes "        CLA   X" ∷ [])
    ≡ Err (BadDirective 1)
unfolding meaning from is_name signed_of octals_of parts_of operation_of address_in literal_in body_in meaning_of after_end items_from
code_outside = refl

code_in_words : meaning
    (codes "        WORDS 0,01" ∷ codes "        CLA" ∷ [])
    ≡ Err (BadDirective 2)
unfolding meaning from is_name signed_of octals_of parts_of operation_of address_in literal_in body_in meaning_of after_end items_from
code_in_words = refl

-- a constant comes before its operand
word_in_code : meaning
    (codes "        CODE" ∷ codes "        OCT   9" ∷ [])
    ≡ Err (BadDirective 2)
unfolding meaning from is_name signed_of octals_of parts_of operation_of address_in literal_in body_in meaning_of after_end items_from
word_in_code = refl

room_of_0 : meaning
    (codes "        WORDS 0,01" ∷ codes "        BSS   0" ∷ [])
    ≡ Err (BadDirective 2)
unfolding meaning from is_name signed_of octals_of parts_of operation_of address_in literal_in body_in meaning_of after_end items_from
room_of_0 = refl

room_of_257 : meaning
    (codes "        WORDS 0,01" ∷ codes "        BSS   257" ∷ [])
    ≡ Err (BadDirective 2)
unfolding meaning from is_name signed_of octals_of parts_of operation_of address_in literal_in body_in meaning_of after_end items_from
room_of_257 = refl

sector_of_20 : meaning
    (codes "        WORDS 0,20" ∷ [])
    ≡ Err (BadDirective 1)
unfolding meaning from is_name signed_of octals_of parts_of operation_of address_in literal_in body_in meaning_of after_end items_from
sector_of_20 = refl

pair_of_4 : meaning
    (codes "        USE   4,00" ∷ [])
    ≡ Err (BadDirective 1)
unfolding meaning from is_name signed_of octals_of parts_of operation_of address_in literal_in body_in meaning_of after_end items_from
pair_of_4 = refl

no_pair : meaning
    (codes "        USE" ∷ [])
    ≡ Err (BadDirective 1)
unfolding meaning from is_name signed_of octals_of parts_of operation_of address_in literal_in body_in meaning_of after_end items_from
no_pair = refl

syllable_of_2 : meaning
    (codes "        ORG   0,00,2,000" ∷ [])
    ≡ Err (BadDirective 1)
unfolding meaning from is_name signed_of octals_of parts_of operation_of address_in literal_in body_in meaning_of after_end items_from
syllable_of_2 = refl

location_of_400 : meaning
    (codes "        ORG   0,00,0,400" ∷ [])
    ≡ Err (BadDirective 1)
unfolding meaning from is_name signed_of octals_of parts_of operation_of address_in literal_in body_in meaning_of after_end items_from
location_of_400 = refl

blank_in_fields : meaning
    (codes "        ORG   0,00, 0,000" ∷ [])
    ≡ Err (BadDirective 1)
unfolding meaning from is_name signed_of octals_of parts_of operation_of address_in literal_in body_in meaning_of after_end items_from
blank_in_fields = refl

fifth_field : meaning
    (codes "        ORG   0,00,0,000,0" ∷ [])
    ≡ Err (BadDirective 1)
unfolding meaning from is_name signed_of octals_of parts_of operation_of address_in literal_in body_in meaning_of after_end items_from
fifth_field = refl

octal_of_8 : meaning
    (codes "        WORDS 0,01" ∷ codes "        OCT   8" ∷ [])
    ≡ Err (BadOperand 2)
unfolding meaning from is_name signed_of octals_of parts_of operation_of address_in literal_in body_in meaning_of after_end items_from
octal_of_8 = refl

ten_digits : meaning
    (codes "        WORDS 0,01" ∷ codes "        OCT   0000000001" ∷ [])
    ≡ Err (BadOperand 2)
unfolding meaning from is_name signed_of octals_of parts_of operation_of address_in literal_in body_in meaning_of after_end items_from
ten_digits = refl

sign_alone : meaning
    (codes "        WORDS 0,01" ∷ codes "        DEC   -" ∷ [])
    ≡ Err (BadOperand 2)
unfolding meaning from is_name signed_of octals_of parts_of operation_of address_in literal_in body_in meaning_of after_end items_from
sign_alone = refl

hop_of_number : meaning
    (codes "        WORDS 0,01" ∷ codes "        HOPC  5" ∷ [])
    ≡ Err (BadOperand 2)
unfolding meaning from is_name signed_of octals_of parts_of operation_of address_in literal_in body_in meaning_of after_end items_from
hop_of_number = refl

no_operand : meaning
    (codes "        CODE" ∷ codes "        CLA" ∷ [])
    ≡ Err (BadOperand 2)
unfolding meaning from is_name signed_of octals_of parts_of operation_of address_in literal_in body_in meaning_of after_end items_from
no_operand = refl

offset_of_1000 : meaning
    (codes "        CODE" ∷ codes "        CLA   X+1000" ∷ [])
    ≡ Err (BadOperand 2)
unfolding meaning from is_name signed_of octals_of parts_of operation_of address_in literal_in body_in meaning_of after_end items_from
offset_of_1000 = refl

offset_missing : meaning
    (codes "        CODE" ∷ codes "        CLA   X+" ∷ [])
    ≡ Err (BadOperand 2)
unfolding meaning from is_name signed_of octals_of parts_of operation_of address_in literal_in body_in meaning_of after_end items_from
offset_missing = refl

literal_stored : meaning
    (codes "        CODE" ∷ codes "        STO   =O5" ∷ [])
    ≡ Err (BadOperand 2)
unfolding meaning from is_name signed_of octals_of parts_of operation_of address_in literal_in body_in meaning_of after_end items_from
literal_stored = refl

literal_alone : meaning
    (codes "        CODE" ∷ codes "        CLA   =O" ∷ [])
    ≡ Err (BadOperand 2)
unfolding meaning from is_name signed_of octals_of parts_of operation_of address_in literal_in body_in meaning_of after_end items_from
literal_alone = refl

port_by_name : meaning
    (codes "        CODE" ∷ codes "        PIO   X" ∷ [])
    ≡ Err (BadOperand 2)
unfolding meaning from is_name signed_of octals_of parts_of operation_of address_in literal_in body_in meaning_of after_end items_from
port_by_name = refl

pair_alone : meaning
    (codes "        CODE" ∷ codes "        CDS   0" ∷ [])
    ≡ Err (BadOperand 2)
unfolding meaning from is_name signed_of octals_of parts_of operation_of address_in literal_in body_in meaning_of after_end items_from
pair_alone = refl

end_missing : meaning
    (codes "        CODE" ∷ [])
    ≡ Err (MissingEnd 2)
unfolding meaning from is_name signed_of octals_of parts_of operation_of address_in literal_in body_in meaning_of after_end items_from
end_missing = refl

after_the_end : meaning
    (codes "        END" ∷ codes "* MORE" ∷ codes "        CLA   X" ∷ [])
    ≡ Err (AfterEnd 3)
unfolding meaning from is_name signed_of octals_of parts_of operation_of address_in literal_in body_in meaning_of after_end items_from
after_the_end = refl

no_lines : meaning [] ≡ Err (MissingEnd 1)
unfolding meaning from is_name signed_of octals_of parts_of operation_of address_in literal_in body_in meaning_of after_end items_from
no_lines = refl

-- a line of 120 bytes is read
longest : meaning
    (codes "        CODE                                                                                                            " ∷ codes "        END" ∷ [])
    ≡ Ok (plain 1 Code ∷ [])
unfolding meaning from plain labelled place is_name signed_of octals_of parts_of operation_of address_in literal_in body_in meaning_of after_end items_from
longest = refl

-- one of 121 is refused, also for a wrong label
too_long : meaning
    (codes "1        CODE                                                                                                            " ∷ [])
    ≡ Err (LineTooLong 1)
unfolding meaning from is_name signed_of octals_of parts_of operation_of address_in literal_in body_in meaning_of after_end items_from
too_long = refl

long_comment : meaning
    (codes "*        CODE                                                                                                            " ∷ [])
    ≡ Err (LineTooLong 1)
unfolding meaning from is_name signed_of octals_of parts_of operation_of address_in literal_in body_in meaning_of after_end items_from
long_comment = refl

-- a long line after END is refused as long
long_after_end : meaning
    (codes "        END" ∷ codes "*        CODE                                                                                                            " ∷ [])
    ≡ Err (LineTooLong 2)
unfolding meaning from is_name signed_of octals_of parts_of operation_of address_in literal_in body_in meaning_of after_end items_from
long_after_end = refl

-- no label may stand on END, nor on what begins a block
label_on_end : meaning
    (codes "        CODE" ∷ codes "X       END" ∷ [])
    ≡ Err (BadLabel 2)
unfolding meaning from is_name signed_of octals_of parts_of operation_of address_in literal_in body_in meaning_of after_end items_from
label_on_end = refl

label_on_code : meaning
    (codes "X       CODE" ∷ [])
    ≡ Err (BadLabel 1)
unfolding meaning from is_name signed_of octals_of parts_of operation_of address_in literal_in body_in meaning_of after_end items_from
label_on_code = refl

label_on_org : meaning
    (codes "X       ORG   0,00,0,000" ∷ [])
    ≡ Err (BadLabel 1)
unfolding meaning from is_name signed_of octals_of parts_of operation_of address_in literal_in body_in meaning_of after_end items_from
label_on_org = refl

label_on_words : meaning
    (codes "X       WORDS 0,01" ∷ [])
    ≡ Err (BadLabel 1)
unfolding meaning from is_name signed_of octals_of parts_of operation_of address_in literal_in body_in meaning_of after_end items_from
label_on_words = refl
