-- Worked sources with macros: what is answered of each; and lines of bodies, as calls write them.
use Rattle.std.proofs.Common.{◌≡◌, ℕ, false, List, [], ◌∷◌, Result, Err, length, refl}
use Rattle.std.specs.Prelude.{codes}
use Rattle.lvdc_asm.specs.Locations.{nothing}
use Rattle.lvdc_command_asm.specs.Expanded.{macro_answer}
use Rattle.lvdc_command_asm.specs.declared.expand.Form.TheVariants.{Source, Image}
use Rattle.lvdc_image.specs.Image.{image_text}
use Rattle.lvdc_macro.specs.Expansion.{Piece, pieces, unless_longer, called, start, expanded_from, bytes_of}
use Rattle.lvdc_macro.specs.Macros.{body_of}
use Rattle.lvdc_macro.specs.Substitution.{arguments_of, substituted}
use Rattle.lvdc_macro.specs.declared.fault.MacroFault.{MacroFault}
use Rattle.lvdc_macro.specs.declared.fault.MacroFault.TheVariants.{ExpansionTooLong}
use Rattle.lvdc_place.specs.Placement.{placement}
use Rattle.lvdc_place.specs.Slots.{least}
use Rattle.lvdc_source.specs.Lines.{parts_of}
use Rattle.lvdc_source.specs.Names.{is_name}
use Rattle.lvdc_source.specs.Numbers.{signed_of, octals_of}
use Rattle.lvdc_source.specs.Operands.{address_in, literal_in, body_in}
use Rattle.lvdc_source.specs.Operations.{operation_of}
use Rattle.lvdc_source.specs.Source.{meaning_of, after_end, items_from}
use Rattle.lvdc_text.specs.Lines.{lines_from, tokens_from}
use Rattle.lvdc_text.specs.Numbers.{octal_text, word_in}
use Rattle.std.specs.Fmt.{digits}
use Rattle.lvdc_reply.specs.Answer.{answer_with}

-- the expansion, and its image
the_expansion : macro_answer Source (codes "DOUBLE  MACRO\n        CLA   &1\n        ADD   &1\n        STO   &2\n        MEND\n        ORG   0,00,0,000\n        DOUBLE X,X+1\n        WORDS 0,01,000\nX       OCT   5\n        BSS   1\n        END\n") []
    ≡ answer_with 0 (codes "        ORG   0,00,0,000\n        CLA   X\n        ADD   X\n        STO   X+1\n        WORDS 0,01,000\nX       OCT   5\n        BSS   1\n        END\n") []
unfolding lines_from tokens_from octal_text word_in is_name parts_of signed_of octals_of address_in literal_in body_in operation_of meaning_of after_end items_from placement least nothing pieces called expanded_from bytes_of body_of substituted image_text digits
the_expansion = refl

the_image : macro_answer Image (codes "DOUBLE  MACRO\n        CLA   &1\n        ADD   &1\n        STO   &2\n        MEND\n        ORG   0,00,0,000\n        DOUBLE X,X+1\n        WORDS 0,01,000\nX       OCT   5\n        BSS   1\n        END\n") []
    ≡ answer_with 0 (codes "LVDC 1\n0 00 000 000017000\n0 00 001 000007000\n0 00 002 000013001\n0 01 000 000000005\nEND\n") []
unfolding lines_from tokens_from octal_text word_in is_name parts_of signed_of octals_of address_in literal_in body_in operation_of meaning_of after_end items_from placement least nothing pieces called expanded_from bytes_of body_of substituted image_text digits
the_image = refl

-- a refusal of the expansion
endless : macro_answer Image (codes "LOOP    MACRO\n        LOOP\n        MEND\n        LOOP\n        END\n") []
    ≡ answer_with 3 (codes "REFUSED TooDeep 4\n") []
unfolding lines_from tokens_from octal_text word_in is_name parts_of signed_of octals_of address_in literal_in body_in operation_of meaning_of after_end items_from placement least nothing pieces called expanded_from bytes_of body_of substituted image_text digits
endless = refl

-- a refusal of what it expands to is told with the source line from which the refused line came
undefined : macro_answer Image (codes "DOUBLE  MACRO\n        CLA   &1\n        ADD   &1\n        STO   &2\n        MEND\n        ORG   0,00,0,000\n        DOUBLE X,Y\n        WORDS 0,01,000\nX       OCT   5\n        BSS   1\n        END\n") []
    ≡ answer_with 3 (codes "REFUSED UndefinedName 7\n") []
unfolding lines_from tokens_from octal_text word_in is_name parts_of signed_of octals_of address_in literal_in body_in operation_of meaning_of after_end items_from placement least nothing pieces called expanded_from bytes_of body_of substituted image_text digits
undefined = refl

-- a missing END keeps one more than the last line of the source
no_end : macro_answer Image (codes "M       MACRO\n        CLA   0\n        CLA   0\n        MEND\n        CODE\n        M\n        M\n") []
    ≡ answer_with 3 (codes "REFUSED MissingEnd 8\n") []
unfolding lines_from tokens_from octal_text word_in is_name parts_of signed_of octals_of address_in literal_in body_in operation_of meaning_of after_end items_from placement least nothing pieces called expanded_from bytes_of body_of substituted image_text digits
no_end = refl

-- ---- lines of bodies

-- a colon stands behind the digits
no_digit : substituted 1 (codes "X" ∷ []) (codes "&:&1") ≡ codes "&:X"
unfolding substituted
no_digit = refl

-- a line of 1,048,575 bytes and its LF are as long as an expansion may be
the_longest_line : (text : List ℕ) (piece : Result Piece MacroFault) → length text ≡ 1048575 → unless_longer 7 text piece ≡ piece
the_longest_line text piece long = rw long refl

a_longer_line : (text : List ℕ) (piece : Result Piece MacroFault) → length text ≡ 1048576 → unless_longer 7 text piece ≡ Err (ExpansionTooLong 7)
a_longer_line text piece long = rw long refl

-- nothing is written before the first line
before_the_first_line : start.progress ≡ record { calls = 0; size = 0 }
before_the_first_line = refl

-- of a call in line 7, where two levels are left behind it
a_longer_line_of_a_body : (text : List ℕ) → length (substituted 1 (arguments_of []) text) ≡ 1048576
    → called 3 [] 7 (record { calls = 0; size = 0 }) false [] (text ∷ []) ≡ Err (ExpansionTooLong 7)
unfolding called pieces
a_longer_line_of_a_body text long = rw long refl
