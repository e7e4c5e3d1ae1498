-- Worked images of version 2 and their refusals, and the names of refusals of sources.
use Rattle.std.proofs.Common.{◌≡◌, ℕ, List, [], ◌∷◌, Result, Ok, Err, Some, None, map, codes, refl}
use Rattle.lvdc_map.specs.Hop.{hop_of}
use Rattle.lvdc_text.specs.Lines.{lines_from, lines_of, numbered}
use Rattle.lvdc_image.specs.Image.{Contents}
use Rattle.lvdc_image.specs.Reading.{entry_in, words_from, banks_named, banks_in, image_of}
use Rattle.lvdc_image.specs.declared.fault.ImageFault.{ImageFault}
use Rattle.lvdc_image.specs.declared.fault.ImageFault.TheVariants.{BadImageLine, BadWord, AddressOrder}
use Rattle.lvdc_source.specs.Faults.{name_of, line_of}
use Rattle.lvdc_source.specs.declared.fault.SourceFault.TheVariants.{LineTooLong, BadLabel, UnknownOperation, ExecuteModified, BadDirective, BadOperand, MissingEnd, AfterEnd}

-- ---- the simplex pairs of a line: a blank and a digit each, rising

pairs_named : map banks_named (codes " 0 1 2 3" ∷ codes " 2" ∷ codes " 1 3" ∷ codes "" ∷ codes " 4" ∷ codes " 1 0" ∷ codes " 2 2" ∷ codes " 3 " ∷ codes "  3" ∷ [])
    ≡ Some 15 ∷ Some 4 ∷ Some 10 ∷ None ∷ None ∷ None ∷ None ∷ None ∷ None ∷ []
unfolding banks_named
pairs_named = refl

-- ---- whole images

-- what a text means
image : List ℕ → Result Contents ImageFault
image text = image_of (numbered text (lines_of text))

a_simplex_image : image (codes "LVDC 2\nSTART 267524664\nSIMPLEX 1 3\n7 17 377 000000007\nEND\n")
    ≡ Ok (record { words = record { at = record { pair = 7; sector = 15; loc = 255 }; word = 7 } ∷ []; start = Some (hop_of 0o267524664); banks = 10 })
unfolding image lines_from entry_in words_from banks_named banks_in image_of
a_simplex_image = refl

a_duplex_image : image (codes "LVDC 2\nSTART 377777776\n3 17 377 000000007\nEND\n")
    ≡ Ok (record { words = record { at = record { pair = 3; sector = 15; loc = 255 }; word = 7 } ∷ []; start = Some (hop_of 0o377777776); banks = 0 })
unfolding image lines_from entry_in words_from banks_named banks_in image_of
a_duplex_image = refl

-- a bank above 3 is there where its pair is simplex, and its addresses rise too; version 1 has none
banks_above_3 : map image
    (codes "LVDC 2\nSTART 000000016\nSIMPLEX 0\n4 00 000 000000005\n4 00 000 000000005\nEND\n" ∷ codes "LVDC 1\n4 00 000 000000005\nEND\n" ∷ [])
    ≡ Err (AddressOrder 5) ∷ Err (BadImageLine 2) ∷ []
unfolding image lines_from entry_in words_from banks_named banks_in image_of
banks_above_3 = refl

-- single blanks part the fields of a word line
another_byte_between : entry_in 0 (codes "0 01 000.000000005") ≡ None
unfolding entry_in
another_byte_between = refl

-- the spare bit, 27 bits, ten digits, and no START line
starts : map image
    (codes "LVDC 2\nSTART 000000017\nEND\n" ∷ codes "LVDC 2\nSTART 400000000\nEND\n" ∷ codes "LVDC 2\nSTART 0000000016\nEND\n" ∷ codes "LVDC 2\nBEGIN 000000016\nEND\n" ∷ codes "LVDC 2\n" ∷ codes "LVDC 2\nSTART 000000016\n" ∷ [])
    ≡ Err (BadWord 2) ∷ Err (BadWord 2) ∷ Err (BadImageLine 2) ∷ Err (BadImageLine 2) ∷ Err (BadImageLine 2) ∷ Err (BadImageLine 3) ∷ []
unfolding image lines_from entry_in words_from banks_named banks_in image_of
starts = refl

-- a word of 27 bits, the same address again, and a line after END
words : map image
    (codes "LVDC 1\n0 01 003 400000000\nEND\n" ∷ codes "LVDC 1\n0 01 003 000000007\n0 01 003 000000007\nEND\n" ∷ codes "LVDC 1\nEND\nEND\n" ∷ codes "LVDC 1\n0 01 003 000000007\n" ∷ [])
    ≡ Err (BadWord 2) ∷ Err (AddressOrder 3) ∷ Err (BadImageLine 3) ∷ Err (BadImageLine 3) ∷ []
unfolding image lines_from entry_in words_from banks_named banks_in image_of
words = refl

-- a text that ends too soon, eight digits, and a sign that is no digit
ends : map image (codes "LVDC 1\n" ∷ codes "LVDC 2\nSTART 000000016\nSIMPLEX 1\n" ∷ codes "LVDC 2\nSTART 00000016\nEND\n" ∷ codes "LVDC 1\n0 01 003 00000000/\nEND\n" ∷ [])
    ≡ Err (BadImageLine 2) ∷ Err (BadImageLine 4) ∷ Err (BadImageLine 2) ∷ Err (BadImageLine 2) ∷ []
unfolding image lines_from entry_in words_from banks_named banks_in image_of
ends = refl

the_greatest_word : image (codes "LVDC 1\n0 01 003 377777777\nEND\n")
    ≡ Ok (record { words = record { at = record { pair = 0; sector = 1; loc = 3 }; word = 0o377777777 } ∷ []; start = None; banks = 0 })
unfolding image lines_from entry_in words_from banks_named banks_in image_of
the_greatest_word = refl

no_simplex_lines : (banks_named (codes ".1") ≡ None) × (banks_in (codes "COMPLEX 1") ≡ None) × (banks_in (codes "SIMPLEX 1") ≡ Some 2)
unfolding banks_named banks_in
no_simplex_lines = (refl, refl, refl)

-- ---- the names of a source's refusals, and their lines

names : map name_of (LineTooLong 3 ∷ BadLabel 4 ∷ UnknownOperation 5 ∷ ExecuteModified 6 ∷ BadDirective 7 ∷ BadOperand 8 ∷ MissingEnd 9 ∷ AfterEnd 10 ∷ [])
    ≡ codes "LineTooLong" ∷ codes "BadLabel" ∷ codes "UnknownOperation" ∷ codes "ExecuteModified" ∷ codes "BadDirective" ∷ codes "BadOperand" ∷ codes "MissingEnd" ∷ codes "AfterEnd" ∷ []
names = refl

lines : map line_of (LineTooLong 3 ∷ BadLabel 4 ∷ UnknownOperation 5 ∷ ExecuteModified 6 ∷ BadDirective 7 ∷ BadOperand 8 ∷ MissingEnd 9 ∷ AfterEnd 10 ∷ [])
    ≡ 3 ∷ 4 ∷ 5 ∷ 6 ∷ 7 ∷ 8 ∷ 9 ∷ 10 ∷ []
lines = refl
