-- Worked sources: what is answered of each.
use Rattle.std.proofs.Common.{◌≡◌, ℕ, [], true, false, Option, Some, None, Result, Ok, Err, refl}
use Rattle.std.specs.Prelude.{codes}
use Rattle.lvdc_asm.specs.Locations.{nothing}
use Rattle.lvdc_command_asm.specs.Answers.{source_answer}
use Rattle.lvdc_command_asm.specs.declared.reply.Product.TheVariants.{Image, Listing}
use Rattle.lvdc_deck.specs.Deck.{told_from, deck_from, deck_of}
use Rattle.lvdc_deck.specs.declared.deck.Deck.{Deck}
use Rattle.lvdc_deck.specs.declared.fault.DeckFault.{DeckFault}
use Rattle.lvdc_deck.specs.declared.fault.DeckFault.TheVariants.{Asm}
use Rattle.lvdc_asm.specs.declared.fault.AsmFault.TheVariants.{UndefinedName, OutOfSector}
use Rattle.lvdc_image.specs.Image.{image_text}
use Rattle.lvdc_map.specs.Hop.{HopConstant}
use Rattle.lvdc_listing.specs.Listing.{listing_text}
use Rattle.lvdc_place.specs.Placement.{placement}
use Rattle.lvdc_place.specs.Slots.{least}
use Rattle.lvdc_source.specs.Lines.{parts_of}
use Rattle.lvdc_source.specs.Names.{is_name}
use Rattle.lvdc_source.specs.Numbers.{signed_of, octals_of}
use Rattle.lvdc_source.specs.Operands.{address_in, literal_in, body_in}
use Rattle.lvdc_source.specs.Operations.{operation_of}
use Rattle.lvdc_source.specs.Source.{meaning_of, after_end, items_from}
use Rattle.lvdc_text.specs.Lines.{lines_from, tokens_from}
use Rattle.lvdc_text.specs.Numbers.{octal_text, word_in}
use Rattle.std.specs.Fmt.{digits}
use Rattle.lvdc_reply.specs.Answer.{answer_with}

-- the image, and the listing, of one source
the_image : source_answer Image (codes "        ORG   0,00,0,000\n        CLA   X\nLOOP    TRA   LOOP\n        WORDS 0,01,000\nX       OCT   5\n        END\n") []
    ≡ answer_with 0 (codes "LVDC 1\n0 00 000 000017000\n0 00 001 000010001\n0 01 000 000000005\nEND\n") []
unfolding lines_from tokens_from octal_text word_in is_name parts_of signed_of octals_of address_in literal_in body_in operation_of meaning_of after_end items_from placement least nothing image_text listing_text digits
the_image = refl

the_listing : source_answer Listing (codes "        ORG   0,00,0,000\n        CLA   X\nLOOP    TRA   LOOP\n        WORDS 0,01,000\nX       OCT   5\n        END\n") []
    ≡ answer_with 0 (codes "      1                              ORG   0,00,0,000\n      2 0 00 0 000 17000             CLA   X\n      3 0 00 0 001 10001     LOOP    TRA   LOOP\n      4                              WORDS 0,01,000\n      5 0 01 - 000 000000005 X       OCT   5\n      6                              END\nNAME LOOP 0 00 0 001\nNAME X 0 01 - 000\n") []
unfolding lines_from tokens_from octal_text word_in is_name parts_of signed_of octals_of address_in literal_in body_in operation_of meaning_of after_end items_from placement least nothing image_text listing_text digits
the_listing = refl

-- comments before, between and behind the lines of code in syllable 1, and the pooled words before the names
a_listing_with_a_pool : source_answer Listing (codes "* HEAD\n        ORG   0,00,1,000\n        CLA   =O5\n* MIDDLE\n        ADD   =O7\n        WORDS 0,01,000\nX       OCT   5\n* TAIL\n        END\n") []
    ≡ answer_with 0 (codes "      1                      * HEAD\n      2                              ORG   0,00,1,000\n      3 0 00 1 000 17001             CLA   =O5\n      4                      * MIDDLE\n      5 0 00 1 001 07002             ADD   =O7\n      6                              WORDS 0,01,000\n      7 0 01 - 000 000000005 X       OCT   5\n      8                      * TAIL\n      9                              END\nPOOL 0 01 001 000000005\nPOOL 0 01 002 000000007\nNAME X 0 01 - 000\n") []
unfolding lines_from tokens_from octal_text word_in is_name parts_of signed_of octals_of address_in literal_in body_in operation_of meaning_of after_end items_from placement least nothing image_text listing_text digits
a_listing_with_a_pool = refl

-- a refusal, of each layer
unread : source_answer Image (codes "        CODE\n        FLY\n        END\n") []
    ≡ answer_with 3 (codes "REFUSED UnknownOperation 2\n") []
unfolding lines_from tokens_from octal_text word_in is_name parts_of signed_of octals_of address_in literal_in body_in operation_of meaning_of after_end items_from placement least nothing image_text listing_text digits
unread = refl

no_room : source_answer Listing (codes "        WORDS 0,01,377\n        BSS   2\n        END\n") []
    ≡ answer_with 3 (codes "REFUSED NoRoom 1\n") []
unfolding lines_from tokens_from octal_text word_in is_name parts_of signed_of octals_of address_in literal_in body_in operation_of meaning_of after_end items_from placement least nothing image_text listing_text digits
no_room = refl

undefined : source_answer Listing (codes "        ORG   0,00,0,000\n        CLA   Y\n        END\n") []
    ≡ answer_with 3 (codes "REFUSED UndefinedName 2\n") []
unfolding lines_from tokens_from octal_text word_in is_name parts_of signed_of octals_of address_in literal_in body_in operation_of meaning_of after_end items_from placement least nothing image_text listing_text digits
undefined = refl

-- a constant and room outside a block of words
a_decimal_in_code : source_answer Image (codes "        CODE\n        DEC   1\n        END\n") []
    ≡ answer_with 3 (codes "REFUSED BadDirective 2\n") []
unfolding lines_from tokens_from octal_text word_in is_name parts_of signed_of octals_of address_in literal_in body_in operation_of meaning_of after_end items_from placement least nothing image_text listing_text digits
a_decimal_in_code = refl

a_constant_of_a_place_in_code : source_answer Image (codes "        CODE\n        HOPC  X\n        END\n") []
    ≡ answer_with 3 (codes "REFUSED BadDirective 2\n") []
unfolding lines_from tokens_from octal_text word_in is_name parts_of signed_of octals_of address_in literal_in body_in operation_of meaning_of after_end items_from placement least nothing image_text listing_text digits
a_constant_of_a_place_in_code = refl

room_in_code : source_answer Image (codes "        CODE\n        BSS   1\n        END\n") []
    ≡ answer_with 3 (codes "REFUSED BadDirective 2\n") []
unfolding lines_from tokens_from octal_text word_in is_name parts_of signed_of octals_of address_in literal_in body_in operation_of meaning_of after_end items_from placement least nothing image_text listing_text digits
room_in_code = refl

-- nine digits of room, and ten
room_of_nine_digits : source_answer Image (codes "        WORDS 0,01,000\n        BSS   000000256\n        END\n") []
    ≡ answer_with 0 (codes "LVDC 1\nEND\n") []
unfolding lines_from tokens_from octal_text word_in is_name parts_of signed_of octals_of address_in literal_in body_in operation_of meaning_of after_end items_from placement least nothing image_text listing_text digits
room_of_nine_digits = refl

room_of_ten_digits : source_answer Image (codes "        WORDS 0,01,000\n        BSS   0000000256\n        END\n") []
    ≡ answer_with 3 (codes "REFUSED BadDirective 2\n") []
unfolding lines_from tokens_from octal_text word_in is_name parts_of signed_of octals_of address_in literal_in body_in operation_of meaning_of after_end items_from placement least nothing image_text listing_text digits
room_of_ten_digits = refl

-- ---- a source in a deck

-- where its run starts, and the simplex pairs of its image
start_and_banks : Result Deck DeckFault → Option (HopConstant × ℕ)
start_and_banks (Ok deck) = Some (deck.start, deck.image.banks)
start_and_banks (Err fault) = None

without_start : start_and_banks (deck_of (codes "SOURCE\n        CODE\n        CLA   0\n        END\nRUN 1\n") [] false)
    ≡ Some (record { imod = 0; isec = 0; syl = 0; loc = 0; dmod = 0; dsec = 1; dupin = true; dupdn = true }, 0)
unfolding start_and_banks lines_from tokens_from told_from deck_from is_name parts_of signed_of octals_of address_in literal_in body_in operation_of meaning_of after_end items_from placement least nothing
without_start = refl

-- START in line 5, with a name that no line has, and with that of a word
start_of_no_name : deck_of (codes "SOURCE\n        CODE\nGO      TRA   GO\n        END\nSTART NOPE\nRUN 1\n") [] false ≡ Err (Asm (UndefinedName 5))
unfolding lines_from tokens_from told_from deck_from is_name parts_of signed_of octals_of address_in literal_in body_in operation_of meaning_of after_end items_from placement least nothing word_in
start_of_no_name = refl

start_of_a_word : deck_of (codes "SOURCE\n        WORDS 0,01,000\nX       OCT   5\n        END\nSTART X\nRUN 1\n") [] false ≡ Err (Asm (OutOfSector 5))
unfolding lines_from tokens_from told_from deck_from is_name parts_of signed_of octals_of address_in literal_in body_in operation_of meaning_of after_end items_from placement least nothing word_in
start_of_a_word = refl
