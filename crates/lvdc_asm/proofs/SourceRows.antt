-- Worked assemblies: the words of whole sources, the pooled words, where the names stand, and refusals where each is the first.
use Rattle.std.proofs.Common.{◌≡◌, ℕ, ◌+◌, List, [], ◌∷◌, Option, None, Some, Result, Ok, Err, map, refl, codes}
use Rattle.lvdc_map.specs.Address.{Spot}
use Rattle.lvdc_map.specs.declared.placed.Placed.{Placed}
use Rattle.lvdc_text.specs.Lines.{NumberedLine}
use Rattle.lvdc_source.specs.Lines.{parts_of}
use Rattle.lvdc_source.specs.Names.{is_name}
use Rattle.lvdc_source.specs.Numbers.{signed_of, octals_of}
use Rattle.lvdc_source.specs.Operands.{address_in, literal_in, body_in}
use Rattle.lvdc_source.specs.Operations.{operation_of}
use Rattle.lvdc_source.specs.Source.{meaning_of, after_end, items_from}
use Rattle.lvdc_source.specs.declared.fault.SourceFault.TheVariants.{MissingEnd}
use Rattle.lvdc_place.specs.Placement.{placement}
use Rattle.lvdc_place.specs.Slots.{least}
use Rattle.lvdc_place.specs.declared.fault.PlaceFault.TheVariants.{NoRoom, Overlap}
use Rattle.lvdc_asm.specs.Assembly.{Assembled, assembly_of}
use Rattle.lvdc_asm.specs.Faults.{name_of, line_of}
use Rattle.lvdc_asm.specs.Hop.{target_of}
use Rattle.lvdc_asm.specs.Locations.{no_syllables, both_syllables, with_syllable, word_in, nothing}
use Rattle.lvdc_asm.specs.Target.{Target}
use Rattle.lvdc_asm.specs.declared.fault.AsmFault.{AsmFault}
use Rattle.lvdc_asm.specs.declared.fault.AsmFault.TheVariants.{NoMemory, Source, Place, DuplicateName, UndefinedName, OutOfRange, OutOfSector}

-- ---- locations

-- slot 1 is the upper half of a word, slot 0 the lower one
halves : (word_in (with_syllable no_syllables 1 1) ≡ Some 0o20000) × (word_in (with_syllable no_syllables 0 1) ≡ Some 1)
    × (word_in (with_syllable (with_syllable no_syllables 0 0o00017) 1 0o10400) ≡ Some 0o210000017)
halves = (refl, refl, refl)

-- a word is found again in its two slots
word_again : word_in (both_syllables 0o012345670) ≡ Some 0o012345670
word_again = refl

-- a location with nothing in it has no word, one with a syllable 0 has
filled : (word_in no_syllables ≡ None) × (word_in (with_syllable no_syllables 1 0) ≡ Some 0) × (word_in (with_syllable no_syllables 0 0) ≡ Some 0)
filled = (refl, refl, refl)

-- ---- whole sources

-- lines numbered from this one on
from : ℕ → List (List ℕ) → List NumberedLine
from number [] = []
from number (text ∷ texts) = record { number = number; text = text } ∷ from (number + 1) texts

-- the part of an assembly that is asked for
part : {T : Type 0} → (Assembled → T) → Result Assembled AsmFault → Result T AsmFault
part asked (Ok assembled) = Ok (asked assembled)
part asked (Err fault) = Err fault

-- the words of the image
image : List (List ℕ) → Result (List Placed) AsmFault
image texts = part (λ a. a.words) (assembly_of (from 1 texts))

-- the addresses of the pooled words
pool : List (List ℕ) → Result (List Spot) AsmFault
pool texts = part (λ a. map (λ entry. entry.1) a.pool) (assembly_of (from 1 texts))

-- where a name stands
stands : List ℕ → List (List ℕ) → Result (Option Target) AsmFault
stands name texts = part (λ a. target_of a.plan name) (assembly_of (from 1 texts))

at : ℕ → ℕ → ℕ → Spot
at pair sector loc = record { pair = pair; sector = sector; loc = loc }

holds : ℕ → ℕ → ℕ → ℕ → Placed
holds pair sector loc w = record { at = record { pair = pair; sector = sector; loc = loc }; word = w }

-- a program with a word and room
fixed : List (List ℕ)
fixed =
    codes "        ORG   0,00,0,000" ∷ codes "        CLA   X" ∷ codes "        ADD   X" ∷ codes "        STO   X+1" ∷ codes "        WORDS 0,01,000" ∷ codes "X       OCT   5"
    ∷ codes "        BSS   1" ∷ codes "        END" ∷ []

fixed_image : image fixed ≡ Ok (holds 0 0 0 0o000017000 ∷ holds 0 0 1 0o000007000 ∷ holds 0 0 2 0o000013001 ∷ holds 0 1 0 0o000000005 ∷ [])
unfolding image part fixed from holds is_name signed_of octals_of parts_of operation_of address_in literal_in body_in meaning_of after_end items_from placement least nothing
fixed_image = refl

-- code in syllable 1, beside code in syllable 0, and literals: used again, of another value, and of another sector
both : List (List ℕ)
both =
    codes "        ORG   0,00,1,000" ∷ codes "LOOP    CLA   X" ∷ codes "        ADD   =O7" ∷ codes "        TRA   LOOP"
    ∷ codes "        ORG   0,00,0,001" ∷ codes "        SUB   =D-1" ∷ codes "        CLA   =O7" ∷ codes "        HOP   =HLOOP"
    ∷ codes "        WORDS 0,01,000" ∷ codes "X       DEC   -2" ∷ codes "Y       BSS   2" ∷ codes "        HOPC  LOOP"
    ∷ codes "        USE   1,02" ∷ codes "        CODE" ∷ codes "NEXT    CLA   =O7" ∷ codes "        END" ∷ []

both_image : image both
    ≡ Ok
    (holds 0 0 0 0o360017000 ∷ holds 0 0 1 0o160102005 ∷ holds 0 0 2 0o210017004 ∷ holds 0 0 3 0o000000006
    ∷ holds 0 1 0 0o377777776 ∷ holds 0 1 3 0o001000016 ∷ holds 0 1 4 0o000000007 ∷ holds 0 1 5 0o377777777 ∷ holds 0 1 6 0o001000016
    ∷ holds 1 2 0 0o000000007 ∷ [])
unfolding image part both from holds is_name signed_of octals_of parts_of operation_of address_in literal_in body_in meaning_of after_end items_from placement least nothing
both_image = refl

both_pool : pool both ≡ Ok (at 0 1 4 ∷ at 0 1 5 ∷ at 0 1 6 ∷ at 1 2 0 ∷ [])
unfolding pool part both from at is_name signed_of octals_of parts_of operation_of address_in literal_in body_in meaning_of after_end items_from placement least nothing
both_pool = refl

-- a name stands where its line does: one of code with its syllable, each with the USE in force there
loop_stands : stands (codes "LOOP") both ≡ Ok (Some (record { at = at 0 0 0; syl = Some 1; assumed = record { pair = 0; sector = 1 } }))
unfolding stands part both from at is_name signed_of octals_of parts_of operation_of address_in literal_in body_in meaning_of after_end items_from placement least nothing
loop_stands = refl

next_stands : stands (codes "NEXT") both ≡ Ok (Some (record { at = at 0 0 0; syl = Some 0; assumed = record { pair = 1; sector = 2 } }))
unfolding stands part both from at is_name signed_of octals_of parts_of operation_of address_in literal_in body_in meaning_of after_end items_from placement least nothing
next_stands = refl

room_stands : stands (codes "Y") both ≡ Ok (Some (record { at = at 0 1 1; syl = None; assumed = record { pair = 0; sector = 1 } }))
unfolding stands part both from at is_name signed_of octals_of parts_of operation_of address_in literal_in body_in meaning_of after_end items_from placement least nothing
room_stands = refl

-- ---- refusals

-- a source that can't be read comes before all else
unread : image (codes "        WORDS 0,01" ∷ codes "X       OCT   1" ∷ codes "X       OCT   2" ∷ []) ≡ Err (Source (MissingEnd 4))
unfolding image part from is_name signed_of octals_of parts_of operation_of address_in literal_in body_in meaning_of after_end items_from
unread = refl

-- a name that is defined twice comes before a block without room, and that before a line that is wrong
twice : image (codes "        WORDS 0,01,377" ∷ codes "X       OCT   1" ∷ codes "X       HOPC  Z" ∷ codes "        END" ∷ []) ≡ Err (DuplicateName 3)
unfolding image part from is_name signed_of octals_of parts_of operation_of address_in literal_in body_in meaning_of after_end items_from
twice = refl

no_room : image (codes "        WORDS 0,01,377" ∷ codes "X       OCT   1" ∷ codes "Y       HOPC  Z" ∷ codes "        END" ∷ []) ≡ Err (Place (NoRoom 1))
unfolding image part from is_name signed_of octals_of parts_of operation_of address_in literal_in body_in meaning_of after_end items_from placement
no_room = refl

overlap : image (codes "        ORG   0,01,1,000" ∷ codes "        CLA   Z" ∷ codes "        WORDS 0,01,000" ∷ codes "        OCT   1" ∷ codes "        END" ∷ []) ≡ Err (Place (Overlap 3))
unfolding image part from is_name signed_of octals_of parts_of operation_of address_in literal_in body_in meaning_of after_end items_from placement
overlap = refl

undefined : image (codes "        ORG   0,00,0,000" ∷ codes "        CLA   Y" ∷ codes "        CLA   1000" ∷ codes "        END" ∷ []) ≡ Err (UndefinedName 2)
unfolding image part from is_name signed_of octals_of parts_of operation_of address_in literal_in body_in meaning_of after_end items_from placement nothing
undefined = refl

too_large : image (codes "        ORG   0,00,0,000" ∷ codes "        CLA   1000" ∷ codes "        CLA   Y" ∷ codes "        END" ∷ []) ≡ Err (OutOfRange 2)
unfolding image part from is_name signed_of octals_of parts_of operation_of address_in literal_in body_in meaning_of after_end items_from placement nothing
too_large = refl

-- a literal's word that has no room, and a literal that is no word, which comes first
no_room_for_literal : image (codes "        ORG   0,00,0,000" ∷ codes "        CLA   =O1" ∷ codes "        WORDS 0,01,000" ∷ codes "        BSS   256" ∷ codes "        END" ∷ []) ≡ Err (Place (NoRoom 2))
unfolding image part from is_name signed_of octals_of parts_of operation_of address_in literal_in body_in meaning_of after_end items_from placement least nothing
no_room_for_literal = refl

literal_first : image (codes "        ORG   0,00,0,000" ∷ codes "        CLA   =O400000000" ∷ codes "        WORDS 0,01,000" ∷ codes "        BSS   256" ∷ codes "        END" ∷ []) ≡ Err (OutOfRange 2)
unfolding image part from is_name signed_of octals_of parts_of operation_of address_in literal_in body_in meaning_of after_end items_from placement least nothing
literal_first = refl

-- the HOP constant of a word
hop_to_word : image (codes "        WORDS 0,01,000" ∷ codes "X       OCT   1" ∷ codes "        HOPC  X" ∷ codes "        END" ∷ []) ≡ Err (OutOfSector 3)
unfolding image part from is_name signed_of octals_of parts_of operation_of address_in literal_in body_in meaning_of after_end items_from placement nothing
hop_to_word = refl

-- ---- what is told

causes : (name_of NoMemory ≡ codes "NoMemory") × (name_of (DuplicateName 1) ≡ codes "DuplicateName") × (name_of (UndefinedName 1) ≡ codes "UndefinedName")
    × (name_of (OutOfRange 1) ≡ codes "OutOfRange") × (name_of (OutOfSector 1) ≡ codes "OutOfSector") × (name_of (Source (MissingEnd 1)) ≡ codes "MissingEnd")
    × (name_of (Place (NoRoom 1)) ≡ codes "NoRoom") × (name_of (Place (Overlap 1)) ≡ codes "Overlap")
causes = (refl, refl, refl, refl, refl, refl, refl, refl)

lines_told : (line_of NoMemory ≡ 0) × (line_of (DuplicateName 3) ≡ 3) × (line_of (UndefinedName 4) ≡ 4) × (line_of (OutOfRange 5) ≡ 5) × (line_of (OutOfSector 6) ≡ 6)
    × (line_of (Source (MissingEnd 7)) ≡ 7) × (line_of (Place (NoRoom 8)) ≡ 8)
lines_told = (refl, refl, refl, refl, refl, refl, refl)
