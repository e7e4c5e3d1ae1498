-- Worked values of the definitions.
use Rattle.std.proofs.Common.{◌≡◌, ℕ, ◌+◌, Bool, true, false, List, [], ◌∷◌, Option, None, Some, Result, Ok, Err, refl, codes}
use Rattle.lvdc_text.specs.Lines.{NumberedLine}
use Rattle.lvdc_source.specs.Lines.{parts_of}
use Rattle.lvdc_source.specs.Names.{is_name}
use Rattle.lvdc_source.specs.Numbers.{signed_of, octals_of}
use Rattle.lvdc_source.specs.Operands.{address_in, literal_in, body_in}
use Rattle.lvdc_source.specs.Operations.{operation_of}
use Rattle.lvdc_source.specs.Source.{meaning_of, after_end, items_from, source_of}
use Rattle.lvdc_source.specs.declared.fault.SourceFault.{SourceFault}
use Rattle.lvdc_source.specs.declared.item.Body.{Body}
use Rattle.lvdc_source.specs.declared.item.Body.TheVariants as says
use Rattle.lvdc_source.specs.declared.item.Constant.TheVariants.{Oct}
use Rattle.lvdc_source.specs.declared.item.Item.{Item}
use Rattle.lvdc_place.specs.Slot.{Slot, sector_start}
use Rattle.lvdc_place.specs.Slots.{Slots, never_free, with_saver, with_slot, are_free, block_slots, least, least_place, pool_place}
use Rattle.lvdc_place.specs.Blocks.{blocks_of}
use Rattle.lvdc_place.specs.Faults.{name_of, line_of}
use Rattle.lvdc_place.specs.Placement.{Placement, taken_after_all, places_floating, spots_from, placement}
use Rattle.lvdc_place.specs.declared.block.Kind.TheVariants.{Code, Words}
use Rattle.lvdc_place.specs.declared.fault.PlaceFault.{PlaceFault}
use Rattle.lvdc_place.specs.declared.fault.PlaceFault.TheVariants.{NoMemory, NoRoom, Overlap}
use Rattle.lvdc_place.specs.declared.spot.Spot.{Spot}

-- a location of the residual sector
at_17 : ℕ → Slot
at_17 loc = record (sector_start 0 15) { loc = loc }

-- ---- reserved slots

pq_is_never_free : are_free never_free (block_slots Code 1 (at_17 0o375)) ≡ false
unfolding at_17
pq_is_never_free = refl

saver_is_free_for_fixed_blocks : are_free never_free (block_slots (Words (at_17 0)) 2 (at_17 0o376)) ≡ true
unfolding at_17
saver_is_free_for_fixed_blocks = refl

saver_is_taken_then : are_free (with_saver never_free) (block_slots Code 1 (at_17 0o376)) ≡ false
unfolding at_17
saver_is_taken_then = refl

nothing_past_a_sector : are_free never_free (block_slots Code 2 (record (sector_start 0 0) { loc = 0o377 })) ≡ false
nothing_past_a_sector = refl

-- ---- the least place

-- a word has no place beside a code slot, in whichever syllable
word_after_code : least_place (with_slot never_free (record (sector_start 0 1) { syl = 1 })) (Words (sector_start 0 1)) 1 ≡ Some (record (sector_start 0 1) { loc = 1 })
unfolding least
word_after_code = refl

pooled_in_an_empty_sector : pool_place never_free 2 3 ≡ Some (record { pair = 2; sector = 3; loc = 0 })
unfolding least
pooled_in_an_empty_sector = refl

-- ---- programs

line : ℕ → Body → Item
line number body = record { line = number; label = []; body = body }

oct : Body
oct = says.Constant (Oct 5)

-- room for three words, and a word that shares the last of them
two_at_one_word : List Item
two_at_one_word = line 1 (says.Words 0 1 (Some 0)) ∷ line 2 (says.Room 3) ∷ line 4 (says.Words 0 1 (Some 2)) ∷ line 5 oct ∷ []

shared_is_refused : taken_after_all (Ok never_free) (blocks_of two_at_one_word) ≡ Err (Overlap 4)
unfolding two_at_one_word line oct
shared_is_refused = refl

-- two words from the last location on
two_at_the_end : List Item
two_at_the_end = line 1 (says.Words 0 1 (Some 0o377)) ∷ line 2 oct ∷ line 3 oct ∷ []

past_is_refused : taken_after_all (Ok never_free) (blocks_of two_at_the_end) ≡ Err (NoRoom 1)
unfolding two_at_the_end line oct
past_is_refused = refl

-- USE doesn't end a block, and takes no place
with_use : List Item
with_use = line 1 (says.Words 0 1 None) ∷ line 2 (says.Room 2) ∷ line 3 (says.Sector 0 2) ∷ line 4 oct ∷ []

spots_around_use : spots_from (sector_start 0 0) (sector_start 0 1 ∷ []) with_use
    ≡ None ∷ Some (record { at = record { pair = 0; sector = 1; loc = 0 }; syl = None }) ∷ None ∷ Some (record { at = record { pair = 0; sector = 1; loc = 2 }; syl = None }) ∷ []
unfolding with_use line oct
spots_around_use = refl

-- ---- whole placements

-- lines numbered from this one on
from : ℕ → List (List ℕ) → List NumberedLine
from number [] = []
from number (text ∷ texts) = record { number = number; text = text } ∷ from (number + 1) texts

-- where each line of a program stands
placed_spots : Result Placement PlaceFault → Result (List (Option Spot)) PlaceFault
placed_spots (Ok placed) = Ok placed.spots
placed_spots (Err fault) = Err fault

-- those of the lines that a text means
spots_in : Result (List Item) SourceFault → Result (List (Option Spot)) PlaceFault
spots_in (Ok items) = placed_spots (placement items)
spots_in (Err fault) = Ok []

spots : List (List ℕ) → Result (List (Option Spot)) PlaceFault
spots texts = spots_in (source_of (from 1 texts))

code : ℕ → ℕ → ℕ → ℕ → Option Spot
code pair sector syl loc = Some (record { at = record { pair = pair; sector = sector; loc = loc }; syl = Some syl })

word : ℕ → ℕ → ℕ → Option Spot
word pair sector loc = Some (record { at = record { pair = pair; sector = sector; loc = loc }; syl = None })

-- Code that floats comes behind fixed blocks that stand below it in the source, at the least place with room for all of it, and words that
-- float stand in their sector.
floating : spots
    (codes " CODE" ∷ codes " CLA 0" ∷ codes " CLA 0" ∷ codes " ORG 0,00,0,001" ∷ codes " CLA 0" ∷ codes " WORDS 0,00" ∷ codes " OCT 1"
    ∷ codes " WORDS 0,00,376" ∷ codes " OCT 1" ∷ codes " CODE" ∷ codes " CLA 0" ∷ codes " END" ∷ [])
    ≡ Ok
    (None ∷ code 0 0 0 2 ∷ code 0 0 0 3 ∷ None ∷ code 0 0 0 1 ∷ None ∷ word 0 0 0 ∷ None ∷ word 0 0 0o376 ∷ None ∷ code 0 0 0 4 ∷ [])
unfolding spots spots_in placed_spots from is_name signed_of octals_of parts_of operation_of address_in literal_in body_in meaning_of after_end items_from placement code word least
floating = refl

-- where syllable 0 of the first sector has room at its two ends alone, two instructions float to the end of syllable 1
upper_syllable : spots
    (codes " WORDS 0,00,001" ∷ codes " BSS 253" ∷ codes " ORG 0,00,0,376" ∷ codes " CLA 0" ∷ codes " CODE" ∷ codes " CLA 0" ∷ codes " CLA 0" ∷ codes " END" ∷ [])
    ≡ Ok (None ∷ word 0 0 1 ∷ None ∷ code 0 0 0 0o376 ∷ None ∷ code 0 0 1 0o376 ∷ code 0 0 1 0o377 ∷ [])
unfolding spots spots_in placed_spots from is_name signed_of octals_of parts_of operation_of address_in literal_in body_in meaning_of after_end items_from placement code word least
upper_syllable = refl

-- words that float stand in their own sector or nowhere
words_without_room : spots (codes " WORDS 2,03,001" ∷ codes " BSS 255" ∷ codes " WORDS 2,03" ∷ codes " BSS 2" ∷ codes " END" ∷ []) ≡ Err (NoRoom 3)
unfolding spots spots_in placed_spots from is_name signed_of octals_of parts_of operation_of address_in literal_in body_in meaning_of after_end items_from placement least
words_without_room = refl

last_room : spots (codes " WORDS 2,03,001" ∷ codes " BSS 255" ∷ codes " WORDS 2,03" ∷ codes " BSS 1" ∷ codes " END" ∷ [])
    ≡ Ok (None ∷ word 2 3 1 ∷ None ∷ word 2 3 0 ∷ [])
unfolding spots spots_in placed_spots from is_name signed_of octals_of parts_of operation_of address_in literal_in body_in meaning_of after_end items_from placement word least
last_room = refl

-- code for which no place is left
code_without_room : places_floating (record { places = []; taken = never_free }) (record { line = 7; site = record { kind = Code; at = None }; size = 257 }) None ≡ Err (NoRoom 7)
code_without_room = refl

-- a block that fills the 256 slots of its sector, and one that is larger by one
is_taken : Result Slots PlaceFault → Bool
is_taken (Ok taken) = true
is_taken (Err fault) = false

whole_sector : is_taken (taken_after_all (Ok never_free) (record { line = 1; site = record { kind = Code; at = Some (sector_start 1 2) }; size = 256 } ∷ [])) ≡ true
unfolding is_taken
whole_sector = refl

past_the_sector : taken_after_all (Ok never_free) (record { line = 1; site = record { kind = Code; at = Some (sector_start 1 2) }; size = 257 } ∷ []) ≡ Err (NoRoom 1)
past_the_sector = refl

whole_sector_floats : least_place never_free Code 256 ≡ Some (sector_start 0 0)
unfolding least
whole_sector_floats = refl

-- the first refusal of a fixed block comes before that of one that floats
fixed_first : spots
    (codes " WORDS 2,03" ∷ codes " BSS 256" ∷ codes " OCT 1" ∷ codes " ORG 0,00,0,000" ∷ codes " CLA 0" ∷ codes " ORG 0,00,0,000" ∷ codes " CLA 0" ∷ codes " END" ∷ [])
    ≡ Err (Overlap 6)
unfolding spots spots_in placed_spots from is_name signed_of octals_of parts_of operation_of address_in literal_in body_in meaning_of after_end items_from placement least
fixed_first = refl

-- ---- what is told

causes : (name_of NoMemory ≡ codes "NoMemory") × (name_of (NoRoom 1) ≡ codes "NoRoom") × (name_of (Overlap 1) ≡ codes "Overlap")
causes = (refl, refl, refl)

lines_told : (line_of NoMemory ≡ 0) × (line_of (NoRoom 7) ≡ 7) × (line_of (Overlap 8) ≡ 8)
lines_told = (refl, refl, refl)
