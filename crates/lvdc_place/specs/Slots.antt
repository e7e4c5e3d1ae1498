-- Sets of slots: those that are taken, those of a block at a place, and the least place at which a block's slots are free.
use Rattle.std.specs.Prelude.{ℕ, zero, suc, ◌+◌, Bool, true, not, ◌==◌, ◌&&◌, ◌||◌, if◌then◌else◌, List, [], ◌∷◌, ◌++◌, Option, None, Some, slice_index_or}
use Rattle.std.specs.List.{list_all}
use Rattle.std.specs.Option.{option_map}
use Rattle.lvdc_map.specs.Address.{Spot}
use Rattle.lvdc_place.specs.Slot.{Slot, is_slot, is_same, number_of, slot_at, slot_after, with_syllable, sector_start, address_of, slot_of}
use Rattle.lvdc_place.specs.declared.block.Kind.{Kind}
use Rattle.lvdc_place.specs.declared.block.Kind.TheVariants.{Code, Words}

-- a set: which slots are in it
abbrev pub Slots : Type 0
Slots = Slot → Bool

-- what is no slot of the memory, and so never free
abbrev pub outside : Slots
outside = λ slot. not (is_slot slot)

-- these, and both slots of a location of sector 17 in each pair
abbrev pub with_location : Slots → ℕ → Slots
with_location taken loc = λ slot. taken slot || slot.sector == 15 && slot.loc == loc

-- what is taken before any block: location 375 of sector 17, whose address names PQ
abbrev pub never_free : Slots
never_free = with_location outside 0o375

-- and after the fixed blocks: locations 376 and 377 too, which STO fills with the HOP saver
abbrev pub with_saver : Slots → Slots
with_saver taken = with_location (with_location taken 0o376) 0o377

-- these and one more
abbrev pub with_slot : Slots → Slot → Slots
with_slot taken one = λ slot. taken slot || is_same slot one

-- these and those of a list
abbrev pub with_slots : Slots → List Slot → Slots
with_slots taken [] = taken
with_slots taken (slot ∷ slots) = with_slots (with_slot taken slot) slots

-- each slot of a list is free
abbrev pub are_free : Slots → List Slot → Bool
are_free taken slots = list_all (λ slot. not (taken slot)) slots

-- the slots at a location: one of an instruction, both of a word
abbrev pub slots_at : Kind → Slot → List Slot
slots_at Code slot = slot ∷ []
slots_at (Words home) slot = with_syllable slot 0 ∷ with_syllable slot 1 ∷ []

-- the slots of a block of so many locations that begins at this one; they rise
abbrev pub block_slots : Kind → ℕ → Slot → List Slot
block_slots kind zero first = []
block_slots kind (suc size) first = slots_at kind first ++ block_slots kind size (slot_after first 1)

-- these and those of a block at its place, if it has one
abbrev pub with_block : Slots → Kind → ℕ → Option Slot → Slots
with_block taken kind size None = taken
with_block taken kind size (Some place) = with_slots taken (block_slots kind size place)

-- the least of so many numbers from this one on that passes the test
unfoldable pub least : (ℕ → Bool) → ℕ → ℕ → Option ℕ
least test from zero = None
least test from (suc more) = if test from then Some from else least test (from + 1) more

-- a block of this size is free at the place with this number in the order of all
abbrev pub is_free_at : Slots → Kind → ℕ → ℕ → Bool
is_free_at taken kind size number = are_free taken (block_slots kind size (slot_at number))

-- the least place at which all slots of a block are free: of code in the whole memory, of words in their sector
abbrev pub least_place : Slots → Kind → ℕ → Option Slot
least_place taken Code size = option_map slot_at (least (is_free_at taken Code size) 0 32768)
least_place taken (Words home) size = option_map slot_at (least (is_free_at taken (Words home) size) (number_of (sector_start home.pair home.sector)) 256)

-- the least word of a sector with both slots free
abbrev pub pool_place : Slots → ℕ → ℕ → Option Spot
pool_place taken pair sector = option_map address_of (least_place taken (Words (sector_start pair sector)) 1)

-- its slots are then taken; where there is none, nothing is
abbrev pub with_word : Slots → Option Spot → Slots
with_word taken None = taken
with_word taken (Some at) = with_slots taken (slot_of at 0 ∷ slot_of at 1 ∷ [])

-- the set that a list tells: whether each slot is taken, in their order
abbrev pub set_of : List Bool → Slots
set_of bits = λ slot. outside slot || slice_index_or bits (number_of slot) true
