-- The slots that the lines of a program take: no two lines share one.
use Rattle.std.specs.Prelude.{◌≡◌, ℕ, Bool, true, false, not, ◌&&◌, List, [], ◌∷◌, ◌++◌, Option, None, Some, is_some}
use Rattle.std.specs.List.{list_any}
use Rattle.lvdc_map.specs.Address.{Spot as Place}
use Rattle.lvdc_source.specs.declared.item.Body.{Body}
use Rattle.lvdc_source.specs.declared.item.Body.TheVariants as says
use Rattle.lvdc_source.specs.declared.item.Item.{Item}
use Rattle.lvdc_place.specs.Slot.{Slot, is_slot, is_same, slot_of}
use Rattle.lvdc_place.specs.Slots.{Slots, block_slots}
use Rattle.lvdc_place.specs.Blocks.{size_of}
use Rattle.lvdc_place.specs.Placement.{takes_place}
use Rattle.lvdc_place.specs.declared.block.Kind.TheVariants.{Words}
use Rattle.lvdc_place.specs.declared.spot.Spot.{Spot}

-- whether a slot is in a list
abbrev pub is_in : Slot → List Slot → Bool
is_in slot slots = list_any (is_same slot) slots

-- no slot is in a list twice
abbrev pub are_distinct : List Slot → Bool
are_distinct [] = true
are_distinct (slot ∷ slots) = not (is_in slot slots) && are_distinct slots

-- the slots from an address on: of an instruction the one of its syllable, of words both of each
abbrev pub slots_onward : Place → ℕ → Option ℕ → List Slot
slots_onward at size (Some syl) = slot_of at syl ∷ []
slots_onward at size None = block_slots (Words (slot_of at 0)) size (slot_of at 0)

-- the slots of a line with this spot
abbrev pub line_slots : Body → Option Spot → List Slot
line_slots body None = []
line_slots body (Some spot) = slots_onward spot.at (size_of body) spot.syl

-- the slots of all lines, in their order
abbrev pub program_slots : List Item → List (Option Spot) → List Slot
program_slots [] spots = []
program_slots (item ∷ items) [] = []
program_slots (item ∷ items) (spot ∷ spots) = line_slots item.body spot ++ program_slots items spots

-- no two lines share a slot, and each slot of a line is one of the memory and taken, as is what is no slot of it
pub record StandApart (items : List Item) (spots : List (Option Spot)) (taken : Slots) : Type 0 where
  pub distinct : are_distinct (program_slots items spots) ≡ true
  pub taken_all : (slot : Slot) → is_in slot (program_slots items spots) ≡ true → taken slot ≡ true
  pub inside : (slot : Slot) → is_in slot (program_slots items spots) ≡ true → is_slot slot ≡ true
  pub closed : (slot : Slot) → is_slot slot ≡ false → taken slot ≡ true

-- a line stands as what it says: an instruction in a syllable, a constant and room in whole words, and no other line anywhere
abbrev pub StandsAs : Body → Option Spot → Type 0
StandsAs (says.Instruction op operand) (Some spot) = is_some spot.syl ≡ true
StandsAs (says.Constant constant) (Some spot) = spot.syl ≡ None
StandsAs (says.Room count) (Some spot) = spot.syl ≡ None
StandsAs body spot = (is_some spot ≡ false) × (takes_place body ≡ false)

-- each line does
abbrev pub StandAs : List Item → List (Option Spot) → Type 0
StandAs [] [] = Unit {0}
StandAs (item ∷ items) (spot ∷ spots) = StandsAs item.body spot × StandAs items spots
StandAs items spots = ⊥
