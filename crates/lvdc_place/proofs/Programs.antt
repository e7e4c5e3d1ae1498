-- What the items of a program satisfy, and what a layout of them says.
use Rattle.std.proofs.Common.{◌≡◌, ℕ, ◌≤◌, List, [], ◌∷◌, map, refl, ap, ◌∙◌, arith}
use Rattle.std.specs.Prelude.{is_some}
use Rattle.std.proofs.lemmas.List.Elements.{All-nil, All-cons}
use Rattle.lvdc_source.specs.Items.{AreItems, IsBody, IsProgram, block_after}
use Rattle.lvdc_source.specs.declared.block.Block.{Block as Stands}
use Rattle.lvdc_source.specs.declared.block.Block.TheVariants.{Nowhere, Code, Words}
use Rattle.lvdc_source.specs.declared.item.Body.{Body}
use Rattle.lvdc_source.specs.declared.item.Body.TheVariants as says
use Rattle.lvdc_source.specs.declared.item.Item.{Item}
use Rattle.lvdc_place.specs.Slot.{Slot}
use Rattle.lvdc_place.specs.Blocks.{size_ahead}
use Rattle.lvdc_place.specs.Fitting.{IsInRange, AreInRange}
use Rattle.lvdc_place.specs.Placement.{takes_place, spot_in, next_slot, later_places, spots_from}

-- ---- ranges

body_in_range : (block : Stands) (label : List ℕ) (body : Body) → IsBody block label body → IsInRange body
body_in_range block label says.Code h = tt
body_in_range block label (says.Org at syl) h = (h.1.four_pairs, h.3)
body_in_range block label (says.Words pair sector loc) h = (h.1.four_pairs, h.1.sixteen_sectors)
body_in_range block label (says.Sector pair sector) h = tt
body_in_range block label (says.Room count) h = (h.1, h.2)
body_in_range block label (says.Constant constant) h = tt
body_in_range block label (says.Instruction op operand) h = tt

items_in_range : (block : Stands) (items : List Item) → AreItems block items → AreInRange items
unfolding AreItems
items_in_range block [] h = All-nil (λ (item : Item). IsInRange item.body)
items_in_range block (item ∷ items) h =
    All-cons (λ (item : Item). IsInRange item.body) item items (body_in_range block item.label item.body h.0) (items_in_range (block_after block item.body) items h.1)

pub program_in_range : (items : List Item) → IsProgram items → AreInRange items
program_in_range items h = items_in_range Nowhere items h

-- ---- lines before the first block

no_block : Nowhere ≡ Words → ⊥
no_block h = cc

no_code : Nowhere ≡ Code → ⊥
no_code h = cc

-- they take no location
pub nothing_first : (items : List Item) → AreItems Nowhere items → size_ahead items ≡ 0
unfolding AreItems
nothing_first [] h = refl
nothing_first (item ∷ items) h = by_body item.body h.0 h.1 (nothing_first items)
  where
    by_body : (body : Body) → IsBody Nowhere item.label body → AreItems (block_after Nowhere body) items → (AreItems Nowhere items → size_ahead items ≡ 0) →
        size_ahead (record item { body = body } ∷ items) ≡ 0
    by_body says.Code h rest later = refl
    by_body (says.Org at syl) h rest later = refl
    by_body (says.Words pair sector loc) h rest later = refl
    by_body (says.Sector pair sector) h rest later = omega (arith, later rest)
    by_body (says.Room count) h rest later = absurd (no_block h.0)
    by_body (says.Constant constant) h rest later = absurd (no_block h)
    by_body (says.Instruction op operand) h rest later = absurd (no_code h.0)

pub program_start : (items : List Item) → IsProgram items → size_ahead items ≤ 256
program_start items h = omega (arith, nothing_first items h)

-- ---- spots

-- a line has a spot exactly where it takes a place
spot_taken : (body : Body) (slot : Slot) → is_some (spot_in body slot) ≡ takes_place body
spot_taken says.Code slot = refl
spot_taken (says.Org at syl) slot = refl
spot_taken (says.Words pair sector loc) slot = refl
spot_taken (says.Sector pair sector) slot = refl
spot_taken (says.Room count) slot = refl
spot_taken (says.Constant constant) slot = refl
spot_taken (says.Instruction op operand) slot = refl

pub spots_taken : (slot : Slot) (places : List Slot) (items : List Item) →
    map is_some (spots_from slot places items) ≡ map (λ (item : Item). takes_place item.body) items
spots_taken slot places [] = refl
spots_taken slot places (item ∷ items) =
    ap (λ b. b ∷ map is_some (spots_from (next_slot item.body slot places) (later_places item.body places) items)) (spot_taken item.body slot)
    ∙ ap (λ bs. takes_place item.body ∷ bs) (spots_taken (next_slot item.body slot places) (later_places item.body places) items)
