-- What the parts of the placement rely on: numbers in their ranges, and blocks that end within their sector.
use Rattle.std.specs.Prelude.{ℕ, ◌+◌, ◌<◌, ◌≤◌, min, List, [], ◌∷◌, IfSome, All}
use Rattle.lvdc_source.specs.declared.item.Body.{Body}
use Rattle.lvdc_source.specs.declared.item.Body.TheVariants as says
use Rattle.lvdc_source.specs.declared.item.Item.{Item}
use Rattle.lvdc_place.specs.Slot.{Slot}
use Rattle.lvdc_place.specs.declared.block.Block.{Block}

-- the numbers of a line are in their ranges
abbrev pub IsInRange : Body → Type 0
IsInRange (says.Org at syl) = (at.pair < 4) × (syl < 2)
IsInRange (says.Words pair sector loc) = (pair < 4) × (sector < 16)
IsInRange (says.Room count) = (1 ≤ count) × (count ≤ 256)
IsInRange _ = Unit {0}

-- those of each line
abbrev pub AreInRange : List Item → Type 0
AreInRange items = All (λ (item : Item). IsInRange item.body) items

-- the block with a size of at most 257, which no sector has room for
abbrev pub capped_block : Block → Block
capped_block block = record block { size = min block.size 257 }

-- a block of this size at this place ends within its sector
abbrev pub Fits : ℕ → Slot → Type 0
Fits size place = place.loc + size ≤ 256

-- so does a block that is fixed
abbrev pub FitsFixed : Block → Type 0
FitsFixed block = IfSome block.site.at (Fits block.size)

-- each block has a place, and ends within its sector there
abbrev pub AllFit : List Block → List Slot → Type 0
AllFit [] places = Unit {0}
AllFit (block ∷ blocks) [] = ⊥
AllFit (block ∷ blocks) (place ∷ places) = Fits block.size place × AllFit blocks places
