-- The blocks of a program, and how many locations each takes.
use Rattle.std.specs.Prelude.{ℕ, ◌+◌, Bool, List, [], ◌∷◌, Option, None, Some, is_some, if◌then◌else◌}
use Rattle.std.specs.List.{cons_option}
use Rattle.std.specs.Option.{option_map}
use Rattle.lvdc_source.specs.declared.item.Body.{Body}
use Rattle.lvdc_source.specs.declared.item.Body.TheVariants as says
use Rattle.lvdc_source.specs.declared.item.Item.{Item}
use Rattle.lvdc_place.specs.Slot.{sector_start, slot_of}
use Rattle.lvdc_place.specs.declared.block.Block.{Block}
use Rattle.lvdc_place.specs.declared.block.Site.{Site}
use Rattle.lvdc_place.specs.declared.block.Kind.TheVariants.{Code, Words}

-- what WORDS begins: words in a sector, which stand at a location or float
abbrev pub words_site : ℕ → ℕ → Option ℕ → Site
words_site pair sector loc = record {
  kind = Words (sector_start pair sector);
  at = option_map (λ loc. record (sector_start pair sector) { loc = loc }) loc;
}

-- what a line begins, where it begins a block; USE doesn't, nor does it end one
abbrev pub site_of : Body → Option Site
site_of says.Code = Some (record { kind = Code; at = None })
site_of (says.Org at syl) = Some (record { kind = Code; at = Some (slot_of at syl) })
site_of (says.Words pair sector loc) = Some (words_site pair sector loc)
site_of (says.Sector pair sector) = None
site_of (says.Room count) = None
site_of (says.Constant constant) = None
site_of (says.Instruction op operand) = None

-- whether a line begins a block
abbrev pub begins_block : Body → Bool
begins_block body = is_some (site_of body)

-- how many locations a line takes
abbrev pub size_of : Body → ℕ
size_of says.Code = 0
size_of (says.Org at syl) = 0
size_of (says.Words pair sector loc) = 0
size_of (says.Sector pair sector) = 0
size_of (says.Room count) = count
size_of (says.Constant constant) = 1
size_of (says.Instruction op operand) = 1

-- how many locations the lines before the next block take
abbrev pub size_ahead : List Item → ℕ
size_ahead [] = 0
size_ahead (item ∷ items) = if begins_block item.body then 0 else size_of item.body + size_ahead items

-- the block that a line begins, where the lines after it are these
abbrev pub block_begun : Item → List Item → Option Block
block_begun item items = option_map (λ site. record { line = item.line; site = site; size = size_ahead items }) (site_of item.body)

-- the blocks of a program, in order
abbrev pub blocks_of : List Item → List Block
blocks_of [] = []
blocks_of (item ∷ items) = cons_option (block_begun item items) (blocks_of items)
