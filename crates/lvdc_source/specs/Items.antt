-- The items of a source: the forms that they have, and the blocks that they stand in.
use Rattle.std.specs.Prelude.{◌≡◌, ℕ, ◌<◌, ◌≤◌, Bool, true, false, ◌||◌, List, [], ◌∷◌, length, if◌then◌else◌}
use Rattle.std.specs.List.{AllByRecursion}
use Rattle.std.specs.declared.option.Option.{Option}
use Rattle.std.specs.declared.option.Option.TheVariants.{None, Some}
use Rattle.lvdc_isa.specs.Instr.{takes_operand}
use Rattle.lvdc_isa.specs.declared.op.Op.{Op}
use Rattle.lvdc_isa.specs.declared.op.Op.TheVariants.{Tnz, Tra, Pio, Sto, Tmi, Cds, Shf}
use Rattle.lvdc_source.specs.declared.block.Block.{Block}
use Rattle.lvdc_source.specs.declared.block.Block.TheVariants as kind
use Rattle.lvdc_source.specs.declared.item.Operand.{Operand}
use Rattle.lvdc_source.specs.declared.item.Operand.TheVariants.{Number, Pair, Name, Literal}
use Rattle.lvdc_source.specs.declared.item.Body.{Body}
use Rattle.lvdc_source.specs.declared.item.Body.TheVariants.{Code, Org, Words, Sector, Room, Constant, Instruction}
use Rattle.lvdc_source.specs.declared.item.Item.{Item}

-- ---- operands

-- a word that the assembler places by itself
abbrev pub is_literal : Operand → Bool
is_literal (Literal constant) = true
is_literal _ = false

-- an octal number
abbrev pub is_octal : Operand → Bool
is_octal (Number n) = true
is_octal _ = false

-- an address: an octal number, or the place of a name
abbrev pub is_address : Operand → Bool
is_address (Number n) = true
is_address (Name name offset) = true
is_address _ = false

-- a pair and a sector
abbrev pub is_pair : Operand → Bool
is_pair (Pair pair sector) = true
is_pair _ = false

-- is the operand of a form that the operation takes? No line has the operations that no mnemonic names, nor EXM.
abbrev pub takes : Op → Operand → Bool
takes Sto operand = is_address operand
takes Tra operand = is_address operand
takes Tnz operand = is_address operand
takes Tmi operand = is_address operand
takes Pio operand = is_octal operand
takes Shf operand = is_octal operand
takes Cds operand = is_pair operand
takes op operand = if takes_operand op then is_address operand || is_literal operand else false

-- ---- blocks

-- the kind of block that the line after an item stands in
abbrev pub block_after : Block → Body → Block
block_after block Code = kind.Code
block_after block (Org at syl) = kind.Code
block_after block (Words pair sector loc) = kind.Words
block_after block _ = block

-- ---- items

-- a pair that the assembler names, and a sector
pub record IsSector (pair sector : ℕ) : Type 0 where
  pub four_pairs : pair < 4
  pub sixteen_sectors : sector < 16

-- a fixed location, where there is one
abbrev pub IsLocation : Option ℕ → Type 0
IsLocation None = Unit {0}
IsLocation (Some loc) = loc < 256

-- what a line may say in a block of this kind, after this label
abbrev pub IsBody : Block → List ℕ → Body → Type 0
IsBody block label Code = label ≡ []
IsBody block label (Org at syl) = (label ≡ []) × IsSector at.pair at.sector × (at.loc < 256) × (syl < 2)
IsBody block label (Words pair sector loc) = (label ≡ []) × IsSector pair sector × IsLocation loc
IsBody block label (Sector pair sector) = (label ≡ []) × IsSector pair sector
IsBody block label (Room count) = (block ≡ kind.Words) × (1 ≤ count) × (count ≤ 256)
IsBody block label (Constant constant) = block ≡ kind.Words
IsBody block label (Instruction op operand) = (block ≡ kind.Code) × (takes op operand ≡ true)

-- the items of lines in order, of which the first stands in this block
unfoldable pub AreItems : Block → List Item → Type 0
AreItems block [] = Unit {0}
AreItems block (item ∷ items) = IsBody block item.label item.body × AreItems (block_after block item.body) items

-- the items of a source
abbrev pub IsProgram : List Item → Type 0
IsProgram items = AreItems kind.Nowhere items

-- at most the eight characters of a name
abbrev pub IsShort : Item → Type 0
IsShort item = length item.label ≤ 8

-- no more items than this, with names as labels
pub record AreFew (items : List Item) (most : ℕ) : Type 0 where
  pub count : length items ≤ most
  pub labels : AllByRecursion IsShort items
