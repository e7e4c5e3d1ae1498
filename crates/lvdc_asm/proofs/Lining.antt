-- Lines one after another.
use Rattle.std.proofs.Common.{ℕ, zero, suc, ◌<◌, List, [], ◌∷◌, length, get_or, arith}
use Rattle.lvdc_source.specs.Items.{AreItems, IsBody, block_after}
use Rattle.lvdc_source.specs.declared.block.Block.{Block}
use Rattle.lvdc_source.specs.declared.item.Body.{Body}
use Rattle.lvdc_source.specs.declared.item.Body.TheVariants as says
use Rattle.lvdc_source.specs.declared.item.Item.{Item}
use Rattle.lvdc_asm.specs.Lines.{HasOperand}

-- an instruction of a program has an operand of a form that it takes
has_operand : (block : Block) (label : List ℕ) (body : Body) → IsBody block label body → HasOperand body
has_operand block label says.Code h = tt
has_operand block label (says.Org at syl) h = tt
has_operand block label (says.Words pair sector loc) h = tt
has_operand block label (says.Sector pair sector) h = tt
has_operand block label (says.Room count) h = tt
has_operand block label (says.Constant constant) h = tt
has_operand block label (says.Instruction op operand) h = h.1

pub HasOperand-item : (block : Block) (items : List Item) (i : ℕ) (d : Item) → AreItems block items → i < length items → HasOperand (get_or items i d).body
unfolding AreItems
HasOperand-item block [] i d h within = absurd (omega arith)
HasOperand-item block (item ∷ items) zero d h within = has_operand block item.label item.body h.0
HasOperand-item block (item ∷ items) (suc i) d h within = HasOperand-item (block_after block item.body) items i d h.1 (omega arith)
