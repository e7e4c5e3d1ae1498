-- What a source means: the items of its lines, or the first refusal.
use Rattle.std.specs.Prelude.{◌≡◌, ◌≢◌, ◌⊎◌, ℕ, ◌+◌, Bool, false, not, ◌||◌, List, [], ◌∷◌, if◌then◌else◌, Option, None, Some, Result, Ok, Err}
use Rattle.lvdc_source.specs.declared.fault.SourceFault.{SourceFault}
use Rattle.lvdc_source.specs.declared.fault.SourceFault.TheVariants.{NoMemory as WantsMemory, LineTooLong, BadLabel, UnknownOperation, ExecuteModified, BadDirective, BadOperand, MissingEnd, AfterEnd}
use Rattle.lvdc_source.specs.declared.item.Body.{Body}
use Rattle.lvdc_source.specs.declared.item.Item.{Item}
use Rattle.lvdc_source.specs.declared.operation.Operation.{Operation}
use Rattle.lvdc_source.specs.declared.operation.Operation.TheVariants as operation
use Rattle.lvdc_source.specs.declared.block.Block.{Block}
use Rattle.lvdc_source.specs.declared.block.Block.TheVariants as kind
use Rattle.lvdc_source.specs.declared.meaning.Meaning.{Meaning}
use Rattle.lvdc_source.specs.declared.meaning.Meaning.TheVariants as meaning
use Rattle.lvdc_source.specs.Items.{block_after}
use Rattle.lvdc_source.specs.Names.{is_name}
use Rattle.lvdc_text.specs.Lines.{NumberedLine, is_long, is_comment}
use Rattle.lvdc_source.specs.Lines.{Parts, parts_of}
use Rattle.lvdc_source.specs.Operations.{operation_of, is_unlabelled, is_modified, is_misplaced}
use Rattle.lvdc_source.specs.Operands.{body_in}

-- ---- one line

-- a label that is no name, or that stands where none may
abbrev pub is_bad_label : List ℕ → Option Operation → Bool
is_bad_label [] operation = false
is_bad_label label (Some operation) = not (is_name label) || is_unlabelled operation
is_bad_label label None = not (is_name label)

-- the refusal of a wrong or missing operand
abbrev pub wrong_operand : Operation → ℕ → SourceFault
wrong_operand operation.Bss number = BadDirective number
wrong_operand operation.Org number = BadDirective number
wrong_operand operation.Words number = BadDirective number
wrong_operand operation.Use number = BadDirective number
wrong_operand operation number = BadOperand number

-- the item of a line, where the operand has its form
abbrev pub with_body : Operation → ℕ → List ℕ → Option Body → Result Meaning SourceFault
with_body operation number label (Some said) = Ok (meaning.Item (record { line = number; label = label; body = said }))
with_body operation number label None = Err (wrong_operand operation number)

-- a line by the form of its operand; END ends the source, whatever follows it on its line
abbrev pub by_operand : Operation → ℕ → List ℕ → List ℕ → Result Meaning SourceFault
by_operand operation.End number label operand = Ok meaning.End
by_operand operation number label operand = with_body operation number label (body_in operation operand)

-- a line by its operation, in the kind of block that is open
abbrev pub by_operation : Block → ℕ → Parts → Option Operation → Result Meaning SourceFault
by_operation block number parts None = Err (UnknownOperation number)
by_operation block number parts (Some operation) =
    if is_modified operation then Err (ExecuteModified number)
    else (if is_misplaced block operation then Err (BadDirective number) else by_operand operation number parts.label parts.operand)

-- a line by its parts
abbrev pub by_parts : Block → ℕ → Parts → Result Meaning SourceFault
by_parts block number parts =
    if is_bad_label parts.label (operation_of parts.operation) then Err (BadLabel number)
    else by_operation block number parts (operation_of parts.operation)

-- what a line means in the kind of block that is open, or its first refusal
unfoldable pub meaning_of : Block → NumberedLine → Result Meaning SourceFault
meaning_of block line =
    if is_long line.text then Err (LineTooLong line.number)
    else (if is_comment line.text then Ok meaning.Nothing else by_parts block line.number (parts_of line.text))

-- ---- the lines in their order

-- the kind of block that is open after a line
abbrev pub open_after : Block → Result Meaning SourceFault → Block
open_after block (Ok (meaning.Item item)) = block_after block item.body
open_after block other = block

-- after END only comments may follow
unfoldable pub after_end : List NumberedLine → Result (List Item) SourceFault
after_end [] = Ok []
after_end (line ∷ lines) =
    if is_long line.text then Err (LineTooLong line.number)
    else (if is_comment line.text then after_end lines else Err (AfterEnd line.number))

-- an item stands before those of the later lines
abbrev pub with_item : Item → Result (List Item) SourceFault → Result (List Item) SourceFault
with_item item (Ok items) = Ok (item ∷ items)
with_item item (Err fault) = Err fault

-- a line, what the lines after it mean where it is END, and what they mean where it isn't
abbrev pub by_meaning : Result Meaning SourceFault → Result (List Item) SourceFault → Result (List Item) SourceFault → Result (List Item) SourceFault
by_meaning (Err fault) ended later = Err fault
by_meaning (Ok meaning.Nothing) ended later = later
by_meaning (Ok meaning.End) ended later = ended
by_meaning (Ok (meaning.Item item)) ended later = with_item item later

-- the items of the lines up to END, in the kind of block that is open, where the next line has this number
unfoldable pub items_from : Block → ℕ → List NumberedLine → Result (List Item) SourceFault
items_from block next [] = Err (MissingEnd next)
items_from block next (line ∷ lines) =
    by_meaning (meaning_of block line) (after_end lines)
    (items_from (open_after block (meaning_of block line)) (line.number + 1) lines)

-- the items that the lines of a source mean, or their first refusal
abbrev pub source_of : List NumberedLine → Result (List Item) SourceFault
source_of lines = items_from kind.Nowhere 1 lines

-- each item is of one of these lines, in their order
abbrev pub Follow : List Item → List NumberedLine → Type 0
Follow [] lines = Unit {0}
Follow (item ∷ items) [] = ⊥
Follow (item ∷ items) (line ∷ lines) = ((item.line ≡ line.number) × Follow items lines) ⊎ Follow (item ∷ items) lines

-- a call gave this meaning, or was refused by this fault, unless memory ran out
abbrev pub Tells : Result Meaning SourceFault → Result Meaning SourceFault → Type 0
Tells (Ok told) due = due ≡ Ok told
Tells (Err fault) due = fault ≢ WantsMemory → due ≡ Err fault
