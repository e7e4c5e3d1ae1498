-- Lines that stand so many lines further on say the same items, or are refused for the same cause, so many lines further on.
use Rattle.std.proofs.Common.{◌≡◌, ℕ, ◌+◌, Bool, true, false, List, [], ◌∷◌, map, codes, Option, None, Some, Result, Ok, Err, refl, ap, ◌∙◌, arith}
use Rattle.std.specs.Bool.{if◌then◌else◌}
use Rattle.std.specs.Option.{option_map}
use Rattle.std.specs.Str.{bytes_eq}
use Rattle.lvdc_isa.specs.Mnemonics.{operation_named}
use Rattle.lvdc_isa.specs.declared.op.Op.{Op}
use Rattle.lvdc_text.specs.Lines.{NumberedLine, is_long, is_comment}
use Rattle.lvdc_source.specs.Lines.{Parts, parts_of}
use Rattle.lvdc_source.specs.Operands.{body_in}
use Rattle.lvdc_source.specs.Operations.{operation_of, is_modified, is_misplaced}
use Rattle.lvdc_source.specs.Source.{is_bad_label, wrong_operand, with_body, by_operand, by_operation, by_parts, meaning_of, open_after, after_end, with_item, by_meaning, items_from, source_of}
use Rattle.lvdc_source.specs.declared.block.Block.{Block}
use Rattle.lvdc_source.specs.declared.block.Block.TheVariants as kind
use Rattle.lvdc_source.specs.declared.fault.SourceFault.{SourceFault}
use Rattle.lvdc_source.specs.declared.fault.SourceFault.TheVariants.{LineTooLong, BadLabel, UnknownOperation, ExecuteModified, BadDirective, AfterEnd}
use Rattle.lvdc_source.specs.declared.item.Body.{Body}
use Rattle.lvdc_source.specs.declared.item.Item.{Item}
use Rattle.lvdc_deck.specs.Moving.{line_moved, item_moved, source_moved}
use Rattle.lvdc_deck.proofs.Types.{TypeOf, ValueOf}

-- what a line means, or its refusal
abbrev Told : Type 0
Told = TypeOf (meaning_of kind.Nowhere (record { number = 0; text = [] }))

-- an operation
abbrev Operation : Type 0
Operation = ValueOf (operation_of [])

-- ---- items

-- items, or a refusal, so many lines further on
abbrev pub items_moved : ℕ → Result (List Item) SourceFault → Result (List Item) SourceFault
items_moved k (Ok items) = Ok (map (item_moved k) items)
items_moved k (Err fault) = Err (source_moved k fault)

item-moved : (k : ℕ) (item : Item) (later : Result (List Item) SourceFault) → with_item (item_moved k item) (items_moved k later) ≡ items_moved k (with_item item later)
item-moved k item (Ok items) = refl
item-moved k item (Err fault) = refl

-- ---- one line

-- one meaning is the other, so many lines further on, by what comes of both
record IsMoved (k : ℕ) (moved told : Told) : Type 0 where
  says : (ended later : Result (List Item) SourceFault) → by_meaning moved (items_moved k ended) (items_moved k later) ≡ items_moved k (by_meaning told ended later)
  opens : (block : Block) → open_after block moved ≡ open_after block told

fault-moved : (k : ℕ) (fault moved : SourceFault) → moved ≡ source_moved k fault → IsMoved k (Err moved) (Err fault)
fault-moved k fault moved is = record { says = λ ended later. ap (λ (f : SourceFault). Err f) is; opens = λ block. refl }

body-moved : (k number : ℕ) (o : Operation) (label : List ℕ) (said : Option Body) → wrong_operand o (k + number) ≡ source_moved k (wrong_operand o number) →
    IsMoved k (with_body o (k + number) label said) (with_body o number label said)
body-moved k number o label (Some said) is = record { says = λ ended later. item-moved k (record { line = number; label = label; body = said }) later; opens = λ block. refl }
body-moved k number o label None is = fault-moved k (wrong_operand o number) (wrong_operand o (k + number)) is

-- a line of the operation is the same so many lines further on
record MayMove (k : ℕ) (o : Operation) : Type 0 where
  moved : (number : ℕ) (label operand : List ℕ) → IsMoved k (by_operand o (k + number) label operand) (by_operand o number label operand)

-- an operation with an operand
with-operand : (k : ℕ) (o : Operation) → ((number : ℕ) (label operand : List ℕ) → by_operand o number label operand ≡ with_body o number label (body_in o operand)) →
    ((number : ℕ) → wrong_operand o (k + number) ≡ source_moved k (wrong_operand o number)) → MayMove k o
with-operand k o has wrong =
    record { moved = λ number label operand. rw (has (k + number) label operand, has number label operand) (body-moved k number o label (body_in o operand) (wrong number)) }

-- the operation of a text, where it has one
abbrev EachMayMove : ℕ → Option Operation → Type 0
EachMayMove k None = Unit {0}
EachMayMove k (Some o) = MayMove k o

first-or : (k : ℕ) (b : Bool) (o : Operation) (later : Option Operation) → MayMove k o → EachMayMove k later → EachMayMove k (if b then Some o else later)
first-or k true o later first more = first
first-or k false o later first more = more

machine-or : (k : ℕ) (op : Option Op) (made : Op → Operation) → ((op : Op) → MayMove k (made op)) → EachMayMove k (option_map made op)
machine-or k None made each = tt
machine-or k (Some op) made each = each op

operations-move : (k : ℕ) (text : List ℕ) → EachMayMove k (operation_of text)
unfolding operation_of
operations-move k text =
    first-or k (bytes_eq text (codes "OCT")) _ _ (with-operand k _ (λ number label operand. refl) (λ number. refl))
    (first-or k (bytes_eq text (codes "DEC")) _ _ (with-operand k _ (λ number label operand. refl) (λ number. refl))
    (first-or k (bytes_eq text (codes "HOPC")) _ _ (with-operand k _ (λ number label operand. refl) (λ number. refl))
    (first-or k (bytes_eq text (codes "BSS")) _ _ (with-operand k _ (λ number label operand. refl) (λ number. refl))
    (first-or k (bytes_eq text (codes "CODE")) _ _ (with-operand k _ (λ number label operand. refl) (λ number. refl))
    (first-or k (bytes_eq text (codes "ORG")) _ _ (with-operand k _ (λ number label operand. refl) (λ number. refl))
    (first-or k (bytes_eq text (codes "WORDS")) _ _ (with-operand k _ (λ number label operand. refl) (λ number. refl))
    (first-or k (bytes_eq text (codes "USE")) _ _ (with-operand k _ (λ number label operand. refl) (λ number. refl))
    (first-or k (bytes_eq text (codes "END")) _ _ (record { moved = λ number label operand. record { says = λ ended later. refl; opens = λ block. refl } })
    (machine-or k (operation_named text) _ (λ op. with-operand k _ (λ number label operand. refl) (λ number. refl)))))))))))

-- a choice between two meanings
chosen-moved : (k : ℕ) (b : Bool) (first other first_moved other_moved : Told) → IsMoved k first_moved first → IsMoved k other_moved other → IsMoved k (if b then first_moved else other_moved) (if b then first else other)
chosen-moved k true first other first_moved other_moved y n = y
chosen-moved k false first other first_moved other_moved y n = n

operation-moved : (k number : ℕ) (block : Block) (parts : Parts) (o : Option Operation) → EachMayMove k o → IsMoved k (by_operation block (k + number) parts o) (by_operation block number parts o)
operation-moved k number block parts None may = fault-moved k (UnknownOperation number) (UnknownOperation (k + number)) refl
operation-moved k number block parts (Some o) may =
    chosen-moved k (is_modified o) (Err (ExecuteModified number)) (if is_misplaced block o then Err (BadDirective number) else by_operand o number parts.label parts.operand)
    (Err (ExecuteModified (k + number))) (if is_misplaced block o then Err (BadDirective (k + number)) else by_operand o (k + number) parts.label parts.operand)
    (fault-moved k (ExecuteModified number) (ExecuteModified (k + number)) refl)
    (chosen-moved k (is_misplaced block o) (Err (BadDirective number)) (by_operand o number parts.label parts.operand)
    (Err (BadDirective (k + number))) (by_operand o (k + number) parts.label parts.operand)
    (fault-moved k (BadDirective number) (BadDirective (k + number)) refl) (may.moved number parts.label parts.operand))

parts-moved : (k number : ℕ) (block : Block) (parts : Parts) → IsMoved k (by_parts block (k + number) parts) (by_parts block number parts)
parts-moved k number block parts =
    chosen-moved k (is_bad_label parts.label (operation_of parts.operation)) (Err (BadLabel number)) (by_operation block number parts (operation_of parts.operation))
    (Err (BadLabel (k + number))) (by_operation block (k + number) parts (operation_of parts.operation))
    (fault-moved k (BadLabel number) (BadLabel (k + number)) refl)
    (operation-moved k number block parts (operation_of parts.operation) (operations-move k parts.operation))

means-moved : (k : ℕ) (block : Block) (line : NumberedLine) → IsMoved k (meaning_of block (line_moved k line)) (meaning_of block line)
unfolding meaning_of
means-moved k block line =
    chosen-moved k (is_long line.text) (Err (LineTooLong line.number)) _ (Err (LineTooLong (k + line.number))) _
    (fault-moved k (LineTooLong line.number) (LineTooLong (k + line.number)) refl)
    (chosen-moved k (is_comment line.text) _ (by_parts block line.number (parts_of line.text)) _ (by_parts block (k + line.number) (parts_of line.text))
    (record { says = λ ended later. refl; opens = λ b. refl }) (parts-moved k line.number block (parts_of line.text)))

-- ---- the lines in their order

-- a choice between two lists of items
either-moved : (k : ℕ) (b : Bool) (first other first_moved other_moved : Result (List Item) SourceFault) → first_moved ≡ items_moved k first → other_moved ≡ items_moved k other →
    (if b then first_moved else other_moved) ≡ items_moved k (if b then first else other)
either-moved k true first other first_moved other_moved y n = y
either-moved k false first other first_moved other_moved y n = n

end-moved : (k : ℕ) (lines : List NumberedLine) → after_end (map (line_moved k) lines) ≡ items_moved k (after_end lines)
unfolding after_end
end-moved k [] = refl
end-moved k (line ∷ lines) =
    either-moved k (is_long line.text) (Err (LineTooLong line.number)) _ (Err (LineTooLong (k + line.number))) _ refl
    (either-moved k (is_comment line.text) (after_end lines) (Err (AfterEnd line.number)) (after_end (map (line_moved k) lines)) (Err (AfterEnd (k + line.number)))
    (end-moved k lines) refl)

from-moved : (k : ℕ) (block : Block) (next : ℕ) (lines : List NumberedLine) → items_from block (k + next) (map (line_moved k) lines) ≡ items_moved k (items_from block next lines)
unfolding items_from
from-moved k block next [] = refl
from-moved k block next (line ∷ lines) =
    let is : IsMoved k (meaning_of block (line_moved k line)) (meaning_of block line) = means-moved k block line in
    let after : k + line.number + 1 ≡ k + (line.number + 1) = omega arith in
    ap (λ (b : Block). by_meaning (meaning_of block (line_moved k line)) (after_end (map (line_moved k) lines)) (items_from b (k + line.number + 1) (map (line_moved k) lines))) (is.opens block)
    ∙ ap (λ (n : ℕ). by_meaning (meaning_of block (line_moved k line)) (after_end (map (line_moved k) lines)) (items_from (open_after block (meaning_of block line)) n (map (line_moved k) lines))) after
    ∙ ap (λ (ended : Result (List Item) SourceFault). by_meaning (meaning_of block (line_moved k line)) ended (items_from (open_after block (meaning_of block line)) (k + (line.number + 1)) (map (line_moved k) lines))) (end-moved k lines)
    ∙ ap (by_meaning (meaning_of block (line_moved k line)) (items_moved k (after_end lines))) (from-moved k (open_after block (meaning_of block line)) (line.number + 1) lines)
    ∙ is.says (after_end lines) (items_from (open_after block (meaning_of block line)) (line.number + 1) lines)

-- the number of the next line says nothing where there is a line
any-next : (block : Block) (m n : ℕ) (line : NumberedLine) (lines : List NumberedLine) → items_from block m (line ∷ lines) ≡ items_from block n (line ∷ lines)
unfolding items_from
any-next block m n line lines = refl

pub source-moved : (k : ℕ) (line : NumberedLine) (lines : List NumberedLine) → source_of (map (line_moved k) (line ∷ lines)) ≡ items_moved k (source_of (line ∷ lines))
source-moved k line lines = any-next kind.Nowhere 1 (k + 1) (line_moved k line) (map (line_moved k) lines) ∙ from-moved k kind.Nowhere 1 (line ∷ lines)
