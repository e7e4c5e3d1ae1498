-- The items of a source are of its lines, one after another.
use Rattle.std.proofs.Common.{◌≡◌, ℕ, ◌+◌, Bool, true, false, List, [], ◌∷◌, Result, Ok, Err, Option, None, Some, if◌then◌else◌, refl, sym, subst, inl, inr}
use Rattle.lvdc_text.specs.Lines.{NumberedLine, is_long, is_comment}
use Rattle.lvdc_source.specs.declared.fault.SourceFault.{SourceFault}
use Rattle.lvdc_source.specs.declared.fault.SourceFault.TheVariants.{LineTooLong, AfterEnd}
use Rattle.lvdc_source.specs.declared.block.Block.{Block}
use Rattle.lvdc_source.specs.declared.block.Block.TheVariants as kind
use Rattle.lvdc_source.specs.declared.item.Body.{Body}
use Rattle.lvdc_source.specs.declared.item.Item.{Item}
use Rattle.lvdc_source.specs.declared.meaning.Meaning.{Meaning}
use Rattle.lvdc_source.specs.declared.meaning.Meaning.TheVariants as meaning
use Rattle.lvdc_source.specs.declared.operation.Operation.{Operation}
use Rattle.lvdc_source.specs.declared.operation.Operation.TheVariants as operation
use Rattle.lvdc_source.specs.Lines.{Parts, parts_of}
use Rattle.lvdc_source.specs.Operations.{operation_of, is_modified, is_misplaced}
use Rattle.lvdc_source.specs.Operands.{body_in}
use Rattle.lvdc_source.specs.Source.{is_bad_label, with_body, by_operand, by_operation, meaning_of, open_after, after_end, with_item, by_meaning, items_from, source_of, Follow}

-- also with a line before them
follow-more : (items : List Item) (line : NumberedLine) (lines : List NumberedLine) → Follow items lines → Follow items (line ∷ lines)
follow-more [] line lines h = tt
follow-more (item ∷ items) line lines h = inr h

-- ---- one line

if_err : {A E : Type 0} (test : Bool) (fault : E) (rest : Result A E) (x : A) → (if test then Err fault else rest) ≡ Ok x → rest ≡ Ok x
if_err true fault rest x e = absurd (cc)
if_err false fault rest x e = e

if_nothing : (test : Bool) (rest : Result Meaning SourceFault) (item : Item) → (if test then Ok meaning.Nothing else rest) ≡ Ok (meaning.Item item) → rest ≡ Ok (meaning.Item item)
if_nothing true rest item e = absurd (cc)
if_nothing false rest item e = e

body-line : (directive : Operation) (number : ℕ) (label : List ℕ) (said : Option Body) (item : Item) → with_body directive number label said ≡ Ok (meaning.Item item) → item.line ≡ number
body-line directive number label (Some said) item e =
    let same : ◌≡◌ {A = Item} (record { line = number; label = label; body = said }) item = cc in
    subst (λ (i : Item). i.line ≡ number) same refl
body-line directive number label None item e = absurd (cc)

operand-line : (directive : Operation) (number : ℕ) (label operand : List ℕ) (item : Item) → by_operand directive number label operand ≡ Ok (meaning.Item item) → item.line ≡ number
operand-line operation.End number label operand item e = absurd (cc)
operand-line directive number label operand item e = body-line directive number label (body_in directive operand) item e

operation-line : (block : Block) (number : ℕ) (parts : Parts) (named : Option Operation) (item : Item) → by_operation block number parts named ≡ Ok (meaning.Item item) → item.line ≡ number
operation-line block number parts None item e = absurd (cc)
operation-line block number parts (Some directive) item e =
    operand-line directive number parts.label parts.operand item
    (if_err (is_misplaced block directive) _ _ (meaning.Item item) (if_err (is_modified directive) _ _ (meaning.Item item) e))

meaning-line : (block : Block) (line : NumberedLine) (item : Item) → meaning_of block line ≡ Ok (meaning.Item item) → item.line ≡ line.number
unfolding meaning_of
meaning-line block line item e =
    operation-line block line.number (parts_of line.text) (operation_of (parts_of line.text).operation) item
    (if_err (is_bad_label (parts_of line.text).label (operation_of (parts_of line.text).operation)) _ _ (meaning.Item item)
    (if_nothing (is_comment line.text) _ item (if_err (is_long line.text) _ _ (meaning.Item item) e)))

-- ---- all lines

ended : (long comment : Bool) (number : ℕ) (later : Result (List Item) SourceFault) (items : List Item) → (later ≡ Ok items → items ≡ [])
    → (if long then Err (LineTooLong number) else (if comment then later else Err (AfterEnd number))) ≡ Ok items → items ≡ []
ended true comment number later items none e = absurd (cc)
ended false true number later items none e = none e
ended false false number later items none e = absurd (cc)

nothing-after : (lines : List NumberedLine) (items : List Item) → after_end lines ≡ Ok items → items ≡ []
unfolding after_end
nothing-after [] items e = cc
nothing-after (line ∷ lines) items e = ended (is_long line.text) (is_comment line.text) line.number (after_end lines) items (nothing-after lines items) e

item-follows : (item : Item) (line : NumberedLine) (lines : List NumberedLine) (later : Result (List Item) SourceFault) (items : List Item) → item.line ≡ line.number
    → ((more : List Item) → later ≡ Ok more → Follow more lines) → with_item item later ≡ Ok items → Follow items (line ∷ lines)
item-follows item line lines (Ok more) items is rest e =
    let same : item ∷ more ≡ items = cc in
    subst (λ (found : List Item). Follow found (line ∷ lines)) same (inl (is, rest more refl))
item-follows item line lines (Err fault) items is rest e = absurd (cc)

meaning-follows : (block : Block) (line : NumberedLine) (lines : List NumberedLine) (told : Result Meaning SourceFault) (later : Result (List Item) SourceFault) (items : List Item)
    → meaning_of block line ≡ told → ((more : List Item) → later ≡ Ok more → Follow more lines) → by_meaning told (after_end lines) later ≡ Ok items → Follow items (line ∷ lines)
meaning-follows block line lines (Err fault) later items t rest e = absurd (cc)
meaning-follows block line lines (Ok meaning.Nothing) later items t rest e = follow-more items line lines (rest items e)
meaning-follows block line lines (Ok meaning.End) later items t rest e = subst (λ (found : List Item). Follow found (line ∷ lines)) (sym (nothing-after lines items e)) tt
meaning-follows block line lines (Ok (meaning.Item item)) later items t rest e = item-follows item line lines later items (meaning-line block line item t) rest e

items-follow : (block : Block) (next : ℕ) (lines : List NumberedLine) (items : List Item) → items_from block next lines ≡ Ok items → Follow items lines
unfolding items_from
items-follow block next [] items e = absurd (cc)
items-follow block next (line ∷ lines) items e =
    meaning-follows block line lines (meaning_of block line) (items_from (open_after block (meaning_of block line)) (line.number + 1) lines) items refl
    (λ more f. items-follow (open_after block (meaning_of block line)) (line.number + 1) lines more f) e

pub source-follows : (lines : List NumberedLine) (items : List Item) → source_of lines ≡ Ok items → Follow items lines
source-follows lines items e = items-follow kind.Nowhere 1 lines items e
