-- The items of a source are no more than its lines, and their labels are names.
use Rattle.std.proofs.Common.{◌≡◌, ℕ, ◌+◌, ◌≤◌, Bool, true, false, List, [], ◌∷◌, length, Result, Ok, Err, Option, None, Some, not, ◌&&◌, ◌||◌, nat_le, if◌then◌else◌, refl, sym, subst, arith}
use Rattle.std.specs.List.{list_all}
use Rattle.std.proofs.lemmas.Bool.{leb-true}
use Rattle.lvdc_source.specs.declared.fault.SourceFault.{SourceFault}
use Rattle.lvdc_source.specs.declared.fault.SourceFault.TheVariants.{LineTooLong, AfterEnd}
use Rattle.lvdc_source.specs.declared.block.Block.{Block}
use Rattle.lvdc_source.specs.declared.block.Block.TheVariants as kind
use Rattle.lvdc_source.specs.declared.item.Body.{Body}
use Rattle.lvdc_source.specs.declared.item.Item.{Item}
use Rattle.lvdc_source.specs.declared.meaning.Meaning.{Meaning}
use Rattle.lvdc_source.specs.declared.meaning.Meaning.TheVariants as meaning
use Rattle.lvdc_source.specs.declared.operation.Operation.{Operation}
use Rattle.lvdc_source.specs.declared.operation.Operation.TheVariants as operation
use Rattle.lvdc_source.specs.Items.{IsShort, AreFew}
use Rattle.lvdc_text.specs.Lines.{NumberedLine, is_long, is_comment}
use Rattle.lvdc_source.specs.Lines.{Parts, parts_of}
use Rattle.lvdc_source.specs.Names.{is_capital, is_of_name, is_name}
use Rattle.lvdc_source.specs.Operations.{operation_of, is_unlabelled, is_modified, is_misplaced}
use Rattle.lvdc_source.specs.Operands.{body_in}
use Rattle.lvdc_source.specs.Source.{is_bad_label, with_body, by_operand, by_operation, by_parts, meaning_of, open_after, after_end, with_item, by_meaning, items_from, source_of}

both : (a b : Bool) → (a && b) ≡ true → (a ≡ true) × (b ≡ true)
both true b e = (refl, e)
both false b e = absurd (cc)

not_either : (a b : Bool) → (not a || b) ≡ false → a ≡ true
not_either true b e = refl
not_either false b e = absurd (cc)

not_not : (a : Bool) → not a ≡ false → a ≡ true
not_not true e = refl
not_not false e = absurd (cc)

if_err : {A E : Type 0} (test : Bool) (fault : E) (rest : Result A E) (x : A) → (if test then Err fault else rest) ≡ Ok x → (test ≡ false) × (rest ≡ Ok x)
if_err true fault rest x e = absurd (cc)
if_err false fault rest x e = (refl, e)

-- ---- one line

length-name : (label : List ℕ) → is_name label ≡ true → length label ≤ 8
unfolding is_name
length-name [] e = omega arith
length-name (b ∷ bs) e =
    let front = both (is_capital b && nat_le (length bs) 7) (list_all is_of_name bs) e in
    let few = both (is_capital b) (nat_le (length bs) 7) front.0 in
    let most : length bs ≤ 7 = leb-true (length bs) 7 few.1 in
    omega arith

length-label : (label : List ℕ) (named : Option Operation) → is_bad_label label named ≡ false → length label ≤ 8
length-label [] named e = omega arith
length-label (b ∷ bs) (Some directive) e = length-name (b ∷ bs) (not_either (is_name (b ∷ bs)) (is_unlabelled directive) e)
length-label (b ∷ bs) None e = length-name (b ∷ bs) (not_not (is_name (b ∷ bs)) e)

with_body-label : (directive : Operation) (number : ℕ) (label : List ℕ) (said : Option Body) (item : Item) → length label ≤ 8
    → with_body directive number label said ≡ Ok (meaning.Item item) → IsShort item
with_body-label directive number label (Some said) item l e =
    let same : ◌≡◌ {A = Item} (record { line = number; label = label; body = said }) item = cc in
    subst IsShort same l
with_body-label directive number label None item l e = absurd (cc)

by_operand-label : (directive : Operation) (number : ℕ) (label operand : List ℕ) (item : Item) → length label ≤ 8
    → by_operand directive number label operand ≡ Ok (meaning.Item item) → IsShort item
by_operand-label operation.End number label operand item l e = absurd (cc)
by_operand-label directive number label operand item l e = with_body-label directive number label (body_in directive operand) item l e

by_operation-label : (block : Block) (number : ℕ) (parts : Parts) (named : Option Operation) (item : Item) → length parts.label ≤ 8
    → by_operation block number parts named ≡ Ok (meaning.Item item) → IsShort item
by_operation-label block number parts None item l e = absurd (cc)
by_operation-label block number parts (Some directive) item l e =
    let unmodified = if_err (is_modified directive) _ _ (meaning.Item item) e in
    let placed = if_err (is_misplaced block directive) _ _ (meaning.Item item) unmodified.1 in
    by_operand-label directive number parts.label parts.operand item l placed.1

by_parts-label : (block : Block) (number : ℕ) (parts : Parts) (item : Item) → by_parts block number parts ≡ Ok (meaning.Item item) → IsShort item
by_parts-label block number parts item e =
    let labelled = if_err (is_bad_label parts.label (operation_of parts.operation)) _ _ (meaning.Item item) e in
    by_operation-label block number parts (operation_of parts.operation) item (length-label parts.label (operation_of parts.operation) labelled.0) labelled.1

if_nothing : (test : Bool) (rest : Result Meaning SourceFault) (item : Item) → (if test then Ok meaning.Nothing else rest) ≡ Ok (meaning.Item item) → rest ≡ Ok (meaning.Item item)
if_nothing true rest item e = absurd (cc)
if_nothing false rest item e = e

meaning_of-label : (block : Block) (line : NumberedLine) (item : Item) → meaning_of block line ≡ Ok (meaning.Item item) → IsShort item
unfolding meaning_of
meaning_of-label block line item e =
    let short = if_err (is_long line.text) _ _ (meaning.Item item) e in
    by_parts-label block line.number (parts_of line.text) item (if_nothing (is_comment line.text) _ item short.1)

-- ---- all lines

ended : (long comment : Bool) (number : ℕ) (later : Result (List Item) SourceFault) (items : List Item) → (later ≡ Ok items → items ≡ [])
    → (if long then Err (LineTooLong number) else (if comment then later else Err (AfterEnd number))) ≡ Ok items → items ≡ []
ended true comment number later items none e = absurd (cc)
ended false true number later items none e = none e
ended false false number later items none e = absurd (cc)

after_end-none : (lines : List NumberedLine) (items : List Item) → after_end lines ≡ Ok items → items ≡ []
unfolding after_end
after_end-none [] items e = cc
after_end-none (line ∷ lines) items e = ended (is_long line.text) (is_comment line.text) line.number (after_end lines) items (after_end-none lines items) e

with_item-few : (item : Item) (later : Result (List Item) SourceFault) (items : List Item) (most : ℕ) → IsShort item → ((more : List Item) → later ≡ Ok more → AreFew more most)
    → with_item item later ≡ Ok items → AreFew items (most + 1)
with_item-few item (Ok more) items most s rest e =
    let same : item ∷ more ≡ items = cc in
    let few = rest more refl in
    subst (λ (found : List Item). AreFew found (most + 1)) same (record { count = omega (arith, few.count); labels = (s, few.labels) })
with_item-few item (Err fault) items most s rest e = absurd (cc)

one_more : (items : List Item) (most : ℕ) → AreFew items most → AreFew items (most + 1)
one_more items most few = record { count = omega (arith, few.count); labels = few.labels }

by_meaning-few : (block : Block) (line : NumberedLine) (lines : List NumberedLine) (told : Result Meaning SourceFault) (later : Result (List Item) SourceFault) (items : List Item)
    → meaning_of block line ≡ told → ((more : List Item) → later ≡ Ok more → AreFew more (length lines))
    → by_meaning told (after_end lines) later ≡ Ok items → AreFew items (length lines + 1)
by_meaning-few block line lines (Err fault) later items t rest e = absurd (cc)
by_meaning-few block line lines (Ok meaning.Nothing) later items t rest e = one_more items (length lines) (rest items e)
by_meaning-few block line lines (Ok meaning.End) later items t rest e =
    subst (λ (found : List Item). AreFew found (length lines + 1)) (sym (after_end-none lines items e)) (record { count = omega arith; labels = tt })
by_meaning-few block line lines (Ok (meaning.Item item)) later items t rest e = with_item-few item later items (length lines) (meaning_of-label block line item t) rest e

items_from-few : (block : Block) (next : ℕ) (lines : List NumberedLine) (items : List Item) → items_from block next lines ≡ Ok items → AreFew items (length lines)
unfolding items_from
items_from-few block next [] items e = absurd (cc)
items_from-few block next (line ∷ lines) items e =
    let few = by_meaning-few block line lines (meaning_of block line) (items_from (open_after block (meaning_of block line)) (line.number + 1) lines) items refl
    (λ more f. items_from-few (open_after block (meaning_of block line)) (line.number + 1) lines more f) e in
    record { count = omega (arith, few.count); labels = few.labels }

pub source_of-few : (lines : List NumberedLine) (items : List Item) → source_of lines ≡ Ok items → AreFew items (length lines)
source_of-few lines items e = items_from-few kind.Nowhere 1 lines items e
