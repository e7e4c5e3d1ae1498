-- The items of a source stand in their blocks, and have their forms.
use Rattle.std.proofs.Common.{◌≡◌, ℕ, ◌+◌, Bool, true, false, List, [], ◌∷◌, Result, Ok, Err, refl, sym, subst}
use Rattle.std.specs.Prelude.{if◌then◌else◌}
use Rattle.lvdc_source.specs.declared.fault.SourceFault.{SourceFault}
use Rattle.lvdc_source.specs.declared.fault.SourceFault.TheVariants.{LineTooLong, AfterEnd}
use Rattle.lvdc_source.specs.declared.block.Block.{Block}
use Rattle.lvdc_source.specs.declared.block.Block.TheVariants as kind
use Rattle.lvdc_source.specs.declared.item.Item.{Item}
use Rattle.lvdc_source.specs.declared.meaning.Meaning.{Meaning}
use Rattle.lvdc_source.specs.declared.meaning.Meaning.TheVariants as meaning
use Rattle.lvdc_source.specs.Items.{block_after, IsBody, AreItems, IsProgram}
use Rattle.lvdc_text.specs.Lines.{NumberedLine, is_long, is_comment}
use Rattle.lvdc_source.specs.Source.{meaning_of, open_after, after_end, with_item, by_meaning, items_from, source_of}
use Rattle.lvdc_source.proofs.Forms.{meaning_of-is}

-- no items come after END
ended : (long comment : Bool) (number : ℕ) (later : Result (List Item) SourceFault) (items : List Item) → (later ≡ Ok items → items ≡ [])
    → (if long then Err (LineTooLong number) else (if comment then later else Err (AfterEnd number))) ≡ Ok items → items ≡ []
ended true comment number later items none e = absurd (cc)
ended false true number later items none e = none e
ended false false number later items none e = absurd (cc)

after_end-none : (lines : List NumberedLine) (items : List Item) → after_end lines ≡ Ok items → items ≡ []
unfolding after_end
after_end-none [] items e = cc
after_end-none (line ∷ lines) items e = ended (is_long line.text) (is_comment line.text) line.number (after_end lines) items (after_end-none lines items) e

AreItems-nil : (block : Block) → AreItems block []
unfolding AreItems
AreItems-nil block = tt

AreItems-cons : (block : Block) (item : Item) (items : List Item) → IsBody block item.label item.body → AreItems (block_after block item.body) items → AreItems block (item ∷ items)
unfolding AreItems
AreItems-cons block item items h more = (h, more)

-- an item and what comes after it
with_item-are : (block : Block) (item : Item) (later : Result (List Item) SourceFault) (items : List Item) → IsBody block item.label item.body
    → ((more : List Item) → later ≡ Ok more → AreItems (block_after block item.body) more) → with_item item later ≡ Ok items → AreItems block items
with_item-are block item (Ok more) items h rest e =
    let same : item ∷ more ≡ items = cc in subst (AreItems block) same (AreItems-cons block item more h (rest more refl))
with_item-are block item (Err fault) items h rest e = absurd (cc)

-- the items of a line and of those after it, by what it means
by_meaning-are : (block : Block) (line : NumberedLine) (lines : List NumberedLine) (told : Result Meaning SourceFault) (later : Result (List Item) SourceFault) (items : List Item)
    → meaning_of block line ≡ told → ((more : List Item) → later ≡ Ok more → AreItems (open_after block told) more)
    → by_meaning told (after_end lines) later ≡ Ok items → AreItems block items
by_meaning-are block line lines (Err fault) later items t rest e = absurd (cc)
by_meaning-are block line lines (Ok meaning.Nothing) later items t rest e = rest items e
by_meaning-are block line lines (Ok meaning.End) later items t rest e = subst (AreItems block) (sym (after_end-none lines items e)) (AreItems-nil block)
by_meaning-are block line lines (Ok (meaning.Item item)) later items t rest e = with_item-are block item later items (meaning_of-is block line item t) rest e

items_from-are : (block : Block) (next : ℕ) (lines : List NumberedLine) (items : List Item) → items_from block next lines ≡ Ok items → AreItems block items
unfolding items_from
items_from-are block next [] items e = absurd (cc)
items_from-are block next (line ∷ lines) items e =
    by_meaning-are block line lines (meaning_of block line) (items_from (open_after block (meaning_of block line)) (line.number + 1) lines) items refl
    (λ more f. items_from-are (open_after block (meaning_of block line)) (line.number + 1) lines more f) e

-- what the lines of a source mean is a program
pub source_of-IsProgram : (lines : List NumberedLine) (items : List Item) → source_of lines ≡ Ok items → IsProgram items
source_of-IsProgram lines items e = items_from-are kind.Nowhere 1 lines items e
