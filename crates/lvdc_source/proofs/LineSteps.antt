-- Reading the lines of a source one by one.
use Rattle.std.proofs.Common.{◌≡◌, ℕ, ◌+◌, ◌<◌, ◌≤◌, Bool, true, false, List, [], ◌∷◌, ◌++◌, length, get_or, drop, Result, Ok, Err, refl, sym, ap, ◌∙◌, append_assoc}
use Rattle.std.proofs.lemmas.List.{append-nil, drop_more, drop_all}
use Rattle.lvdc_text.specs.declared.cutting.Line.{Line}
use Rattle.lvdc_text.specs.Lines.{part_of, NumberedLine, numbered_line, numbered, is_long, is_comment}
use Rattle.lvdc_source.specs.declared.fault.SourceFault.{SourceFault}
use Rattle.lvdc_source.specs.declared.fault.SourceFault.TheVariants.{LineTooLong, MissingEnd, AfterEnd}
use Rattle.lvdc_source.specs.declared.block.Block.{Block}
use Rattle.lvdc_source.specs.declared.item.Item.{Item}
use Rattle.lvdc_source.specs.declared.meaning.Meaning.{Meaning}
use Rattle.lvdc_source.specs.declared.meaning.Meaning.TheVariants as meaning
use Rattle.lvdc_source.specs.Items.{block_after}
use Rattle.lvdc_source.specs.Source.{meaning_of, open_after, after_end, with_item, by_meaning, items_from}

-- ---- after END

after_end-long : (line : NumberedLine) (lines : List NumberedLine) → is_long line.text ≡ true → after_end (line ∷ lines) ≡ Err (LineTooLong line.number)
unfolding after_end
after_end-long line lines l = rw l refl

after_end-comment : (line : NumberedLine) (lines : List NumberedLine) → is_long line.text ≡ false → is_comment line.text ≡ true → after_end (line ∷ lines) ≡ after_end lines
unfolding after_end
after_end-comment line lines l c = rw (l, c) refl

after_end-other : (line : NumberedLine) (lines : List NumberedLine) → is_long line.text ≡ false → is_comment line.text ≡ false → after_end (line ∷ lines) ≡ Err (AfterEnd line.number)
unfolding after_end
after_end-other line lines l c = rw (l, c) refl

after_end-none : after_end [] ≡ Ok []
unfolding after_end
after_end-none = refl

module _ (bytes : List ℕ) (index : ℕ) (lines : List Line) (d : Line) (text : List ℕ) (total : Result (List Item) SourceFault)
    (within : index < length lines) (reads : text ≡ part_of bytes (get_or lines index d)) (so_far : after_end (numbered bytes (drop index lines)) ≡ total) where
  here : after_end (numbered_line bytes (get_or lines index d) ∷ numbered bytes (drop (index + 1) lines)) ≡ total
  here = ap after_end (sym (ap (numbered bytes) (drop_more lines index d within))) ∙ so_far

  pub at_long : (tested : Bool) → tested ≡ is_long text → tested ≡ true → total ≡ Err (LineTooLong (get_or lines index d).number)
  at_long tested t e = sym here ∙ after_end-long (numbered_line bytes (get_or lines index d)) (numbered bytes (drop (index + 1) lines)) (ap is_long (sym reads) ∙ sym t ∙ e)

  module _ (long comment : Bool) (tests_long : long ≡ is_long text) (short : long ≡ false) (tests_comment : comment ≡ is_comment text) where
    not_long : is_long (part_of bytes (get_or lines index d)) ≡ false
    not_long = ap is_long (sym reads) ∙ sym tests_long ∙ short

    pub at_comment : comment ≡ true → after_end (numbered bytes (drop (index + 1) lines)) ≡ total
    at_comment e =
        sym (after_end-comment (numbered_line bytes (get_or lines index d)) (numbered bytes (drop (index + 1) lines)) not_long (ap is_comment (sym reads) ∙ sym tests_comment ∙ e)) ∙ here

    pub at_other : comment ≡ false → total ≡ Err (AfterEnd (get_or lines index d).number)
    at_other e =
        sym here ∙ after_end-other (numbered_line bytes (get_or lines index d)) (numbered bytes (drop (index + 1) lines)) not_long (ap is_comment (sym reads) ∙ sym tests_comment ∙ e)

pub at_last : (bytes : List ℕ) (index : ℕ) (lines : List Line) (total : Result (List Item) SourceFault) → length lines ≤ index → after_end (numbered bytes (drop index lines)) ≡ total → total ≡ Ok []
at_last bytes index lines total l so_far = sym so_far ∙ ap (λ (found : List Line). after_end (numbered bytes found)) (drop_all index lines l) ∙ after_end-none

-- ---- the items

-- these items stand before the others
abbrev pub with_items : List Item → Result (List Item) SourceFault → Result (List Item) SourceFault
with_items items (Ok more) = Ok (items ++ more)
with_items items (Err fault) = Err fault

pub with_items-nil : (read : Result (List Item) SourceFault) → with_items [] read ≡ read
with_items-nil (Ok more) = refl
with_items-nil (Err fault) = refl

with_items-item : (items : List Item) (item : Item) (read : Result (List Item) SourceFault) → with_items items (with_item item read) ≡ with_items (items ++ item ∷ []) read
with_items-item items item (Ok more) = ap (λ (all : List Item). Ok all) (sym (append_assoc items (item ∷ []) more))
with_items-item items item (Err fault) = refl

items_from-line : (block : Block) (next : ℕ) (line : NumberedLine) (lines : List NumberedLine) (told : Result Meaning SourceFault) → meaning_of block line ≡ told
    → items_from block next (line ∷ lines) ≡ by_meaning told (after_end lines) (items_from (open_after block told) (line.number + 1) lines)
unfolding items_from
items_from-line block next line lines told e = rw e refl

items_from-none : (block : Block) (next : ℕ) → items_from block next [] ≡ Err (MissingEnd next)
unfolding items_from
items_from-none block next = refl

-- the step at a line of the loop
module _ (bytes : List ℕ) (items : List Item) (block : Block) (next index : ℕ) (lines : List Line) (d : Line) (text : List ℕ) (total : Result (List Item) SourceFault)
    (within : index < length lines) (reads : text ≡ part_of bytes (get_or lines index d)) (so_far : with_items items (items_from block next (numbered bytes (drop index lines))) ≡ total) where
  -- what is left after this line
  abbrev rest : List NumberedLine
  rest = numbered bytes (drop (index + 1) lines)

  by_this : (told : Result Meaning SourceFault) → meaning_of block (record { number = (get_or lines index d).number; text = text }) ≡ told
      → with_items items (by_meaning told (after_end rest) (items_from (open_after block told) ((get_or lines index d).number + 1) rest)) ≡ total
  by_this told e =
      ap (with_items items) (sym (items_from-line block next (numbered_line bytes (get_or lines index d)) rest told
      (ap (λ (t : List ℕ). meaning_of block (record { number = (get_or lines index d).number; text = t })) (sym reads) ∙ e)))
      ∙ ap (λ (found : List NumberedLine). with_items items (items_from block next found)) (sym (ap (numbered bytes) (drop_more lines index d within))) ∙ so_far

  pub at_fault : (fault : SourceFault) → meaning_of block (record { number = (get_or lines index d).number; text = text }) ≡ Err fault → total ≡ Err fault
  at_fault fault e = sym (by_this (Err fault) e)

  pub at_nothing : meaning_of block (record { number = (get_or lines index d).number; text = text }) ≡ Ok meaning.Nothing
      → with_items items (items_from block ((get_or lines index d).number + 1) rest) ≡ total
  at_nothing e = by_this (Ok meaning.Nothing) e

  pub at_item : (item : Item) → meaning_of block (record { number = (get_or lines index d).number; text = text }) ≡ Ok (meaning.Item item)
      → with_items (items ++ item ∷ []) (items_from (block_after block item.body) ((get_or lines index d).number + 1) rest) ≡ total
  at_item item e = sym (with_items-item items item (items_from (block_after block item.body) ((get_or lines index d).number + 1) rest)) ∙ by_this (Ok (meaning.Item item)) e

  pub at_end : meaning_of block (record { number = (get_or lines index d).number; text = text }) ≡ Ok meaning.End → after_end rest ≡ Ok [] → total ≡ Ok items
  at_end e last = sym (by_this (Ok meaning.End) e) ∙ ap (with_items items) last ∙ ap (λ (all : List Item). Ok all) (append-nil items)

  pub at_end_fault : (fault : SourceFault) → meaning_of block (record { number = (get_or lines index d).number; text = text }) ≡ Ok meaning.End → after_end rest ≡ Err fault → total ≡ Err fault
  at_end_fault fault e last = sym (by_this (Ok meaning.End) e) ∙ ap (with_items items) last

pub at_missing_end : (bytes : List ℕ) (items : List Item) (block : Block) (next index : ℕ) (lines : List Line) (total : Result (List Item) SourceFault) → length lines ≤ index
    → with_items items (items_from block next (numbered bytes (drop index lines))) ≡ total → total ≡ Err (MissingEnd next)
at_missing_end bytes items block next index lines total l so_far =
    sym so_far ∙ ap (λ (found : List Line). with_items items (items_from block next (numbered bytes found))) (drop_all index lines l) ∙ ap (with_items items) (items_from-none block next)
