-- Items that are of lines, one after another.
use Rattle.std.proofs.Common.{List, ◌∷◌, [], inl, inr}
use Rattle.lvdc_text.specs.Lines.{NumberedLine}
use Rattle.lvdc_source.specs.Source.{Follow}
use Rattle.lvdc_source.specs.declared.item.Item.{Item}

-- also with a line before them
follow-more : (items : List Item) (line : NumberedLine) (lines : List NumberedLine) → Follow items lines → Follow items (line ∷ lines)
follow-more [] line lines h = tt
follow-more (item ∷ items) line lines h = inr h

-- also without the first item
pub follow-tail : (item : Item) (items : List Item) (lines : List NumberedLine) → Follow (item ∷ items) lines → Follow items lines
follow-tail item items [] h = absurd h
follow-tail item items (line ∷ lines) (inl h) = follow-more items line lines h.1
follow-tail item items (line ∷ lines) (inr h) = follow-more items line lines (follow-tail item items lines h)
