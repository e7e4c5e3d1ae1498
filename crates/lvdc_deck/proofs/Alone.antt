-- A source that stands in a deck and the same lines as a text of their own.
use Rattle.std.proofs.Common.{◌≡◌, ℕ, ◌-◌, Bool, List, [], ◌∷◌, map, Some, Result, Ok, Err, sym, ap, ◌∙◌, subst}
use Rattle.lvdc_text.specs.Lines.{lines_of, texts_of, NumberedLine, numbered}
use Rattle.lvdc_port.specs.Device.{Device}
use Rattle.lvdc_image.specs.Image.{Contents}
use Rattle.lvdc_image.specs.Reading.{texts}
use Rattle.lvdc_asm.specs.Assembly.{Assembled, assembly_of}
use Rattle.lvdc_asm.specs.declared.fault.AsmFault.{AsmFault}
use Rattle.lvdc_deck.specs.declared.deck.Deck.{Deck}
use Rattle.lvdc_deck.specs.Deck.{deck_of}
use Rattle.lvdc_deck.specs.Loading.{source_in, IsImageBy, IsImageOf}
use Rattle.lvdc_deck.specs.Moving.{line_moved, assembly_moved}
use Rattle.lvdc_deck.proofs.Loaded.{deck-loads}
use Rattle.lvdc_deck.proofs.Moved.{assembly-moved}
use Rattle.lvdc_deck.proofs.Numbering.{source-numbered, source-none}

moved-own : (k : ℕ) (line : NumberedLine) (lines own : List NumberedLine) → line ∷ lines ≡ map (line_moved k) own → assembly_of (line ∷ lines) ≡ assembly_moved k (assembly_of own)
moved-own k line lines [] is = absurd (cc)
moved-own k line lines (first ∷ own) is = ap assembly_of is ∙ assembly-moved k first own

pub source-moved : (bytes own : List ℕ) (line : NumberedLine) (lines : List NumberedLine) → source_in bytes ≡ Some (line ∷ lines) → texts_of own ≡ texts (line ∷ lines) →
    assembly_of (line ∷ lines) ≡ assembly_moved (line.number - 1) (assembly_of (numbered own (lines_of own)))
source-moved bytes own line lines begins same =
    moved-own (line.number - 1) line lines (numbered own (lines_of own)) (source-numbered bytes own line lines begins same)

-- moving keeps the words
moved-image : (k : ℕ) (image : Contents) (assembly : Result Assembled AsmFault) → IsImageBy image (assembly_moved k assembly) → IsImageBy image assembly
moved-image k image (Ok assembled) is = is
moved-image k image (Err fault) is = is

by-lines : (bytes own : List ℕ) (image : Contents) (source : List NumberedLine) → source_in bytes ≡ Some source → texts_of own ≡ texts source → IsImageOf image source →
    IsImageOf image (numbered own (lines_of own))
by-lines bytes own image [] begins same is = subst (IsImageOf image) (sym (source-none own same)) is
by-lines bytes own image (line ∷ lines) begins same is =
    moved-image (line.number - 1) image (assembly_of (numbered own (lines_of own)))
    (subst (IsImageBy image) (source-moved bytes own line lines begins same) is)

pub own-loads : (bytes own : List ℕ) (devices : List Device) (debugging : Bool) (deck : Deck) (source : List NumberedLine) →
    deck_of bytes devices debugging ≡ Ok deck → source_in bytes ≡ Some source → texts_of own ≡ texts source → IsImageOf deck.image (numbered own (lines_of own))
own-loads bytes own devices debugging deck source is begins same =
    by-lines bytes own deck.image source begins same (deck-loads bytes devices debugging deck source is begins)
