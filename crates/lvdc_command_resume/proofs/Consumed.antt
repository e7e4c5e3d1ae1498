-- A saved text is at least as long as the lines of its log and of its repairs.
use Rattle.std.proofs.Common.{◌≡◌, ℕ, ◌+◌, ◌-◌, ◌<◌, ◌≤◌, ◌==◌, Bool, true, false, List, [], ◌∷◌, ◌++◌, length, map, take, codes, Option, None, Some, Result, Ok, Err, refl, ap, ◌∙◌, subst, arith, if◌then◌else◌, length-append, length-take}
use Rattle.std.specs.List.{slice_split, onto_first}
use Rattle.std.specs.Str.Lines.{lines_of_parts}
use Rattle.std.specs.Prelude.{slice_index}
use Rattle.std.specs.Str.{bytes_eq}
use Rattle.std.proofs.lemmas.Slice.Eq.{bytes_eq-Decides}
use Rattle.std.proofs.lemmas.List.Splits.{slice_split-cons_yes, slice_split-cons_no, length-slice_split}
use Rattle.lvdc_text.specs.declared.cutting.Line.{Line}
use Rattle.lvdc_text.specs.Lines.{NumberedLine, is_line_feed, lines_of, part_of, numbered, token_texts_of}
use Rattle.lvdc_text.proofs.Texts.{texts-lines_of}
use Rattle.lvdc_port.specs.Device.{Device}
use Rattle.lvdc_lines.specs.Noted as noted
use Rattle.lvdc_lines.specs.Noted.{exchange_line, repair_line, noted_size}
use Rattle.lvdc_lines.proofs.LineSizes.{length-both, none-noted}
use Rattle.lvdc_save.specs.Entries.{entry_in, spelled}
use Rattle.lvdc_save.specs.Lines.{entry_line}
use Rattle.lvdc_save.specs.Reading.{Progress, nothing_said, adds, moved_on, fits, lacking, by_lack, by_entry, after_line, and_then, told_from, whole_of, saved_in, saved_of, rank}
use Rattle.lvdc_save.specs.declared.entry.Entry.{Entry}
use Rattle.lvdc_save.specs.declared.entry.Entry.TheVariants as says
use Rattle.lvdc_save.specs.declared.fault.SaveFault.{SaveFault}
use Rattle.lvdc_save.specs.declared.fault.SaveFault.TheVariants.{BadSave}
use Rattle.lvdc_save.specs.declared.saved.Saved.{Saved}

-- ---- how long lines are

-- with an LF each
abbrev size_of : List (List ℕ) → ℕ
size_of [] = 0
size_of (text ∷ texts) = length text + 1 + size_of texts

size-onto_first : (b : ℕ) (pieces : List (List ℕ)) → 0 < length pieces → size_of (onto_first b pieces) ≡ size_of pieces + 1
size-onto_first b [] some = absurd (omega (arith, some))
size-onto_first b (piece ∷ pieces) some = omega arith

-- one byte more
size-next : (ends : ℕ → Bool) (b : ℕ) (bytes : List ℕ) (v : Bool) → ends b ≡ v → size_of (slice_split ends bytes) ≡ length bytes + 1
    → size_of (slice_split ends (b ∷ bytes)) ≡ length (b ∷ bytes) + 1
size-next ends b bytes true is before = ap size_of (slice_split-cons_yes ends b bytes is) ∙ omega (arith, before)
size-next ends b bytes false is before =
    ap size_of (slice_split-cons_no ends b bytes is)
    ∙ size-onto_first b (slice_split ends bytes) (omega (arith, length-slice_split ends bytes)) ∙ omega (arith, before)

size-split : (ends : ℕ → Bool) (bytes : List ℕ) → size_of (slice_split ends bytes) ≡ length bytes + 1
size-split ends [] = refl
size-split ends (b ∷ bytes) = size-next ends b bytes (ends b) refl (size-split ends bytes)

stripped : (cr : Bool) (text : List ℕ) → length (if cr then take (length text - 1) text else text) ≤ length text
stripped true text = omega (arith, length-take (length text - 1) text)
stripped false text = omega arith

size-parts : (pieces : List (List ℕ)) → size_of (lines_of_parts pieces) ≤ size_of pieces
size-parts [] = omega arith
size-parts (piece ∷ []) =
    elim (length piece == 0) as (λ empty. size_of (if empty then [] else piece ∷ []) ≤ length piece + 1 + 0)
    [ true ↦ omega arith | false ↦ omega arith ]
size-parts (piece ∷ next ∷ pieces) =
    omega (arith, stripped (slice_index piece (length piece - 1) == 13) piece, size-parts (next ∷ pieces))

texts-numbered : (bytes : List ℕ) (lines : List Line) → map (λ (line : NumberedLine). line.text) (numbered bytes lines) ≡ map (part_of bytes) lines
texts-numbered bytes [] = refl
texts-numbered bytes (line ∷ lines) = ap (λ (texts : List (List ℕ)). part_of bytes line ∷ texts) (texts-numbered bytes lines)

-- the lines of bytes are no longer than these, but for a last LF
size-lines : (bytes : List ℕ) → size_of (map (λ (line : NumberedLine). line.text) (numbered bytes (lines_of bytes))) ≤ length bytes + 1
size-lines bytes =
    let same = ap size_of (texts-numbered bytes (lines_of bytes) ∙ texts-lines_of bytes) in
    omega (arith, same, size-parts (slice_split is_line_feed bytes), size-split is_line_feed bytes)

-- ---- how long the lines of a log and of repairs are

pub size-more : {A : Type 0} (line : A → List ℕ) (items : List A) (item : A)
    → length (noted.lines_of line (items ++ item ∷ [])) ≡ length (noted.lines_of line items) + length (line item)
unfolding noted.lines_of
size-more line items item = omega (arith, length-both line items (item ∷ []), length-append (line item) [])

size-adds : (number : ℕ) (r : Progress) (e : Entry)
    → noted_size (adds number r e).log (adds number r e).repairs ≤ noted_size r.log r.repairs + length (entry_line e)
size-adds number r says.Title = omega arith
size-adds number r (says.Steps steps) = omega arith
size-adds number r (says.Count count) = omega arith
size-adds number r (says.Simplex banks) = omega arith
size-adds number r (says.Copy copy) = omega arith
size-adds number r (says.Select twins) = omega arith
size-adds number r (says.Cell held) = omega arith
size-adds number r (says.Word placed) = omega arith
size-adds number r (says.Exchange exchange) = omega (arith, size-more exchange_line r.log exchange)
size-adds number r (says.Repair repair) = omega (arith, size-more repair_line r.repairs repair)
size-adds number r (says.State supply) = omega arith
size-adds number r (says.Unplug unplug) = omega arith
size-adds number r (says.Fault event) = omega arith
size-adds number r (says.Order order) = omega arith
size-adds number r says.End = omega arith

-- ---- one line

module _ (devices : List Device) (number : ℕ) (r s : Progress) where
  by-lack : (e : Entry) (lack : Option ℕ) → by_lack devices number r e lack ≡ Ok s
      → noted_size s.log s.repairs ≤ noted_size r.log r.repairs + length (entry_line e)
  by-lack e None is =
      let same : moved_on devices (adds number r e) e ≡ s = cc in
      subst (λ (p : Progress). noted_size p.log p.repairs ≤ noted_size r.log r.repairs + length (entry_line e)) same (size-adds number r e)
  by-lack e (Some line) is = absurd (cc)

  by-fit : (e : Entry) (fit : Bool) → (if fit then by_lack devices number r e (lacking devices number r e) else Err (BadSave number)) ≡ Ok s
      → noted_size s.log s.repairs ≤ noted_size r.log r.repairs + length (entry_line e)
  by-fit e true is = by-lack e (lacking devices number r e) is
  by-fit e false is = absurd (cc)

  by-spelling : (text : List ℕ) (e : Entry) (same : Bool) → bytes_eq (entry_line e) (text ++ codes "\n") ≡ same
      → by_entry devices number r (if same then Some e else None) ≡ Ok s → noted_size s.log s.repairs ≤ noted_size r.log r.repairs + (length text + 1)
  by-spelling text e true spelling is =
      let line : entry_line e ≡ text ++ codes "\n" = (bytes_eq-Decides (entry_line e) (text ++ codes "\n")).0 spelling in
      omega (arith, by-fit e (fits r e) is, ap length line, length-append text (codes "\n"))
  by-spelling text e false spelling is = absurd (cc)

  by-found : (text : List ℕ) (found : Option Entry) → by_entry devices number r (spelled text found) ≡ Ok s
      → noted_size s.log s.repairs ≤ noted_size r.log r.repairs + (length text + 1)
  by-found text None is = absurd (cc)
  by-found text (Some e) is = by-spelling text e (bytes_eq (entry_line e) (text ++ codes "\n")) refl is

-- ---- all lines

-- one line more
size-line : (devices : List Device) (r s : Progress) (line : NumberedLine) (lines : List NumberedLine) (after : Result Progress SaveFault)
    → after_line devices r line ≡ after → and_then after (λ t. told_from devices t lines) ≡ Ok s
    → ((t : Progress) → told_from devices t lines ≡ Ok s
    → noted_size s.log s.repairs ≤ noted_size t.log t.repairs + size_of (map (λ (line : NumberedLine). line.text) lines))
    → noted_size s.log s.repairs ≤ noted_size r.log r.repairs + (length line.text + 1 + size_of (map (λ (line : NumberedLine). line.text) lines))
size-line devices r s line lines (Ok t) one rest later =
    omega (arith, by-found devices line.number r t line.text (entry_in (token_texts_of line.text)) one, later t rest)
size-line devices r s line lines (Err fault) one rest later = absurd (cc)

size-told : (devices : List Device) (r s : Progress) (lines : List NumberedLine) → told_from devices r lines ≡ Ok s
    → noted_size s.log s.repairs ≤ noted_size r.log r.repairs + size_of (map (λ (line : NumberedLine). line.text) lines)
unfolding told_from
size-told devices r s [] is = let same : r ≡ s = cc in subst (λ (p : Progress). noted_size p.log p.repairs ≤ noted_size r.log r.repairs + 0) same (omega arith)
size-told devices r s (line ∷ lines) is = size-line devices r s line lines (after_line devices r line) refl is (λ t rest. size-told devices t s lines rest)

-- the lines of bytes with their numbers
abbrev lines_in : List ℕ → List NumberedLine
lines_in bytes = numbered bytes (lines_of bytes)

-- the log and the repairs of a saved text
pub noted-fits : (devices : List Device) (bytes : List ℕ) (s : Saved) → saved_of devices bytes ≡ Ok s
    → noted_size s.snapshot.log s.snapshot.repairs ≤ length bytes + 1
noted-fits devices bytes s is = by_told (told_from devices nothing_said (lines_in bytes)) refl is
  where
    by_whole : (r : Progress) (whole : Bool) → rank r.section == 15 ≡ whole → (if whole then Ok (saved_in r) else Err (BadSave (length (lines_in bytes) + 1))) ≡ Ok s
        → noted_size r.log r.repairs ≤ length bytes + 1 → noted_size s.snapshot.log s.snapshot.repairs ≤ length bytes + 1
    by_whole r true is same fits = let saved : saved_in r ≡ s = cc in subst (λ (x : Saved). noted_size x.snapshot.log x.snapshot.repairs ≤ length bytes + 1) saved fits
    by_whole r false is same fits = absurd (cc)

    by_told : (told : Result Progress SaveFault) → told_from devices nothing_said (lines_in bytes) ≡ told → and_then told (whole_of (length (lines_in bytes) + 1)) ≡ Ok s
        → noted_size s.snapshot.log s.snapshot.repairs ≤ length bytes + 1
    by_told (Ok r) one rest =
        by_whole r (rank r.section == 15) refl rest (omega (arith, size-told devices nothing_said r (lines_in bytes) one, size-lines bytes, none-noted))
    by_told (Err fault) one rest = absurd (cc)
