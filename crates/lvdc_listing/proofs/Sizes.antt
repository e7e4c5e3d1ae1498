-- How long the rows of a listing are.
use Rattle.std.proofs.Common.{◌≡◌, ℕ, zero, suc, ◌+◌, ◌-◌, ◌*◌, ◌^◌, ◌<◌, ◌≤◌, Bool, true, false, List, [], ◌∷◌, ◌++◌, length, take, drop, map, zip, flat_map, Option, None, Some, if◌then◌else◌, ◌==◌, refl, ap, ◌∙◌, subst, arith, length-append, length-take, get_or, All}
use Rattle.std.specs.List.{AllByRecursion, slice_split, onto_first}
use Rattle.std.specs.Map.{values_of}
use Rattle.std.specs.Str.Lines.{strip_carriage_return}
use Rattle.std.proofs.lemmas.Fmt.{length-decimal-le}
use Rattle.std.proofs.lemmas.List.{length-replicate, length-map}
use Rattle.std.proofs.lemmas.List.Elements.{All-head, All-tail}
use Rattle.std.proofs.lemmas.List.Splits.{slice_split-cons_yes, slice_split-cons_no, length-slice_split}
use Rattle.lvdc_map.specs.Address.{Spot}
use Rattle.lvdc_map.specs.Memory.{Memory, memory_of, word_at}
use Rattle.lvdc_text.specs.Lines.{is_line_feed, lines_from, lines_of, numbered_part, part_of, IsWithin, NumberedLine, numbered, is_comment}
use Rattle.lvdc_text.specs.declared.cutting.Line.{Line}
use Rattle.lvdc_text.specs.Joined.{text_of}
use Rattle.lvdc_text.proofs.Joining.{text_of-append}
use Rattle.lvdc_text.proofs.ReadBack.{length-octal_text}
use Rattle.lvdc_source.specs.Items.{IsShort}
use Rattle.lvdc_source.specs.declared.item.Body.{Body}
use Rattle.lvdc_source.specs.declared.item.Body.TheVariants as says
use Rattle.lvdc_source.specs.declared.item.Item.{Item}
use Rattle.lvdc_place.specs.declared.spot.Spot.{Spot as Place}
use Rattle.lvdc_asm.specs.Assembly.{Assembled, IsSmall}
use Rattle.lvdc_asm.specs.declared.pool.Literal.{Literal as Pooled}
use Rattle.lvdc_listing.specs.Listing.{placed_items, item_field, item_names, listing_text}
use Rattle.lvdc_listing.specs.Places.{syllable_text, place_text, held_text, field_text, syllable_in}
use Rattle.lvdc_listing.specs.Rows.{Field, row, line_rows, pool_row, name_rows}
use Rattle.lvdc_listing.proofs.Steps.{comment_row, end_row, item_row, other_row}

-- ---- places and fields

length-syllable : (syl : Option ℕ) → length (syllable_text syl) ≡ 1
length-syllable None = refl
length-syllable (Some syl) = length-octal_text 1 syl

length-place : (here : Place) → length (place_text here) ≡ 10
length-place here = simp (length-append, length-octal_text, length-syllable here.syl) (omega arith)

length-held : (w : ℕ) (syl : Option ℕ) (body : Body) → length (held_text w syl body) ≤ 10
length-held w syl (says.Instruction op operand) = omega (arith, length-octal_text 5 (syllable_in w syl))
length-held w syl (says.Constant constant) = omega (arith, length-octal_text 9 w)
length-held w syl _ = omega arith

length-field : (memory : Memory) (spot : Option Place) (body : Body) → length (field_text memory spot body) ≤ 20
length-field memory None body = omega arith
length-field memory (Some here) body =
    omega (arith, length-append (place_text here) (held_text (word_at memory here.at) here.syl body), length-place here, length-held (word_at memory here.at) here.syl body)

-- a field fits its places
abbrev Fits : List ℕ → Type 0
Fits field = length field ≤ 20

-- and so do those of items
abbrev ItFits : Field → Type 0
ItFits field = Fits field.text

fields-fit : (memory : Memory) (placed : List (Item × Option Place)) → AllByRecursion ItFits (map (item_field memory) placed)
fields-fit memory [] = tt
fields-fit memory ((item, spot) ∷ placed) = (length-field memory spot item.body, fields-fit memory placed)

-- ---- rows of lines

-- a number that fits its places
abbrev IsNumbered : NumberedLine → Type 0
IsNumbered line = line.number < 10 ^ 7

-- the bytes of lines, and one more for each
abbrev weight : List NumberedLine → ℕ
weight [] = 0
weight (line ∷ lines) = length line.text + 1 + weight lines

length-row : (line : NumberedLine) (field : List ℕ) → IsNumbered line → Fits field → length (row line field) ≡ 29 + length line.text
length-row line field n f =
    let digits = length-decimal-le 7 line.number (omega arith) n (omega arith) in
    simp (length-append, length-replicate) (omega arith)

length-text : (one : List ℕ) (rows : List (List ℕ)) → length (text_of (one ∷ rows)) ≡ length one + 1 + length (text_of rows)
length-text one rows = omega (arith, length-append one (10 ∷ text_of rows))

length-line : (field : List ℕ) (line : NumberedLine) (rest whole : List (List ℕ)) (bytes : ℕ) → IsNumbered line → Fits field
    → whole ≡ row line field ∷ rest → length (text_of rest) ≤ 30 * bytes → length (text_of whole) ≤ 30 * (length line.text + 1 + bytes)
length-line field line rest whole bytes n f e r =
    omega (arith, ap (λ (rows : List (List ℕ)). length (text_of rows)) e, length-text (row line field) rest, length-row line field n f)

-- what the later lines come to with any fields
abbrev Later : List NumberedLine → Type 0
Later lines = (later : List Field) → AllByRecursion ItFits later → length (text_of (line_rows later lines)) ≤ 30 * weight lines

length-last : (line : NumberedLine) (lines : List NumberedLine) (comment : Bool) → is_comment line.text ≡ comment → IsNumbered line → Later lines
    → length (text_of (line_rows [] (line ∷ lines))) ≤ 30 * weight (line ∷ lines)
length-last line lines true e n rest = length-line [] line (line_rows [] lines) (line_rows [] (line ∷ lines)) (weight lines) n (omega arith) (comment_row line lines e) (rest [] tt)
length-last line lines false e n rest = length-line [] line [] (line_rows [] (line ∷ lines)) (weight lines) n (omega arith) (end_row line lines e) (omega arith)

length-first : (field : Field) (fields : List Field) (line : NumberedLine) (lines : List NumberedLine) (on : Bool) → (field.line == line.number) ≡ on
    → AllByRecursion ItFits (field ∷ fields) → IsNumbered line → Later lines → length (text_of (line_rows (field ∷ fields) (line ∷ lines))) ≤ 30 * weight (line ∷ lines)
length-first field fields line lines true e f n rest =
    length-line field.text line (line_rows fields lines) (line_rows (field ∷ fields) (line ∷ lines)) (weight lines) n f.0 (item_row field fields line lines e) (rest fields f.1)
length-first field fields line lines false e f n rest =
    length-line [] line (line_rows (field ∷ fields) lines) (line_rows (field ∷ fields) (line ∷ lines)) (weight lines) n (omega arith) (other_row field fields line lines e) (rest (field ∷ fields) f)

length-line_rows : (lines : List NumberedLine) → AllByRecursion IsNumbered lines → Later lines
length-line_rows [] n fields f = omega arith
length-line_rows (line ∷ lines) n [] f = length-last line lines (is_comment line.text) refl n.0 (length-line_rows lines n.1)
length-line_rows (line ∷ lines) n (field ∷ fields) f =
    length-first field fields line lines (field.line == line.number) refl f n.0 (length-line_rows lines n.1)

-- ---- rows of the pool and of names

length-pool_row : (memory : Memory) (at : Spot) → length (pool_row memory at) ≡ 23
length-pool_row memory at = simp (length-append, length-octal_text) (omega arith)

length-pool : (memory : Memory) (spots : List Spot) → length (text_of (map (pool_row memory) spots)) ≡ 24 * length spots
length-pool memory [] = refl
length-pool memory (at ∷ spots) =
    omega (arith, length-text (pool_row memory at) (map (pool_row memory) spots), length-pool_row memory at, length-pool memory spots)

length-name : (label : List ℕ) (spot : Option Place) → length label ≤ 8 → length (text_of (name_rows label spot)) ≤ 25
length-name [] spot l = omega arith
length-name (c ∷ cs) None l = omega arith
length-name (c ∷ cs) (Some here) l = simp (length-append, length-octal_text, length-syllable here.syl) (omega arith)

length-names : (items : List Item) (spots : List (Option Place)) → AllByRecursion IsShort items → length (text_of (flat_map item_names (zip items spots))) ≤ 25 * length items
length-names [] spots s = omega arith
length-names (item ∷ items) [] s = omega arith
length-names (item ∷ items) (spot ∷ spots) s =
    omega (
      arith,
      ap length (text_of-append (name_rows item.label spot) (flat_map item_names (zip items spots))),
      length-append (text_of (name_rows item.label spot)) (text_of (flat_map item_names (zip items spots))),
      length-name item.label spot s.0,
      length-names items spots s.1,
    )

-- ---- the lines of bytes

-- the bytes of the pieces, and one more for each
abbrev size_of : List (List ℕ) → ℕ
size_of [] = 0
size_of (piece ∷ pieces) = length piece + 1 + size_of pieces

size_of-onto_first : (b : ℕ) (pieces : List (List ℕ)) → 0 < length pieces → size_of (onto_first b pieces) ≡ size_of pieces + 1
size_of-onto_first b [] l = absurd (omega arith)
size_of-onto_first b (piece ∷ pieces) l = omega arith

size_of-next : (b : ℕ) (bs : List ℕ) → size_of (slice_split is_line_feed bs) ≡ length bs + 1 → (v : Bool) → is_line_feed b ≡ v → size_of (slice_split is_line_feed (b ∷ bs)) ≡ length (b ∷ bs) + 1
size_of-next b bs h true e = ap size_of (slice_split-cons_yes is_line_feed b bs e) ∙ omega arith
size_of-next b bs h false e =
    ap size_of (slice_split-cons_no is_line_feed b bs e) ∙ size_of-onto_first b (slice_split is_line_feed bs) (omega (arith, length-slice_split is_line_feed bs)) ∙ omega arith

size_of-slice_split : (bytes : List ℕ) → size_of (slice_split is_line_feed bytes) ≡ length bytes + 1
size_of-slice_split [] = refl
size_of-slice_split (b ∷ bs) = size_of-next b bs (size_of-slice_split bs) (is_line_feed b) refl

length-either : (cr : Bool) (text : List ℕ) → length (if cr then take (length text - 1) text else text) ≤ length text
length-either true text = omega (arith, length-take (length text - 1) text)
length-either false text = omega arith

stripped_fits : (text : List ℕ) → length (strip_carriage_return text) ≤ length text
stripped_fits text = length-either (get_or text (length text - 1) 0 == 13) text

length-part : (bytes : List ℕ) (number start n : ℕ) → length (part_of bytes (numbered_part number start n)) ≤ n
length-part bytes number start n = omega (arith, length-take (start + n - start) (drop start bytes))

-- lines take no more bytes than their pieces, and there are fewer of them
record FitIn (bytes : List ℕ) (lines : List Line) (size : ℕ) : Type 0 where
  whole : weight (numbered bytes lines) ≤ size
  count : length lines ≤ size - 1

last-fits : (bytes : List ℕ) (number start n : ℕ) (v : Bool) → (n == 0) ≡ v → FitIn bytes (if v then [] else numbered_part number start n ∷ []) (n + 1)
last-fits bytes number start n true e = record { whole = omega arith; count = omega arith }
last-fits bytes number start zero false e = absurd (cc)
last-fits bytes number start (suc n) false e = record { whole = omega (arith, length-part bytes number start (suc n)); count = omega arith }

lines_from-fit : (bytes : List ℕ) (number start : ℕ) (pieces : List (List ℕ)) → FitIn bytes (lines_from number start pieces) (size_of pieces)
unfolding lines_from
lines_from-fit bytes number start [] = record { whole = omega arith; count = omega arith }
lines_from-fit bytes number start (piece ∷ []) =
    let size : length piece + 1 ≡ size_of (piece ∷ []) = omega arith in
    subst (FitIn bytes (if length piece == 0 then [] else numbered_part number start (length piece) ∷ [])) size (last-fits bytes number start (length piece) (length piece == 0) refl)
lines_from-fit bytes number start (piece ∷ next ∷ pieces) =
    let rest = lines_from-fit bytes (number + 1) (start + length piece + 1) (next ∷ pieces) in
    record {
      whole = omega (arith, rest.whole, length-part bytes number start (length (strip_carriage_return piece)), stripped_fits piece);
      count = omega (arith, rest.count);
    }

weight-lines_of : (bytes : List ℕ) → weight (numbered bytes (lines_of bytes)) ≤ length bytes + 1
weight-lines_of bytes = omega (arith, (lines_from-fit bytes 1 0 (slice_split is_line_feed bytes)).whole, size_of-slice_split bytes)

length-lines_of : (bytes : List ℕ) → length (lines_of bytes) ≤ length bytes
length-lines_of bytes = omega (arith, (lines_from-fit bytes 1 0 (slice_split is_line_feed bytes)).count, size_of-slice_split bytes)

numbers-fit : (bytes : List ℕ) (lines : List Line) → All (IsWithin bytes) lines → length bytes ≤ 2 ^ 20 → AllByRecursion IsNumbered (numbered bytes lines)
numbers-fit bytes [] w l = tt
numbers-fit bytes (line ∷ lines) w l =
    let first = All-head (IsWithin bytes) line lines w in
    (omega (arith, first.counted), numbers-fit bytes lines (All-tail (IsWithin bytes) line lines w) l)

-- ---- the whole

pub length-listing : (a : Assembled) (bytes : List ℕ) (lines : List Line) → IsSmall a (length (numbered bytes lines)) → All (IsWithin bytes) lines → length bytes ≤ 2 ^ 20 → lines ≡ lines_of bytes
    → length (listing_text a (numbered bytes lines)) ≤ 82837534
unfolding listing_text
length-listing a bytes lines small w l e =
    let fields : List Field = map (item_field (memory_of a.words)) (placed_items a) in
    let front : List ℕ = text_of (line_rows fields (numbered bytes lines)) in
    let pool : List ℕ = text_of (map (pool_row (memory_of a.words)) (values_of a.pool)) in
    let names : List ℕ = text_of (flat_map item_names (placed_items a)) in
    omega (
      arith,
      length-append (front ++ pool) names,
      length-append front pool,
      length-line_rows (numbered bytes lines) (numbers-fit bytes lines w l) fields (fields-fit (memory_of a.words) (placed_items a)),
      ap (λ (found : List Line). weight (numbered bytes found)) e,
      weight-lines_of bytes,
      length-pool (memory_of a.words) (values_of a.pool),
      length-map a.pool (λ (entry : Pooled × Spot). entry.1),
      small.pool,
      small.items.count,
      length-map {B = NumberedLine} lines (λ (line : Line). record { number = line.number; text = part_of bytes line }),
      ap (λ (found : List Line). length found) e,
      length-lines_of bytes,
      length-names a.items a.plan.spots small.items.labels,
    )
