-- The rows of a listing, cut apart again.
use Rattle.std.proofs.Common.{◌≡◌, ℕ, zero, suc, ◌+◌, ◌-◌, ◌/◌, ◌%◌, ◌^◌, ◌<◌, Bool, true, false, cond, List, [], ◌∷◌, ◌++◌, length, map, zip, flat_map, All, replicate, decimal, codes, Option, None, Some, append_assoc, nat_lt, nat_le, refl, sym, ap, ◌∙◌, subst, arith}
use Rattle.std.specs.Prelude.{◌==◌}
use Rattle.std.specs.List.{list_all, list_any, slice_split, onto_first}
use Rattle.std.proofs.lemmas.Bool.{and_parts, or_parts, ne_eqb, leb-true}
use Rattle.std.proofs.lemmas.List.{append-nil}
use Rattle.std.proofs.lemmas.List.Elements.{All-nil, All-cons, All-head, All-tail}
use Rattle.std.proofs.lemmas.List.Splits.{slice_split_at}
use Rattle.lvdc_map.specs.Address.{Spot}
use Rattle.lvdc_map.specs.Memory.{Memory, word_at}
use Rattle.lvdc_text.specs.Joined.{text_of}
use Rattle.lvdc_text.specs.Lines.{NumberedLine, is_line_feed, is_comment}
use Rattle.lvdc_text.specs.Numbers.{is_digit, octal_text}
use Rattle.lvdc_text.proofs.Digits.{octal_text-suc, octal_text-zero}
use Rattle.lvdc_source.specs.declared.item.Body.{Body}
use Rattle.lvdc_source.specs.declared.item.Body.TheVariants as says
use Rattle.lvdc_source.specs.declared.item.Item.{Item}
use Rattle.lvdc_place.specs.declared.spot.Spot.{Spot as Place}
use Rattle.lvdc_listing.specs.Listing.{item_field, item_names}
use Rattle.lvdc_listing.specs.Places.{sector_text, syllable_text, place_text, syllable_in, held_text, field_text}
use Rattle.lvdc_listing.specs.Rows.{Field, blanks, row, line_rows, pool_row, name_rows}
use Rattle.lvdc_laws_assembly.specs.Shown.{Shown, byte_at, row_shown, rows_shown}
use Rattle.lvdc_laws_assembly.proofs.Fields.{IsShort, short-decimal, row-begins}
use Rattle.lvdc_laws_assembly.proofs.Reading.{AreShort}

-- ---- texts without a line feed

abbrev pub NoFeed : List ℕ → Type 0
NoFeed [] = Unit {0}
NoFeed (b ∷ bs) = (is_line_feed b ≡ false) × NoFeed bs

no-append : (xs ys : List ℕ) → NoFeed xs → NoFeed ys → NoFeed (xs ++ ys)
no-append [] ys p q = q
no-append (x ∷ xs) ys p q = (p.0, no-append xs ys p.1 q)

no-all : (xs : List ℕ) → NoFeed xs → All (λ (b : ℕ). is_line_feed b ≡ false) xs
no-all [] p = All-nil (λ (b : ℕ). is_line_feed b ≡ false)
no-all (x ∷ xs) p = All-cons (λ (b : ℕ). is_line_feed b ≡ false) x xs p.0 (no-all xs p.1)

pub no-any : (xs : List ℕ) → list_any is_line_feed xs ≡ false → NoFeed xs
no-any [] h = tt
no-any (x ∷ xs) h = let parts = or_parts (is_line_feed x) (list_any is_line_feed xs) h in (parts.0, no-any xs parts.1)

no-octal : (width n : ℕ) → NoFeed (octal_text width n)
no-octal zero n = subst NoFeed (sym (octal_text-zero n)) tt
no-octal (suc width) n =
    subst NoFeed (sym (octal_text-suc width n))
    (no-append (octal_text width (n / 8)) ((48 + n % 8) ∷ []) (no-octal width (n / 8)) (ne_eqb (48 + n % 8) 10 (λ e. absurd (omega (arith, e))), tt))

no-replicate : (k : ℕ) → NoFeed (replicate k 32)
no-replicate zero = tt
no-replicate (suc k) = (refl, no-replicate k)

no-digits : (ds : List ℕ) → list_all (is_digit 10) ds ≡ true → NoFeed ds
no-digits [] h = tt
no-digits (d ∷ ds) h =
    let both = and_parts (is_digit 10 d) (list_all (is_digit 10) ds) h in
    let digit = and_parts (nat_le 48 d) (nat_lt d (48 + 10)) both.0 in
    (ne_eqb d 10 (λ e. absurd (omega (arith, leb-true 48 d digit.0, e))), no-digits ds both.1)

-- ---- fields

no-sector : (at : Spot) → NoFeed (sector_text at)
no-sector at = no-append (octal_text 1 at.pair ++ codes " ") (octal_text 2 at.sector) (no-append (octal_text 1 at.pair) (codes " ") (no-octal 1 at.pair) (refl, tt)) (no-octal 2 at.sector)

no-syllable : (syl : Option ℕ) → NoFeed (syllable_text syl)
no-syllable None = (refl, tt)
no-syllable (Some syl) = no-octal 1 syl

no-place : (here : Place) → NoFeed (place_text here)
no-place here =
    no-append (sector_text here.at ++ codes " " ++ syllable_text here.syl ++ codes " ") (octal_text 3 here.at.loc)
    (no-append (sector_text here.at ++ codes " " ++ syllable_text here.syl) (codes " ")
    (no-append (sector_text here.at ++ codes " ") (syllable_text here.syl) (no-append (sector_text here.at) (codes " ") (no-sector here.at) (refl, tt)) (no-syllable here.syl)) (refl, tt))
    (no-octal 3 here.at.loc)

no-held : (w : ℕ) (syl : Option ℕ) (body : Body) → NoFeed (held_text w syl body)
no-held w syl (says.Instruction op operand) = (refl, no-octal 5 (syllable_in w syl))
no-held w syl (says.Constant constant) = (refl, no-octal 9 w)
no-held w syl _ = tt

no-field : (m : Memory) (spot : Option Place) (body : Body) → NoFeed (field_text m spot body)
no-field m None body = tt
no-field m (Some here) body = no-append (place_text here) (held_text (word_at m here.at) here.syl body) (no-place here) (no-held (word_at m here.at) here.syl body)

-- ---- rows

-- a row that can be cut off, and isn't that of a name
pub record IsRow (text : List ℕ) : Type 0 where
  pub whole : NoFeed text
  pub other : (byte_at text 0 == 78) ≡ false

abbrev pub AreRows : List (List ℕ) → Type 0
AreRows [] = Unit {0}
AreRows (text ∷ texts) = IsRow text × AreRows texts

rows-append : (xs ys : List (List ℕ)) → AreRows xs → AreRows ys → AreRows (xs ++ ys)
rows-append [] ys p q = q
rows-append (x ∷ xs) ys p q = (p.0, rows-append xs ys p.1 q)

line-is : (line : NumberedLine) (field : List ℕ) → line.number < 10 ^ 7 → NoFeed line.text → NoFeed field → IsRow (row line field)
line-is line field small text own =
    let short : IsShort (decimal line.number) = short-decimal line.number small in
    record {
      whole =
          no-append (blanks 7 (decimal line.number) ++ decimal line.number ++ codes " " ++ field ++ blanks 20 field ++ codes " ") line.text
          (no-append (blanks 7 (decimal line.number) ++ decimal line.number ++ codes " " ++ field ++ blanks 20 field) (codes " ")
          (no-append (blanks 7 (decimal line.number) ++ decimal line.number ++ codes " " ++ field) (blanks 20 field)
          (no-append (blanks 7 (decimal line.number) ++ decimal line.number ++ codes " ") field
          (no-append (blanks 7 (decimal line.number) ++ decimal line.number) (codes " ")
          (no-append (blanks 7 (decimal line.number)) (decimal line.number) (no-replicate (7 - length (decimal line.number))) (no-digits (decimal line.number) short.all))
          (refl, tt)) own) (no-replicate (20 - length field))) (refl, tt)) text;
      other = ne_eqb (byte_at (row line field) 0) 78 (λ e. absurd (omega (arith, row-begins line field small, e)));
    }

-- the lines have no line feed
abbrev pub AreWhole : List NumberedLine → Type 0
AreWhole lines = All (λ (line : NumberedLine). list_any is_line_feed line.text ≡ false) lines

abbrev AreClean : List Field → Type 0
AreClean [] = Unit {0}
AreClean (field ∷ fields) = NoFeed field.text × AreClean fields

lines-are : (fields : List Field) (lines : List NumberedLine) → AreClean fields → AreShort lines → AreWhole lines → AreRows (line_rows fields lines)
lines-are [] [] clean short whole = tt
lines-are (field ∷ fields) [] clean short whole = tt
lines-are [] (line ∷ lines) clean short whole = by (is_comment line.text) (lines-are [] lines clean later rest)
  where
    later : AreShort lines
    later = All-tail (λ (l : NumberedLine). l.number < 10 ^ 7) line lines short

    rest : AreWhole lines
    rest = All-tail (λ (l : NumberedLine). list_any is_line_feed l.text ≡ false) line lines whole

    here : IsRow (row line [])
    here = line-is line [] (All-head (λ (l : NumberedLine). l.number < 10 ^ 7) line lines short)
        (no-any line.text (All-head (λ (l : NumberedLine). list_any is_line_feed l.text ≡ false) line lines whole)) tt

    by : (b : Bool) → AreRows (line_rows [] lines) → AreRows (cond b (row line [] ∷ line_rows [] lines) (row line [] ∷ []))
    by true more = (here, more)
    by false more = (here, tt)
lines-are (field ∷ fields) (line ∷ lines) clean short whole =
    by (field.line == line.number) (lines-are fields lines clean.1 later rest) (lines-are (field ∷ fields) lines clean later rest)
  where
    later : AreShort lines
    later = All-tail (λ (l : NumberedLine). l.number < 10 ^ 7) line lines short

    rest : AreWhole lines
    rest = All-tail (λ (l : NumberedLine). list_any is_line_feed l.text ≡ false) line lines whole

    with-field : (text : List ℕ) → NoFeed text → IsRow (row line text)
    with-field text own = line-is line text (All-head (λ (l : NumberedLine). l.number < 10 ^ 7) line lines short)
        (no-any line.text (All-head (λ (l : NumberedLine). list_any is_line_feed l.text ≡ false) line lines whole)) own

    by : (b : Bool) → AreRows (line_rows fields lines) → AreRows (line_rows (field ∷ fields) lines)
        → AreRows (cond b (row line field.text ∷ line_rows fields lines) (row line [] ∷ line_rows (field ∷ fields) lines))
    by true next again = (with-field field.text clean.0, next)
    by false next again = (with-field [] tt, again)

clean-fields : (m : Memory) (placed : List (Item × Option Place)) → AreClean (map (item_field m) placed)
clean-fields m [] = tt
clean-fields m (p ∷ ps) = (no-field m p.1 p.0.body, clean-fields m ps)

pool-are : (m : Memory) (ats : List Spot) → AreRows (map (pool_row m) ats)
pool-are m [] = tt
pool-are m (at ∷ ats) = (
  record {
    whole =
        no-append (codes "POOL " ++ sector_text at ++ codes " " ++ octal_text 3 at.loc ++ codes " ") (octal_text 9 (word_at m at))
        (no-append (codes "POOL " ++ sector_text at ++ codes " " ++ octal_text 3 at.loc) (codes " ")
        (no-append (codes "POOL " ++ sector_text at ++ codes " ") (octal_text 3 at.loc)
        (no-append (codes "POOL " ++ sector_text at) (codes " ")
        (no-append (codes "POOL ") (sector_text at) (refl, (refl, (refl, (refl, (refl, tt))))) (no-sector at)) (refl, tt)) (no-octal 3 at.loc)) (refl, tt)) (no-octal 9 (word_at m at));
    other = refl;
  },
  pool-are m ats,
)

-- the rows before the names
pub front-rows : (m : Memory) (placed : List (Item × Option Place)) (lines : List NumberedLine) (ats : List Spot) → AreShort lines → AreWhole lines
    → AreRows (line_rows (map (item_field m) placed) lines ++ map (pool_row m) ats)
front-rows m placed lines ats short whole =
    rows-append (line_rows (map (item_field m) placed) lines) (map (pool_row m) ats) (lines-are (map (item_field m) placed) lines (clean-fields m placed) short whole) (pool-are m ats)

-- ---- the text

-- they are cut off one by one
cut-rows : (texts : List (List ℕ)) (rest : List ℕ) → AreRows texts → slice_split is_line_feed (text_of texts ++ rest) ≡ texts ++ slice_split is_line_feed rest
cut-rows [] rest rows = refl
cut-rows (text ∷ texts) rest rows =
    ap (slice_split is_line_feed) (append_assoc text (10 ∷ text_of texts) rest)
    ∙ slice_split_at is_line_feed text 10 (text_of texts ++ rest) (no-all text rows.0.whole) refl
    ∙ ap (λ (more : List (List ℕ)). text ∷ more) (cut-rows texts rest rows.1)

shown-rows : (texts more : List (List ℕ)) → AreRows texts → rows_shown (texts ++ more) ≡ flat_map row_shown texts ++ rows_shown more
shown-rows [] more rows = refl
shown-rows (text ∷ texts) more rows =
    ap (λ (b : Bool). cond b [] (row_shown text ++ rows_shown (texts ++ more))) rows.0.other
    ∙ ap (λ (rest : List Shown). row_shown text ++ rest) (shown-rows texts more rows.1)
    ∙ sym (append_assoc (row_shown text) (flat_map row_shown texts) (rows_shown more))

-- from the first name on nothing is shown
begins-name : (parts : List (List ℕ)) → rows_shown (onto_first 78 parts) ≡ []
begins-name [] = refl
begins-name (part ∷ parts) = refl

name-cut : (label : List ℕ) (spot : Option Place) (rest : List (List ℕ)) → rows_shown (slice_split is_line_feed (text_of rest)) ≡ [] → rows_shown (slice_split is_line_feed (text_of (name_rows label spot ++ rest))) ≡ []
name-cut [] spot rest h = h
name-cut (c ∷ cs) None rest h = h
name-cut (c ∷ cs) (Some here) rest h = begins-name _

names-cut : (items : List Item) (spots : List (Option Place)) → rows_shown (slice_split is_line_feed (text_of (flat_map item_names (zip items spots)))) ≡ []
names-cut [] spots = refl
names-cut (item ∷ items) [] = refl
names-cut (item ∷ items) (spot ∷ spots) = name-cut item.label spot (flat_map item_names (zip items spots)) (names-cut items spots)

-- what a text of such rows and of names shows
pub text-shown : (texts : List (List ℕ)) (items : List Item) (spots : List (Option Place)) → AreRows texts
    → rows_shown (slice_split is_line_feed (text_of texts ++ text_of (flat_map item_names (zip items spots)))) ≡ flat_map row_shown texts
text-shown texts items spots rows =
    ap rows_shown (cut-rows texts (text_of (flat_map item_names (zip items spots))) rows)
    ∙ shown-rows texts (slice_split is_line_feed (text_of (flat_map item_names (zip items spots)))) rows
    ∙ ap (λ (last : List Shown). flat_map row_shown texts ++ last) (names-cut items spots)
    ∙ append-nil (flat_map row_shown texts)
