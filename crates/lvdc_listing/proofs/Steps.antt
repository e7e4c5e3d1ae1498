-- A listing row by row.
use Rattle.std.proofs.Common.{◌≡◌, ℕ, ◌+◌, ◌<◌, ◌≤◌, ◌==◌, true, false, List, [], ◌∷◌, ◌++◌, length, get_or, drop, map, zip, flat_map, zero, suc, Option, None, Some, slice_get, refl, sym, ap, ◌∙◌, append_assoc, arith}
use Rattle.std.specs.Map.{values_of}
use Rattle.std.proofs.lemmas.List.{drop_more, drop_all, append-nil}
use Rattle.std.proofs.lemmas.Option.{get_or_from_slice_get}
use Rattle.lvdc_map.specs.Address.{Spot}
use Rattle.lvdc_map.specs.Memory.{Memory, memory_of, word_at}
use Rattle.lvdc_text.specs.Lines.{part_of, NumberedLine, numbered, is_comment}
use Rattle.lvdc_text.specs.declared.cutting.Line.{Line}
use Rattle.lvdc_text.specs.Joined.{text_of}
use Rattle.lvdc_text.proofs.Joining.{text_of-append}
use Rattle.lvdc_source.specs.declared.item.Item.{Item}
use Rattle.lvdc_place.specs.declared.spot.Spot.{Spot as Place}
use Rattle.lvdc_asm.specs.Assembly.{Assembled}
use Rattle.lvdc_listing.specs.Listing.{placed_items, item_field, item_names, listing_text}
use Rattle.lvdc_listing.specs.Places.{field_text}
use Rattle.lvdc_listing.specs.Rows.{Field, row, line_rows, pool_row, name_rows}

-- ---- texts of rows

-- what is there and what is to come, before and after rows are appended
pub more : (out next : List ℕ) (now later : List (List ℕ)) → next ≡ out ++ text_of now → next ++ text_of later ≡ out ++ text_of (now ++ later)
more out next now later e =
    ap (λ (front : List ℕ). front ++ text_of later) e ∙ append_assoc out (text_of now) (text_of later)
    ∙ ap (λ (back : List ℕ). out ++ back) (sym (text_of-append now later))

-- ---- rows of lines

pub comment_row : (line : NumberedLine) (lines : List NumberedLine) → is_comment line.text ≡ true
    → line_rows [] (line ∷ lines) ≡ row line [] ∷ line_rows [] lines
comment_row line lines e = rw e refl

pub end_row : (line : NumberedLine) (lines : List NumberedLine) → is_comment line.text ≡ false → line_rows [] (line ∷ lines) ≡ row line [] ∷ []
end_row line lines e = rw e refl

pub item_row : (field : Field) (fields : List Field) (line : NumberedLine) (lines : List NumberedLine) → (field.line == line.number) ≡ true
    → line_rows (field ∷ fields) (line ∷ lines) ≡ row line field.text ∷ line_rows fields lines
item_row field fields line lines e = rw e refl

pub other_row : (field : Field) (fields : List Field) (line : NumberedLine) (lines : List NumberedLine) → (field.line == line.number) ≡ false
    → line_rows (field ∷ fields) (line ∷ lines) ≡ row line [] ∷ line_rows (field ∷ fields) lines
other_row field fields line lines e = rw e refl

-- ---- items and their places

pub length-zip : {A B : Type 0} (xs : List A) (ys : List B) → length ys ≡ length xs → length (zip xs ys) ≡ length xs
length-zip [] ys e = refl
length-zip (x ∷ xs) [] e = absurd (omega arith)
length-zip (x ∷ xs) (y ∷ ys) e = let rest = length-zip xs ys (omega arith) in omega arith

get_or-zip : {A B : Type 0} (xs : List A) (ys : List B) (i : ℕ) (x : A) (y : B) (d : A × B) → i < length xs → length ys ≡ length xs
    → get_or (zip xs ys) i d ≡ (get_or xs i x, get_or ys i y)
get_or-zip [] ys i x y d l e = absurd (omega arith)
get_or-zip (a ∷ as') [] i x y d l e = absurd (omega arith)
get_or-zip (a ∷ as') (b ∷ bs) zero x y d l e = refl
get_or-zip (a ∷ as') (b ∷ bs) (suc i) x y d l e = get_or-zip as' bs i x y d (omega arith) (omega arith)

-- the first of those from a place on
pub first_pair : {A B : Type 0} (xs : List A) (ys : List B) (i : ℕ) (x : A) (y : B) → i < length xs → length ys ≡ length xs
    → drop i (zip xs ys) ≡ (get_or xs i x, get_or ys i y) ∷ drop (i + 1) (zip xs ys)
first_pair xs ys i x y l e =
    drop_more (zip xs ys) i (x, y) (omega (arith, length-zip xs ys e)) ∙ ap (λ pair. pair ∷ drop (i + 1) (zip xs ys)) (get_or-zip xs ys i x y (x, y) l e)

-- ---- names

-- one more item's name
pub more_names : (items found : List Item) (spots : List (Option Place)) (i : ℕ) (item : Item) (spot : Option Place) (label out next whole : List ℕ)
    → found ≡ items → length spots ≡ length found → i < length found → item ≡ get_or found i item → label ≡ item.label → spot ≡ get_or spots i None → next ≡ out ++ text_of (name_rows label spot)
    → out ++ text_of (flat_map item_names (drop i (zip items spots))) ≡ whole → next ++ text_of (flat_map item_names (drop (i + 1) (zip items spots))) ≡ whole
more_names items found spots i item spot label out next whole f s l is names stands e so_far =
    let later : List (List ℕ) = flat_map item_names (drop (i + 1) (zip items spots)) in
    let same : item ≡ get_or items i item = is ∙ ap (λ (list : List Item). get_or list i item) f in
    let within : i < length items = omega (arith, ap (λ (list : List Item). length list) f) in
    let long : length spots ≡ length items = s ∙ ap (λ (list : List Item). length list) f in
    more out next (name_rows label spot) later e
    ∙ ap (λ (l : List ℕ). out ++ text_of (name_rows l spot ++ later)) (names ∙ ap (λ (x : Item). x.label) same)
    ∙ ap (λ (x : Option Place). out ++ text_of (name_rows (get_or items i item).label x ++ later)) stands
    ∙ ap (λ (pairs : List (Item × Option Place)). out ++ text_of (flat_map item_names pairs)) (sym (first_pair items spots i item None within long))
    ∙ so_far

pub all_names : (items found : List Item) (spots : List (Option Place)) (i : ℕ) (out whole : List ℕ) → found ≡ items → length spots ≡ length found → length found ≤ i
    → out ++ text_of (flat_map item_names (drop i (zip items spots))) ≡ whole → out ≡ whole
all_names items found spots i out whole f s l so_far =
    let long : length spots ≡ length items = s ∙ ap (λ (list : List Item). length list) f in
    let past : length (zip items spots) ≤ i = omega (arith, length-zip items spots long, ap (λ (list : List Item). length list) f) in
    sym (append-nil out) ∙ ap (λ (pairs : List (Item × Option Place)). out ++ text_of (flat_map item_names pairs)) (sym (drop_all i (zip items spots) past)) ∙ so_far

-- ---- pooled words

slice_get-lt : {A : Type 0} (xs : List A) (i : ℕ) (x : A) → slice_get xs i ≡ Some x → i < length xs
slice_get-lt [] i x e = absurd (cc)
slice_get-lt (y ∷ ys) zero x e = omega arith
slice_get-lt (y ∷ ys) (suc i) x e = let rest = slice_get-lt ys i x e in omega arith

pub more_pool : (memory : Memory) (spots : List Spot) (i w : ℕ) (at : Spot) (out next whole : List ℕ) → slice_get spots i ≡ Some at → w ≡ word_at memory at
    → next ≡ out ++ text_of (pool_row (λ _. w) at ∷ []) → out ++ text_of (map (pool_row memory) (drop i spots)) ≡ whole → next ++ text_of (map (pool_row memory) (drop (i + 1) spots)) ≡ whole
more_pool memory spots i w at out next whole s held e so_far =
    let within : i < length spots = slice_get-lt spots i at s in
    let is : get_or spots i at ≡ at = get_or_from_slice_get spots i at at s in
    more out next (pool_row (λ _. w) at ∷ []) (map (pool_row memory) (drop (i + 1) spots)) e
    ∙ ap (λ (v : ℕ). out ++ text_of (pool_row (λ _. v) at ∷ map (pool_row memory) (drop (i + 1) spots))) held
    ∙ ap (λ (x : Spot). out ++ text_of (pool_row memory x ∷ map (pool_row memory) (drop (i + 1) spots))) (sym is)
    ∙ ap (λ (rest : List Spot). out ++ text_of (map (pool_row memory) rest)) (sym (drop_more spots i at within))
    ∙ so_far

-- ---- the lines

-- the step at a line of the loop
module _ (memory : Memory) (a : Assembled) (bytes : List ℕ) (lines : List Line) (index listed : ℕ) (d : Line) (text out next whole : List ℕ)
    (within : index < length lines) (reads : text ≡ part_of bytes (get_or lines index d))
    (so_far : out ++ text_of (line_rows (map (item_field memory) (drop listed (placed_items a))) (numbered bytes (drop index lines))) ≡ whole)
    (found : List Item) (same : found ≡ a.items) (stand : length a.plan.spots ≡ length found) where
  -- this line, those after it, and the fields of items from one on
  abbrev here : NumberedLine
  here = record { number = (get_or lines index d).number; text = text }

  abbrev rest : List NumberedLine
  rest = numbered bytes (drop (index + 1) lines)

  abbrev fields : ℕ → List Field
  fields from = map (item_field memory) (drop from (placed_items a))

  now : out ++ text_of (line_rows (fields listed) (here ∷ rest)) ≡ whole
  now =
      ap (λ (t : List ℕ). out ++ text_of (line_rows (fields listed) (record { number = (get_or lines index d).number; text = t } ∷ rest))) reads
      ∙ ap (λ (found : List Line). out ++ text_of (line_rows (fields listed) (numbered bytes found))) (sym (drop_more lines index d within)) ∙ so_far

  long : length a.plan.spots ≡ length a.items
  long = stand ∙ ap (λ (list : List Item). length list) same

  -- while items are left, the first of them and its place
  module _ (item : Item) (is : item ≡ get_or found listed item) (left : listed < length found) where
    abbrev first : Item × Option Place
    first = (item, get_or a.plan.spots listed None)

    first_field : fields listed ≡ item_field memory first ∷ fields (listed + 1)
    first_field =
        ap (map (item_field memory)) (first_pair a.items a.plan.spots listed item None (omega (arith, ap (λ (list : List Item). length list) same)) long)
        ∙ ap (λ (list : List Item). item_field memory (get_or list listed item, get_or a.plan.spots listed None) ∷ fields (listed + 1)) (sym same)
        ∙ ap (λ (x : Item). item_field memory (x, get_or a.plan.spots listed None) ∷ fields (listed + 1)) (sym is)

    pub at_item : (spot : Option Place) (field : List ℕ) → (first.0.line == here.number) ≡ true → spot ≡ get_or a.plan.spots listed None
        → field ≡ field_text memory spot first.0.body → next ≡ out ++ text_of (row here field ∷ []) → next ++ text_of (line_rows (fields (listed + 1)) rest) ≡ whole
    at_item spot field on stands told e =
        more out next (row here field ∷ []) (line_rows (fields (listed + 1)) rest) e
        ∙ ap (λ (f : List ℕ). out ++ text_of (row here f ∷ line_rows (fields (listed + 1)) rest))
        (told ∙ ap (λ (x : Option Place). field_text memory x first.0.body) stands)
        ∙ ap (λ (rows : List (List ℕ)). out ++ text_of rows) (sym (item_row (item_field memory first) (fields (listed + 1)) here rest on))
        ∙ ap (λ (fs : List Field). out ++ text_of (line_rows fs (here ∷ rest))) (sym first_field) ∙ now

    pub at_other : (first.0.line == here.number) ≡ false → next ≡ out ++ text_of (row here [] ∷ []) → next ++ text_of (line_rows (fields listed) rest) ≡ whole
    at_other off e =
        more out next (row here [] ∷ []) (line_rows (fields listed) rest) e
        ∙ ap (λ (fs : List Field). out ++ text_of (row here [] ∷ line_rows fs rest)) first_field
        ∙ ap (λ (rows : List (List ℕ)). out ++ text_of rows) (sym (other_row (item_field memory first) (fields (listed + 1)) here rest off))
        ∙ ap (λ (fs : List Field). out ++ text_of (line_rows fs (here ∷ rest))) (sym first_field) ∙ now

  -- after the last item
  module _ (past : length found ≤ listed) where
    no_field : fields listed ≡ []
    no_field =
        ap (map (item_field memory)) (drop_all listed (placed_items a) (omega (arith, length-zip a.items a.plan.spots long, ap (λ (list : List Item). length list) same)))

    pub at_comment : is_comment text ≡ true → next ≡ out ++ text_of (row here [] ∷ []) → next ++ text_of (line_rows (fields listed) rest) ≡ whole
    at_comment c e =
        more out next (row here [] ∷ []) (line_rows (fields listed) rest) e
        ∙ ap (λ (fs : List Field). out ++ text_of (row here [] ∷ line_rows fs rest)) no_field
        ∙ ap (λ (rows : List (List ℕ)). out ++ text_of rows) (sym (comment_row here rest c))
        ∙ ap (λ (fs : List Field). out ++ text_of (line_rows fs (here ∷ rest))) (sym no_field) ∙ now

    pub at_end : is_comment text ≡ false → next ≡ out ++ text_of (row here [] ∷ []) → next ≡ whole
    at_end other e =
        e ∙ ap (λ (rows : List (List ℕ)). out ++ text_of rows) (sym (end_row here rest other))
        ∙ ap (λ (fs : List Field). out ++ text_of (line_rows fs (here ∷ rest))) (sym no_field) ∙ now

-- ---- the whole

pub parts : (a : Assembled) (lines : List NumberedLine) (none front pool whole : List ℕ) → none ≡ []
    → front ≡ none ++ text_of (line_rows (map (item_field (memory_of a.words)) (placed_items a)) lines)
    → pool ≡ front ++ text_of (map (pool_row (memory_of a.words)) (values_of a.pool))
    → whole ≡ pool ++ text_of (flat_map item_names (placed_items a)) → whole ≡ listing_text a lines
unfolding listing_text
parts a lines none front pool whole n f p e =
    e ∙ ap (λ (t : List ℕ). t ++ text_of (flat_map item_names (placed_items a)))
    (p ∙ ap (λ (t : List ℕ). t ++ text_of (map (pool_row (memory_of a.words)) (values_of a.pool)))
    (f ∙ ap (λ (t : List ℕ). t ++ text_of (line_rows (map (item_field (memory_of a.words)) (placed_items a)) lines)) n))
