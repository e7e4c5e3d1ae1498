-- What the rows of a listing show, item by item.
use Rattle.std.proofs.Common.{◌≡◌, ℕ, ◌^◌, ◌<◌, ◌≤◌, Bool, true, false, cond, List, [], ◌∷◌, ◌++◌, length, map, zip, flat_map, All, codes, Option, None, Some, append_assoc, refl, sym, ap, ◌∙◌, subst, arith, inl, inr}
use Rattle.std.specs.Prelude.{◌==◌}
use Rattle.std.proofs.lemmas.Bool.{true≢false, eq-eqb}
use Rattle.std.proofs.lemmas.List.Elements.{All-head, All-tail}
use Rattle.lvdc_word.specs.Word.{upper, lower}
use Rattle.lvdc_map.specs.Address.{Spot}
use Rattle.lvdc_map.specs.Memory.{Memory, word_at}
use Rattle.lvdc_text.specs.Lines.{NumberedLine, is_comment}
use Rattle.lvdc_text.specs.Numbers.{octal_text}
use Rattle.lvdc_source.specs.Source.{Follow}
use Rattle.lvdc_source.specs.declared.item.Body.{Body}
use Rattle.lvdc_source.specs.declared.item.Body.TheVariants as says
use Rattle.lvdc_source.specs.declared.item.Item.{Item}
use Rattle.lvdc_place.specs.declared.spot.Spot.{Spot as Place}
use Rattle.lvdc_listing.specs.Listing.{item_field}
use Rattle.lvdc_listing.specs.Places.{place_text, syllable_in, held_text, field_text}
use Rattle.lvdc_listing.specs.Rows.{Field, blanks, row, line_rows, pool_row}
use Rattle.lvdc_laws_assembly.specs.Shown.{Shown, field_shown, row_shown}
use Rattle.lvdc_laws_assembly.proofs.Fields.{line-row, IsIn, code-shown, word-shown, room-shown, none-shown, pool-shown}
use Rattle.lvdc_laws_assembly.proofs.Follow.{follow-tail}

-- ---- one item

-- what the row of an item shows
abbrev pub line_entries : Memory → Option Place → Body → List Shown
line_entries m None body = []
line_entries m (Some here) (says.Instruction op operand) = record { at = here.at; syl = here.syl; value = syllable_in (word_at m here.at) here.syl } ∷ []
line_entries m (Some here) (says.Constant constant) = record { at = here.at; syl = None; value = word_at m here.at } ∷ []
line_entries m (Some here) body = []

-- an instruction in its syllable
pub record IsCode (m : Memory) (here : Place) : Type 0 where
  pub syl : ℕ
  pub stands : here.syl ≡ Some syl
  pub half : syl < 2
  pub near : IsIn here.at
  pub small : word_at m here.at < 2 ^ 26

-- a constant
pub record IsData (m : Memory) (here : Place) : Type 0 where
  pub whole : here.syl ≡ None
  pub near : IsIn here.at
  pub small : word_at m here.at < 2 ^ 26

-- its field can be read
abbrev pub IsReadable : Memory → Option Place → Body → Type 0
IsReadable m None body = Unit {0}
IsReadable m (Some here) (says.Instruction op operand) = IsCode m here
IsReadable m (Some here) (says.Constant constant) = IsData m here
IsReadable m (Some here) (says.Room count) = here.syl ≡ None
IsReadable m (Some here) body = ⊥

-- what is known of its field
record IsRead (field : List ℕ) (entries : List Shown) : Type 0 where
  few : length field ≤ 20
  shows : field_shown (field ++ blanks 20 field) ≡ entries

half-small : (w syl : ℕ) → w < 2 ^ 26 → syllable_in w (Some syl) < 2 ^ 13
half-small w syl small = by (syl == 1)
  where
    by : (b : Bool) → cond b (upper w) (lower w) < 2 ^ 13
    by true = omega (arith, small)
    by false = omega arith

code-few : (at : Spot) (syl v : ℕ) → length (place_text (record { at = at; syl = Some syl }) ++ (codes " " ++ octal_text 5 v)) ≤ 20
unfolding octal_text
code-few at syl v = omega arith

word-few : (at : Spot) (v : ℕ) → length (place_text (record { at = at; syl = None }) ++ (codes " " ++ octal_text 9 v)) ≤ 20
unfolding octal_text
word-few at v = omega arith

room-few : (at : Spot) → length (place_text (record { at = at; syl = None }) ++ []) ≤ 20
unfolding octal_text
room-few at = omega arith

item-read : (m : Memory) (spot : Option Place) (body : Body) → IsReadable m spot body → IsRead (field_text m spot body) (line_entries m spot body)
item-read m None body is = record { few = omega arith; shows = none-shown }
item-read m (Some here) (says.Instruction op operand) is =
    subst (λ (o : Option ℕ). IsRead (place_text (record here { syl = o }) ++ held_text (word_at m here.at) o (says.Instruction op operand))
    (record { at = here.at; syl = o; value = syllable_in (word_at m here.at) o } ∷ [])) (sym is.stands) (record {
      few = code-few here.at is.syl (syllable_in (word_at m here.at) (Some is.syl));
      shows = code-shown here.at is.syl (syllable_in (word_at m here.at) (Some is.syl)) is.near is.half (half-small (word_at m here.at) is.syl is.small);
    })
item-read m (Some here) (says.Constant constant) is =
    subst (λ (o : Option ℕ). IsRead (place_text (record here { syl = o }) ++ held_text (word_at m here.at) o (says.Constant constant))
    (record { at = here.at; syl = None; value = word_at m here.at } ∷ [])) (sym is.whole) (record {
      few = word-few here.at (word_at m here.at);
      shows = word-shown here.at (word_at m here.at) is.near is.small;
    })
item-read m (Some here) (says.Room count) is =
    subst (λ (o : Option ℕ). IsRead (place_text (record here { syl = o }) ++ []) []) (sym is) (record { few = room-few here.at; shows = room-shown here.at })
item-read m (Some here) says.Code is = absurd is
item-read m (Some here) (says.Org at syl) is = absurd is
item-read m (Some here) (says.Words pair sector loc) is = absurd is
item-read m (Some here) (says.Sector pair sector) is = absurd is

-- ---- the rows of the lines

-- the lines have numbers of seven digits
abbrev pub AreShort : List NumberedLine → Type 0
AreShort lines = All (λ (line : NumberedLine). line.number < 10 ^ 7) lines

-- each field can be read
abbrev pub AllReadable : Memory → List Item → List (Option Place) → Type 0
AllReadable m [] spots = Unit {0}
AllReadable m (item ∷ items) [] = ⊥
AllReadable m (item ∷ items) (spot ∷ spots) = IsReadable m spot item.body × AllReadable m items spots

-- what the rows of all items show
abbrev pub all_entries : Memory → List Item → List (Option Place) → List Shown
all_entries m [] spots = []
all_entries m (item ∷ items) [] = []
all_entries m (item ∷ items) (spot ∷ spots) = line_entries m spot item.body ++ all_entries m items spots

-- a row with an empty field
empty-row : (line : NumberedLine) → line.number < 10 ^ 7 → row_shown (row line []) ≡ []
empty-row line small = line-row line [] small (omega arith) ∙ none-shown

-- the rows after the last item
rest-shown : (lines : List NumberedLine) → AreShort lines → flat_map row_shown (line_rows [] lines) ≡ []
rest-shown [] short = refl
rest-shown (line ∷ lines) short = by (is_comment line.text) (rest-shown lines (All-tail (λ (l : NumberedLine). l.number < 10 ^ 7) line lines short))
  where
    small : line.number < 10 ^ 7
    small = All-head (λ (l : NumberedLine). l.number < 10 ^ 7) line lines short

    by : (b : Bool) → flat_map row_shown (line_rows [] lines) ≡ [] → flat_map row_shown (cond b (row line [] ∷ line_rows [] lines) (row line [] ∷ [])) ≡ []
    by true later = ap (λ (first : List Shown). first ++ flat_map row_shown (line_rows [] lines)) (empty-row line small) ∙ later
    by false later = ap (λ (first : List Shown). first ++ []) (empty-row line small)

pub lines-shown : (m : Memory) (items : List Item) (spots : List (Option Place)) (lines : List NumberedLine) → AreShort lines → Follow items lines → AllReadable m items spots
    → flat_map row_shown (line_rows (map (item_field m) (zip items spots)) lines) ≡ all_entries m items spots
lines-shown m [] spots lines short follow readable = rest-shown lines short
lines-shown m (item ∷ items) [] lines short follow readable = absurd readable
lines-shown m (item ∷ items) (spot ∷ spots) [] short follow readable = absurd follow
lines-shown m (item ∷ items) (spot ∷ spots) (line ∷ lines) short follow readable =
    by (item.line == line.number) refl follow (λ f. lines-shown m items spots lines later f readable.1) (λ f. lines-shown m (item ∷ items) (spot ∷ spots) lines later f readable)
  where
    small : line.number < 10 ^ 7
    small = All-head (λ (l : NumberedLine). l.number < 10 ^ 7) line lines short

    later : AreShort lines
    later = All-tail (λ (l : NumberedLine). l.number < 10 ^ 7) line lines short

    fields : List Field
    fields = map (item_field m) (zip items spots)

    tail : Follow (item ∷ items) (line ∷ lines) → Follow items lines
    tail (inl h) = h.1
    tail (inr h) = follow-tail item items lines h

    skip : (item.line == line.number) ≡ false → Follow (item ∷ items) (line ∷ lines) → Follow (item ∷ items) lines
    skip other (inl h) = absurd (true≢false (sym (eq-eqb item.line line.number h.0) ∙ other))
    skip other (inr h) = h

    by : (b : Bool) → (item.line == line.number) ≡ b → Follow (item ∷ items) (line ∷ lines)
        → (Follow items lines → flat_map row_shown (line_rows (map (item_field m) (zip items spots)) lines) ≡ all_entries m items spots)
        → (Follow (item ∷ items) lines → flat_map row_shown (line_rows (item_field m (item, spot) ∷ map (item_field m) (zip items spots)) lines) ≡ all_entries m (item ∷ items) (spot ∷ spots))
        → flat_map row_shown (cond b (row line (field_text m spot item.body) ∷ line_rows (map (item_field m) (zip items spots)) lines)
        (row line [] ∷ line_rows (item_field m (item, spot) ∷ map (item_field m) (zip items spots)) lines))
        ≡ line_entries m spot item.body ++ all_entries m items spots
    by true is f next again =
        let read : IsRead (field_text m spot item.body) (line_entries m spot item.body) = item-read m spot item.body readable.0 in
        ap (λ (first : List Shown). first ++ flat_map row_shown (line_rows (map (item_field m) (zip items spots)) lines)) (line-row line (field_text m spot item.body) small read.few ∙ read.shows)
        ∙ ap (λ (rest : List Shown). line_entries m spot item.body ++ rest) (next (tail f))
    by false is f next again =
        ap (λ (first : List Shown). first ++ flat_map row_shown (line_rows (item_field m (item, spot) ∷ map (item_field m) (zip items spots)) lines)) (empty-row line small)
        ∙ again (skip is f)

-- ---- the other rows

pub flat-append : (xs ys : List (List ℕ)) → flat_map row_shown (xs ++ ys) ≡ flat_map row_shown xs ++ flat_map row_shown ys
flat-append [] ys = refl
flat-append (x ∷ xs) ys = ap (λ (rest : List Shown). row_shown x ++ rest) (flat-append xs ys) ∙ sym (append_assoc (row_shown x) (flat_map row_shown xs) (flat_map row_shown ys))

-- the entry of a pooled word
abbrev pub pool_entry : Memory → Spot → Shown
pool_entry m at = record { at = at; syl = None; value = word_at m at }

-- each stands in the memory
abbrev pub AllIn : Memory → List Spot → Type 0
AllIn m [] = Unit {0}
AllIn m (at ∷ ats) = (IsIn at × (word_at m at < 2 ^ 26)) × AllIn m ats

pub pool-rows : (m : Memory) (ats : List Spot) → AllIn m ats → flat_map row_shown (map (pool_row m) ats) ≡ map (pool_entry m) ats
pool-rows m [] near = refl
pool-rows m (at ∷ ats) near =
    ap (λ (first : List Shown). first ++ flat_map row_shown (map (pool_row m) ats)) (pool-shown m at near.0.0 near.0.1)
    ∙ ap (λ (rest : List Shown). pool_entry m at ∷ rest) (pool-rows m ats near.1)
