-- A word line and its fields.
use Rattle.std.proofs.Common.{◌≡◌, ℕ, ◌+◌, ◌-◌, ◌%◌, ◌<◌, ◌≤◌, Bool, true, false, eqb, ◌&&◌, List, ◌∷◌, ◌++◌, codes, length, take, drop, get_or, Option, None, Some, refl, sym, ap, ◌∙◌, arith, if◌then◌else◌, length-drop, length-take, append_assoc}
use Rattle.std.specs.Str.{bytes_eq}
use Rattle.std.specs.Prelude.{slice_range}
use Rattle.std.proofs.lemmas.Bool.{lt-ltb, eqb-true}
use Rattle.std.proofs.lemmas.List.{drop_more, take_all, take-append-drop, drop-drop}
use Rattle.lvdc_map.specs.declared.placed.Placed.{Placed}
use Rattle.lvdc_text.specs.Numbers.{number_of, octal_text}
use Rattle.lvdc_text.proofs.ReadBack.{number_of-octal_text}
use Rattle.lvdc_image.specs.Image.{word_line}
use Rattle.lvdc_image.specs.Reading.{field, is_spaced, entry_of, entry_in}
use Rattle.lvdc_image.proofs.Parts.{both}
use Rattle.lvdc_image.proofs.Digits.{octal_text-number_of}
use Rattle.lvdc_image.proofs.Rising.{StandsIn, entry_in-some}

-- a word line as it is printed

word_line-spaced : (placed : Placed) → is_spaced (word_line placed) ≡ true
unfolding octal_text
word_line-spaced placed = refl

word_line-pair : (placed : Placed) → field 0 1 (word_line placed) ≡ number_of 8 1 (octal_text 1 placed.at.pair)
unfolding octal_text
word_line-pair placed = refl

word_line-sector : (placed : Placed) → field 2 2 (word_line placed) ≡ number_of 8 2 (octal_text 2 placed.at.sector)
unfolding octal_text
word_line-sector placed = refl

word_line-loc : (placed : Placed) → field 5 3 (word_line placed) ≡ number_of 8 3 (octal_text 3 placed.at.loc)
unfolding octal_text
word_line-loc placed = refl

word_line-value : (placed : Placed) → field 9 9 (word_line placed) ≡ number_of 8 9 (octal_text 9 placed.word)
unfolding octal_text
word_line-value placed = refl

entry_of-again : (banks : ℕ) (placed : Placed) → StandsIn banks placed
    → entry_of banks (Some placed.at.pair) (Some placed.at.sector) (Some placed.at.loc) (Some placed.word) ≡ Some (record { at = placed.at; value = placed.word })
entry_of-again banks placed ok =
    rw (lt-ltb placed.at.pair 8 ok.at.pair, lt-ltb placed.at.sector 16 ok.at.sector, lt-ltb placed.at.loc 256 ok.at.loc, ok.there) refl

-- a printed word line tells its word
pub entry_in-word_line : (banks : ℕ) (placed : Placed) → StandsIn banks placed → entry_in banks (word_line placed) ≡ Some (record { at = placed.at; value = placed.word })
unfolding entry_in
entry_in-word_line banks placed ok =
    let pair : field 0 1 (word_line placed) ≡ Some placed.at.pair = word_line-pair placed ∙ number_of-octal_text 1 1 placed.at.pair (omega arith) (omega arith) (omega (arith, ok.at.pair)) in
    let sector : field 2 2 (word_line placed) ≡ Some placed.at.sector = word_line-sector placed ∙ number_of-octal_text 2 2 placed.at.sector (omega arith) (omega arith) (omega (arith, ok.at.sector)) in
    let loc : field 5 3 (word_line placed) ≡ Some placed.at.loc = word_line-loc placed ∙ number_of-octal_text 3 3 placed.at.loc (omega arith) (omega arith) (omega (arith, ok.at.loc)) in
    let value : field 9 9 (word_line placed) ≡ Some placed.word = word_line-value placed ∙ number_of-octal_text 9 9 placed.word (omega arith) (omega arith) (omega (arith, ok.word)) in
    ap (λ (spaced : Bool). if spaced then entry_of banks (field 0 1 (word_line placed)) (field 2 2 (word_line placed)) (field 5 3 (word_line placed)) (field 9 9 (word_line placed)) else None) (word_line-spaced placed)
    ∙ ap (λ (found : Option ℕ). entry_of banks found (field 2 2 (word_line placed)) (field 5 3 (word_line placed)) (field 9 9 (word_line placed))) pair
    ∙ ap (λ (found : Option ℕ). entry_of banks (Some placed.at.pair) found (field 5 3 (word_line placed)) (field 9 9 (word_line placed))) sector
    ∙ ap (λ (found : Option ℕ). entry_of banks (Some placed.at.pair) (Some placed.at.sector) found (field 9 9 (word_line placed))) loc
    ∙ ap (λ (found : Option ℕ). entry_of banks (Some placed.at.pair) (Some placed.at.sector) (Some placed.at.loc) found) value
    ∙ entry_of-again banks placed ok

-- END is no word line
digit-no : (digit : ℕ) → eqb (48 + digit % 8) 69 ≡ false
digit-no digit = grind arith

pub word_line-no_end : (placed : Placed) → bytes_eq (word_line placed) (codes "END") ≡ false
unfolding octal_text
word_line-no_end placed = rw (digit-no placed.at.pair) refl

-- a line that tells a word is that word's line

-- a field and the space after it
field_and_space : (from width : ℕ) (text : List ℕ) → from + width < length text → get_or text (from + width) 0 ≡ 32
    → drop from text ≡ slice_range text from (from + width) ++ 32 ∷ drop (from + width + 1) text
field_and_space from width text l space =
    let size : from + width - from ≡ width = omega arith in
    let rest : drop width (drop from text) ≡ 32 ∷ drop (from + width + 1) text =
    drop-drop width from text ∙ drop_more text (from + width) 0 l ∙ ap (λ (b : ℕ). b ∷ drop (from + width + 1) text) space in
    sym (take-append-drop width (drop from text))
    ∙ ap (λ (back : List ℕ). take width (drop from text) ++ back) rest
    ∙ ap (λ (n : ℕ). take n (drop from text) ++ 32 ∷ drop (from + width + 1) text) (sym size)

field_length : (from width : ℕ) (text : List ℕ) → from + width ≤ length text → length (slice_range text from (from + width)) ≡ width
field_length from width text l = omega (arith, length-take (from + width - from) (drop from text), length-drop from text)

-- four fields with spaces between
four_fields : (a b c d : List ℕ) → a ++ codes " " ++ b ++ codes " " ++ c ++ codes " " ++ d ≡ a ++ 32 ∷ (b ++ 32 ∷ (c ++ 32 ∷ d))
four_fields a b c d = simp append_assoc

-- the fields of a text that is spaced as a word line
pub record IsFourFields (text : List ℕ) : Type 0 where
  pub size : length text ≡ 18
  pub parts : text ≡ slice_range text 0 1 ++ 32 ∷ (slice_range text 2 4 ++ 32 ∷ (slice_range text 5 8 ++ 32 ∷ slice_range text 9 18))

is_spaced-fields : (text : List ℕ) → is_spaced text ≡ true → IsFourFields text
is_spaced-fields text spaced =
    let outer = both (eqb (length text) 18 && eqb (get_or text 1 0) 32 && eqb (get_or text 4 0) 32) (eqb (get_or text 8 0) 32) spaced in
    let inner = both (eqb (length text) 18 && eqb (get_or text 1 0) 32) (eqb (get_or text 4 0) 32) outer.0 in
    let first = both (eqb (length text) 18) (eqb (get_or text 1 0) 32) inner.0 in
    let size : length text ≡ 18 = eqb-true (length text) 18 first.0 in
    let pair = field_and_space 0 1 text (omega arith) (eqb-true (get_or text 1 0) 32 first.1) in
    let sector = field_and_space 2 2 text (omega arith) (eqb-true (get_or text 4 0) 32 inner.1) in
    let loc = field_and_space 5 3 text (omega arith) (eqb-true (get_or text 8 0) 32 outer.1) in
    let word : drop 9 text ≡ slice_range text 9 18 = sym (take_all 9 (drop 9 text) (omega (arith, length-drop 9 text))) in
    record {
      size = size;
      parts = pair ∙ ap (λ (rest : List ℕ). slice_range text 0 1 ++ 32 ∷ rest)
          (sector ∙ ap (λ (rest : List ℕ). slice_range text 2 4 ++ 32 ∷ rest) (loc ∙ ap (λ (rest : List ℕ). slice_range text 5 8 ++ 32 ∷ rest) word));
    }

same_fields : (a b c d p q r s : List ℕ) → a ≡ p → b ≡ q → c ≡ r → d ≡ s → a ++ 32 ∷ (b ++ 32 ∷ (c ++ 32 ∷ d)) ≡ p ++ 32 ∷ (q ++ 32 ∷ (r ++ 32 ∷ s))
same_fields a b c d p q r s e f g h = rw (e, f, g, h) refl

pub entry_in-line : (banks : ℕ) (text : List ℕ) (placed : Placed) → entry_in banks text ≡ Some (record { at = placed.at; value = placed.word }) → text ≡ word_line placed
entry_in-line banks text placed e =
    let told = entry_in-some banks text (record { at = placed.at; value = placed.word }) e in
    let fields = is_spaced-fields text told.0 in
    let size = fields.size in
    sym (four_fields (octal_text 1 placed.at.pair) (octal_text 2 placed.at.sector) (octal_text 3 placed.at.loc) (octal_text 9 placed.word)
    ∙ same_fields (octal_text 1 placed.at.pair) (octal_text 2 placed.at.sector) (octal_text 3 placed.at.loc) (octal_text 9 placed.word)
    (slice_range text 0 1) (slice_range text 2 4) (slice_range text 5 8) (slice_range text 9 18)
    (octal_text-number_of 1 placed.at.pair (slice_range text 0 1) (field_length 0 1 text (omega arith)) told.1.pair_is)
    (octal_text-number_of 2 placed.at.sector (slice_range text 2 4) (field_length 2 2 text (omega arith)) told.1.sector_is)
    (octal_text-number_of 3 placed.at.loc (slice_range text 5 8) (field_length 5 3 text (omega arith)) told.1.loc_is)
    (octal_text-number_of 9 placed.word (slice_range text 9 18) (field_length 9 9 text (omega arith)) told.1.value_is)
    ∙ sym fields.parts)
