-- The lines of an image's text are the image's lines.
use Rattle.std.proofs.Common.{◌≡◌, ℕ, ◌+◌, ◌-◌, ◌%◌, ◌/◌, ◌<◌, ◌≤◌, zero, suc, Bool, true, false, leb, eqb, ◌==◌, List, [], ◌∷◌, ◌++◌, map, codes, length, take, get_or, Option, None, Some, All, refl, ap, ◌∙◌, arith, if◌then◌else◌}
use Rattle.std.specs.List.{list_all, slice_split}
use Rattle.std.specs.Str.Lines.{strip_carriage_return, lines_of_parts}
use Rattle.std.proofs.lemmas.Bool.{leb-true}
use Rattle.std.proofs.lemmas.Bool.Decides.{nat_tests}
use Rattle.std.proofs.lemmas.List.Elements.{All-nil, All-cons}
use Rattle.std.proofs.lemmas.List.Folds.{list_all-append}
use Rattle.std.proofs.lemmas.List.Splits.{slice_split_at, length-slice_split}
use Rattle.lvdc_map.specs.Banks.{is_simplex}
use Rattle.lvdc_map.specs.Hop.{HopConstant, word_of_hop}
use Rattle.lvdc_map.specs.declared.placed.Placed.{Placed}
use Rattle.lvdc_text.specs.Lines.{is_line_feed, part_of, lines_of, texts_of, numbered}
use Rattle.lvdc_text.specs.Numbers.{octal_text}
use Rattle.lvdc_text.specs.declared.cutting.Line.{Line}
use Rattle.lvdc_text.proofs.Digits.{octal_text-zero, octal_text-suc}
use Rattle.lvdc_text.proofs.Texts.{texts-lines_of}
use Rattle.lvdc_image.specs.Image.{Contents, word_line, start_line, pair_name, simplex_line, head_lines, image_lines, text_of, image_text}
use Rattle.lvdc_image.specs.Reading.{texts}
use Rattle.lvdc_image.proofs.Parts.{both, same_lines}

-- no control byte, such as LF or CR
abbrev is_plain : ℕ → Bool
is_plain b = leb 32 b

abbrev ArePlain : List (List ℕ) → Type 0
ArePlain [] = Unit {0}
ArePlain (line ∷ lines) = (list_all is_plain line ≡ true) × ArePlain lines

plain-no_feed : (b : ℕ) → is_plain b ≡ true → is_line_feed b ≡ false
plain-no_feed b e = let low : 32 ≤ b = leb-true 32 b e in grind (arith, nat_tests)

plain-no_return : (b : ℕ) → is_plain b ≡ true → eqb b 13 ≡ false
plain-no_return b e = let low : 32 ≤ b = leb-true 32 b e in grind (arith, nat_tests)

no_feed : (line : List ℕ) → list_all is_plain line ≡ true → All (λ (b : ℕ). is_line_feed b ≡ false) line
no_feed [] e = All-nil (λ (b : ℕ). is_line_feed b ≡ false)
no_feed (b ∷ bs) e =
    let tests = both (is_plain b) (list_all is_plain bs) e in
    All-cons (λ (b : ℕ). is_line_feed b ≡ false) b bs (plain-no_feed b tests.0) (no_feed bs tests.1)

no_return : (line : List ℕ) (i : ℕ) → list_all is_plain line ≡ true → eqb (get_or line i 0) 13 ≡ false
no_return [] i e = refl
no_return (b ∷ bs) zero e = plain-no_return b (both (is_plain b) (list_all is_plain bs) e).0
no_return (b ∷ bs) (suc i) e = no_return bs i (both (is_plain b) (list_all is_plain bs) e).1

kept : (line : List ℕ) → list_all is_plain line ≡ true → strip_carriage_return line ≡ line
kept line e = ap (λ (cr : Bool). if cr then take (length line - 1) line else line) (no_return line (length line - 1) e)

lines_of_parts-cons : (part : List ℕ) (parts : List (List ℕ)) → 0 < length parts → lines_of_parts (part ∷ parts) ≡ strip_carriage_return part ∷ lines_of_parts parts
lines_of_parts-cons part [] l = absurd (omega arith)
lines_of_parts-cons part (next ∷ parts) l = refl

-- plain lines, each with LF after it, fall into these lines
texts_of-text_of : (lines : List (List ℕ)) → ArePlain lines → texts_of (text_of lines) ≡ lines
texts_of-text_of [] plain = refl
texts_of-text_of (line ∷ lines) plain =
    ap lines_of_parts (slice_split_at is_line_feed line 10 (text_of lines) (no_feed line plain.0) refl)
    ∙ lines_of_parts-cons line (slice_split is_line_feed (text_of lines)) (omega (arith, length-slice_split is_line_feed (text_of lines)))
    ∙ same_lines (strip_carriage_return line) line (texts_of (text_of lines)) lines (kept line plain.0) (texts_of-text_of lines plain.1)

plain-append : (front back : List ℕ) → list_all is_plain front ≡ true → list_all is_plain back ≡ true → list_all is_plain (front ++ back) ≡ true
plain-append front back f b = list_all-append is_plain front back ∙ rw (f, b) refl

plain_digit : (n : ℕ) → is_plain (48 + n % 8) ≡ true
plain_digit n = grind (arith, nat_tests)

plain-octal_text : (width n : ℕ) → list_all is_plain (octal_text width n) ≡ true
plain-octal_text zero n = ap (list_all is_plain) (octal_text-zero n)
plain-octal_text (suc width) n =
    ap (list_all is_plain) (octal_text-suc width n) ∙ plain-append (octal_text width (n / 8)) ((48 + n % 8) ∷ []) (plain-octal_text width (n / 8)) (rw (plain_digit n) refl)

field_then : (front : List ℕ) (width n : ℕ) → list_all is_plain front ≡ true → list_all is_plain (front ++ codes " " ++ octal_text width n) ≡ true
field_then front width n f = plain-append (front ++ codes " ") (octal_text width n) (plain-append front (codes " ") f refl) (plain-octal_text width n)

plain-word_line : (placed : Placed) → list_all is_plain (word_line placed) ≡ true
plain-word_line placed =
    field_then (octal_text 1 placed.at.pair ++ codes " " ++ octal_text 2 placed.at.sector ++ codes " " ++ octal_text 3 placed.at.loc) 9 placed.word
    (field_then (octal_text 1 placed.at.pair ++ codes " " ++ octal_text 2 placed.at.sector) 3 placed.at.loc
    (field_then (octal_text 1 placed.at.pair) 2 placed.at.sector (plain-octal_text 1 placed.at.pair)))

plain-start_line : (start : HopConstant) → list_all is_plain (start_line start) ≡ true
plain-start_line start = plain-append (codes "START ") (octal_text 9 (word_of_hop start)) refl (plain-octal_text 9 (word_of_hop start))

plain_name : (pair : ℕ) (named : Bool) → list_all is_plain (if named then 32 ∷ (48 + pair) ∷ [] else []) ≡ true
plain_name pair true = let low : leb 32 (48 + pair) ≡ true = grind (arith, nat_tests) in rw low refl
plain_name pair false = refl

plain-simplex_line : (banks : ℕ) → list_all is_plain (simplex_line banks) ≡ true
plain-simplex_line banks =
    plain-append (codes "SIMPLEX" ++ pair_name banks 0 ++ pair_name banks 1 ++ pair_name banks 2) (pair_name banks 3)
    (plain-append (codes "SIMPLEX" ++ pair_name banks 0 ++ pair_name banks 1) (pair_name banks 2)
    (plain-append (codes "SIMPLEX" ++ pair_name banks 0) (pair_name banks 1)
    (plain-append (codes "SIMPLEX") (pair_name banks 0) refl (plain_name 0 (is_simplex banks 0)))
    (plain_name 1 (is_simplex banks 1))) (plain_name 2 (is_simplex banks 2))) (plain_name 3 (is_simplex banks 3))

ArePlain-append : (front back : List (List ℕ)) → ArePlain front → ArePlain back → ArePlain (front ++ back)
ArePlain-append [] back f b = b
ArePlain-append (line ∷ front) back f b = (f.0, ArePlain-append front back f.1 b)

ArePlain-word_lines : (words : List Placed) → ArePlain (map word_line words)
ArePlain-word_lines [] = tt
ArePlain-word_lines (placed ∷ words) = (plain-word_line placed, ArePlain-word_lines words)

ArePlain-simplex_lines : (banks : ℕ) (none : Bool) → ArePlain (if none then [] else simplex_line banks ∷ [])
ArePlain-simplex_lines banks true = tt
ArePlain-simplex_lines banks false = (plain-simplex_line banks, tt)

ArePlain-head_lines : (start : Option HopConstant) (banks : ℕ) → ArePlain (head_lines start banks)
ArePlain-head_lines None banks = (refl, tt)
ArePlain-head_lines (Some start) banks = (refl, (plain-start_line start, ArePlain-simplex_lines banks (banks == 0)))

ArePlain-image_lines : (image : Contents) → ArePlain (image_lines image)
ArePlain-image_lines image =
    ArePlain-append (head_lines image.start image.banks ++ map word_line image.words) (codes "END" ∷ [])
    (ArePlain-append (head_lines image.start image.banks) (map word_line image.words) (ArePlain-head_lines image.start image.banks) (ArePlain-word_lines image.words)) (refl, tt)

-- the text of an image falls into its lines
texts_of-image_text : (image : Contents) → texts_of (image_text image) ≡ image_lines image
unfolding image_text
texts_of-image_text image = texts_of-text_of (image_lines image) (ArePlain-image_lines image)

pub texts-numbered : (bytes : List ℕ) (lines : List Line) → texts (numbered bytes lines) ≡ map (part_of bytes) lines
texts-numbered bytes [] = refl
texts-numbered bytes (line ∷ lines) = same_lines (part_of bytes line) (part_of bytes line) (texts (numbered bytes lines)) (map (part_of bytes) lines) refl (texts-numbered bytes lines)

pub texts-image_text : (bytes : List ℕ) (image : Contents) → bytes ≡ image_text image → texts (numbered bytes (lines_of bytes)) ≡ image_lines image
texts-image_text bytes image e = texts-numbered bytes (lines_of bytes) ∙ texts-lines_of bytes ∙ ap texts_of e ∙ texts_of-image_text image
