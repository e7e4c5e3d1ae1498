-- The words that lines tell, and the lines of those words.
use Rattle.std.proofs.Common.{◌≡◌, ℕ, ◌+◌, ◌^◌, ◌≤◌, Bool, true, false, ltb, List, [], ◌∷◌, ◌++◌, map, codes, Result, Ok, Err, refl, sym, ap, ◌∙◌, if◌then◌else◌}
use Rattle.std.specs.Str.{bytes_eq}
use Rattle.std.proofs.lemmas.Bool.{lt-ltb, le-ltb}
use Rattle.std.proofs.lemmas.Slice.Eq.{bytes_eq-Decides}
use Rattle.lvdc_map.specs.Address.{number_of}
use Rattle.lvdc_map.specs.declared.placed.Placed.{Placed}
use Rattle.lvdc_image.specs.declared.fault.ImageFault.{ImageFault}
use Rattle.lvdc_image.specs.declared.fault.ImageFault.TheVariants.{AddressOrder, BadWord}
use Rattle.lvdc_image.specs.Image.{word_line}
use Rattle.lvdc_text.specs.Lines.{NumberedLine}
use Rattle.lvdc_image.specs.Reading.{texts, entry_in, placed_of, least_after, with_word, words_from}
use Rattle.lvdc_image.proofs.Parts.{heads, same_lines}
use Rattle.lvdc_image.proofs.WordLines.{words_from-end, words_from-line, words_from-none}
use Rattle.lvdc_image.proofs.Rising.{StandsIn, RiseFrom, placed_of-ok, with_word-ok, after_end-ok}
use Rattle.lvdc_image.proofs.FieldsBack.{entry_in-word_line, entry_in-line, word_line-no_end}

-- the lines of words, and END
abbrev pub body_lines : List Placed → List (List ℕ)
body_lines words = map word_line words ++ codes "END" ∷ []

by_test : (banks least next : ℕ) (line : NumberedLine) (lines : List NumberedLine) (words : List Placed)
    → ((least : ℕ) (rest : List Placed) → words_from banks least (line.number + 1) lines ≡ Ok rest → texts lines ≡ body_lines rest)
    → words_from banks least next (line ∷ lines) ≡ Ok words → (ends : Bool) → bytes_eq line.text (codes "END") ≡ ends → texts (line ∷ lines) ≡ body_lines words
by_test banks least next line lines words later e true ends =
    let last = after_end-ok lines words (sym (words_from-end banks least next line lines ends) ∙ e) in
    same_lines line.text (codes "END") (texts lines) [] ((bytes_eq-Decides line.text (codes "END")).0 ends) (ap texts last.0)
    ∙ ap body_lines (sym last.1)
by_test banks least next line lines words later e false ends =
    let read : Result Placed ImageFault = placed_of least line.number (entry_in banks line.text) in
    let parts = with_word-ok read (words_from banks (least_after read) (line.number + 1) lines) words (sym (words_from-line banks least next line lines read ends refl) ∙ e) in
    let placed : Placed = parts.0 in
    let rest : List Placed = parts.1 in
    let told = placed_of-ok least line.number (entry_in banks line.text) placed parts.2 in
    same_lines line.text (word_line placed) (texts lines) (body_lines rest) (entry_in-line banks line.text placed told.entry)
    (later (number_of placed.at + 1) rest (ap (λ (r : Result Placed ImageFault). words_from banks (least_after r) (line.number + 1) lines) (sym parts.2) ∙ parts.3))
    ∙ ap body_lines (sym parts.4)

-- lines that tell words are the lines of these words
pub words_from-texts : (banks least next : ℕ) (lines : List NumberedLine) (words : List Placed) → words_from banks least next lines ≡ Ok words → texts lines ≡ body_lines words
words_from-texts banks least next [] words e = absurd (let none = words_from-none banks least next in cc)
words_from-texts banks least next (line ∷ lines) words e =
    by_test banks least next line lines words (λ (l : ℕ) (rest : List Placed) r. words_from-texts banks l (line.number + 1) lines rest r) e (bytes_eq line.text (codes "END")) refl

placed_of-again : (banks least number : ℕ) (placed : Placed) → StandsIn banks placed → least ≤ number_of placed.at → placed_of least number (entry_in banks (word_line placed)) ≡ Ok placed
placed_of-again banks least number placed ok rises =
    ap (placed_of least number) (entry_in-word_line banks placed ok)
    ∙ ap (λ (b : Bool). if b then Err (AddressOrder number) else (if ltb placed.word (2 ^ 26) then Ok placed else Err (BadWord number))) (le-ltb (number_of placed.at) least rises)
    ∙ ap (λ (b : Bool). if b then Ok placed else Err (BadWord number)) (lt-ltb placed.word (2 ^ 26) ok.word)

-- the lines of words that rise tell these words
pub words_from-again : (banks least next : ℕ) (lines : List NumberedLine) (words : List Placed) → RiseFrom banks least words → texts lines ≡ body_lines words → words_from banks least next lines ≡ Ok words
words_from-again banks least next [] [] rise e = absurd (cc)
words_from-again banks least next [] (placed ∷ words) rise e = absurd (cc)
words_from-again banks least next (line ∷ []) [] rise e =
    words_from-end banks least next line [] (ap (λ (text : List ℕ). bytes_eq text (codes "END")) (heads line.text (codes "END") [] [] e).0)
words_from-again banks least next (line ∷ more ∷ lines) [] rise e =
    let rest = (heads line.text (codes "END") (texts (more ∷ lines)) [] e).1 in absurd (cc)
words_from-again banks least next (line ∷ lines) (placed ∷ words) rise e =
    let both_parts = heads line.text (word_line placed) (texts lines) (body_lines words) e in
    let no_end : bytes_eq line.text (codes "END") ≡ false = ap (λ (text : List ℕ). bytes_eq text (codes "END")) both_parts.0 ∙ word_line-no_end placed in
    let read : placed_of least line.number (entry_in banks line.text) ≡ Ok placed =
    ap (λ (text : List ℕ). placed_of least line.number (entry_in banks text)) both_parts.0 ∙ placed_of-again banks least line.number placed rise.1 rise.0 in
    words_from-line banks least next line lines (Ok placed) no_end read
    ∙ ap (with_word (Ok placed)) (words_from-again banks (number_of placed.at + 1) (line.number + 1) lines words rise.2 both_parts.1)
