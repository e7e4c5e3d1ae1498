-- Lines tell an image exactly where they are its lines.
use Rattle.std.proofs.Common.{◌≡◌, ◌≢◌, ℕ, ◌+◌, ◌<◌, ◌≤◌, Bool, true, false, ltb, ◌==◌, List, [], ◌∷◌, ◌++◌, map, codes, Option, None, Some, Result, Ok, Err, All, IfSome, IfErr, refl, sym, ap, ◌∙◌, subst, arith, if◌then◌else◌}
use Rattle.std.specs.Str.{bytes_eq}
use Rattle.std.proofs.lemmas.Bool.{ltb-true, eqb-true}
use Rattle.std.proofs.lemmas.List.Elements.{All-head, All-tail}
use Rattle.std.proofs.lemmas.Slice.Eq.{bytes_eq-Decides}
use Rattle.lvdc_map.specs.Address.{number_of}
use Rattle.lvdc_map.specs.Banks.{is_there}
use Rattle.lvdc_map.specs.Hop.{HopConstant, IsHopConstant}
use Rattle.lvdc_map.specs.Memory.{are_rising, AllThere}
use Rattle.lvdc_map.specs.declared.placed.Placed.{Placed}
use Rattle.lvdc_image.specs.declared.fault.ImageFault.{ImageFault}
use Rattle.lvdc_image.specs.declared.fault.ImageFault.TheVariants.{BadImageLine, AddressOrder, BadWord, NoMemory as WantsMemory}
use Rattle.lvdc_image.specs.Image.{Contents, IsPlaced, IsImage, IsImageInRange, word_line, start_line, simplex_line, simplex_lines, image_lines}
use Rattle.lvdc_text.specs.Lines.{NumberedLine}
use Rattle.lvdc_image.specs.Reading.{texts, words_from, image_with, banks_in, by_banks, after_start, start_number, start_of, by_start, from_start, image_of}
use Rattle.lvdc_image.proofs.Parts.{both, heads}
use Rattle.lvdc_image.proofs.Rising.{RiseFrom}
use Rattle.lvdc_image.proofs.WordsBack.{body_lines, words_from-texts, words_from-again}
use Rattle.lvdc_image.proofs.StartBack.{start_number-start_line, start_of-again, start_of-line}
use Rattle.lvdc_image.proofs.BanksBack.{banks_in-simplex_line, banks_in-some, banks_in-word_line, banks_in-end}

-- lines that tell an image

-- the words that an image was made of
record IsMadeOf (start : Option HopConstant) (banks : ℕ) (read : Result (List Placed) ImageFault) (image : Contents) (words : List Placed) : Type 0 where
  told : read ≡ Ok words
  same : image ≡ record { words = words; start = start; banks = banks }

image_with-ok : (start : Option HopConstant) (banks : ℕ) (read : Result (List Placed) ImageFault) (image : Contents) → image_with start banks read ≡ Ok image
    → (words : List Placed) × IsMadeOf start banks read image words
image_with-ok start banks (Ok words) image e = (words, record { told = refl; same = cc })
image_with-ok start banks (Err fault) image e = absurd (cc)

version_1 : (next : ℕ) (lines : List NumberedLine) (image : Contents) → image_with None 0 (words_from 0 0 next lines) ≡ Ok image → codes "LVDC 1" ∷ texts lines ≡ image_lines image
version_1 next lines image e =
    let found = image_with-ok None 0 (words_from 0 0 next lines) image e in
    ap (λ (rest : List (List ℕ)). codes "LVDC 1" ∷ rest) (words_from-texts 0 0 next lines found.0 found.1.told) ∙ ap image_lines (sym found.1.same)

after_start-duplex : (start : HopConstant) (next : ℕ) (lines : List NumberedLine) (image : Contents) → image_with (Some start) 0 (words_from 0 0 next lines) ≡ Ok image
    → codes "LVDC 2" ∷ start_line start ∷ texts lines ≡ image_lines image
after_start-duplex start next lines image e =
    let found = image_with-ok (Some start) 0 (words_from 0 0 next lines) image e in
    ap (λ (rest : List (List ℕ)). codes "LVDC 2" ∷ start_line start ∷ rest) (words_from-texts 0 0 next lines found.0 found.1.told) ∙ ap image_lines (sym found.1.same)

after_start-simplex : (start : HopConstant) (next banks : ℕ) (text : List ℕ) (lines : List NumberedLine) (image : Contents) → banks_in text ≡ Some banks
    → image_with (Some start) banks (words_from banks 0 next lines) ≡ Ok image → codes "LVDC 2" ∷ start_line start ∷ text ∷ texts lines ≡ image_lines image
after_start-simplex start next banks text lines image b e =
    let line = banks_in-some text banks b in
    let found = image_with-ok (Some start) banks (words_from banks 0 next lines) image e in
    ap (λ (t : List ℕ). codes "LVDC 2" ∷ start_line start ∷ t ∷ texts lines) line.1
    ∙ ap (λ (rest : List (List ℕ)). codes "LVDC 2" ∷ start_line start ∷ simplex_line banks ∷ rest) (words_from-texts banks 0 next lines found.0 found.1.told)
    ∙ ap (λ (none : Bool). codes "LVDC 2" ∷ start_line start ∷ ((if none then [] else simplex_line banks ∷ []) ++ map word_line found.0 ++ codes "END" ∷ [])) (sym line.0)
    ∙ ap image_lines (sym found.1.same)

by_banks-texts : (start : HopConstant) (next : ℕ) (line : NumberedLine) (lines : List NumberedLine) (told : Option ℕ) (image : Contents) → banks_in line.text ≡ told
    → by_banks start next line lines told ≡ Ok image → codes "LVDC 2" ∷ start_line start ∷ texts (line ∷ lines) ≡ image_lines image
by_banks-texts start next line lines None image b e = after_start-duplex start next (line ∷ lines) image e
by_banks-texts start next line lines (Some banks) image b e = after_start-simplex start (line.number + 1) banks line.text lines image b e

after_start-texts : (start : HopConstant) (next : ℕ) (lines : List NumberedLine) (image : Contents) → after_start start next lines ≡ Ok image
    → codes "LVDC 2" ∷ start_line start ∷ texts lines ≡ image_lines image
after_start-texts start next [] image e = absurd (cc)
after_start-texts start next (line ∷ lines) image e = by_banks-texts start next line lines (banks_in line.text) image refl e

by_start-texts : (number : ℕ) (text : List ℕ) (lines : List NumberedLine) (read : Result HopConstant ImageFault) (image : Contents) → start_of number (start_number text) ≡ read
    → by_start read number lines ≡ Ok image → codes "LVDC 2" ∷ text ∷ texts lines ≡ image_lines image
by_start-texts number text lines (Ok start) image r e =
    ap (λ (t : List ℕ). codes "LVDC 2" ∷ t ∷ texts lines) (start_of-line number text start r) ∙ after_start-texts start (number + 1) lines image e
by_start-texts number text lines (Err fault) image r e = absurd (cc)

from_start-texts : (next : ℕ) (lines : List NumberedLine) (image : Contents) → from_start next lines ≡ Ok image → codes "LVDC 2" ∷ texts lines ≡ image_lines image
from_start-texts next [] image e = absurd (cc)
from_start-texts next (line ∷ lines) image e = by_start-texts line.number line.text lines (start_of line.number (start_number line.text)) image refl e

by_version : (line : NumberedLine) (lines : List NumberedLine) (image : Contents) (one two : Bool) → bytes_eq line.text (codes "LVDC 1") ≡ one → bytes_eq line.text (codes "LVDC 2") ≡ two
    → (if one then image_with None 0 (words_from 0 0 (line.number + 1) lines) else (if two then from_start (line.number + 1) lines else Err (BadImageLine line.number))) ≡ Ok image
    → texts (line ∷ lines) ≡ image_lines image
by_version line lines image true two o t e =
    ap (λ (text : List ℕ). text ∷ texts lines) ((bytes_eq-Decides line.text (codes "LVDC 1")).0 o) ∙ version_1 (line.number + 1) lines image e
by_version line lines image false true o t e =
    ap (λ (text : List ℕ). text ∷ texts lines) ((bytes_eq-Decides line.text (codes "LVDC 2")).0 t) ∙ from_start-texts (line.number + 1) lines image e
by_version line lines image false false o t e = absurd (cc)

-- lines that tell an image are its lines
pub image_of-texts : (lines : List NumberedLine) (image : Contents) → image_of lines ≡ Ok image → texts lines ≡ image_lines image
unfolding image_of
image_of-texts [] image e = absurd (cc)
image_of-texts (line ∷ lines) image e = by_version line lines image (bytes_eq line.text (codes "LVDC 1")) (bytes_eq line.text (codes "LVDC 2")) refl refl e

-- the lines of an image

abbrev IsFirstFrom : ℕ → List Placed → Type 0
IsFirstFrom least [] = Unit {0}
IsFirstFrom least (placed ∷ words) = least ≤ number_of placed.at

rise_from : (banks least : ℕ) (words : List Placed) → IsFirstFrom least words → are_rising words ≡ true → AllThere banks words → All IsPlaced words → RiseFrom banks least words
rise_from banks least [] first rising there placed = tt
rise_from banks least (p ∷ []) first rising there placed =
    let one = All-head IsPlaced p [] placed in
    (first, record { at = one.at; there = All-head (λ (p : Placed). is_there banks p.at ≡ true) p [] there; word = one.word }, tt)
rise_from banks least (p ∷ q ∷ words) first rising there placed =
    let one = All-head IsPlaced p (q ∷ words) placed in
    let tests = both (ltb (number_of p.at) (number_of q.at)) (are_rising (q ∷ words)) rising in
    let above : number_of p.at < number_of q.at = ltb-true (number_of p.at) (number_of q.at) tests.0 in (
      first,
      record { at = one.at; there = All-head (λ (p : Placed). is_there banks p.at ≡ true) p (q ∷ words) there; word = one.word },
      rise_from banks (number_of p.at + 1) (q ∷ words) (omega arith) tests.1 (All-tail (λ (p : Placed). is_there banks p.at ≡ true) p (q ∷ words) there) (All-tail IsPlaced p (q ∷ words) placed),
    )

first_from : (words : List Placed) → IsFirstFrom 0 words
first_from [] = tt
first_from (placed ∷ words) = omega arith

-- the first line of words is no SIMPLEX line
no_banks : (text : List ℕ) (rest : List (List ℕ)) (words : List Placed) → text ∷ rest ≡ body_lines words → banks_in text ≡ None
no_banks text rest [] e = ap banks_in (heads text (codes "END") rest [] e).0 ∙ banks_in-end
no_banks text rest (placed ∷ words) e = ap banks_in (heads text (word_line placed) rest (body_lines words) e).0 ∙ banks_in-word_line placed

not_empty : (words : List Placed) → [] ≡ body_lines words → ⊥
not_empty [] e = cc
not_empty (placed ∷ words) e = cc

again-duplex : (start : HopConstant) (next : ℕ) (lines : List NumberedLine) (words : List Placed) → RiseFrom 0 0 words → texts lines ≡ body_lines words
    → after_start start next lines ≡ Ok (record { words = words; start = Some start; banks = 0 })
again-duplex start next [] words rise e = absurd (not_empty words e)
again-duplex start next (line ∷ lines) words rise e =
    ap (by_banks start next line lines) (no_banks line.text (texts lines) words e) ∙ ap (image_with (Some start) 0) (words_from-again 0 0 next (line ∷ lines) words rise e)

again-simplex : (start : HopConstant) (next banks : ℕ) (lines : List NumberedLine) (words : List Placed) → banks < 16 → (banks == 0) ≡ false → RiseFrom banks 0 words
    → texts lines ≡ simplex_line banks ∷ body_lines words → after_start start next lines ≡ Ok (record { words = words; start = Some start; banks = banks })
again-simplex start next banks [] words l some rise e = absurd (cc)
again-simplex start next banks (line ∷ lines) words l some rise e =
    let parts = heads line.text (simplex_line banks) (texts lines) (body_lines words) e in
    ap (by_banks start next line lines) (ap banks_in parts.0 ∙ banks_in-simplex_line banks l some)
    ∙ ap (image_with (Some start) banks) (words_from-again banks 0 (line.number + 1) lines words rise parts.1)

after_start-again : (start : HopConstant) (next banks : ℕ) (lines : List NumberedLine) (words : List Placed) (duplex : Bool) → banks < 16 → (banks == 0) ≡ duplex → RiseFrom banks 0 words
    → texts lines ≡ (if duplex then [] else simplex_line banks ∷ []) ++ map word_line words ++ codes "END" ∷ []
    → after_start start next lines ≡ Ok (record { words = words; start = Some start; banks = banks })
after_start-again start next banks lines words true l none rise e =
    let is_zero : banks ≡ 0 = eqb-true banks 0 none in
    again-duplex start next lines words (subst (λ (n : ℕ). RiseFrom n 0 words) is_zero rise) e
    ∙ ap (λ (n : ℕ). Ok (record { words = words; start = Some start; banks = n })) (sym is_zero)
after_start-again start next banks lines words false l some rise e = again-simplex start next banks lines words l some rise e

again-version_1 : (lines : List NumberedLine) (words : List Placed) → RiseFrom 0 0 words → texts lines ≡ codes "LVDC 1" ∷ body_lines words
    → image_of lines ≡ Ok (record { words = words; start = None; banks = 0 })
unfolding image_of
again-version_1 [] words rise e = absurd (cc)
again-version_1 (line ∷ lines) words rise e =
    let parts = heads line.text (codes "LVDC 1") (texts lines) (body_lines words) e in
    ap (λ (text : List ℕ). image_of (record { number = line.number; text = text } ∷ lines)) parts.0
    ∙ ap (image_with None 0) (words_from-again 0 0 (line.number + 1) lines words rise parts.1)

again-version_2 : (lines : List NumberedLine) (start : HopConstant) (banks : ℕ) (words : List Placed) → IsHopConstant start → banks < 16 → RiseFrom banks 0 words
    → texts lines ≡ codes "LVDC 2" ∷ start_line start ∷ (simplex_lines banks ++ map word_line words ++ codes "END" ∷ [])
    → image_of lines ≡ Ok (record { words = words; start = Some start; banks = banks })
unfolding image_of
again-version_2 [] start banks words ok l rise e = absurd (cc)
again-version_2 (line ∷ []) start banks words ok l rise e =
    let rest = (heads line.text (codes "LVDC 2") [] (start_line start ∷ (simplex_lines banks ++ map word_line words ++ codes "END" ∷ [])) e).1 in absurd (cc)
again-version_2 (line ∷ second ∷ lines) start banks words ok l rise e =
    let parts = heads line.text (codes "LVDC 2") (texts (second ∷ lines)) (start_line start ∷ (simplex_lines banks ++ map word_line words ++ codes "END" ∷ [])) e in
    let rest = heads second.text (start_line start) (texts lines) (simplex_lines banks ++ map word_line words ++ codes "END" ∷ []) parts.1 in
    ap (λ (text : List ℕ). image_of (record { number = line.number; text = text } ∷ second ∷ lines)) parts.0
    ∙ ap (λ (text : List ℕ). by_start (start_of second.number (start_number text)) second.number lines) rest.0
    ∙ ap (λ (told : Option ℕ). by_start (start_of second.number told) second.number lines) (start_number-start_line start ok)
    ∙ ap (λ (read : Result HopConstant ImageFault). by_start read second.number lines) (start_of-again second.number start ok)
    ∙ after_start-again start (second.number + 1) banks lines words (banks == 0) l refl rise rest.1

by_start_constant : (lines : List NumberedLine) (words : List Placed) (start : Option HopConstant) (banks : ℕ) → (start ≡ None → banks ≡ 0) → IfSome start IsHopConstant → banks < 16
    → RiseFrom banks 0 words → texts lines ≡ image_lines (record { words = words; start = start; banks = banks }) → image_of lines ≡ Ok (record { words = words; start = start; banks = banks })
by_start_constant lines words None banks duplex ok l rise e =
    again-version_1 lines words (subst (λ (n : ℕ). RiseFrom n 0 words) (duplex refl) rise) e
    ∙ ap (λ (n : ℕ). Ok (record { words = words; start = None; banks = n })) (sym (duplex refl))
by_start_constant lines words (Some start) banks duplex ok l rise e = again-version_2 lines start banks words ok l rise e

-- the lines of an image tell it
pub image_of-again : (lines : List NumberedLine) (image : Contents) → IsImage image → All IsPlaced image.words → IfSome image.start IsHopConstant → image.banks < 16
    → texts lines ≡ image_lines image → image_of lines ≡ Ok image
image_of-again lines image is placed ok l e =
    by_start_constant lines image.words image.start image.banks is.duplex ok l (rise_from image.banks 0 image.words (first_from image.words) is.rising is.there placed) e

-- the same, from the parts that were printed
pub image_of-printed : (image : Contents) (start : Option HopConstant) (banks : ℕ) (words : List Placed) → start ≡ image.start → banks ≡ image.banks → words ≡ image.words
    → are_rising words ≡ true → AllThere image.banks words → (start ≡ None → image.banks ≡ 0) → All IsPlaced words → IfSome start IsHopConstant → banks < 16
    → (lines : List NumberedLine) → texts lines ≡ image_lines image → image_of lines ≡ Ok image
image_of-printed image start banks words s b w rising there duplex placed ok small lines e =
    let is : IsImage image = record {
      rising = ap are_rising (sym w) ∙ rising;
      there = subst (λ (ps : List Placed). AllThere image.banks ps) w there;
      duplex = λ none. duplex (s ∙ none);
    } in
    image_of-again lines image is (subst (λ (ps : List Placed). All IsPlaced ps) w placed) (subst (λ (h : Option HopConstant). IfSome h IsHopConstant) s ok) (subst (λ (n : ℕ). n < 16) b small) e

-- a call that refuses lines as the definition does refuses those of an image for want of memory alone
pub refused-image : (lines : List NumberedLine) (image : Contents) (result : Result Contents ImageFault) → IsImageInRange image → texts lines ≡ image_lines image
    → IfErr result (λ fault. fault ≢ WantsMemory → image_of lines ≡ Err fault) → IfErr result (λ fault. fault ≡ WantsMemory)
refused-image lines image (Ok read) can e refusal = tt
refused-image lines image (Err WantsMemory) can e refusal = refl
refused-image lines image (Err (BadImageLine line)) can e refusal =
    let told = image_of-again lines image can.sound can.words can.start can.banks e in let not = refusal (λ same. absurd (cc)) in absurd (cc)
refused-image lines image (Err (AddressOrder line)) can e refusal =
    let told = image_of-again lines image can.sound can.words can.start can.banks e in let not = refusal (λ same. absurd (cc)) in absurd (cc)
refused-image lines image (Err (BadWord line)) can e refusal =
    let told = image_of-again lines image can.sound can.words can.start can.banks e in let not = refusal (λ same. absurd (cc)) in absurd (cc)
