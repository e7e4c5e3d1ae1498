-- How long the text of an image is.
use Rattle.std.proofs.Common.{◌≡◌, ℕ, ◌+◌, ◌*◌, ◌≤◌, ◌<◌, true, List, [], ◌∷◌, map, length, refl, arith, length-append, Option, None, Some}
use Rattle.std.specs.Prelude.{All, nat_lt}
use Rattle.std.proofs.lemmas.Bool.{ltb-true}
use Rattle.std.proofs.lemmas.List.Elements.{All-head, All-tail}
use Rattle.lvdc_text.proofs.ReadBack.{length-octal_text}
use Rattle.lvdc_map.specs.Address.{number_of}
use Rattle.lvdc_map.specs.Hop.{HopConstant}
use Rattle.lvdc_map.specs.Memory.{are_rising}
use Rattle.lvdc_map.specs.declared.placed.Placed.{Placed}
use Rattle.lvdc_image.specs.Image.{IsPlaced, word_line, simplex_lines, head_lines, text_of}
use Rattle.lvdc_image.proofs.Parts.{both}

pub length-words : (words : List Placed) → length (text_of (map word_line words)) ≡ 19 * length words
length-words [] = refl
length-words (p ∷ ps) = simp (length-append, length-octal_text, length-words ps) (omega arith)

-- rising addresses are no more than there are
pub few-rising : (p : Placed) (ps : List Placed) → are_rising (p ∷ ps) ≡ true → All IsPlaced (p ∷ ps) → number_of p.at + length (p ∷ ps) ≤ 32768
few-rising p [] rising placed = let at = (All-head IsPlaced p [] placed).at in omega (arith, at.pair, at.sector, at.loc)
few-rising p (q ∷ ps) rising placed =
    let parts = both (nat_lt (number_of p.at) (number_of q.at)) (are_rising (q ∷ ps)) rising in
    let less : number_of p.at < number_of q.at = ltb-true _ _ parts.0 in
    let rest = few-rising q ps parts.1 (All-tail IsPlaced p (q ∷ ps) placed) in
    omega (arith, less, rest)

pub few-words : (words : List Placed) → are_rising words ≡ true → All IsPlaced words → length words ≤ 32768
few-words [] rising placed = omega arith
few-words (p ∷ ps) rising placed = let all = few-rising p ps rising placed in omega (arith, all)

length-simplex_lines : (banks : ℕ) → length (text_of (simplex_lines banks)) ≤ 16
length-simplex_lines banks = grind arith

pub length-head : (start : Option HopConstant) (banks : ℕ) → length (text_of (head_lines start banks)) ≤ 39
length-head None banks = omega arith
length-head (Some start) banks = simp (length-append, length-octal_text) (omega (arith, length-simplex_lines banks))
