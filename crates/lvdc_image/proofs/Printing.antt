-- The text of an image, part by part.
use Rattle.std.proofs.Common.{◌≡◌, ℕ, ◌+◌, ◌<◌, Option, List, [], ◌∷◌, ◌++◌, length, get_or, drop, map, codes, sym, ap, ◌∙◌, append_assoc}
use Rattle.std.proofs.lemmas.List.{drop_more}
use Rattle.lvdc_map.specs.Hop.{HopConstant}
use Rattle.lvdc_map.specs.declared.placed.Placed.{Placed}
use Rattle.lvdc_text.proofs.Joining.{text_of-append}
use Rattle.lvdc_image.specs.Image.{Contents, word_line, head_lines, text_of, image_text}

text_of-parts : (head words : List (List ℕ)) → (text_of head ++ text_of words) ++ codes "END\n" ≡ text_of (head ++ words ++ codes "END" ∷ [])
text_of-parts head words = sym (text_of-append (head ++ words) (codes "END" ∷ []) ∙ ap (λ (front : List ℕ). front ++ codes "END\n") (text_of-append head words))

-- the lines before the words, the words and END make the text
pub image_text-parts : (image : Contents) (start : Option HopConstant) (banks : ℕ) (words : List Placed) (none head body whole : List ℕ)
    → start ≡ image.start → banks ≡ image.banks → words ≡ image.words → none ≡ []
    → head ≡ none ++ text_of (head_lines start banks) → body ≡ head ++ text_of (map word_line words) → whole ≡ body ++ codes "END\n" → whole ≡ image_text image
unfolding image_text
image_text-parts image start banks words none head body whole s b w n h t e =
    e ∙ ap (λ (front : List ℕ). front ++ codes "END\n") (t ∙ ap (λ (front : List ℕ). front ++ text_of (map word_line words)) (h ∙ ap (λ (front : List ℕ). front ++ text_of (head_lines start banks)) n))
    ∙ text_of-parts (head_lines start banks) (map word_line words)
    ∙ ap (λ (x : Option HopConstant). text_of (head_lines x banks ++ map word_line words ++ codes "END" ∷ [])) s
    ∙ ap (λ (x : ℕ). text_of (head_lines image.start x ++ map word_line words ++ codes "END" ∷ [])) b
    ∙ ap (λ (x : List Placed). text_of (head_lines image.start image.banks ++ map word_line x ++ codes "END" ∷ [])) w

-- one more word's line
pub text_of-more : (out next : List ℕ) (words : List Placed) (i : ℕ) (placed d : Placed) → i < length words → placed ≡ get_or words i d → next ≡ out ++ text_of (word_line placed ∷ [])
    → next ++ text_of (map word_line (drop (i + 1) words)) ≡ out ++ text_of (map word_line (drop i words))
text_of-more out next words i placed d l p e =
    ap (λ (front : List ℕ). front ++ text_of (map word_line (drop (i + 1) words))) (e ∙ ap (λ (x : Placed). out ++ text_of (word_line x ∷ [])) p)
    ∙ append_assoc out (text_of (word_line (get_or words i d) ∷ [])) (text_of (map word_line (drop (i + 1) words)))
    ∙ ap (λ (back : List ℕ). out ++ back)
    (sym (text_of-append (word_line (get_or words i d) ∷ []) (map word_line (drop (i + 1) words)))
    ∙ ap (λ (rest : List Placed). text_of (map word_line rest)) (sym (drop_more words i d l)))
