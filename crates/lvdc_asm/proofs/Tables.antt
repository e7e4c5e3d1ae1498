-- The table of locations: empty, and word by word.
use Rattle.std.proofs.Common.{◌≡◌, ℕ, ◌+◌, ◌<◌, ◌≤◌, List, [], ◌∷◌, ◌++◌, length, get_or, drop, Option, None, Some, sym, ap, ◌∙◌, append_assoc}
use Rattle.std.proofs.Math.ListN.{replicate}
use Rattle.std.proofs.lemmas.List.{replicate-append-replicate, append-nil, drop_more, drop_all}
use Rattle.lvdc_map.specs.Address.{spot_at}
use Rattle.lvdc_map.specs.declared.placed.Placed.{Placed}
use Rattle.lvdc_asm.specs.declared.location.Location.{Location}
use Rattle.lvdc_asm.specs.Locations.{no_syllables, nothing, word_in, placed_at, words_from}

-- one more of the same
pub replicate-more : (n : ℕ) (x : Location) → replicate n x ++ x ∷ [] ≡ replicate (n + 1) x
replicate-more n x = replicate-append-replicate n 1 x

-- the empty table
pub nothing-is : (n : ℕ) (locations : List Location) → n ≡ 16384 → locations ≡ replicate n no_syllables → locations ≡ nothing
unfolding nothing
nothing-is n locations all is = is ∙ ap (λ (k : ℕ). replicate k no_syllables) all

-- one location more without a word, and with one
pub words_from-none : (out : List Placed) (locations : List Location) (i : ℕ) (d : Location) → i < length locations
    → word_in (get_or locations i d) ≡ None → out ++ words_from (i + 1) (drop (i + 1) locations) ≡ out ++ words_from i (drop i locations)
words_from-none out locations i d within none =
    ap (λ (rest : List Placed). out ++ rest)
    (sym (ap (λ (ls : List Location). words_from i ls) (drop_more locations i d within)
    ∙ ap (λ (w : Option ℕ). placed_at (spot_at i) w ++ words_from (i + 1) (drop (i + 1) locations)) none))

pub words_from-some : (out next : List Placed) (locations : List Location) (i : ℕ) (d : Location) (w : ℕ) → i < length locations
    → word_in (get_or locations i d) ≡ Some w → next ≡ out ++ record { at = spot_at i; word = w } ∷ []
    → next ++ words_from (i + 1) (drop (i + 1) locations) ≡ out ++ words_from i (drop i locations)
words_from-some out next locations i d w within some is =
    ap (λ (front : List Placed). front ++ words_from (i + 1) (drop (i + 1) locations)) is
    ∙ append_assoc out (record { at = spot_at i; word = w } ∷ []) (words_from (i + 1) (drop (i + 1) locations))
    ∙ ap (λ (rest : List Placed). out ++ rest)
    (sym (ap (λ (ls : List Location). words_from i ls) (drop_more locations i d within)
    ∙ ap (λ (v : Option ℕ). placed_at (spot_at i) v ++ words_from (i + 1) (drop (i + 1) locations)) some))

-- after the last location
pub words-done : (out : List Placed) (locations : List Location) (i : ℕ) (all : List Placed) → length locations ≤ i → out ++ words_from i (drop i locations) ≡ all → out ≡ all
words-done out locations i all past is =
    sym (append-nil out) ∙ ap (λ (ls : List Location). out ++ words_from i ls) (sym (drop_all i locations past)) ∙ is
