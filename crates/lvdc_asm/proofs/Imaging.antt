-- The words of a table of locations rise, in the four pairs.
use Rattle.std.proofs.Common.{◌≡◌, ◌&&◌, ◌||◌, ℕ, ◌+◌, ◌-◌, ◌/◌, ◌<◌, ◌≤◌, Bool, true, List, [], ◌∷◌, ◌++◌, length, Option, None, Some, refl, sym, ap, ◌∙◌, subst, arith}
use Rattle.std.proofs.lemmas.Bool.{lt-ltb}
use Rattle.std.proofs.lemmas.List.Elements.{All-nil, All-cons}
use Rattle.lvdc_map.specs.Address.{number_of, spot_at}
use Rattle.lvdc_map.specs.Banks.{is_there, is_simplex}
use Rattle.lvdc_map.specs.Memory.{are_rising, AllThere}
use Rattle.lvdc_map.specs.declared.placed.Placed.{Placed}
use Rattle.lvdc_asm.specs.declared.location.Location.{Location}
use Rattle.lvdc_asm.specs.Locations.{word_in, placed_at, words_from}

-- the first word, if there is one, stands here or further on
abbrev IsFrom : ℕ → List Placed → Type 0
IsFrom place [] = Unit {0}
IsFrom place (p ∷ ps) = place ≤ number_of p.at

IsFrom-earlier : (place : ℕ) (ps : List Placed) → IsFrom (place + 1) ps → IsFrom place ps
IsFrom-earlier place [] h = tt
IsFrom-earlier place (p ∷ ps) h = omega arith

rising-cons : (p : Placed) (ps : List Placed) → IsFrom (number_of p.at + 1) ps → are_rising ps ≡ true → are_rising (p ∷ ps) ≡ true
rising-cons p [] h r = refl
rising-cons p (q ∷ qs) h r = ap (λ (b : Bool). b && are_rising (q ∷ qs)) (lt-ltb (number_of p.at) (number_of q.at) (omega arith)) ∙ r

number_of-spot_at : (place : ℕ) → number_of (spot_at place) ≡ place
number_of-spot_at place = omega arith

-- with a word here or without one
rising-more : (place : ℕ) (w : Option ℕ) (ps : List Placed) → IsFrom (place + 1) ps → are_rising ps ≡ true →
    IsFrom place (placed_at (spot_at place) w ++ ps) × (are_rising (placed_at (spot_at place) w ++ ps) ≡ true)
rising-more place None ps h r = (IsFrom-earlier place ps h, r)
rising-more place (Some w) ps h r =
    let here : number_of (spot_at place) ≡ place = number_of-spot_at place in
    (omega arith, rising-cons (record { at = spot_at place; word = w }) ps (subst (λ (n : ℕ). IsFrom (n + 1) ps) (sym here) h) r)

rising-from : (place : ℕ) (locations : List Location) → IsFrom place (words_from place locations) × (are_rising (words_from place locations) ≡ true)
rising-from place [] = (tt, refl)
rising-from place (location ∷ locations) =
    let rest = rising-from (place + 1) locations in
    rising-more place (word_in location) (words_from (place + 1) locations) rest.0 rest.1

pub words_from-rising : (locations : List Location) (words : List Placed) → words ≡ words_from 0 locations → are_rising words ≡ true
words_from-rising locations words is = ap are_rising is ∙ (rising-from 0 locations).1

there-more : (place : ℕ) (w : Option ℕ) (ps : List Placed) → place < 16384 → AllThere 0 ps → AllThere 0 (placed_at (spot_at place) w ++ ps)
there-more place None ps h r = r
there-more place (Some w) ps h r =
    All-cons (λ (p : Placed). is_there 0 p.at ≡ true) (record { at = spot_at place; word = w }) ps
    (ap (λ (b : Bool). b || is_simplex 0 (place / 4096 - 4)) (lt-ltb (place / 4096) 4 (omega arith))) r

there-from : (place : ℕ) (locations : List Location) → place + length locations ≤ 16384 → AllThere 0 (words_from place locations)
there-from place [] h = All-nil (λ (p : Placed). is_there 0 p.at ≡ true)
there-from place (location ∷ locations) h = there-more place (word_in location) (words_from (place + 1) locations) (omega arith) (there-from (place + 1) locations (omega arith))

pub words_from-there : (locations : List Location) (words : List Placed) → length locations ≡ 16384 → words ≡ words_from 0 locations → AllThere 0 words
words_from-there locations words size is = subst (AllThere 0) (sym is) (there-from 0 locations (omega arith))
