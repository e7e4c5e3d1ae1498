-- Draws one after the other: the words and the events of a soak run as far as they are made, and that its image is one.
use Rattle.std.proofs.Common.{◌≡◌, ℕ, suc, ◌+◌, ◌-◌, ◌<◌, ◌≤◌, true, List, [], ◌∷◌, ◌++◌, length, get_or, drop, refl, sym, ap, ◌∙◌, append_assoc, append-nil, arith, rules}
use Rattle.std.proofs.lemmas.List.{drop_more, drop_all}
use Rattle.std.proofs.lemmas.List.Elements.{All-from_recursion}
use Rattle.lvdc_map.specs.Banks.{is_there}
use Rattle.lvdc_map.specs.Memory.{are_rising, AllThere}
use Rattle.lvdc_map.specs.declared.placed.Placed.{Placed}
use Rattle.lvdc_fault.specs.declared.event.Event.{Event}
use Rattle.lvdc_soak_deck.specs.Soak.{next, drawn, after_draws, words_drawn, placed_from, image_from, flip_event, damage_event, events_from}

-- ---- words at rising locations

-- a word of a list before those that follow it
pub placed-more : (sector : ℕ) (words : List ℕ) (i : ℕ) (d : ℕ) (so_far total : List Placed) →
    so_far ++ placed_from sector i (drop i words) ≡ total → i < length words → (word : ℕ) → word ≡ get_or words i d →
    (now : List Placed) → now ≡ so_far ++ record { at = record { pair = 0; sector = sector; loc = i }; word = word } ∷ [] →
    now ++ placed_from sector (i + 1) (drop (i + 1) words) ≡ total
unfolding placed_from
placed-more sector words i d so_far total are within word is now made =
    let rest = placed_from sector (i + 1) (drop (i + 1) words) in
    ap (λ (ps : List Placed). ps ++ rest) made
    ∙ append_assoc so_far (record { at = record { pair = 0; sector = sector; loc = i }; word = word } ∷ []) rest
    ∙ ap (λ (w : ℕ). so_far ++ record { at = record { pair = 0; sector = sector; loc = i }; word = w } ∷ rest) is
    ∙ ap (λ (ws : List ℕ). so_far ++ placed_from sector i ws) (sym (drop_more words i d within)) ∙ are

pub placed-done : (sector : ℕ) (words : List ℕ) (i : ℕ) (so_far total : List Placed) →
    so_far ++ placed_from sector i (drop i words) ≡ total → length words ≤ i → so_far ≡ total
unfolding placed_from
placed-done sector words i so_far total are all =
    sym (append-nil so_far) ∙ ap (λ (ws : List ℕ). so_far ++ placed_from sector i ws) (sym (drop_all i words all)) ∙ are

-- ---- draws

-- so many draws that are left, one before the others
left-more : (count made : ℕ) → made < count → count - made ≡ suc (count - (made + 1))
left-more count made within = omega arith

left-none : (count made : ℕ) → count ≤ made → count - made ≡ 0
left-none count made all = omega arith

-- words that were drawn and placed, so many of a count, and this is the state
module _ (sector count made x : ℕ) (so_far total : List Placed) (are : so_far ++ placed_from sector made (words_drawn (count - made) x) ≡ total) where
  pub drawn-more : made < count → (y word : ℕ) → y ≡ next x → word ≡ drawn (next x) →
      (now : List Placed) → now ≡ so_far ++ record { at = record { pair = 0; sector = sector; loc = made }; word = word } ∷ [] →
      now ++ placed_from sector (made + 1) (words_drawn (count - (made + 1)) y) ≡ total
  unfolding placed_from words_drawn
  drawn-more within y word steps draws now made_so =
      let rest = placed_from sector (made + 1) (words_drawn (count - (made + 1)) (next x)) in
      ap (λ (s : ℕ). now ++ placed_from sector (made + 1) (words_drawn (count - (made + 1)) s)) steps
      ∙ ap (λ (ps : List Placed). ps ++ rest) made_so
      ∙ append_assoc so_far (record { at = record { pair = 0; sector = sector; loc = made }; word = word } ∷ []) rest
      ∙ ap (λ (w : ℕ). so_far ++ record { at = record { pair = 0; sector = sector; loc = made }; word = w } ∷ rest) draws
      ∙ ap (λ (n : ℕ). so_far ++ placed_from sector made (words_drawn n x)) (sym (left-more count made within)) ∙ are

  pub drawn-done : count ≤ made → so_far ≡ total
  unfolding placed_from words_drawn
  drawn-done all =
      sym (append-nil so_far) ∙ ap (λ (n : ℕ). so_far ++ placed_from sector made (words_drawn n x)) (sym (left-none count made all)) ∙ are

-- the state after the draws that are left
module _ (count made x last : ℕ) (is : after_draws (count - made) x ≡ last) where
  pub draws-more : made < count → (y : ℕ) → y ≡ next x → after_draws (count - (made + 1)) y ≡ last
  unfolding after_draws
  draws-more within y steps =
      ap (after_draws (count - (made + 1))) steps ∙ ap (λ (n : ℕ). after_draws n x) (sym (left-more count made within)) ∙ is

  pub draws-done : count ≤ made → x ≡ last
  unfolding after_draws
  draws-done all = ap (λ (n : ℕ). after_draws n x) (sym (left-none count made all)) ∙ is

-- ---- events

-- events that were made, so many pairs of a count, and this is the state
module _ (count k x : ℕ) (so_far total : List Event) (are : so_far ++ events_from (count - k) k x ≡ total) where
  pub events-more : k < count → (y z v w : ℕ) → y ≡ next x → v ≡ drawn (next x) → z ≡ next y → w ≡ drawn (next y) →
      (now : List Event) → now ≡ (so_far ++ flip_event k v ∷ []) ++ damage_event k w ∷ [] →
      now ++ events_from (count - (k + 1)) (k + 1) z ≡ total
  unfolding events_from
  events-more within y z v w first draws second draws_2 now made =
      let z-is : z ≡ next (next x) = second ∙ ap next first in
      let w-is : w ≡ drawn (next (next x)) = draws_2 ∙ ap (λ (s : ℕ). drawn (next s)) first in
      let rest = events_from (count - (k + 1)) (k + 1) (next (next x)) in
      ap (λ (s : ℕ). now ++ events_from (count - (k + 1)) (k + 1) s) z-is
      ∙ ap (λ (es : List Event). es ++ rest) made
      ∙ append_assoc (so_far ++ flip_event k v ∷ []) (damage_event k w ∷ []) rest
      ∙ append_assoc so_far (flip_event k v ∷ []) (damage_event k w ∷ rest)
      ∙ ap (λ (n : ℕ). so_far ++ flip_event k n ∷ damage_event k w ∷ rest) draws
      ∙ ap (λ (n : ℕ). so_far ++ flip_event k (drawn (next x)) ∷ damage_event k n ∷ rest) w-is
      ∙ ap (λ (n : ℕ). so_far ++ events_from n k x) (sym (left-more count k within)) ∙ are

  pub events-done : count ≤ k → so_far ≡ total
  unfolding events_from
  events-done all =
      sym (append-nil so_far) ∙ ap (λ (n : ℕ). so_far ++ events_from n k x) (sym (left-none count k all)) ∙ are

-- ---- ranges

-- the addresses of the image rise, and their banks are there
pub image-rises : (x : ℕ) → are_rising (image_from x).words ≡ true
unfolding placed_from words_drawn
image-rises x = refl

pub image-there : (x : ℕ) → AllThere 0 (image_from x).words
unfolding placed_from words_drawn
image-there x = All-from_recursion (λ (p : Placed). is_there 0 p.at ≡ true) (image_from x).words (search rules)
