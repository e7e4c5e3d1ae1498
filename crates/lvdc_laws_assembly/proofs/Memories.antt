-- The memory that the words of a table make.
use Rattle.std.proofs.Common.{◌≡◌, ℕ, ◌+◌, ◌^◌, ◌<◌, Bool, true, false, cond, List, [], ◌∷◌, ◌++◌, Option, None, Some, All, unwrap_or, refl, sym, ap, ◌∙◌, arith, inl, inr}
use Rattle.std.proofs.lemmas.Bool.{true≢false, cases_Bool, false_from_ne_true}
use Rattle.std.proofs.lemmas.List.Elements.{All-head, All-tail}
use Rattle.lvdc_map.specs.Address.{Spot, number_of, spot_at, is_same}
use Rattle.lvdc_map.specs.Memory.{Memory, filled_with, stored, loaded, memory_of}
use Rattle.lvdc_map.specs.declared.placed.Placed.{Placed}
use Rattle.lvdc_map.proofs.Addresses.{same-spot}
use Rattle.lvdc_asm.specs.Locations.{Locations, word_in, placed_at, words_from, words_of}
use Rattle.lvdc_laws_assembly.specs.Images.{word_at}
use Rattle.lvdc_laws_assembly.proofs.Images.{none-outside}
use Rattle.lvdc_laws_assembly.proofs.Pools.{spot-self}

-- a test of two addresses, the other way round
turned : (a b : Spot) → is_same a b ≡ is_same b a
turned a b = elim (cases_Bool (is_same a b)) [
  | inl here ↦ here ∙ sym (ap (λ (c : Spot). is_same c a) (sym (same-spot a b here)) ∙ spot-self a)
  | inr other ↦ other ∙ sym (false_from_ne_true (is_same b a) (λ h. true≢false (sym (ap (λ (c : Spot). is_same c b) (sym (same-spot b a h)) ∙ spot-self b) ∙ other)))
]

-- one location more
loaded-one : (place : ℕ) (w : Option ℕ) (rest : List Placed) (m : Memory) (at : Spot) → (number_of at ≡ place → word_at rest at ≡ None)
    → ((n : Memory) → loaded rest n at ≡ unwrap_or (word_at rest at) (n at)) → loaded (placed_at (spot_at place) w ++ rest) m at ≡ unwrap_or (word_at (placed_at (spot_at place) w ++ rest) at) (m at)
loaded-one place None rest m at alone later = later m
loaded-one place (Some w) rest m at alone later =
    later (stored m (spot_at place) w) ∙ by (is_same at (spot_at place)) (is_same (spot_at place) at) refl (turned at (spot_at place))
  where
    by : (b c : Bool) → is_same at (spot_at place) ≡ b → b ≡ c → unwrap_or (word_at rest at) (cond b w (m at)) ≡ unwrap_or (cond c (Some w) (word_at rest at)) (m at)
    by true true is same =
        let here : at ≡ spot_at place = same-spot at (spot_at place) is in
        let back : number_of (spot_at place) ≡ place = omega arith in
        ap (λ (o : Option ℕ). unwrap_or o w) (alone (ap number_of here ∙ back))
    by true false is same = absurd (true≢false same)
    by false true is same = absurd (true≢false (sym same))
    by false false is same = refl

loaded-from : (place : ℕ) (locations : Locations) (m : Memory) (at : Spot) → loaded (words_from place locations) m at ≡ unwrap_or (word_at (words_from place locations) at) (m at)
loaded-from place [] m at = refl
loaded-from place (location ∷ locations) m at =
    loaded-one place (word_in location) (words_from (place + 1) locations) m at
    (λ here. none-outside (place + 1) locations at (λ low high. absurd (omega (arith, here, low))))
    (λ n. loaded-from (place + 1) locations n at)

-- an address of the memory has the image's word, and 0 where there is none
pub memory-is : (locations : Locations) (at : Spot) → memory_of (words_of locations) at ≡ unwrap_or (word_at (words_of locations) at) 0
memory-is locations at = loaded-from 0 locations (filled_with 0) at

-- where the image places words, the memory has words
stored-small : (m : Memory) (at : Spot) (w : ℕ) (other : Spot) → w < 2 ^ 26 → m other < 2 ^ 26 → stored m at w other < 2 ^ 26
stored-small m at w other a b = by (is_same other at)
  where
    by : (c : Bool) → cond c w (m other) < 2 ^ 26
    by true = a
    by false = b

loaded-small : (ps : List Placed) (m : Memory) → All (λ (p : Placed). p.word < 2 ^ 26) ps → ((at : Spot) → m at < 2 ^ 26) → (at : Spot) → loaded ps m at < 2 ^ 26
loaded-small [] m words small at = small at
loaded-small (p ∷ ps) m words small at =
    loaded-small ps (stored m p.at p.word) (All-tail (λ (q : Placed). q.word < 2 ^ 26) p ps words)
    (λ other. stored-small m p.at p.word other (All-head (λ (q : Placed). q.word < 2 ^ 26) p ps words) (small other)) at

pub memory-small : (ps : List Placed) → All (λ (p : Placed). p.word < 2 ^ 26) ps → (at : Spot) → memory_of ps at < 2 ^ 26
memory-small ps words at = loaded-small ps (filled_with 0) words (λ other. omega arith) at
