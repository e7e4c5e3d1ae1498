-- Lists that rise from each item to the next rise from each to every later one.
use Rattle.std.proofs.Common.{◌≡◌, ℕ, ◌+◌, ◌<◌, ◌≤◌, Bool, true, ltb, List, [], ◌∷◌, All, arith}
use Rattle.std.specs.Prelude.{AllPairs}
use Rattle.std.proofs.lemmas.Bool.{ltb-true}
use Rattle.std.proofs.lemmas.List.Elements.{All-nil, All-cons, All-weaker}
use Rattle.std.proofs.lemmas.List.Kept.{AllPairs-cons}
use Rattle.lvdc_map.specs.Address.{number_of}
use Rattle.lvdc_map.specs.Memory as image
use Rattle.lvdc_map.specs.declared.placed.Placed.{Placed}
use Rattle.lvdc_twin.specs.Store.{slot_of}
use Rattle.lvdc_twin.specs.Cells.{are_rising}
use Rattle.lvdc_twin.specs.declared.held.Held.{Held}
use Rattle.lvdc_save.proofs.Below.{both}

-- a test of lists that says of each item that its number is below that of the next
module _ {A : Type 0} (number : A → ℕ) (rises : List A → Bool)
    (next : (x y : A) (items : List A) → rises (x ∷ y ∷ items) ≡ true → (number x < number y) × (rises (y ∷ items) ≡ true)) where
  -- the first of them is below all others
  above : (x : A) (items : List A) → rises (x ∷ items) ≡ true → All (λ y. number x < number y) items
  above x [] rise = All-nil (λ y. number x < number y)
  above x (y ∷ items) rise =
      let here = next x y items rise in
      let less = here.0 in
      All-cons (λ z. number x < number z) y items less
      (All-weaker (λ z. number y < number z) (λ z. number x < number z) (λ z more. omega (arith, less, more)) items
      (above y items here.1))

  chain_more : (x : A) (items : List A) → rises (x ∷ items) ≡ true → AllPairs (λ y z. number y + 1 ≤ number z) items
      → AllPairs (λ y z. number y + 1 ≤ number z) (x ∷ items)
  chain_more x items rise later =
      AllPairs-cons (λ y z. number y + 1 ≤ number z) x items
      (All-weaker (λ y. number x < number y) (λ y. number x + 1 ≤ number y) (λ y less. omega (arith, less)) items (above x items rise)) later

  chain : (items : List A) → rises items ≡ true → AllPairs (λ x y. number x + 1 ≤ number y) items
  chain [] rise = λ i j d less within. absurd (omega (arith, less, within))
  chain (x ∷ []) rise = chain_more x [] rise (λ i j d less within. absurd (omega (arith, less, within)))
  chain (x ∷ y ∷ items) rise = chain_more x (y ∷ items) rise (chain (y ∷ items) (next x y items rise).1)

next_cell : (h k : Held) (cells : List Held) → are_rising (h ∷ k ∷ cells) ≡ true
    → (slot_of h.twin h.at < slot_of k.twin k.at) × (are_rising (k ∷ cells) ≡ true)
next_cell h k cells rise =
    let parts = both (ltb (slot_of h.twin h.at) (slot_of k.twin k.at)) (are_rising (k ∷ cells)) rise in
    (ltb-true (slot_of h.twin h.at) (slot_of k.twin k.at) parts.0, parts.1)

pub cells_chain : (cells : List Held) → are_rising cells ≡ true → AllPairs (λ h k. slot_of h.twin h.at + 1 ≤ slot_of k.twin k.at) cells
cells_chain = chain (λ h. slot_of h.twin h.at) are_rising next_cell

next_word : (p q : Placed) (words : List Placed) → image.are_rising (p ∷ q ∷ words) ≡ true
    → (number_of p.at < number_of q.at) × (image.are_rising (q ∷ words) ≡ true)
next_word p q words rise =
    let parts = both (ltb (number_of p.at) (number_of q.at)) (image.are_rising (q ∷ words)) rise in
    (ltb-true (number_of p.at) (number_of q.at) parts.0, parts.1)

pub words_chain : (words : List Placed) → image.are_rising words ≡ true → AllPairs (λ p q. number_of p.at + 1 ≤ number_of q.at) words
words_chain = chain (λ p. number_of p.at) image.are_rising next_word
