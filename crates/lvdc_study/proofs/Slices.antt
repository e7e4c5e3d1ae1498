-- Slices whose items are equal one by one.
use Rattle.std.proofs.Common.{◌≡◌, Bool, true, ◌&&◌, ◌==◌, List, [], ◌∷◌, refl, sym}
use Rattle.std.proofs.lemmas.Bool.{true≢false, eqb-true, and_parts}
use lib.Pointwise.{pointwise}
use Rattle.lvdc_map.specs.Address.{is_same}
use Rattle.lvdc_map.specs.declared.placed.Placed.{Placed}
use Rattle.lvdc_map.proofs.Addresses.{same-spot}
use Rattle.lvdc_twin.specs.declared.held.Held.{Held}

pub items-equal : {A : Type 0} (same : A → A → Bool) → ((a b : A) → same a b ≡ true → a ≡ b) → (xs ys : List A) → pointwise same xs ys ≡ true → xs ≡ ys
items-equal same each [] [] h = refl
items-equal same each [] (y ∷ ys) h = absurd (true≢false (sym h))
items-equal same each (x ∷ xs) [] h = absurd (true≢false (sym h))
items-equal same each (x ∷ xs) (y ∷ ys) h =
    let parts = and_parts (same x y) (pointwise same xs ys) h in
    let here = each x y parts.0 in
    let rest = items-equal same each xs ys parts.1 in
    λ i. here i ∷ rest i

-- the same cell at the same place
abbrev pub is_same_held : Held → Held → Bool
is_same_held a b = a.twin == b.twin && is_same a.at b.at && a.cell == b.cell

pub held-equal : (a b : Held) → is_same_held a b ≡ true → a ≡ b
held-equal a b h =
    let last = and_parts (a.twin == b.twin && is_same a.at b.at) (a.cell == b.cell) h in
    let first = and_parts (a.twin == b.twin) (is_same a.at b.at) last.0 in
    let twin = eqb-true a.twin b.twin first.0 in
    let place = same-spot a.at b.at first.1 in
    let cell = eqb-true a.cell b.cell last.1 in
    λ i. record { twin = twin i; at = place i; cell = cell i }

-- the same word at the same address
abbrev pub is_same_placed : Placed → Placed → Bool
is_same_placed a b = is_same a.at b.at && a.word == b.word

pub placed-equal : (a b : Placed) → is_same_placed a b ≡ true → a ≡ b
placed-equal a b h =
    let parts = and_parts (is_same a.at b.at) (a.word == b.word) h in
    let at = same-spot a.at b.at parts.0 in
    let word = eqb-true a.word b.word parts.1 in
    λ i. record { at = at i; word = word i }
