-- Lists that grow at their end, lists of slots without a slot twice, and what a look-up finds in them.
use Rattle.std.proofs.Common.{◌≡◌, ℕ, zero, suc, ◌+◌, ◌<◌, Bool, true, false, cond, not, ◌&&◌, ◌||◌, List, [], ◌∷◌, ◌++◌, get_or, drop, slice_get, IfSome, None, Some, refl, sym, ap, ◌∙◌, subst, arith, inl, inr}
use Rattle.std.specs.Prelude.{◌==◌}
use Rattle.std.specs.Map.{lookup}
use Rattle.std.proofs.lemmas.Bool.{true≢false, and_parts, and_from, or_parts, or_cases, or_left, or_right, not-true, eq-eqb, false_from_ne_true}
use Rattle.lvdc_map.specs.Address.{Spot, is_same as is_same_spot}
use Rattle.lvdc_place.specs.Slot.{Slot, is_same, slot_of, address_of}
use Rattle.lvdc_place.specs.Apart.{is_in, are_distinct}
use Rattle.lvdc_place.proofs.Distinct.{same-slot, is_in-append}
use Rattle.lvdc_asm.specs.Pool.{is_same_literal, literal_of}
use Rattle.lvdc_asm.specs.DataPlace.{DataPlace}

-- ---- lists that grow

-- what holds of each element, by its index, holds of each of a longer list
pub each-push : {X : Type 0} (xs : List X) (y : X) (P : X → Type 0) → ((i : ℕ) → IfSome (slice_get xs i) P) → P y → (i : ℕ) → IfSome (slice_get (xs ++ y ∷ []) i) P
each-push [] y P old new zero = new
each-push [] y P old new (suc i) = tt
each-push (x ∷ xs) y P old new zero = old 0
each-push (x ∷ xs) y P old new (suc i) = each-push xs y P (λ k. old (suc k)) new i

pub each-front : {X : Type 0} (xs ys : List X) (P : X → Type 0) → ((i : ℕ) → IfSome (slice_get (xs ++ ys) i) P) → (i : ℕ) → IfSome (slice_get xs i) P
each-front [] ys P all i = tt
each-front (x ∷ xs) ys P all zero = all 0
each-front (x ∷ xs) ys P all (suc i) = each-front xs ys P (λ k. all (suc k)) i

pub each-last : {X : Type 0} (xs : List X) (y : X) (P : X → Type 0) → ((i : ℕ) → IfSome (slice_get (xs ++ y ∷ []) i) P) → P y
each-last [] y P all = all 0
each-last (x ∷ xs) y P all = each-last xs y P (λ k. all (suc k))

-- the element at which the rest of a list begins, and the rest after it
pub drop-first : {X : Type 0} (xs : List X) (i : ℕ) (y : X) (ys : List X) (d : X) → drop i xs ≡ y ∷ ys → get_or xs i d ≡ y
drop-first [] zero y ys d h = absurd (cc)
drop-first [] (suc i) y ys d h = absurd (cc)
drop-first {X} (x ∷ xs) zero y ys d h = ap (λ (zs : List X). get_or zs 0 d) h
drop-first (x ∷ xs) (suc i) y ys d h = drop-first xs i y ys d h

pub drop-next : {X : Type 0} (xs : List X) (i : ℕ) (y : X) (ys : List X) → drop i xs ≡ y ∷ ys → drop (i + 1) xs ≡ ys
drop-next [] zero y ys h = absurd (cc)
drop-next [] (suc i) y ys h = absurd (cc)
drop-next {X} (x ∷ xs) zero y ys h = ap (λ (zs : List X). drop 1 zs) h
drop-next {X} (x ∷ xs) (suc i) y ys h = let e : suc i + 1 ≡ suc (i + 1) = omega arith in ap (λ (n : ℕ). drop n (x ∷ xs)) e ∙ drop-next xs i y ys h

pub each-both : {X : Type 0} (xs : List X) (P Q : X → Type 0) → ((i : ℕ) → IfSome (slice_get xs i) P) → ((i : ℕ) → IfSome (slice_get xs i) Q) → (i : ℕ) → IfSome (slice_get xs i) (λ x. P x × Q x)
each-both [] P Q p q i = tt
each-both (x ∷ xs) P Q p q zero = (p 0, q 0)
each-both (x ∷ xs) P Q p q (suc i) = each-both xs P Q (λ k. p (suc k)) (λ k. q (suc k)) i

-- ---- look-ups

pub lookup-front : {K V : Type 0} (test : K → Bool) (xs ys : List (K × V)) (v : V) → lookup test xs ≡ Some v → lookup test (xs ++ ys) ≡ Some v
lookup-front test [] ys v h = absurd (cc)
lookup-front {K} {V} test (x ∷ xs) ys v h = by (test x.0) h (lookup-front test xs ys v)
  where
    by : (b : Bool) → cond b (Some x.1) (lookup test xs) ≡ Some v → (lookup test xs ≡ Some v → lookup test (xs ++ ys) ≡ Some v) → cond b (Some x.1) (lookup test (xs ++ ys)) ≡ Some v
    by true h later = h
    by false h later = later h

pub lookup-push : {K V : Type 0} (test : K → Bool) (xs : List (K × V)) (k : K) (v : V) → test k ≡ true → lookup test xs ≡ None → lookup test (xs ++ (k, v) ∷ []) ≡ Some v
lookup-push {K} {V} test [] k v passes none = ap (λ (b : Bool). cond b (Some v) None) passes
lookup-push {K} {V} test (x ∷ xs) k v passes none = by (test x.0) none (lookup-push test xs k v passes)
  where
    by : (b : Bool) → cond b (Some x.1) (lookup test xs) ≡ None → (lookup test xs ≡ None → lookup test (xs ++ (k, v) ∷ []) ≡ Some v) → cond b (Some x.1) (lookup test (xs ++ (k, v) ∷ [])) ≡ Some v
    by true h later = absurd (cc)
    by false h later = later h

pub literal-self : (assumed : DataPlace) (w : ℕ) → is_same_literal (literal_of assumed w) (literal_of assumed w) ≡ true
literal-self assumed w =
    and_from (assumed.pair == assumed.pair) (assumed.sector == assumed.sector && w == w) (eq-eqb assumed.pair assumed.pair refl)
    (and_from (assumed.sector == assumed.sector) (w == w) (eq-eqb assumed.sector assumed.sector refl) (eq-eqb w w refl))

-- what is found is an element
pub lookup-each : {K V : Type 0} (test : K → Bool) (xs : List (K × V)) (P : K × V → Type 0) (v : V) → ((i : ℕ) → IfSome (slice_get xs i) P) → lookup test xs ≡ Some v
    → (k : K) × (test k ≡ true) × P (k, v)
lookup-each test [] P v each h = absurd (cc)
lookup-each {K} {V} test (x ∷ xs) P v each h = by (test x.0) refl h (lookup-each test xs P v (λ i. each (suc i)))
  where
    by : (b : Bool) → test x.0 ≡ b → cond b (Some x.1) (lookup test xs) ≡ Some v → (lookup test xs ≡ Some v → (k : K) × (test k ≡ true) × P (k, v)) → (k : K) × (test k ≡ true) × P (k, v)
    by true is e later = let same : x.1 ≡ v = cc in (x.0, is, subst (λ (w : V). P (x.0, w)) same (each 0))
    by false is e later = later e

-- ---- slots

pub slot-self : (slot : Slot) → is_same slot slot ≡ true
slot-self slot =
    and_from (slot.pair == slot.pair && slot.sector == slot.sector && slot.syl == slot.syl) (slot.loc == slot.loc)
    (and_from (slot.pair == slot.pair && slot.sector == slot.sector) (slot.syl == slot.syl)
    (and_from (slot.pair == slot.pair) (slot.sector == slot.sector) (eq-eqb slot.pair slot.pair refl) (eq-eqb slot.sector slot.sector refl))
    (eq-eqb slot.syl slot.syl refl))
    (eq-eqb slot.loc slot.loc refl)

pub spot-self : (at : Spot) → is_same_spot at at ≡ true
spot-self at =
    and_from (at.pair == at.pair && at.sector == at.sector) (at.loc == at.loc)
    (and_from (at.pair == at.pair) (at.sector == at.sector) (eq-eqb at.pair at.pair refl) (eq-eqb at.sector at.sector refl))
    (eq-eqb at.loc at.loc refl)

-- the two slots of a word
abbrev pub of_word : Spot → List Slot
of_word at = slot_of at 0 ∷ slot_of at 1 ∷ []

pub in-word : (at : Spot) (syl : ℕ) → syl < 2 → is_in (slot_of at syl) (of_word at) ≡ true
in-word at zero small = or_left (is_same (slot_of at 0) (slot_of at 0)) (is_same (slot_of at 0) (slot_of at 1) || false) (slot-self (slot_of at 0))
in-word at (suc zero) small =
    or_right (is_same (slot_of at 1) (slot_of at 0)) (is_same (slot_of at 1) (slot_of at 1) || false)
    (or_left (is_same (slot_of at 1) (slot_of at 1)) false (slot-self (slot_of at 1)))
in-word at (suc (suc n)) small = absurd (omega arith)

pub in-one : (slot : Slot) → is_in slot (slot ∷ []) ≡ true
in-one slot = or_left (is_same slot slot) false (slot-self slot)

-- the slots of one and of a word
pub one-is : (slot other : Slot) → is_in other (slot ∷ []) ≡ true → other ≡ slot
one-is slot other h = elim (or_cases (is_same other slot) false h) [
  | inl here ↦ same-slot other slot here
  | inr none ↦ absurd (true≢false (sym none))
]

pub word-zero : (at : Spot) (other : Slot) → is_in other (of_word at) ≡ true → other.syl ≡ 0 → other ≡ slot_of at 0
word-zero at other h zeroth = elim (or_cases (is_same other (slot_of at 0)) (is_same other (slot_of at 1) || false) h) [
  | inl here ↦ same-slot other (slot_of at 0) here
  | inr more ↦ (
      let here : other ≡ slot_of at 1 = one-is (slot_of at 1) other more in
      let one : other.syl ≡ 1 = ap (λ (s : Slot). s.syl) here in
      absurd (omega (arith, one, zeroth))
      )
]

pub one-only : (whole : List Slot) (slot other : Slot) → is_in slot whole ≡ true → is_in other (slot ∷ []) ≡ true → is_in other whole ≡ true
one-only whole slot other part h = ap (λ (s : Slot). is_in s whole) (one-is slot other h) ∙ part

pub word-only : (whole : List Slot) (at : Spot) (other : Slot) → is_in (slot_of at 0) whole ≡ true → is_in (slot_of at 1) whole ≡ true → is_in other (of_word at) ≡ true → is_in other whole ≡ true
word-only whole at other low high h = elim (or_cases (is_same other (slot_of at 0)) (is_same other (slot_of at 1) || false) h) [
  | inl here ↦ ap (λ (s : Slot). is_in s whole) (same-slot other (slot_of at 0) here) ∙ low
  | inr more ↦ one-only whole (slot_of at 1) other high more
]

-- a slot of another word is none of them
pub off-word : (at : Spot) (slot : Slot) → is_same_spot at (address_of slot) ≡ false → is_in slot (of_word at) ≡ false
off-word at slot other = false_from_ne_true (is_in slot (of_word at)) (λ h. elim (or_cases (is_same slot (slot_of at 0)) (is_same slot (slot_of at 1) || false) h) [
  | inl low ↦ true≢false (sym (spot-self at) ∙ ap (λ (s : Slot). is_same_spot at (address_of s)) (sym (same-slot slot (slot_of at 0) low)) ∙ other)
  | inr more ↦ elim (or_cases (is_same slot (slot_of at 1)) false more) [
    | inl high ↦ true≢false (sym (spot-self at) ∙ ap (λ (s : Slot). is_same_spot at (address_of s)) (sym (same-slot slot (slot_of at 1) high)) ∙ other)
    | inr none ↦ true≢false (sym none)
  ]
])

-- ---- no slot twice

pub distinct-right : (xs ys : List Slot) → are_distinct (xs ++ ys) ≡ true → are_distinct ys ≡ true
distinct-right [] ys h = h
distinct-right (x ∷ xs) ys h = distinct-right xs ys (and_parts (not (is_in x (xs ++ ys))) (are_distinct (xs ++ ys)) h).1

pub distinct-apart : (xs ys : List Slot) (slot : Slot) → are_distinct (xs ++ ys) ≡ true → is_in slot xs ≡ true → is_in slot ys ≡ false
distinct-apart [] ys slot h here = absurd (true≢false (sym here))
distinct-apart (x ∷ xs) ys slot h here =
    let both = and_parts (not (is_in x (xs ++ ys))) (are_distinct (xs ++ ys)) h in
    elim (or_cases (is_same slot x) (is_in slot xs) here) [
      | inl first ↦ ap (λ (s : Slot). is_in s ys) (same-slot slot x first)
          ∙ (or_parts (is_in x xs) (is_in x ys) (sym (is_in-append x xs ys) ∙ not-true (is_in x (xs ++ ys)) both.0)).1
      | inr later ↦ distinct-apart xs ys slot both.1 later
    ]
