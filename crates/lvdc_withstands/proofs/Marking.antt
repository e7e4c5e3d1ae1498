-- Places that are marked one after another.
use Rattle.std.proofs.Common.{◌≡◌, ℕ, ◌<◌, Bool, true, false, not, ◌&&◌, ◌||◌, ◌==◌, List, [], ◌∷◌, ◌++◌, length, get_or, set, All, Option, None, Some, ◌⊎◌, inl, inr, refl, sym, ap, ◌∙◌, arith, length-set}
use Rattle.std.specs.List.{list_any}
use Rattle.std.specs.Option.{option_to_list}
use Rattle.std.proofs.lemmas.Bool.{true≢false, eqb-true, eq-eqb, ne_eqb, cases_eq, and_from, and_parts, and_left, and_right, or_cases, or_left, or_right, or_from, or_parts, not-true, not-false, not_from_true, not_from_false, false_from_ne_true}
use Rattle.std.proofs.lemmas.List.{get_or-set_same, get_or-set_other}
use Rattle.std.proofs.lemmas.List.Elements.{All-head, All-tail, All-push, All-nil}
use Rattle.std.proofs.lemmas.List.Folds.{list_any-append}
use Rattle.lvdc_map.specs.Address.{Spot, IsAddress, is_same, number_of}
use Rattle.lvdc_map.proofs.Addresses.{same-spot}
use Rattle.lvdc_withstands.specs.Form.{none_twice}
use Rattle.lvdc_withstands.specs.Places.{Marks, AreMarked}

-- ---- numbers of places

-- addresses with one number are the same
same-number : (a b : Spot) → IsAddress a → IsAddress b → number_of a ≡ number_of b → is_same a b ≡ true
same-number a b ha hb e =
    let pa : a.pair < 8 = ha.pair in
    let sa : a.sector < 16 = ha.sector in
    let la : a.loc < 256 = ha.loc in
    let pb : b.pair < 8 = hb.pair in
    let sb : b.sector < 16 = hb.sector in
    let lb : b.loc < 256 = hb.loc in
    and_from (a.pair == b.pair && a.sector == b.sector) (a.loc == b.loc)
    (and_from (a.pair == b.pair) (a.sector == b.sector) (eq-eqb a.pair b.pair (omega arith)) (eq-eqb a.sector b.sector (omega arith))) (eq-eqb a.loc b.loc (omega arith))

-- ---- one place more

not_same : (places : List Spot) (at : Spot) → list_any (λ p. number_of p == number_of at) places ≡ false → (p : Spot) → is_same p at ≡ true → (number_of p == number_of at) ≡ true
not_same places at none p same = eq-eqb (number_of p) (number_of at) (ap number_of (same-spot p at same))

once-push : (places : List Spot) (at : Spot) → none_twice places ≡ true → list_any (λ p. number_of p == number_of at) places ≡ false → none_twice (places ++ at ∷ []) ≡ true
once-push [] at once none = refl
once-push (p ∷ ps) at once none =
    let parts = and_parts (not (list_any (is_same p) ps)) (none_twice ps) once in
    let others = or_parts (number_of p == number_of at) (list_any (λ q. number_of q == number_of at) ps) none in
    let fresh : is_same p at ≡ false =
    false_from_ne_true (is_same p at) (λ same. true≢false (sym (not_same ps at others.1 p same) ∙ others.0)) in
    let later : list_any (is_same p) (ps ++ at ∷ []) ≡ false =
    list_any-append (is_same p) ps (at ∷ []) ∙ or_from (list_any (is_same p) ps) (is_same p at || false) (not-true (list_any (is_same p) ps) parts.0) (or_from (is_same p at) false fresh refl) in
    and_from (not (list_any (is_same p) (ps ++ at ∷ []))) (none_twice (ps ++ at ∷ [])) (not_from_false (list_any (is_same p) (ps ++ at ∷ [])) later) (once-push ps at parts.1 others.1)

-- a place that is named already is named twice
found-twice : (places rest : List Spot) (at : Spot) → All IsAddress places → IsAddress at → list_any (λ p. number_of p == number_of at) places ≡ true → none_twice (places ++ at ∷ rest) ≡ false
found-twice [] rest at all ok h = absurd (true≢false (sym h))
found-twice (p ∷ ps) rest at all ok h =
    by_head (or_cases (number_of p == number_of at) (list_any (λ q. number_of q == number_of at) ps) h) (found-twice ps rest at (All-tail IsAddress p ps all) ok)
  where
    by_head : ((number_of p == number_of at) ≡ true) ⊎ (list_any (λ q. number_of q == number_of at) ps ≡ true)
        → (list_any (λ q. number_of q == number_of at) ps ≡ true → none_twice (ps ++ at ∷ rest) ≡ false) → (not (list_any (is_same p) (ps ++ at ∷ rest)) && none_twice (ps ++ at ∷ rest)) ≡ false
    by_head (inl here) more =
        let same : is_same p at ≡ true = same-number p at (All-head IsAddress p ps all) ok (eqb-true (number_of p) (number_of at) here) in
        and_left (not (list_any (is_same p) (ps ++ at ∷ rest))) (none_twice (ps ++ at ∷ rest))
        (not_from_true (list_any (is_same p) (ps ++ at ∷ rest))
        (list_any-append (is_same p) ps (at ∷ rest) ∙ or_right (list_any (is_same p) ps) (is_same p at || list_any (is_same p) rest) (or_left (is_same p at) (list_any (is_same p) rest) same)))
    by_head (inr there) more = and_right (not (list_any (is_same p) (ps ++ at ∷ rest))) (none_twice (ps ++ at ∷ rest)) (more there)

-- ---- one line more

pub marked-start : (named : List Bool) → length named ≡ 32768 → ((k : ℕ) → get_or named k false ≡ false) → AreMarked [] named
marked-start named size none = record { size = size; marks = none; addresses = All-nil IsAddress; once = refl }

number-small : (at : Spot) → IsAddress at → number_of at < 32768
number-small at h =
    let p : at.pair < 8 = h.pair in
    let s : at.sector < 16 = h.sector in
    let l : at.loc < 256 = h.loc in
    omega arith

pub marked-next : (places : List Spot) (o : Option Spot) (old new : List Bool) → AreMarked places old → Marks o old new true → AreMarked (places ++ option_to_list o) new
marked-next places None old new m (same, first) =
    record {
      size = ap length same ∙ m.size;
      marks = λ k. ap (λ (named : List Bool). get_or named k false) same ∙ m.marks k ∙ ap (list_any (λ at. number_of at == k)) (sym (append-nil places));
      addresses = rw (append-nil places) m.addresses;
      once = ap none_twice (append-nil places) ∙ m.once;
    }
  where
    append-nil : (xs : List Spot) → xs ++ [] ≡ xs
    append-nil [] = refl
    append-nil (x ∷ xs) = ap (λ (ys : List Spot). x ∷ ys) (append-nil xs)
marked-next places (Some at) old new m (set_at, first, ok) =
    record {
      size = ap length set_at ∙ length-set old (number_of at) true ∙ m.size;
      marks = λ k. ap (λ (named : List Bool). get_or named k false) set_at ∙ by_number k (cases_eq k (number_of at));
      addresses = All-push IsAddress places at m.addresses ok;
      once = once-push places at m.once fresh;
    }
  where
    fresh : list_any (λ p. number_of p == number_of at) places ≡ false
    fresh = sym (m.marks (number_of at)) ∙ not-true (get_or old (number_of at) false) (sym first)

    small : number_of at < length old
    small = let n : number_of at < 32768 = number-small at ok in let s : length old ≡ 32768 = m.size in omega arith

    or_true : (b : Bool) → (b || (true || false)) ≡ true
    or_true true = refl
    or_true false = refl

    or_false : (b : Bool) → (b || (false || false)) ≡ b
    or_false true = refl
    or_false false = refl

    by_number : (k : ℕ) → (k ≡ number_of at) ⊎ (k ≡ number_of at → ⊥) → get_or (set old (number_of at) true) k false ≡ list_any (λ p. number_of p == k) (places ++ at ∷ [])
    by_number k (inl here) =
        let is : (number_of at == k) ≡ true = eq-eqb (number_of at) k (sym here) in
        ap (λ (n : ℕ). get_or (set old (number_of at) true) n false) here ∙ get_or-set_same old (number_of at) true false small
        ∙ sym (list_any-append (λ p. number_of p == k) places (at ∷ []) ∙ ap (λ (b : Bool). list_any (λ p. number_of p == k) places || (b || false)) is ∙ or_true _)
    by_number k (inr other) =
        let is : (number_of at == k) ≡ false = ne_eqb (number_of at) k (λ e. other (sym e)) in
        get_or-set_other old (number_of at) k true false other ∙ m.marks k
        ∙ sym (list_any-append (λ p. number_of p == k) places (at ∷ []) ∙ ap (λ (b : Bool). list_any (λ p. number_of p == k) places || (b || false)) is ∙ or_false _)

pub marked-twice : (places rest : List Spot) (o : Option Spot) (old new : List Bool) → AreMarked places old → Marks o old new false → none_twice (places ++ (option_to_list o ++ rest)) ≡ false
marked-twice places rest None old new m (same, first) = absurd (true≢false (sym first))
marked-twice places rest (Some at) old new m (set_at, first, ok) =
    found-twice places rest at m.addresses ok (sym (m.marks (number_of at)) ∙ not-false (get_or old (number_of at) false) (sym first))
