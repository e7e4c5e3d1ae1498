-- Which twins die under a script, and which no line names.
use Rattle.std.proofs.Common.{◌≡◌, ℕ, ◌*◌, ◌<◌, ◌≤◌, Bool, true, false, not, ◌&&◌, cond, ◌==◌, List, [], ◌∷◌, ◌⊎◌, inl, inr, sym, ap, ◌∙◌, arith}
use Rattle.std.specs.Prelude.{nat_lt, nat_le}
use Rattle.std.specs.List.{list_any, list_all}
use Rattle.std.proofs.lemmas.Bool.{true≢false, eqb-true, lt-ltb, leb-true, or_cases, or_left, or_right, and_from, and_parts, not-true, false_from_ne_true}
use Rattle.lvdc_map.specs.Banks.{is_simplex}
use Rattle.lvdc_fault.specs.Script.{is_within, first_of}
use Rattle.lvdc_fault.specs.Damage.{kills, is_dead}
use Rattle.lvdc_fault.specs.declared.event.Event.{Event}
use Rattle.lvdc_fault.specs.declared.event.Event.TheVariants.{Damage, Stick, Dead}
use Rattle.lvdc_withstands.specs.Form.{lines_in, is_duplex_pair, is_duplex, names_twin, kills_in, is_one_sound}
use Rattle.lvdc_withstands.proofs.Lined.{none-pass}

-- ---- some line and all lines

-- a line of the script that passes one test is a line of the run that passes another one
pub any_line : (count : ℕ) (p q : Event → Bool) → ((e : Event) → p e ≡ true → (nat_lt (first_of e) (3 * count) ≡ true) × (q e ≡ true))
    → (script : List Event) → list_any p script ≡ true → list_any q (lines_in count script) ≡ true
any_line count p q implied [] h = h
any_line count p q implied (e ∷ es) h = by_head (any_line count p q implied es) (or_cases (p e) (list_any p es) h)
  where
    rest : List Event
    rest = lines_in count es

    later : (b : Bool) → list_any q rest ≡ true → list_any q (cond b (e ∷ rest) rest) ≡ true
    later true k = or_right (q e) (list_any q rest) k
    later false k = k

    by_head : (list_any p es ≡ true → list_any q rest ≡ true) → (p e ≡ true) ⊎ (list_any p es ≡ true) → list_any q (cond (nat_lt (first_of e) (3 * count)) (e ∷ rest) rest) ≡ true
    by_head more (inl here) =
        let both = implied e here in
        rw both.0 (or_left (q e) (list_any q rest) both.1)
    by_head more (inr there) = later (nat_lt (first_of e) (3 * count)) (more there)

-- ---- dead twins

-- a line that kills a twin in a step of the run is in the run
pub kills-begins : (count step twin pair : ℕ) → step < 3 * count → (e : Event) → kills step twin pair e ≡ true → nat_lt (first_of e) (3 * count) ≡ true
kills-begins count step twin pair below (Dead w p first last) h =
    let within = (and_parts (w == twin && p == pair) (is_within first last step) h).1 in
    let begun : first ≤ step = leb-true first step (and_parts (nat_le first step) (nat_le step last) within).0 in
    lt-ltb first (3 * count) (omega arith)
kills-begins count step twin pair below _ h = absurd (true≢false (sym h))

kills_here : (step twin pair : ℕ) (e : Event) → kills step twin pair e ≡ true → kills_in pair e ≡ true
kills_here step twin pair (Dead w p first last) h = (and_parts (w == twin) (p == pair) (and_parts (w == twin && p == pair) (is_within first last step) h).0).1
kills_here step twin pair _ h = h

kills_names : (step twin pair : ℕ) (e : Event) → kills step twin pair e ≡ true → names_twin pair twin e ≡ true
kills_names step twin pair (Dead w p first last) h =
    let both = and_parts (w == twin) (p == pair) (and_parts (w == twin && p == pair) (is_within first last step) h).0 in
    and_from (p == pair) (w == twin) both.1 both.0
kills_names step twin pair _ h = absurd (true≢false (sym h))

-- a twin that is dead at a step of the run dies by a line of the run, and is named by it
pub dead-dies : (count step twin pair : ℕ) (script : List Event) → step < 3 * count → is_dead script step twin pair ≡ true → list_any (kills_in pair) (lines_in count script) ≡ true
dead-dies count step twin pair script below h =
    any_line count (kills step twin pair) (kills_in pair) (λ e k. (kills-begins count step twin pair below e k, kills_here step twin pair e k)) script h

pub dead-named : (count step twin pair : ℕ) (script : List Event) → step < 3 * count → is_dead script step twin pair ≡ true → list_any (names_twin pair twin) (lines_in count script) ≡ true
dead-named count step twin pair script below h =
    any_line count (kills step twin pair) (names_twin pair twin) (λ e k. (kills-begins count step twin pair below e k, kills_names step twin pair e k)) script h

-- ---- twins that no line names

-- no line names a twin of a simplex pair
duplex_named : (banks pair twin : ℕ) → pair < 4 → is_simplex banks pair ≡ true → (e : Event) → is_duplex banks e ≡ true → names_twin pair twin e ≡ false
duplex_named banks pair twin small simplex e duplex = false_from_ne_true (names_twin pair twin e) (clash e duplex)
  where
    other : (p : ℕ) → is_duplex_pair banks p ≡ true → (p == pair) ≡ true → ⊥
    other p duplex here = by_case (eqb-true p pair here) (or_cases (nat_le 4 p) (not (is_simplex banks p)) duplex)
      where
        by_case : p ≡ pair → (nat_le 4 p ≡ true) ⊎ (not (is_simplex banks p) ≡ true) → ⊥
        by_case same (inl high) = let above : 4 ≤ p = leb-true 4 p high in omega arith
        by_case same (inr not_simplex) = true≢false (sym simplex ∙ ap (is_simplex banks) (sym same) ∙ not-true (is_simplex banks p) not_simplex)

    clash : (e : Event) → is_duplex banks e ≡ true → names_twin pair twin e ≡ true → ⊥
    clash (Damage w at t mask) d h = other at.pair d (and_parts (at.pair == pair) (w == twin) h).0
    clash (Stick w at first last mask value) d h = other at.pair d (and_parts (at.pair == pair) (w == twin) h).0
    clash (Dead w p first last) d h = other p d (and_parts (p == pair) (w == twin) h).0
    clash _ d h = true≢false (sym h)

pub simplex-unnamed : (banks pair twin : ℕ) (lines : List Event) → pair < 4 → is_simplex banks pair ≡ true → list_all (is_duplex banks) lines ≡ true → list_any (names_twin pair twin) lines ≡ false
simplex-unnamed banks pair twin lines small simplex all = none-pass (names_twin pair twin) (is_duplex banks) (duplex_named banks pair twin small simplex) lines all

-- where both twins of a pair are named, none dies
pub both-live : (pair : ℕ) (lines : List Event) → is_one_sound lines pair ≡ true → list_any (names_twin pair 0) lines ≡ true → list_any (names_twin pair 1) lines ≡ true
    → list_any (kills_in pair) lines ≡ false
both-live pair lines sound zeroth first =
    false_from_ne_true (list_any (kills_in pair) lines)
    (λ dies. true≢false (sym (and_from (list_any (kills_in pair) lines && list_any (names_twin pair 0) lines) (list_any (names_twin pair 1) lines)
    (and_from (list_any (kills_in pair) lines) (list_any (names_twin pair 0) lines) dies zeroth) first)
    ∙ not-true (list_any (kills_in pair) lines && list_any (names_twin pair 0) lines && list_any (names_twin pair 1) lines) sound))
