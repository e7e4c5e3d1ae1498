-- Faults of the three kinds mask by form.
use Rattle.std.proofs.Common.{◌≡◌, ℕ, zero, suc, ◌+◌, ◌*◌, ◌/◌, ◌%◌, ◌^◌, Bool, true, false, not, ◌&&◌, ◌||◌, cond, ◌==◌, List, [], ◌∷◌, ◌⊎◌, inl, inr, refl, sym, ap, ◌∙◌, arith}
use Rattle.std.specs.Prelude.{Option, None, Some, is_none, nat_lt, nat_le, find, filter_map}
use Rattle.std.specs.List.{list_any, list_all, cons_option}
use Rattle.std.proofs.lemmas.Bool.{true≢false, eqb-true, eq-eqb, and_from, and_parts, or_cases, or_left, or_right, or_from, not-true, not_from_false, false_from_ne_true}
use Rattle.lvdc_word.specs.Cell.{ones}
use Rattle.lvdc_map.specs.Address.{Spot, is_same}
use Rattle.lvdc_fault.specs.Script.{first_of, makes_wrong, is_within, is_wrong, two_wrong, wrong_module}
use Rattle.lvdc_fault.specs.declared.event.Event.{Event}
use Rattle.lvdc_fault.specs.declared.event.Event.TheVariants.{Flip, Force, Lag, Deaf, Damage, Stick, Dead}
use Rattle.lvdc_withstands.specs.Form.{lines_in, one_wrong_before, is_duplex_pair, is_duplex, is_seen, is_lasting, place_of, none_twice, names_twin, kills_in, is_one_sound, masks}
use Rattle.lvdc_withstands.specs.Kinds.{is_in_copy, is_death, is_bit_damage, is_of_three, OneBitEach, AllThree}

-- ---- lists of lines

pub all_implied : (p q : Event → Bool) → ((e : Event) → p e ≡ true → q e ≡ true) → (lines : List Event) → list_all p lines ≡ true → list_all q lines ≡ true
all_implied p q implied [] h = refl
all_implied p q implied (e ∷ es) h =
    let parts = and_parts (p e) (list_all p es) h in
    and_from (q e) (list_all q es) (implied e parts.0) (all_implied p q implied es parts.1)

all_in : (count : ℕ) (p : Event → Bool) (script : List Event) → list_all p script ≡ true → list_all p (lines_in count script) ≡ true
all_in count p [] h = refl
all_in count p (e ∷ es) h = by_run (nat_lt (first_of e) (3 * count)) (all_in count p es parts.1)
  where
    parts : (p e ≡ true) × (list_all p es ≡ true)
    parts = and_parts (p e) (list_all p es) h

    by_run : (b : Bool) → list_all p (lines_in count es) ≡ true → list_all p (cond b (e ∷ lines_in count es) (lines_in count es)) ≡ true
    by_run true more = and_from (p e) (list_all p (lines_in count es)) parts.0 more
    by_run false more = more

-- places that aren't named in a script aren't in its run
none_in : (count : ℕ) (p : Spot → Bool) (script : List Event) → list_any p (filter_map place_of script) ≡ false → list_any p (filter_map place_of (lines_in count script)) ≡ false
none_in count p [] h = refl
none_in count p (e ∷ es) h = by_place (place_of e) h (none_in count p es) (nat_lt (first_of e) (3 * count))
  where
    rest : List Spot
    rest = filter_map place_of (lines_in count es)

    by_run : (o : Option Spot) (b : Bool) → list_any p (cons_option o rest) ≡ false → list_any p rest ≡ false → place_of e ≡ o
        → list_any p (filter_map place_of (cond b (e ∷ lines_in count es) (lines_in count es))) ≡ false
    by_run o true both more is = ap (λ (o : Option Spot). list_any p (cons_option o rest)) is ∙ both
    by_run o false both more is = more

    by_place : (o : Option Spot) → list_any p (cons_option (place_of e) (filter_map place_of es)) ≡ false → (list_any p (filter_map place_of es) ≡ false → list_any p rest ≡ false)
        → (b : Bool) → list_any p (filter_map place_of (cond b (e ∷ lines_in count es) (lines_in count es))) ≡ false
    by_place o none more b = by_case (place_of e) refl none
      where
        by_case : (o : Option Spot) → place_of e ≡ o → list_any p (cons_option o (filter_map place_of es)) ≡ false
            → list_any p (filter_map place_of (cond b (e ∷ lines_in count es) (lines_in count es))) ≡ false
        by_case None is k = by_run None b (more k) (more k) is
        by_case (Some at) is k = by_test (p at) refl k
          where
            by_test : (t : Bool) → p at ≡ t → (t || list_any p (filter_map place_of es)) ≡ false
                → list_any p (filter_map place_of (cond b (e ∷ lines_in count es) (lines_in count es))) ≡ false
            by_test true is_true k = absurd (true≢false k)
            by_test false is_false k = by_run (Some at) b (or_from (p at) (list_any p rest) is_false (more k)) (more k) is

once_in : (count : ℕ) (script : List Event) → none_twice (filter_map place_of script) ≡ true → none_twice (filter_map place_of (lines_in count script)) ≡ true
once_in count [] h = refl
once_in count (e ∷ es) h = by_place (place_of e) refl h (once_in count es) (nat_lt (first_of e) (3 * count))
  where
    rest : List Spot
    rest = filter_map place_of (lines_in count es)

    by_place : (o : Option Spot) → place_of e ≡ o → none_twice (cons_option o (filter_map place_of es)) ≡ true
        → (none_twice (filter_map place_of es) ≡ true → none_twice rest ≡ true) → (b : Bool)
        → none_twice (filter_map place_of (cond b (e ∷ lines_in count es) (lines_in count es))) ≡ true
    by_place None is k more true = ap (λ (o : Option Spot). none_twice (cons_option o rest)) is ∙ more k
    by_place None is k more false = more k
    by_place (Some at) is k more b = by_run b
      where
        parts : (not (list_any (is_same at) (filter_map place_of es)) ≡ true) × (none_twice (filter_map place_of es) ≡ true)
        parts = and_parts (not (list_any (is_same at) (filter_map place_of es))) (none_twice (filter_map place_of es)) k

        by_run : (b : Bool) → none_twice (filter_map place_of (cond b (e ∷ lines_in count es) (lines_in count es))) ≡ true
        by_run false = more parts.1
        by_run true =
            ap (λ (o : Option Spot). none_twice (cons_option o rest)) is
            ∙ and_from (not (list_any (is_same at) rest)) (none_twice rest)
            (not_from_false (list_any (is_same at) rest) (none_in count (is_same at) es (not-true (list_any (is_same at) (filter_map place_of es)) parts.0))) (more parts.1)

-- ---- each kind by itself

odd_one : (x y : ℕ) → x + y ≡ 1 → (x % 2 == 1 || y % 2 == 1) ≡ true
odd_one zero y e = or_right (0 % 2 == 1) (y % 2 == 1) (eq-eqb (y % 2) 1 (omega arith))
odd_one (suc x) y e = or_left (suc x % 2 == 1) (y % 2 == 1) (eq-eqb (suc x % 2) 1 (omega arith))

module _ (copy : ℕ → ℕ) (banks count twin : ℕ) where
  abbrev Of : Event → Type 0
  Of e = is_of_three copy banks count twin e ≡ true

  -- a copy fault is neither a death nor damage, and so on
  left : (x : Bool) → ((x || false) || false) ≡ true → x ≡ true
  left true h = refl
  left false h = h

  middle : (x : Bool) → ((false || x) || false) ≡ true → x ≡ true
  middle true h = refl
  middle false h = h

  three_duplex : (e : Event) → Of e → is_duplex banks e ≡ true
  three_duplex (Damage w at t mask) h = (and_parts (w == twin) (is_duplex_pair banks at.pair) (and_parts (w == twin && is_duplex_pair banks at.pair) _ h).0).1
  three_duplex (Dead w pair first last) h =
      (and_parts (w == twin) (is_duplex_pair banks pair) (and_parts (w == twin && is_duplex_pair banks pair) (nat_le (3 * count) (last + 1)) (middle _ h)).0).1
  three_duplex (Stick w at first last mask value) h = absurd (true≢false (sym h))
  three_duplex _ h = refl

  three_seen : (e : Event) → Of e → is_seen e ≡ true
  three_seen (Damage w at t mask) h =
      odd_one (ones 14 (mask / 2 ^ 14)) (ones 14 (mask % 2 ^ 14))
      (eqb-true (ones 14 (mask / 2 ^ 14) + ones 14 (mask % 2 ^ 14)) 1 (and_parts (w == twin && is_duplex_pair banks at.pair) _ h).1)
  three_seen (Dead w pair first last) h = refl
  three_seen (Stick w at first last mask value) h = absurd (true≢false (sym h))
  three_seen _ h = refl

  three_lasting : (e : Event) → Of e → is_lasting count e ≡ true
  three_lasting (Damage w at t mask) h = refl
  three_lasting (Dead w pair first last) h = (and_parts (w == twin && is_duplex_pair banks pair) (nat_le (3 * count) (last + 1)) (middle _ h)).1
  three_lasting (Stick w at first last mask value) h = absurd (true≢false (sym h))
  three_lasting _ h = refl

  -- the twin that it names
  three_twin : (pair w : ℕ) (e : Event) → Of e → names_twin pair w e ≡ true → w ≡ twin
  three_twin pair w (Damage v at t mask) h names =
      sym (eqb-true v w (and_parts (at.pair == pair) (v == w) names).1)
      ∙ eqb-true v twin (and_parts (v == twin) (is_duplex_pair banks at.pair) (and_parts (v == twin && is_duplex_pair banks at.pair) _ h).0).0
  three_twin pair w (Dead v p first last) h names =
      sym (eqb-true v w (and_parts (p == pair) (v == w) names).1)
      ∙ eqb-true v twin (and_parts (v == twin) (is_duplex_pair banks p) (and_parts (v == twin && is_duplex_pair banks p) (nat_le (3 * count) (last + 1)) (middle _ h)).0).0
  three_twin pair w (Stick v at first last mask value) h names = absurd (true≢false (sym h))
  three_twin pair w _ h names = absurd (true≢false (sym names))

  -- the copy that it hurts
  copy_of_three : (number c : ℕ) (m d : ℕ) (within : Bool) → ((c == copy number || false) || false) ≡ true → ((number == m && c == d) && within) ≡ true → d ≡ copy m
  copy_of_three number c m d within h hit =
      let both = and_parts (number == m) (c == d) (and_parts (number == m && c == d) within hit).0 in
      sym (eqb-true c d both.1) ∙ eqb-true c (copy number) (left (c == copy number) h) ∙ ap copy (eqb-true number m both.0)

  three_copy : (step m d : ℕ) (e : Event) → Of e → makes_wrong step m d e ≡ true → d ≡ copy m
  three_copy step m d (Flip number c first last index mask) h hit = copy_of_three number c m d (is_within first last step) h hit
  three_copy step m d (Force number c first last index mask value) h hit = copy_of_three number c m d (is_within first last step) h hit
  three_copy step m d (Lag number c first last) h hit = copy_of_three number c m d (is_within first last step) h hit
  three_copy step m d (Deaf number c first last) h hit = copy_of_three number c m d (is_within first last step) h hit
  three_copy step m d _ h hit = absurd (true≢false (sym hit))

  -- ---- all lines

  any_of : {X : Type 0} (q : Event → Bool) (x y : X) → ((e : Event) → Of e → q e ≡ true → x ≡ y) → (lines : List Event)
      → list_all (is_of_three copy banks count twin) lines ≡ true → list_any q lines ≡ true → x ≡ y
  any_of q x y implied [] all h = absurd (true≢false (sym h))
  any_of q x y implied (e ∷ es) all h = by_head (any_of q x y implied es parts.1) (or_cases (q e) (list_any q es) h)
    where
      parts : (is_of_three copy banks count twin e ≡ true) × (list_all (is_of_three copy banks count twin) es ≡ true)
      parts = and_parts (is_of_three copy banks count twin e) (list_all (is_of_three copy banks count twin) es) all

      by_head : (list_any q es ≡ true → x ≡ y) → (q e ≡ true) ⊎ (list_any q es ≡ true) → x ≡ y
      by_head more (inl here) = implied e parts.0 here
      by_head more (inr there) = more there

  module _ (script : List Event) (all : list_all (is_of_three copy banks count twin) script ≡ true) where
    wrong_copy : (step m d : ℕ) → is_wrong script step m d ≡ true → d ≡ copy m
    wrong_copy step m d h = any_of (makes_wrong step m d) d (copy m) (three_copy step m d) script all h

    not_two : (step m c d : ℕ) → (c ≡ d → ⊥) → (is_wrong script step m c && is_wrong script step m d) ≡ false
    not_two step m c d differ =
        false_from_ne_true (is_wrong script step m c && is_wrong script step m d)
        (λ h. let both = and_parts (is_wrong script step m c) (is_wrong script step m d) h in
        differ (wrong_copy step m c both.0 ∙ sym (wrong_copy step m d both.1)))

    never_two : (step m : ℕ) → two_wrong script step m ≡ false
    never_two step m =
        or_from ((is_wrong script step m 1 && is_wrong script step m 2) || (is_wrong script step m 1 && is_wrong script step m 3)) (is_wrong script step m 2 && is_wrong script step m 3)
        (or_from (is_wrong script step m 1 && is_wrong script step m 2) (is_wrong script step m 1 && is_wrong script step m 3)
        (not_two step m 1 2 (λ e. omega arith)) (not_two step m 1 3 (λ e. omega arith))) (not_two step m 2 3 (λ e. omega arith))

    none_found : (step : ℕ) (numbers : List ℕ) → find (two_wrong script step) numbers ≡ None
    none_found step [] = refl
    none_found step (m ∷ ms) = rw (never_two step m) (none_found step ms)

    one_wrong : (n : ℕ) → one_wrong_before script n ≡ true
    one_wrong zero = refl
    one_wrong (suc n) =
        and_from (one_wrong_before script n) (is_none (wrong_module script n)) (one_wrong n)
        (ap (λ (o : Option ℕ). is_none o) (none_found n (1 ∷ 2 ∷ 3 ∷ 4 ∷ 5 ∷ 6 ∷ 7 ∷ [])))

    -- not both twins are named
    one_sound : (lines : List Event) → list_all (is_of_three copy banks count twin) lines ≡ true → (pair : ℕ) → is_one_sound lines pair ≡ true
    one_sound lines in_lines pair =
        not_from_false _ (false_from_ne_true (list_any (kills_in pair) lines && list_any (names_twin pair 0) lines && list_any (names_twin pair 1) lines)
        (λ h. let outer = and_parts (list_any (kills_in pair) lines && list_any (names_twin pair 0) lines) (list_any (names_twin pair 1) lines) h in
        let zeroth : 0 ≡ twin = any_of (names_twin pair 0) 0 twin (three_twin pair 0) lines in_lines (and_parts (list_any (kills_in pair) lines) (list_any (names_twin pair 0) lines) outer.0).1 in
        let first : 1 ≡ twin = any_of (names_twin pair 1) 1 twin (three_twin pair 1) lines in_lines outer.1 in
        omega arith))

    pub three-mask : none_twice (filter_map place_of script) ≡ true → masks script banks count ≡ true
    three-mask once =
        let lines : List Event = lines_in count script in
        let in_lines = all_in count (is_of_three copy banks count twin) script all in
        let sound = one_sound lines in_lines in
        and_from _ _ (one_wrong (3 * count))
        (and_from _ _ (all_implied (is_of_three copy banks count twin) (is_duplex banks) three_duplex lines in_lines)
        (and_from _ _ (and_from _ _ (all_implied (is_of_three copy banks count twin) is_seen three_seen lines in_lines) (once_in count script once))
        (and_from _ _ (and_from _ _ (all_implied (is_of_three copy banks count twin) (is_lasting count) three_lasting lines in_lines)
        (and_from _ _ (sound 0) (and_from _ _ (sound 1) (and_from _ _ (sound 2) (and_from _ _ (sound 3) refl))))) refl)))

-- ---- lines without a place

pub no_places : (p : Event → Bool) → ((e : Event) → p e ≡ true → place_of e ≡ None) → (script : List Event) → list_all p script ≡ true → none_twice (filter_map place_of script) ≡ true
no_places p none [] h = refl
no_places p none (e ∷ es) h =
    let parts = and_parts (p e) (list_all p es) h in
    ap (λ (o : Option Spot). none_twice (cons_option o (filter_map place_of es))) (none e parts.0) ∙ no_places p none es parts.1

pub copy_placeless : (copy : ℕ → ℕ) (e : Event) → is_in_copy copy e ≡ true → place_of e ≡ None
copy_placeless copy (Damage w at t mask) h = absurd (true≢false (sym h))
copy_placeless copy (Stick w at first last mask value) h = absurd (true≢false (sym h))
copy_placeless copy _ h = refl

pub death_placeless : (banks count twin : ℕ) (e : Event) → is_death banks count twin e ≡ true → place_of e ≡ None
death_placeless banks count twin (Damage w at t mask) h = absurd (true≢false (sym h))
death_placeless banks count twin (Stick w at first last mask value) h = absurd (true≢false (sym h))
death_placeless banks count twin _ h = refl

-- ---- the corollaries

pub copies-mask : (copy : ℕ → ℕ) (banks count : ℕ) (script : List Event) → list_all (is_in_copy copy) script ≡ true → masks script banks count ≡ true
copies-mask copy banks count script all =
    three-mask copy banks count 0 script
    (all_implied (is_in_copy copy) (is_of_three copy banks count 0)
    (λ e h. or_left (is_in_copy copy e || is_death banks count 0 e) (is_bit_damage banks 0 e) (or_left (is_in_copy copy e) (is_death banks count 0 e) h)) script all)
    (no_places (is_in_copy copy) (copy_placeless copy) script all)

pub dead-mask : (banks count twin : ℕ) (script : List Event) → list_all (is_death banks count twin) script ≡ true → masks script banks count ≡ true
dead-mask banks count twin script all =
    let copy : ℕ → ℕ = λ _. 1 in
    three-mask copy banks count twin script
    (all_implied (is_death banks count twin) (is_of_three copy banks count twin)
    (λ e h. or_left (is_in_copy copy e || is_death banks count twin e) (is_bit_damage banks twin e) (or_right (is_in_copy copy e) (is_death banks count twin e) h)) script all)
    (no_places (is_death banks count twin) (death_placeless banks count twin) script all)

pub bits-mask : (banks count twin : ℕ) (script : List Event) → OneBitEach banks twin script → masks script banks count ≡ true
bits-mask banks count twin script b =
    let copy : ℕ → ℕ = λ _. 1 in
    three-mask copy banks count twin script
    (all_implied (is_bit_damage banks twin) (is_of_three copy banks count twin)
    (λ e h. or_right (is_in_copy copy e || is_death banks count twin e) (is_bit_damage banks twin e) h) script b.bits) b.once

pub all-mask : (copy : ℕ → ℕ) (banks count twin : ℕ) (script : List Event) → AllThree copy banks count twin script → masks script banks count ≡ true
all-mask copy banks count twin script a = three-mask copy banks count twin script a.kinds a.once
