-- Under a script that masks by form whatever program runs repairs its damage: there is none to be repaired in time.
use Rattle.std.proofs.Common.{◌≡◌, ℕ, ◌-◌, ◌*◌, Bool, true, false, not, ◌&&◌, ◌||◌, List, [], ◌∷◌, Option, None, Some, refl, ap, ◌∙◌, arith}
use Rattle.std.specs.Prelude.{filter_map}
use Rattle.std.specs.List.{list_any, list_all, cons_option}
use Rattle.std.proofs.lemmas.Bool.{true≢false, or_left, and_from, and_parts, not-true, not_from_false}
use Rattle.lvdc_map.specs.Address.{Spot, is_same}
use Rattle.lvdc_fault.specs.declared.event.Event.{Event}
use Rattle.lvdc_fault.specs.declared.event.Event.TheVariants.{Damage}
use Rattle.lvdc_withstands.specs.Form.{lines_in, one_wrong_before, is_duplex, is_seen, is_lasting, place_of, none_twice, is_one_sound, is_met, masks}
use Rattle.lvdc_withstands.specs.declared.condition.Condition.{Condition}
use Rattle.lvdc_withstands.specs.declared.condition.Condition.TheVariants.{Copies, Pairs, Places, Deaths}
use Rattle.lvdc_model.specs.Trial.{Trial}
use Rattle.lvdc_withstands.specs.Touches.{touches_between}
use Rattle.lvdc_withstands.specs.Repairs.{is_lasting_in, is_limited, is_one_place, are_apart, each_two, repairs}
use Rattle.lvdc_withstands.proofs.Lasting.{lasts}

-- ---- lines that name two places

two_places : (apart : Spot → ℕ → ℕ → Bool) (e f : Event) → is_one_place (place_of e) (place_of f) ≡ false → are_apart apart e f ≡ true
two_places apart (Damage w at t mask) (Damage v place u turned) h = or_left (not (is_same at place)) (apart at t u) (not_from_false (is_same at place) h)
two_places apart (Damage w at t mask) _ h = not_from_false _ h
two_places apart _ f h = not_from_false _ h

others : (apart : Spot → ℕ → ℕ → Bool) (e : Event) (es : List Event) → list_any (λ f. is_one_place (place_of e) (place_of f)) es ≡ false → list_all (are_apart apart e) es ≡ true
others apart e [] h = refl
others apart e (f ∷ fs) h = by_head (others apart e fs) (is_one_place (place_of e) (place_of f)) refl h
  where
    by_head : (list_any (λ f. is_one_place (place_of e) (place_of f)) fs ≡ false → list_all (are_apart apart e) fs ≡ true) → (b : Bool) → is_one_place (place_of e) (place_of f) ≡ b → (b || list_any (λ f. is_one_place (place_of e) (place_of f)) fs) ≡ false → (are_apart apart e f && list_all (are_apart apart e) fs) ≡ true
    by_head more true is h = absurd (true≢false h)
    by_head more false is h = and_from (are_apart apart e f) (list_all (are_apart apart e) fs) (two_places apart e f is) (more h)

placeless : (es : List Event) → list_any (λ f. is_one_place None (place_of f)) es ≡ false
placeless [] = refl
placeless (f ∷ fs) = placeless fs

placed : (at : Spot) (es : List Event) → list_any (is_same at) (filter_map place_of es) ≡ false → list_any (λ f. is_one_place (Some at) (place_of f)) es ≡ false
placed at [] h = refl
placed at (f ∷ fs) h = by_place (placed at fs) (place_of f) h
  where
    by_place : (list_any (is_same at) (filter_map place_of fs) ≡ false → list_any (λ f. is_one_place (Some at) (place_of f)) fs ≡ false) → (p : Option Spot)
        → list_any (is_same at) (cons_option p (filter_map place_of fs)) ≡ false → (is_one_place (Some at) p || list_any (λ f. is_one_place (Some at) (place_of f)) fs) ≡ false
    by_place more None h = more h
    by_place more (Some place) h = by_test (is_same at place) h
      where
        by_test : (b : Bool) → (b || list_any (is_same at) (filter_map place_of fs)) ≡ false → (b || list_any (λ f. is_one_place (Some at) (place_of f)) fs) ≡ false
        by_test true k = k
        by_test false k = more k

once-apart : (apart : Spot → ℕ → ℕ → Bool) (lines : List Event) → none_twice (filter_map place_of lines) ≡ true → each_two (are_apart apart) lines ≡ true
once-apart apart [] h = refl
once-apart apart (e ∷ es) h = by_place (once-apart apart es) (place_of e) refl h
  where
    by_place : (none_twice (filter_map place_of es) ≡ true → each_two (are_apart apart) es ≡ true) → (p : Option Spot) → place_of e ≡ p
        → none_twice (cons_option p (filter_map place_of es)) ≡ true → (list_all (are_apart apart e) es && each_two (are_apart apart) es) ≡ true
    by_place more None is h =
        and_from (list_all (are_apart apart e) es) (each_two (are_apart apart) es)
        (others apart e es (ap (λ (p : Option Spot). list_any (λ f. is_one_place p (place_of f)) es) is ∙ placeless es)) (more h)
    by_place more (Some at) is h =
        let parts = and_parts (not (list_any (is_same at) (filter_map place_of es))) (none_twice (filter_map place_of es)) h in
        and_from (list_all (are_apart apart e) es) (each_two (are_apart apart) es)
        (others apart e es (ap (λ (p : Option Spot). list_any (λ f. is_one_place p (place_of f)) es) is ∙ placed at es (not-true _ parts.0))) (more parts.1)

-- ---- the form, part by part

pub form-repairs : (o : Trial) (count : ℕ) → masks o.script o.opening.banks count ≡ true → repairs o count ≡ true
form-repairs o count h =
    and_from (is_limited o.script o.opening.banks count) (each_two (are_apart (touches_between o)) lines)
    (and_from (a && b && c && list_all (is_lasting_in o.script count) (0 ∷ 1 ∷ 2 ∷ 3 ∷ [])) f
    (and_from (a && b && c) (list_all (is_lasting_in o.script count) (0 ∷ 1 ∷ 2 ∷ 3 ∷ []))
    (and_from (a && b) c (and_from a b copies.0 pairs.0) each.0) (lasting twins.0)) twins.1)
    (once-apart (touches_between o) lines each.1)
  where
    lines : List Event
    lines = lines_in count o.script

    a : Bool
    a = one_wrong_before o.script (3 * count)

    b : Bool
    b = list_all (is_duplex o.opening.banks) lines

    c : Bool
    c = list_all is_seen lines

    d : Bool
    d = none_twice (filter_map place_of lines)

    e : Bool
    e = list_all (is_lasting count) lines

    f : Bool
    f = list_all (is_one_sound lines) (0 ∷ 1 ∷ 2 ∷ 3 ∷ [])

    met : Condition → Bool
    met = is_met o.script o.opening.banks count

    copies : (a ≡ true) × (met Pairs && (met Places && (met Deaths && true)) ≡ true)
    copies = and_parts a (met Pairs && (met Places && (met Deaths && true))) h

    pairs : (b ≡ true) × (met Places && (met Deaths && true) ≡ true)
    pairs = and_parts b (met Places && (met Deaths && true)) copies.1

    places : (c && d ≡ true) × (met Deaths && true ≡ true)
    places = and_parts (c && d) (met Deaths && true) pairs.1

    deaths : (e && f ≡ true) × (true ≡ true)
    deaths = and_parts (e && f) true places.1

    each : (c ≡ true) × (d ≡ true)
    each = and_parts c d places.0

    twins : (e ≡ true) × (f ≡ true)
    twins = and_parts e f deaths.0

    in_pair : e ≡ true → (pair : ℕ) → is_lasting_in o.script count pair ≡ true
    in_pair h pair =
        and_from _ _ (lasts count 0 pair o.script h (3 * count - 1) (omega arith)) (lasts count 1 pair o.script h (3 * count - 1) (omega arith))

    lasting : e ≡ true → list_all (is_lasting_in o.script count) (0 ∷ 1 ∷ 2 ∷ 3 ∷ []) ≡ true
    lasting h = rw (in_pair h 0, in_pair h 1, in_pair h 2, in_pair h 3) refl
