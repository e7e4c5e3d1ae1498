-- The places that lines name, one line after another.
use Rattle.std.proofs.Common.{◌≡◌, ℕ, suc, ◌+◌, ◌<◌, Bool, true, false, List, [], ◌∷◌, ◌++◌, length, take, drop, get_or, Option, None, Some, is_some, ◌||◌, refl, sym, ap, ◌∙◌, subst, drop-cons}
use Rattle.std.specs.Prelude.{filter_map}
use Rattle.std.specs.List.{cons_option, list_any}
use Rattle.std.specs.Option.{option_to_list}
use Rattle.std.proofs.lemmas.List.{take-append-drop}
use Rattle.std.proofs.lemmas.List.Elements.{filter_map-append}
use Rattle.lvdc_map.specs.Address.{Spot}
use Rattle.lvdc_fault.specs.declared.event.Event.{Event}
use Rattle.lvdc_withstands.specs.Form.{place_of, none_twice}
use Rattle.lvdc_withstands.specs.Places.{Marks, AreMarked}
use Rattle.lvdc_withstands.proofs.Sweeps.{taken}
use Rattle.lvdc_withstands.proofs.Marking.{marked-next, marked-twice}

cons-list : (o : Option Spot) (rest : List Spot) → cons_option o rest ≡ option_to_list o ++ rest
cons-list None rest = refl
cons-list (Some at) rest = refl

append-nil : (xs : List Spot) → xs ++ [] ≡ xs
append-nil [] = refl
append-nil (x ∷ xs) = ap (λ (ys : List Spot). x ∷ ys) (append-nil xs)

module _ (lines : List Event) (i : ℕ) (e : Event) (old new : List Bool) (within : i < length lines) (is : e ≡ get_or lines i e)
    (m : AreMarked (filter_map place_of (take i lines)) old) where
  pub named-next : Marks (place_of e) old new true → AreMarked (filter_map place_of (take (i + 1) lines)) new
  named-next marks =
      subst (λ (places : List Spot). AreMarked places new)
      (sym (ap (filter_map place_of) (taken lines i e within is) ∙ filter_map-append place_of (take i lines) (e ∷ [])
      ∙ ap (λ (xs : List Spot). filter_map place_of (take i lines) ++ xs) (cons-list (place_of e) [] ∙ append-nil (option_to_list (place_of e)))))
      (marked-next (filter_map place_of (take i lines)) (place_of e) old new m marks)

  pub named-twice : Marks (place_of e) old new false → false ≡ none_twice (filter_map place_of lines)
  named-twice marks =
      let rest : List Event = drop (suc i) lines in
      let whole : lines ≡ take i lines ++ e ∷ rest =
      sym (take-append-drop i lines) ∙ ap (λ (xs : List Event). take i lines ++ xs) (drop-cons lines i e within) ∙ ap (λ (x : Event). take i lines ++ x ∷ rest) (sym is) in
      sym (ap (λ (xs : List Event). none_twice (filter_map place_of xs)) whole
      ∙ ap none_twice (filter_map-append place_of (take i lines) (e ∷ rest))
      ∙ ap (λ (xs : List Spot). none_twice (filter_map place_of (take i lines) ++ xs)) (cons-list (place_of e) (filter_map place_of rest))
      ∙ marked-twice (filter_map place_of (take i lines)) (filter_map place_of rest) (place_of e) old new m marks)

-- where no line names a place, none is named
pub none-named : (lines : List Event) → list_any (λ line. is_some (place_of line)) lines ≡ false → filter_map place_of lines ≡ []
none-named [] h = refl
none-named (e ∷ es) h = by_place (place_of e) (none-named es) h
  where
    by_place : (o : Option Spot) → (list_any (λ line. is_some (place_of line)) es ≡ false → filter_map place_of es ≡ [])
        → (is_some o || list_any (λ line. is_some (place_of line)) es) ≡ false → cons_option o (filter_map place_of es) ≡ []
    by_place None rest h = rest h
    by_place (Some at) rest h = absurd (cc)
