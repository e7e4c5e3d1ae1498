-- Names are the places of their lines.
use Rattle.std.proofs.Common.{◌≡◌, ◌≢◌, ℕ, zero, suc, ◌+◌, Bool, true, false, cond, List, [], ◌∷◌, ◌++◌, take, slice_get, slice_index_or, Option, None, Some, IfSome, Ok, refl, sym, ap, ◌∙◌, subst, arith, inl, inr}
use Rattle.std.specs.Prelude.{◌==◌}
use Rattle.std.specs.List.{list_any}
use Rattle.std.specs.Map.{lookup}
use Rattle.std.specs.Str.{bytes_eq}
use Rattle.std.proofs.lemmas.Bool.{true≢false, and_parts, and_from, or_parts, eq-eqb, eqb-true}
use Rattle.std.proofs.lemmas.List.Folds.{list_any-append}
use Rattle.std.proofs.lemmas.Option.{get_or_from_slice_get, IfSome_then}
use Rattle.lvdc_source.specs.declared.item.Item.{Item}
use Rattle.lvdc_place.specs.declared.spot.Spot.{Spot as Place}
use Rattle.lvdc_asm.specs.Assembly.{Assembled}
use Rattle.lvdc_asm.specs.Data.{data_after}
use Rattle.lvdc_asm.specs.DataPlace.{DataPlace, first_data}
use Rattle.lvdc_asm.specs.Hop.{Plan, target_at, target_by, target_of}
use Rattle.lvdc_asm.specs.Names.{entry_of, names_from, names_of, definition_of, unless_repeated, is_among, label_of, repeat_after}
use Rattle.lvdc_asm.specs.Target.{Target}
use Rattle.lvdc_laws_assembly.specs.Lines.{IsLine, IsDefined}
use Rattle.lvdc_laws_assembly.proofs.Uses.{after_all, same-after}
use Rattle.lvdc_laws_assembly.proofs.Assemblies.{IsWalked, option-cases}
use Rattle.lvdc_laws_assembly.proofs.Ranges.{some-at, names-are}

-- ---- texts

bytes-self : (text : List ℕ) → bytes_eq text text ≡ true
bytes-self [] = refl
bytes-self (b ∷ bs) = and_from (b == b) (bytes_eq bs bs) (eq-eqb b b refl) (bytes-self bs)

bytes-same : (one two : List ℕ) → bytes_eq one two ≡ true → one ≡ two
bytes-same [] [] h = refl
bytes-same [] (b ∷ bs) h = absurd (true≢false (sym h))
bytes-same (b ∷ bs) [] h = absurd (true≢false (sym h))
bytes-same (b ∷ bs) (c ∷ cs) h =
    let both = and_parts (b == c) (bytes_eq bs cs) h in
    ap (λ (n : ℕ). n ∷ bs) (eqb-true b c both.0) ∙ ap (λ (rest : List ℕ). c ∷ rest) (bytes-same bs cs both.1)

-- ---- labels that are defined once

repeat-parts : (names : List (List ℕ)) (first : Item) (items : List Item) → repeat_after names (first ∷ items) ≡ None
    → (is_among names first.label ≡ false) × (repeat_after (names ++ label_of first.label) items ≡ None)
repeat-parts names first items h = by (is_among names first.label) h
  where
    by : (b : Bool) → cond b (Some first.line) (repeat_after (names ++ label_of first.label) items) ≡ None → (b ≡ false) × (repeat_after (names ++ label_of first.label) items ≡ None)
    by true e = absurd (cc)
    by false e = (refl, e)

among-front : (names more : List (List ℕ)) (label : List ℕ) → is_among (names ++ more) label ≡ false → (is_among names label ≡ false) × (is_among more label ≡ false)
among-front names more [] h = (refl, refl)
among-front names more (c ∷ cs) h =
    or_parts (list_any (bytes_eq (c ∷ cs)) names) (list_any (bytes_eq (c ∷ cs)) more) (sym (list_any-append (bytes_eq (c ∷ cs)) names more) ∙ h)

-- a label is none of those before it
once : (names : List (List ℕ)) (items : List Item) (number : ℕ) (item : Item) → repeat_after names items ≡ None → slice_get items number ≡ Some item → is_among names item.label ≡ false
once names [] number item h says = absurd (cc)
once names (first ∷ items) zero item h says =
    let same : first ≡ item = cc in
    subst (λ (i : Item). is_among names i.label ≡ false) same (repeat-parts names first items h).0
once names (first ∷ items) (suc number) item h says =
    (among-front names (label_of first.label) item.label (once (names ++ label_of first.label) items number item (repeat-parts names first items h).1 says)).0

-- what a label defines is found by it
found-here : (label : List ℕ) (c : ℕ) (cs : List ℕ) (n : ℕ) (assumed later : DataPlace) (items : List Item) → label ≡ c ∷ cs
    → lookup (bytes_eq (c ∷ cs)) (entry_of label (record { item = n; assumed = assumed }) ++ names_from (n + 1) later items) ≡ Some (record { item = n; assumed = assumed })
found-here [] c cs n assumed later items is = absurd (cc)
found-here (d ∷ ds) c cs n assumed later items is =
    ap (λ (b : Bool). cond b (Some (record { item = n; assumed = assumed })) (lookup (bytes_eq (c ∷ cs)) (names_from (n + 1) later items)))
    (ap (bytes_eq (c ∷ cs)) is ∙ bytes-self (c ∷ cs))

-- and passed by another one
found-later : (label : List ℕ) (c : ℕ) (cs : List ℕ) (n : ℕ) (assumed later : DataPlace) (items : List Item) → is_among (label_of label) (c ∷ cs) ≡ false
    → lookup (bytes_eq (c ∷ cs)) (entry_of label (record { item = n; assumed = assumed }) ++ names_from (n + 1) later items) ≡ lookup (bytes_eq (c ∷ cs)) (names_from (n + 1) later items)
found-later [] c cs n assumed later items other = refl
found-later (d ∷ ds) c cs n assumed later items other =
    ap (λ (b : Bool). cond b (Some (record { item = n; assumed = assumed })) (lookup (bytes_eq (c ∷ cs)) (names_from (n + 1) later items)))
    (or_parts (bytes_eq (c ∷ cs) (d ∷ ds)) false other).0

found : (names : List (List ℕ)) (n : ℕ) (assumed : DataPlace) (items : List Item) (number : ℕ) (item : Item) (c : ℕ) (cs : List ℕ) → repeat_after names items ≡ None
    → slice_get items number ≡ Some item → item.label ≡ c ∷ cs
    → lookup (bytes_eq (c ∷ cs)) (names_from n assumed items) ≡ Some (record { item = n + number; assumed = after_all assumed (take number items) })
found names n assumed [] number item c cs once says label = absurd (cc)
found names n assumed (first ∷ items) zero item c cs once says label =
    let same : first ≡ item = cc in
    let none : n ≡ n + 0 = omega arith in
    found-here first.label c cs n assumed (data_after assumed first.body) items (ap (λ (i : Item). i.label) same ∙ label)
    ∙ ap (λ (k : ℕ). Some (record { item = k; assumed = assumed })) none
found names n assumed (first ∷ items) (suc number) item c cs repeats says label =
    let parts = repeat-parts names first items repeats in
    let other : is_among (label_of first.label) (c ∷ cs) ≡ false =
    ap (is_among (label_of first.label)) (sym label)
    ∙ (among-front names (label_of first.label) item.label (once (names ++ label_of first.label) items number item parts.1 says)).1 in
    let more : n + 1 + number ≡ n + suc number = omega arith in
    found-later first.label c cs n assumed (data_after assumed first.body) items other
    ∙ found (names ++ label_of first.label) (n + 1) (data_after assumed first.body) items number item c cs parts.1 says label
    ∙ ap (λ (k : ℕ). Some (record { item = k; assumed = after_all (data_after assumed first.body) (take number items) })) more

none-repeated : (items : List Item) (plan : Plan) (r : Option ℕ) → unless_repeated (names_of items) r ≡ Ok plan.names → r ≡ None
none-repeated items plan None h = refl
none-repeated items plan (Some line) h = absurd (cc)

line-found : (a : Assembled) → IsWalked a → (number : ℕ) (item : Item) (here : Place) (assumed : DataPlace) → IsLine a number item here assumed
    → (c : ℕ) (cs : List ℕ) → item.label ≡ c ∷ cs → target_of a.plan (c ∷ cs) ≡ Some (record { at = here.at; syl = here.syl; assumed = assumed })
line-found a is number item here assumed line c cs label =
    ap (target_by a.plan.spots)
    (ap (λ names. definition_of names (c ∷ cs)) (sym (names-are a.items a.plan is.parts.names_are))
    ∙ found [] 0 first_data a.items number item c cs (none-repeated a.items a.plan (repeat_after [] a.items) is.parts.names_are) line.says label)
    ∙ ap (target_at (after_all first_data (take number a.items))) (ap (λ (k : ℕ). slice_index_or a.plan.spots k None) none ∙ get_or_from_slice_get a.plan.spots number (Some here) None line.stands)
    ∙ ap (λ (place : DataPlace). Some (record { at = here.at; syl = here.syl; assumed = place })) (same-after first_data (take number a.items) ∙ line.uses)
  where
    none : 0 + number ≡ number
    none = omega arith

-- the name of a line is the place of the line
pub line-named : (a : Assembled) → IsWalked a → (number : ℕ) (item : Item) (here : Place) (assumed : DataPlace) → IsLine a number item here assumed → item.label ≢ []
    → target_of a.plan item.label ≡ Some (record { at = here.at; syl = here.syl; assumed = assumed })
line-named a is number item here assumed line named = by item.label refl
  where
    by : (label : List ℕ) → item.label ≡ label → target_of a.plan label ≡ Some (record { at = here.at; syl = here.syl; assumed = assumed })
    by [] none = absurd (named none)
    by (c ∷ cs) label = line-found a is number item here assumed line c cs label

-- ---- and the other way

-- a line defines a name
record Defines (name : List ℕ) (n : ℕ) (assumed : DataPlace) (items : List Item) (index : ℕ) (place : DataPlace) : Type 0 where
  number : ℕ
  item : Item
  says : slice_get items number ≡ Some item
  is : index ≡ n + number
  uses : after_all assumed (take number items) ≡ place
  label : item.label ≡ name

later-defines : (name : List ℕ) (n : ℕ) (assumed : DataPlace) (first : Item) (items : List Item) (index : ℕ) (place : DataPlace)
    → Defines name (n + 1) (data_after assumed first.body) items index place → Defines name n assumed (first ∷ items) index place
later-defines name n assumed first items index place d = record {
  number = suc d.number;
  item = d.item;
  says = d.says;
  is = (let later : index ≡ n + 1 + d.number = d.is in omega arith);
  uses = d.uses;
  label = d.label;
}

entry-defines : (name : List ℕ) (n : ℕ) (assumed : DataPlace) (first : Item) (items : List Item) (label : List ℕ) → first.label ≡ label
    → IfSome (lookup (bytes_eq name) (names_from (n + 1) (data_after assumed first.body) items)) (λ d. Defines name n assumed (first ∷ items) d.item d.assumed)
    → IfSome (lookup (bytes_eq name) (entry_of label (record { item = n; assumed = assumed }) ++ names_from (n + 1) (data_after assumed first.body) items))
    (λ d. Defines name n assumed (first ∷ items) d.item d.assumed)
entry-defines name n assumed first items [] is later = later
entry-defines name n assumed first items (c ∷ cs) is later = by (bytes_eq name (c ∷ cs)) refl later
  where
    by : (b : Bool) → bytes_eq name (c ∷ cs) ≡ b
        → IfSome (lookup (bytes_eq name) (names_from (n + 1) (data_after assumed first.body) items)) (λ d. Defines name n assumed (first ∷ items) d.item d.assumed)
        → IfSome (cond b (Some (record { item = n; assumed = assumed })) (lookup (bytes_eq name) (names_from (n + 1) (data_after assumed first.body) items)))
        (λ d. Defines name n assumed (first ∷ items) d.item d.assumed)
    by true same later = record {
      number = 0;
      item = first;
      says = refl;
      is = omega arith;
      uses = refl;
      label = is ∙ sym (bytes-same name (c ∷ cs) same);
    }
    by false same later = later

defined : (name : List ℕ) (n : ℕ) (assumed : DataPlace) (items : List Item) → IfSome (lookup (bytes_eq name) (names_from n assumed items)) (λ d. Defines name n assumed items d.item d.assumed)
defined name n assumed [] = tt
defined name n assumed (first ∷ items) =
    entry-defines name n assumed first items first.label refl
    (IfSome_then (lookup (bytes_eq name) (names_from (n + 1) (data_after assumed first.body) items)) (defined name (n + 1) (data_after assumed first.body) items)
    (λ d is. later-defines name n assumed first items d.item d.assumed is))

-- a spot at an index
spot-there : (spots : List (Option Place)) (index : ℕ) (here : Place) → slice_index_or spots index None ≡ Some here → slice_get spots index ≡ Some (Some here)
spot-there [] index here h = absurd (cc)
spot-there (spot ∷ spots) zero here h = ap (λ (s : Option Place). Some s) h
spot-there (spot ∷ spots) (suc index) here h = spot-there spots index here h

target-line : (a : Assembled) (name : List ℕ) (index : ℕ) (place : DataPlace) (spot : Option Place) (target : Target) → slice_index_or a.plan.spots index None ≡ spot
    → Defines name 0 first_data a.items index place → target_at place spot ≡ Some target → IsDefined a name target
target-line a name index place None target is d e = absurd (cc)
target-line a name index place (Some here) target is d e =
    let same : ◌≡◌ {A = Target} (record { at = here.at; syl = here.syl; assumed = place }) target = cc in
    let index_is : index ≡ 0 + d.number = d.is in
    let number : index ≡ d.number = omega arith in
    subst (IsDefined a name) same (record {
      number = d.number;
      item = d.item;
      here = here;
      line = record { says = d.says; stands = subst (λ (k : ℕ). slice_get a.plan.spots k ≡ Some (Some here)) number (spot-there a.plan.spots index here is); uses = sym (same-after first_data (take d.number a.items)) ∙ d.uses };
      label = d.label;
      at = refl;
      syl = refl;
    })

-- a name that has a place is the name of a line that stands there
pub name-defined : (a : Assembled) → IsWalked a → (name : List ℕ) (target : Target) → target_of a.plan name ≡ Some target → IsDefined a name target
name-defined a is name target e = elim (option-cases (definition_of a.plan.names name)) [
  | inr none ↦ (let nothing : target_by a.plan.spots None ≡ Some target = ap (target_by a.plan.spots) (sym none) ∙ e in absurd (cc))
  | inl found ↦ target-line a name found.0.item found.0.assumed (slice_index_or a.plan.spots found.0.item None) target refl
      (some-at (definition_of (names_of a.items) name) found.0 (λ d. Defines name 0 first_data a.items d.item d.assumed)
      (ap (λ all. definition_of all name) (names-are a.items a.plan is.parts.names_are) ∙ found.1) (defined name 0 first_data a.items))
      (ap (target_by a.plan.spots) (sym found.1) ∙ e)
]
