-- What names stand for are items of the source.
use Rattle.std.proofs.Common.{◌≡◌, ℕ, ◌+◌, ◌<◌, Bool, true, false, cond, List, [], ◌∷◌, ◌++◌, length, Option, None, Some, Ok, refl, sym, subst, arith}
use Rattle.std.specs.Map.{lookup}
use Rattle.std.specs.Str.{bytes_eq}
use Rattle.lvdc_source.specs.declared.item.Item.{Item}
use Rattle.lvdc_asm.specs.DataPlace.{DataPlace, first_data}
use Rattle.lvdc_asm.specs.Data.{data_after}
use Rattle.lvdc_asm.specs.Names.{entry_of, names_from, names_of, names_in, unless_repeated, repeat_after, AreKnown}
use Rattle.lvdc_asm.specs.declared.names.Definition.{Definition}

some-same : (o : Option Definition) (a d : Definition) → o ≡ Some a → o ≡ Some d → a ≡ d
some-same o a d p q = cc

-- a look-up finds what the first line defines, or what a later one does
found-more : (name label : List ℕ) (first d : Definition) (names : List (List ℕ × Definition)) (limit : ℕ) → first.item < limit
    → (lookup (bytes_eq name) names ≡ Some d → d.item < limit) → lookup (bytes_eq name) (entry_of label first ++ names) ≡ Some d → d.item < limit
found-more name [] first d names limit small later h = later h
found-more name (c ∷ cs) first d names limit small later h = by (bytes_eq name (c ∷ cs)) h
  where
    by : (b : Bool) → cond b (Some first) (lookup (bytes_eq name) names) ≡ Some d → d.item < limit
    by true h = subst (λ (x : Definition). x.item < limit) (some-same (Some first) first d refl h) small
    by false h = later h

known-from : (name : List ℕ) (d : Definition) (number : ℕ) (assumed : DataPlace) (items : List Item) → lookup (bytes_eq name) (names_from number assumed items) ≡ Some d → d.item < number + length items
known-from name d number assumed [] h = cc
known-from name d number assumed (item ∷ items) h =
    found-more name item.label (record { item = number; assumed = assumed }) d (names_from (number + 1) (data_after assumed item.body) items) (number + length (item ∷ items))
    (omega arith)
    (λ found. let ih : d.item < (number + 1) + length items = known-from name d (number + 1) (data_after assumed item.body) items found in omega arith)
    h

unless-is : (names out : List (List ℕ × Definition)) (r : Option ℕ) → unless_repeated names r ≡ Ok out → names ≡ out
unless-is names out None h = cc
unless-is names out (Some line) h = cc

pub names_in-known : {X : Type 0} (items : List Item) (names : List (List ℕ × Definition)) (spots : List X) → names_in items ≡ Ok names → length spots ≡ length items → AreKnown names spots
names_in-known items names spots h same name d found =
    let is : names_of items ≡ names = unless-is (names_of items) names (repeat_after [] items) h in
    let small : d.item < 0 + length items = known-from name d 0 first_data items (subst (λ (ns : List (List ℕ × Definition)). lookup (bytes_eq name) ns ≡ Some d) (sym is) found) in
    omega arith
