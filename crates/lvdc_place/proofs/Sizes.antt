-- The lines of a block, counted one by one.
use Rattle.std.proofs.Common.{◌≡◌, ℕ, ◌+◌, ◌<◌, ◌≤◌, true, false, List, ◌∷◌, length, get_or, drop, refl, sym, ap, ◌∙◌, arith}
use Rattle.std.proofs.lemmas.List.{drop_more}
use Rattle.lvdc_source.specs.declared.item.Body.{Body}
use Rattle.lvdc_source.specs.declared.item.Body.TheVariants as says
use Rattle.lvdc_source.specs.declared.item.Item.{Item}
use Rattle.lvdc_place.specs.Blocks.{begins_block, size_of, size_ahead}
use Rattle.lvdc_place.specs.Fitting.{IsInRange, AreInRange}

-- the items from an index on
pub drop-at : {X : Type 0} (xs : List X) (i : ℕ) (x : X) → i < length xs → x ≡ get_or xs i x → drop i xs ≡ x ∷ drop (i + 1) xs
drop-at {X} xs i x h is = drop_more xs i x h ∙ ap (λ (y : X). y ∷ drop (i + 1) xs) (sym is)

-- an item of a program in whose lines the numbers are in their ranges
pub in-range-at : (items : List Item) (i : ℕ) (item : Item) → AreInRange items → i < length items → item ≡ get_or items i item → IsInRange item.body
in-range-at items i item all h is = rw is (all i item h)

-- a line takes at most 256 locations
pub size_of-small : (body : Body) → IsInRange body → size_of body ≤ 256
size_of-small says.Code h = omega arith
size_of-small (says.Org at syl) h = omega arith
size_of-small (says.Words pair sector loc) h = omega arith
size_of-small (says.Sector pair sector) h = omega arith
size_of-small (says.Room count) h = h.1
size_of-small (says.Constant constant) h = omega arith
size_of-small (says.Instruction op operand) h = omega arith

-- a block begins
pub size-at-block : (items : List Item) (i : ℕ) (item : Item) → i < length items → item ≡ get_or items i item → begins_block item.body ≡ true → size_ahead (drop i items) ≡ 0
size-at-block items i item h is begins = rw (drop-at items i item h is, begins) refl

-- another line
pub size-at-line : (items : List Item) (i : ℕ) (item : Item) → i < length items → item ≡ get_or items i item → begins_block item.body ≡ false →
    size_ahead (drop i items) ≡ size_of item.body + size_ahead (drop (i + 1) items)
size-at-line items i item h is begins = rw (drop-at items i item h is, begins) refl
