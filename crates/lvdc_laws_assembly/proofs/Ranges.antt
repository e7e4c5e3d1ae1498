-- The data places that lines assume are in their ranges.
use Rattle.std.proofs.Common.{◌≡◌, ℕ, zero, suc, ◌+◌, Bool, true, false, cond, List, [], ◌∷◌, ◌++◌, take, slice_get, slice_index_or, IfSome, Option, None, Some, Ok, sym, ap, ◌∙◌, subst, arith, inl, inr}
use Rattle.std.specs.Map.{lookup}
use Rattle.std.specs.Str.{bytes_eq}
use Rattle.lvdc_source.specs.Items.{AreItems, IsBody, IsProgram, IsSector, block_after, takes}
use Rattle.lvdc_source.specs.declared.block.Block.{Block}
use Rattle.lvdc_source.specs.declared.block.Block.TheVariants as kind
use Rattle.lvdc_source.specs.declared.item.Body.{Body}
use Rattle.lvdc_source.specs.declared.item.Body.TheVariants as says
use Rattle.lvdc_source.specs.declared.item.Item.{Item}
use Rattle.lvdc_place.specs.declared.spot.Spot.{Spot as Place}
use Rattle.lvdc_asm.specs.Data.{data_after}
use Rattle.lvdc_asm.specs.DataPlace.{DataPlace, first_data}
use Rattle.lvdc_asm.specs.Names.{entry_of, names_from, names_of, names_in, definition_of, unless_repeated, repeat_after}
use Rattle.lvdc_asm.specs.Target.{Target}
use Rattle.lvdc_asm.specs.Hop.{Plan, target_at, target_by, target_of}
use Rattle.lvdc_laws_assembly.proofs.Uses.{after_all}
use Rattle.lvdc_laws_assembly.proofs.Assemblies.{option-cases}

-- a pair and a sector
abbrev pub IsPlace : DataPlace → Type 0
IsPlace assumed = IsSector assumed.pair assumed.sector

first-place : IsPlace first_data
first-place = record { four_pairs = omega arith; sixteen_sectors = omega arith }

after-place : (block : Block) (label : List ℕ) (assumed : DataPlace) (body : Body) → IsBody block label body → IsPlace assumed → IsPlace (data_after assumed body)
after-place block label assumed (says.Sector pair sector) h p = h.1
after-place block label assumed says.Code h p = p
after-place block label assumed (says.Org at syl) h p = p
after-place block label assumed (says.Words pair sector loc) h p = p
after-place block label assumed (says.Room count) h p = p
after-place block label assumed (says.Constant constant) h p = p
after-place block label assumed (says.Instruction op operand) h p = p

assumed-place : (block : Block) (assumed : DataPlace) (items : List Item) (number : ℕ) → AreItems block items → IsPlace assumed → IsPlace (after_all assumed (take number items))
unfolding AreItems
assumed-place block assumed [] zero h p = p
assumed-place block assumed [] (suc number) h p = p
assumed-place block assumed (item ∷ items) zero h p = p
assumed-place block assumed (item ∷ items) (suc number) h p =
    assumed-place (block_after block item.body) (data_after assumed item.body) items number h.1 (after-place block item.label assumed item.body h.0 p)

pub line-place : (items : List Item) (number : ℕ) → IsProgram items → IsPlace (after_all first_data (take number items))
line-place items number h = assumed-place kind.Nowhere first_data items number h first-place

-- ---- operands

-- an instruction has an operand of a form that its operation takes
abbrev pub HasForm : Body → Type 0
HasForm (says.Instruction op operand) = takes op operand ≡ true
HasForm body = Unit {0}

body-form : (block : Block) (label : List ℕ) (body : Body) → IsBody block label body → HasForm body
body-form block label (says.Instruction op operand) h = h.1
body-form block label says.Code h = tt
body-form block label (says.Org at syl) h = tt
body-form block label (says.Words pair sector loc) h = tt
body-form block label (says.Sector pair sector) h = tt
body-form block label (says.Room count) h = tt
body-form block label (says.Constant constant) h = tt

pub item-form : (block : Block) (items : List Item) (number : ℕ) (item : Item) → AreItems block items → slice_get items number ≡ Some item → HasForm item.body
unfolding AreItems
item-form block [] number item h e = absurd (cc)
item-form block (first ∷ items) zero item h e = let same : first ≡ item = cc in subst (λ (i : Item). HasForm i.body) same (body-form block first.label first.body h.0)
item-form block (first ∷ items) (suc number) item h e = item-form (block_after block first.body) items number item h.1 e

-- ---- names

-- what a name finds has such a data place
entry-place : (name : List ℕ) (item : Item) (number : ℕ) (assumed : DataPlace) (items : List Item) (label : List ℕ) → IsPlace assumed
    → IfSome (lookup (bytes_eq name) (names_from (number + 1) (data_after assumed item.body) items)) (λ d. IsPlace d.assumed)
    → IfSome (lookup (bytes_eq name) (entry_of label (record { item = number; assumed = assumed }) ++ names_from (number + 1) (data_after assumed item.body) items)) (λ d. IsPlace d.assumed)
entry-place name item number assumed items [] p later = later
entry-place name item number assumed items (c ∷ cs) p later = by (bytes_eq name (c ∷ cs)) later
  where
    by : (b : Bool) → IfSome (lookup (bytes_eq name) (names_from (number + 1) (data_after assumed item.body) items)) (λ d. IsPlace d.assumed)
        → IfSome (cond b (Some (record { item = number; assumed = assumed })) (lookup (bytes_eq name) (names_from (number + 1) (data_after assumed item.body) items))) (λ d. IsPlace d.assumed)
    by true later = p
    by false later = later

names-place : (name : List ℕ) (block : Block) (number : ℕ) (assumed : DataPlace) (items : List Item) → AreItems block items → IsPlace assumed
    → IfSome (lookup (bytes_eq name) (names_from number assumed items)) (λ d. IsPlace d.assumed)
unfolding AreItems
names-place name block number assumed [] h p = tt
names-place name block number assumed (item ∷ items) h p =
    entry-place name item number assumed items item.label p
    (names-place name (block_after block item.body) (number + 1) (data_after assumed item.body) items h.1 (after-place block item.label assumed item.body h.0 p))

-- what holds of a value that is there
pub some-at : {X : Type 0} (o : Option X) (x : X) (P : X → Type 0) → o ≡ Some x → IfSome o P → P x
some-at None x P e h = absurd (cc)
some-at (Some y) x P e h = let same : y ≡ x = cc in subst P same h

unless-is : (items : List Item) (plan : Plan) (r : Option ℕ) → unless_repeated (names_of items) r ≡ Ok plan.names → names_of items ≡ plan.names
unless-is items plan None h = cc
unless-is items plan (Some line) h = absurd (cc)

-- the names of a plan are those of its items
pub names-are : (items : List Item) (plan : Plan) → names_in items ≡ Ok plan.names → names_of items ≡ plan.names
names-are items plan h = unless-is items plan (repeat_after [] items) h

target-at-place : (assumed : DataPlace) (spot : Option Place) (target : Target) → IsPlace assumed → target_at assumed spot ≡ Some target → IsPlace target.assumed
target-at-place assumed None target p e = absurd (cc)
target-at-place assumed (Some here) target p e =
    let same : ◌≡◌ {A = Target} (record { at = here.at; syl = here.syl; assumed = assumed }) target = cc in
    subst (λ (t : Target). IsPlace t.assumed) same p

-- the data place of a line that defines a name is one
pub target-place : (items : List Item) (plan : Plan) (name : List ℕ) (target : Target) → IsProgram items → names_in items ≡ Ok plan.names → target_of plan name ≡ Some target → IsPlace target.assumed
target-place items plan name target program named e = elim (option-cases (definition_of plan.names name)) [
  | inr none ↦ (let nothing : target_by plan.spots None ≡ Some target = ap (target_by plan.spots) (sym none) ∙ e in absurd (cc))
  | inl found ↦ target-at-place found.0.assumed (slice_index_or plan.spots found.0.item None) target
      (some-at (definition_of (names_of items) name) found.0 (λ d. IsPlace d.assumed) (ap (λ all. definition_of all name) (names-are items plan named) ∙ found.1)
      (names-place name kind.Nowhere 0 first_data items program first-place))
      (ap (target_by plan.spots) (sym found.1) ∙ e)
]
