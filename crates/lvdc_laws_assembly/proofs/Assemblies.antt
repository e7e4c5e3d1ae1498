-- The parts of an assembly, and what all its lines hold.
use Rattle.std.proofs.Common.{◌≡◌, ℕ, zero, suc, ◌^◌, ◌<◌, true, List, [], ◌∷◌, slice_index_or, IfSome, Option, None, Some, Result, Ok, Err, refl, sym, ap, ◌∙◌, subst, inl, inr}
use Rattle.std.specs.Prelude.{◌⊎◌}
use Rattle.std.proofs.lemmas.Bool.{true≢false}
use Rattle.std.proofs.lemmas.Option.{IfSome_then}
use Rattle.lvdc_map.specs.Address.{Spot}
use Rattle.lvdc_text.specs.Lines.{NumberedLine}
use Rattle.lvdc_source.specs.Items.{IsProgram}
use Rattle.lvdc_source.specs.Source.{source_of}
use Rattle.lvdc_source.specs.declared.item.Body.{Body}
use Rattle.lvdc_source.specs.declared.item.Body.TheVariants as says
use Rattle.lvdc_source.specs.declared.item.Item.{Item}
use Rattle.lvdc_place.specs.Apart.{is_in, slots_onward, line_slots, StandApart, StandsAs, StandAs, program_slots}
use Rattle.lvdc_place.specs.Slot.{Slot, is_slot, slot_of}
use Rattle.lvdc_place.specs.Slots.{Slots, are_free, pool_place}
use Rattle.lvdc_place.proofs.Distinct.{in-left, in-right}
use Rattle.lvdc_place.proofs.Tables.{is_slot-true}
use Rattle.lvdc_place.specs.Placement.{Placement, placement}
use Rattle.lvdc_place.specs.declared.spot.Spot.{Spot as Place}
use Rattle.lvdc_asm.specs.Assembly.{Assembled, start_from, by_lines, by_placement, by_names, by_items, assembly_of}
use Rattle.lvdc_asm.specs.DataPlace.{DataPlace, first_data}
use Rattle.lvdc_asm.specs.Hop.{Plan, target_at, target_by, target_of}
use Rattle.lvdc_asm.specs.Lines.{lines_after}
use Rattle.lvdc_asm.specs.Locations.{nothing, words_of}
use Rattle.lvdc_asm.specs.Names.{names_in, definition_of}
use Rattle.lvdc_asm.specs.Pool.{Progress}
use Rattle.lvdc_asm.specs.Target.{Target}
use Rattle.lvdc_asm.specs.declared.fault.AsmFault.{AsmFault}
use Rattle.lvdc_laws_assembly.proofs.Held.{held, length-nothing, held-nothing}
use Rattle.lvdc_laws_assembly.proofs.Pools.{in-one}
use Rattle.lvdc_laws_assembly.proofs.Lines.{Walked, lines-walked}

-- a value, or none
pub option-cases : {V : Type 0} (o : Option V) → ((v : V) × (o ≡ Some v)) ⊎ (o ≡ None)
option-cases (Some v) = inl (v, refl)
option-cases None = inr refl

-- a value, or a fault
pub result-cases : {V E : Type 0} (r : Result V E) → ((v : V) × (r ≡ Ok v)) ⊎ ((e : E) × (r ≡ Err e))
result-cases (Ok v) = inl (v, refl)
result-cases (Err e) = inr (e, refl)

-- what the crates below say of sources and placements
pub record Below : Type 0 where
  pub programs : (lines : List NumberedLine) (items : List Item) → source_of lines ≡ Ok items → IsProgram items
  pub apart : (items : List Item) (placed : Placement) → IsProgram items → placement items ≡ Ok placed → StandApart items placed.spots placed.taken
  pub forms : (items : List Item) (placed : Placement) → placement items ≡ Ok placed → StandAs items placed.spots
  pub free : (taken : Slots) (pair sector : ℕ) (at : Spot) → pool_place taken pair sector ≡ Some at → are_free taken (slot_of at 0 ∷ slot_of at 1 ∷ []) ≡ true
  pub sector : (taken : Slots) (pair sector : ℕ) (at : Spot) → sector < 16 → pool_place taken pair sector ≡ Some at → (at.pair ≡ pair) × (at.sector ≡ sector)

-- ---- where lines stand

-- an instruction stands in a slot of the memory
slot-of : (body : Body) (here : Place) → StandsAs body (Some here) → ((slot : Slot) → is_in slot (line_slots body (Some here)) ≡ true → is_slot slot ≡ true) → IfSome here.syl (λ half. is_slot (slot_of here.at half) ≡ true)
slot-of (says.Instruction op operand) here stands inside = by here.syl inside
  where
    by : (syl : Option ℕ) → ((slot : Slot) → is_in slot (slots_onward here.at 1 syl) ≡ true → is_slot slot ≡ true) → IfSome syl (λ half. is_slot (slot_of here.at half) ≡ true)
    by None inside = tt
    by (Some syl) inside = inside (slot_of here.at syl) (in-one (slot_of here.at syl))
slot-of (says.Constant constant) here words inside = subst (λ (syl : Option ℕ). IfSome syl (λ half. is_slot (slot_of here.at half) ≡ true)) (sym words) tt
slot-of (says.Room count) here words inside = subst (λ (syl : Option ℕ). IfSome syl (λ half. is_slot (slot_of here.at half) ≡ true)) (sym words) tt
slot-of says.Code here stands inside = absurd (true≢false stands.0)
slot-of (says.Org at syl) here stands inside = absurd (true≢false stands.0)
slot-of (says.Words pair sector loc) here stands inside = absurd (true≢false stands.0)
slot-of (says.Sector pair sector) here stands inside = absurd (true≢false stands.0)

code-slots : (items : List Item) (spots : List (Option Place)) → StandAs items spots → ((slot : Slot) → is_in slot (program_slots items spots) ≡ true → is_slot slot ≡ true) → (i : ℕ)
    → IfSome (slice_index_or spots i None) (λ here. IfSome here.syl (λ half. is_slot (slot_of here.at half) ≡ true))
code-slots [] [] stand inside i = tt
code-slots [] (spot ∷ spots) stand inside i = absurd stand
code-slots (item ∷ items) [] stand inside i = absurd stand
code-slots (item ∷ items) (None ∷ spots) stand inside zero = tt
code-slots (item ∷ items) (Some here ∷ spots) stand inside zero =
    slot-of item.body here stand.0 (λ slot h. inside slot (in-left slot (line_slots item.body (Some here)) (program_slots items spots) h))
code-slots (item ∷ items) (spot ∷ spots) stand inside (suc i) =
    code-slots items spots stand.1 (λ slot h. inside slot (in-right slot (line_slots item.body spot) (program_slots items spots) h)) i

-- a name of code too
target-at-slot : (assumed : DataPlace) (spot : Option Place) (target : Target) → IfSome spot (λ here. IfSome here.syl (λ half. is_slot (slot_of here.at half) ≡ true)) → target_at assumed spot ≡ Some target → IfSome target.syl (λ half. is_slot (slot_of target.at half) ≡ true)
target-at-slot assumed None target in-slot e = absurd (cc)
target-at-slot assumed (Some here) target in-slot e =
    let same : ◌≡◌ {A = Target} (record { at = here.at; syl = here.syl; assumed = assumed }) target = cc in
    subst (λ (t : Target). IfSome t.syl (λ half. is_slot (slot_of t.at half) ≡ true)) same in-slot

target-slot : (plan : Plan) → ((i : ℕ) → IfSome (slice_index_or plan.spots i None) (λ here. IfSome here.syl (λ half. is_slot (slot_of here.at half) ≡ true))) → (name : List ℕ) (target : Target)
    → target_of plan name ≡ Some target → IfSome target.syl (λ half. is_slot (slot_of target.at half) ≡ true)
target-slot plan each name target e = elim (option-cases (definition_of plan.names name)) [
  | inr none ↦ (let nothing : target_by plan.spots None ≡ Some target = ap (target_by plan.spots) (sym none) ∙ e in absurd (cc))
  | inl found ↦ target-at-slot found.0.assumed (slice_index_or plan.spots found.0.item None) target (each found.0.item) (ap (target_by plan.spots) (sym found.1) ∙ e)
]

-- ---- the parts

-- the parts of an assembly of these items
pub record IsAssembly (items : List Item) (a : Assembled) : Type 0 where
  pub items_are : items ≡ a.items
  pub names_are : names_in a.items ≡ Ok a.plan.names
  pub placed : Placement
  pub placement_is : placement a.items ≡ Ok placed
  pub spots_are : a.plan.spots ≡ placed.spots
  pub done : Progress
  pub lines_are : lines_after a.plan 0 first_data a.items (Ok (start_from placed.taken)) ≡ Ok done
  pub pool_is : a.pool ≡ done.pool
  pub words_are : a.words ≡ words_of done.locations

lines-parts : (items : List Item) (plan : Plan) (placed : Placement) (r : Result Progress AsmFault) (a : Assembled) → names_in items ≡ Ok plan.names → placement items ≡ Ok placed → plan.spots ≡ placed.spots
    → lines_after plan 0 first_data items (Ok (start_from placed.taken)) ≡ r → by_lines items plan r ≡ Ok a → IsAssembly items a
lines-parts items plan placed (Err fault) a names are spots is e = absurd (cc)
lines-parts items plan placed (Ok done) a names are spots is e =
    let same : ◌≡◌ {A = Assembled} (record { items = items; plan = plan; pool = done.pool; words = words_of done.locations }) a = cc in
    subst (IsAssembly items) same (record {
      items_are = refl;
      names_are = names;
      placed = placed;
      placement_is = are;
      spots_are = spots;
      done = done;
      lines_are = is;
      pool_is = refl;
      words_are = refl;
    })

names-parts : (items : List Item) (a : Assembled) → by_names items (names_in items) ≡ Ok a → IsAssembly items a
names-parts items a e = elim (result-cases (names_in items)) [
  | inr none ↦ (let refused : by_names items (Err none.0) ≡ Ok a = ap (by_names items) (sym none.1) ∙ e in absurd (cc))
  | inl named ↦ (
      let found : by_placement items named.0 (placement items) ≡ Ok a = ap (by_names items) (sym named.1) ∙ e in
      elim (result-cases (placement items)) [
        | inr none ↦ (let refused : by_placement items named.0 (Err none.0) ≡ Ok a = ap (by_placement items named.0) (sym none.1) ∙ found in absurd (cc))
        | inl stood ↦ lines-parts items (record { names = named.0; spots = stood.0.spots }) stood.0
            (lines_after (record { names = named.0; spots = stood.0.spots }) 0 first_data items (Ok (start_from stood.0.taken))) a named.1 stood.1 refl refl
            (ap (by_placement items named.0) (sym stood.1) ∙ found)
      ]
      )
]

-- an assembly is of the items of its source
pub assembly-parts : (lines : List NumberedLine) (a : Assembled) → assembly_of lines ≡ Ok a → (source_of lines ≡ Ok a.items) × IsAssembly a.items a
assembly-parts lines a e = elim (result-cases (source_of lines)) [
  | inr none ↦ (let refused : by_items (Err none.0) ≡ Ok a = ap by_items (sym none.1) ∙ e in absurd (cc))
  | inl read ↦ (
      let is : IsAssembly read.0 a = names-parts read.0 a (ap by_items (sym read.1) ∙ e) in
      (read.1 ∙ ap (λ (items : List Item). Ok items) is.items_are, subst (λ (items : List Item). IsAssembly items a) is.items_are is)
      )
]

none-held : (slot : Slot) (s : ℕ) → held nothing slot ≡ None → held nothing slot ≡ Some s → s < 2 ^ 13
none-held slot s none h = absurd (cc)

-- what all lines hold then
pub record IsWalked (a : Assembled) : Type 0 where
  pub program : IsProgram a.items
  pub parts : IsAssembly a.items a
  pub apart : StandApart a.items a.plan.spots parts.placed.taken
  pub forms : StandAs a.items a.plan.spots
  pub slots : (name : List ℕ) (target : Target) → target_of a.plan name ≡ Some target → IfSome target.syl (λ half. is_slot (slot_of target.at half) ≡ true)
  pub walked : Walked (program_slots a.items a.plan.spots) a.plan first_data a.items a.plan.spots (start_from parts.placed.taken) parts.done

pub assembly-walked : Below → (lines : List NumberedLine) (a : Assembled) → assembly_of lines ≡ Ok a → IsWalked a
assembly-walked below lines a e =
    let both = assembly-parts lines a e in
    let parts : IsAssembly a.items a = both.1 in
    let program : IsProgram a.items = below.programs lines a.items both.0 in
    let apart : StandApart a.items a.plan.spots parts.placed.taken =
    subst (λ (spots : List (Option Place)). StandApart a.items spots parts.placed.taken) (sym parts.spots_are) (below.apart a.items parts.placed program parts.placement_is) in
    let forms : StandAs a.items a.plan.spots = subst (StandAs a.items) (sym parts.spots_are) (below.forms a.items parts.placed parts.placement_is) in
    let slots : (name : List ℕ) (target : Target) → target_of a.plan name ≡ Some target → IfSome target.syl (λ half. is_slot (slot_of target.at half) ≡ true) =
    target-slot a.plan (code-slots a.items a.plan.spots forms apart.inside) in
    record {
      program = program;
      parts = parts;
      apart = apart;
      forms = forms;
      slots = slots;
      walked = lines-walked a.plan (record {
        free = below.free;
        halves = λ name target e. IfSome_then target.syl (slots name target e) (λ half h. (is_slot-true (slot_of target.at half) h).syl);
        sector = below.sector;
      }) (program_slots a.items a.plan.spots) 0 first_data a.items a.plan.spots (start_from parts.placed.taken) parts.done
          (record {
            size = length-nothing;
            small = λ slot s i z h. none-held slot s (held-nothing slot i) h;
            closed = apart.closed;
            taken = apart.taken_all;
            pooled = λ index. tt;
            home = λ index. tt;
          })
          refl forms
          (record { distinct = apart.distinct; inside = apart.inside; part = λ slot h. h })
          parts.lines_are;
    }
