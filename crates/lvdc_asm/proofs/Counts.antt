-- The pooled words of a source are no more than its items.
use Rattle.std.proofs.Common.{◌≡◌, ℕ, ◌+◌, ◌≤◌, List, [], ◌∷◌, length, Result, Ok, Err, Option, None, Some, slice_index_or, unwrap_or, refl, ap, subst, arith, length-append}
use Rattle.std.specs.Map.{lookup}
use Rattle.lvdc_map.specs.Address.{Spot}
use Rattle.lvdc_isa.specs.Instr.{syllable_of}
use Rattle.lvdc_isa.specs.declared.op.Op.{Op}
use Rattle.lvdc_text.specs.Lines.{NumberedLine}
use Rattle.lvdc_source.specs.Items.{AreFew}
use Rattle.lvdc_source.specs.Source.{source_of}
use Rattle.lvdc_source.specs.declared.fault.SourceFault.{SourceFault}
use Rattle.lvdc_source.specs.declared.item.Body.{Body}
use Rattle.lvdc_source.specs.declared.item.Body.TheVariants as says
use Rattle.lvdc_source.specs.declared.item.Item.{Item}
use Rattle.lvdc_source.specs.declared.item.Operand.{Operand}
use Rattle.lvdc_source.specs.declared.item.Operand.TheVariants.{Number, Pair, Name, Literal}
use Rattle.lvdc_place.specs.Placement.{Placement, placement}
use Rattle.lvdc_place.specs.Slots.{Slots, pool_place}
use Rattle.lvdc_place.specs.declared.fault.PlaceFault.{PlaceFault}
use Rattle.lvdc_place.specs.declared.spot.Spot.{Spot as Place}
use Rattle.lvdc_asm.specs.Assembly.{Assembled, start_from, by_lines, by_plan, by_placement, by_names, by_items, assembly_of, IsSmall}
use Rattle.lvdc_asm.specs.Data.{data_after}
use Rattle.lvdc_asm.specs.DataPlace.{DataPlace, first_data}
use Rattle.lvdc_asm.specs.Hop.{Plan}
use Rattle.lvdc_asm.specs.Lines.{OperandAddress, plain_address, literal_address, word_address, operand_address, with_instruction, with_constant, line_at, line_done, lines_after}
use Rattle.lvdc_asm.specs.Locations.{with_code, with_word, words_of}
use Rattle.lvdc_asm.specs.Names.{names_in}
use Rattle.lvdc_asm.specs.Operands.{constant_word}
use Rattle.lvdc_asm.specs.Pool.{Progress, LiteralPlace, is_same_literal, literal_of, with_pooled, new_place, place_by, literal_place}
use Rattle.lvdc_asm.specs.declared.fault.AsmFault.{AsmFault}
use Rattle.lvdc_asm.specs.declared.names.Definition.{Definition}
use Rattle.lvdc_asm.specs.declared.pool.Literal.{Literal as Pooled}

-- so many words are pooled at most
abbrev Holds : ℕ → Progress → Type 0
Holds most progress = length progress.pool ≤ most

-- ---- one operand

new-holds : (line : ℕ) (progress : Progress) (literal : Pooled) (at : Option Spot) (place : LiteralPlace) → new_place line progress literal at ≡ Ok place → Holds (length progress.pool + 1) place.progress
new-holds line progress literal None place e = absurd (cc)
new-holds line progress literal (Some at) place e =
    let same : ◌≡◌ {A = LiteralPlace} (record { at = at; progress = with_pooled progress literal at }) place = cc in
    subst (λ (p : LiteralPlace). Holds (length progress.pool + 1) p.progress) same (omega (arith, length-append progress.pool ((literal, at) ∷ [])))

place-holds : (line : ℕ) (progress : Progress) (literal : Pooled) (at : Option Spot) (place : LiteralPlace) → place_by line progress literal at ≡ Ok place → Holds (length progress.pool + 1) place.progress
place-holds line progress literal (Some at) place e =
    let same : ◌≡◌ {A = LiteralPlace} (record { at = at; progress = progress }) place = cc in
    subst (λ (p : LiteralPlace). Holds (length progress.pool + 1) p.progress) same (omega arith)
place-holds line progress literal None place e = new-holds line progress literal (pool_place progress.taken literal.pair literal.sector) place e

literal-holds : (most : ℕ) (r : Result LiteralPlace AsmFault) (x : OperandAddress) → ((place : LiteralPlace) → r ≡ Ok place → Holds most place.progress) → literal_address r ≡ Ok x → Holds most x.progress
literal-holds most (Err fault) x h e = absurd (cc)
literal-holds most (Ok place) x h e =
    let same : ◌≡◌ {A = OperandAddress} (record { address = place.at.loc; progress = place.progress }) x = cc in
    subst (λ (o : OperandAddress). Holds most o.progress) same (h place refl)

word-holds : (line : ℕ) (assumed : DataPlace) (progress : Progress) (w : Result ℕ AsmFault) (x : OperandAddress) → word_address line assumed progress w ≡ Ok x → Holds (length progress.pool + 1) x.progress
word-holds line assumed progress (Err fault) x e = absurd (cc)
word-holds line assumed progress (Ok w) x e =
    literal-holds (length progress.pool + 1) (literal_place line progress (literal_of assumed w)) x
    (λ place f. place-holds line progress (literal_of assumed w) (lookup (is_same_literal (literal_of assumed w)) progress.pool) place f) e

plain-holds : (progress : Progress) (r : Result ℕ AsmFault) (x : OperandAddress) → plain_address progress r ≡ Ok x → Holds (length progress.pool + 1) x.progress
plain-holds progress (Err fault) x e = absurd (cc)
plain-holds progress (Ok address) x e =
    let same : ◌≡◌ {A = OperandAddress} (record { address = address; progress = progress }) x = cc in
    subst (λ (o : OperandAddress). Holds (length progress.pool + 1) o.progress) same (omega arith)

operand-holds : (plan : Plan) (line : ℕ) (op : Op) (here : Spot) (assumed : DataPlace) (progress : Progress) (operand : Operand) (x : OperandAddress)
    → operand_address plan line op here assumed progress operand ≡ Ok x → Holds (length progress.pool + 1) x.progress
operand-holds plan line op here assumed progress (Number n) x e = plain-holds progress _ x e
operand-holds plan line op here assumed progress (Pair pair sector) x e = plain-holds progress _ x e
operand-holds plan line op here assumed progress (Name name offset) x e = plain-holds progress _ x e
operand-holds plan line op here assumed progress (Literal constant) x e = word-holds line assumed progress (constant_word plan line constant) x e

-- ---- one line

instruction-holds : (most : ℕ) (op : Op) (here : Spot) (syl : ℕ) (r : Result OperandAddress AsmFault) (q : Progress) → ((x : OperandAddress) → r ≡ Ok x → Holds most x.progress)
    → with_instruction op here syl r ≡ Ok q → Holds most q
instruction-holds most op here syl (Err fault) q h e = absurd (cc)
instruction-holds most op here syl (Ok x) q h e =
    let same : ◌≡◌ {A = Progress} (record x.progress { locations = with_code x.progress.locations here syl (syllable_of (record { op = op; address = x.address })) }) q = cc in
    subst (Holds most) same (h x refl)

constant-holds : (here : Spot) (progress : Progress) (r : Result ℕ AsmFault) (q : Progress) → with_constant here progress r ≡ Ok q → Holds (length progress.pool + 1) q
constant-holds here progress (Err fault) q e = absurd (cc)
constant-holds here progress (Ok w) q e =
    let same : ◌≡◌ {A = Progress} (record progress { locations = with_word progress.locations here w }) q = cc in
    subst (Holds (length progress.pool + 1)) same (omega arith)

same-holds : (progress q : Progress) → ◌≡◌ {A = Result Progress AsmFault} (Ok progress) (Ok q) → Holds (length progress.pool + 1) q
same-holds progress q e = let same : progress ≡ q = cc in subst (Holds (length progress.pool + 1)) same (omega arith)

at-holds : (plan : Plan) (line : ℕ) (assumed : DataPlace) (here : Place) (body : Body) (progress q : Progress) → line_at plan line assumed here body progress ≡ Ok q → Holds (length progress.pool + 1) q
at-holds plan line assumed here (says.Constant constant) progress q e = constant-holds here.at progress (constant_word plan line constant) q e
at-holds plan line assumed here (says.Instruction op operand) progress q e =
    instruction-holds (length progress.pool + 1) op here.at (unwrap_or here.syl 0) (operand_address plan line op here.at assumed progress operand) q
    (λ x f. operand-holds plan line op here.at assumed progress operand x f) e
at-holds plan line assumed here _ progress q e = same-holds progress q e

line-holds : (plan : Plan) (assumed : DataPlace) (spot : Option Place) (item : Item) (progress q : Progress) → line_done plan assumed spot item progress ≡ Ok q → Holds (length progress.pool + 1) q
line-holds plan assumed None item progress q e = same-holds progress q e
line-holds plan assumed (Some here) item progress q e = at-holds plan item.line assumed here item.body progress q e

-- ---- all lines

lines-hold : (plan : Plan) (number : ℕ) (assumed : DataPlace) (items : List Item) (r : Result Progress AsmFault) (done : Progress) (most : ℕ) → ((p : Progress) → r ≡ Ok p → Holds most p)
    → lines_after plan number assumed items r ≡ Ok done → Holds (most + length items) done
lines-hold plan number assumed items (Err fault) done most h e = absurd (cc)
lines-hold plan number assumed [] (Ok progress) done most h e = let same : progress ≡ done = cc in subst (Holds (most + 0)) same (omega (arith, h progress refl))
lines-hold plan number assumed (item ∷ items) (Ok progress) done most h e =
    let rest = lines-hold plan (number + 1) (data_after assumed item.body) items (line_done plan assumed (slice_index_or plan.spots number None) item progress) done (most + 1)
    (λ p f. let one = line-holds plan assumed (slice_index_or plan.spots number None) item progress p f in omega (arith, one, h progress refl)) e in
    omega (arith, rest)

-- ---- the assembly

-- the same of these items
record IsOfItems (items : List Item) (a : Assembled) : Type 0 where
  same : items ≡ a.items
  few : length a.pool ≤ length a.items

lines-of : (items : List Item) (plan : Plan) (r : Result Progress AsmFault) (a : Assembled) → ((p : Progress) → r ≡ Ok p → Holds (length items) p) → by_lines items plan r ≡ Ok a → IsOfItems items a
lines-of items plan (Err fault) a h e = absurd (cc)
lines-of items plan (Ok progress) a h e =
    let same : ◌≡◌ {A = Assembled} (record { items = items; plan = plan; pool = progress.pool; words = words_of progress.locations }) a = cc in
    subst (IsOfItems items) same (record { same = refl; few = h progress refl })

plan-of : (items : List Item) (plan : Plan) (taken : Slots) (a : Assembled) → by_plan items plan taken ≡ Ok a → IsOfItems items a
plan-of items plan taken a e =
    lines-of items plan (lines_after plan 0 first_data items (Ok (start_from taken))) a
    (λ p f. let few = lines-hold plan 0 first_data items (Ok (start_from taken)) p 0 (λ q g. let same : start_from taken ≡ q = cc in subst (Holds 0) same (omega arith)) f in omega (arith, few)) e

placement-of : (items : List Item) (names : List (List ℕ × Definition)) (r : Result Placement PlaceFault) (a : Assembled) → by_placement items names r ≡ Ok a → IsOfItems items a
placement-of items names (Err fault) a e = absurd (cc)
placement-of items names (Ok placed) a e = plan-of items (record { names = names; spots = placed.spots }) placed.taken a e

names-of : (items : List Item) (r : Result (List (List ℕ × Definition)) AsmFault) (a : Assembled) → by_names items r ≡ Ok a → IsOfItems items a
names-of items (Err fault) a e = absurd (cc)
names-of items (Ok names) a e = placement-of items names (placement items) a e

items-of : (r : Result (List Item) SourceFault) (a : Assembled) → by_items r ≡ Ok a → (r ≡ Ok a.items) × (length a.pool ≤ length a.items)
items-of (Err fault) a e = absurd (cc)
items-of (Ok items) a e = let found = names-of items (names_in items) a e in (ap (λ (all : List Item). Ok all) found.same, found.few)

-- an assembly is small where the items of its source are few
pub assembly-small : (lines : List NumberedLine) (a : Assembled) → ((items : List Item) → source_of lines ≡ Ok items → AreFew items (length lines)) → assembly_of lines ≡ Ok a → IsSmall a (length lines)
assembly-small lines a few e = let parts = items-of (source_of lines) a e in record { items = few a.items parts.0; pool = parts.1 }
