-- Items that stand so many lines further on come to the same words, or are refused for the same cause, so many lines further on.
use Rattle.std.proofs.Common.{◌≡◌, ℕ, ◌+◌, Bool, true, false, List, [], ◌∷◌, ◌++◌, map, slice_index_or, unwrap_or, Option, None, Some, Result, Ok, Err, refl, ap, ◌∙◌}
use Rattle.std.specs.Bool.{if◌then◌else◌}
use Rattle.std.specs.Map.{lookup}
use Rattle.std.specs.Option.{option_map}
use Rattle.std.specs.Prelude.{nat_lt}
use Rattle.lvdc_map.specs.Address.{Spot}
use Rattle.lvdc_map.specs.Hop.{HopConstant}
use Rattle.lvdc_isa.specs.declared.op.Op.{Op}
use Rattle.lvdc_source.specs.declared.item.Body.{Body}
use Rattle.lvdc_source.specs.declared.item.Body.TheVariants as says
use Rattle.lvdc_source.specs.declared.item.Constant.{Constant}
use Rattle.lvdc_source.specs.declared.item.Constant.TheVariants.{Oct, Dec, HopOf}
use Rattle.lvdc_source.specs.declared.item.Item.{Item}
use Rattle.lvdc_source.specs.declared.item.Operand.{Operand}
use Rattle.lvdc_source.specs.declared.item.Operand.TheVariants.{Number, Pair, Name, Literal}
use Rattle.lvdc_place.specs.Slots.{pool_place}
use Rattle.lvdc_place.specs.declared.spot.Spot.{Spot as Place}
use Rattle.lvdc_asm.specs.Data.{data_after}
use Rattle.lvdc_asm.specs.DataPlace.{DataPlace, first_data}
use Rattle.lvdc_asm.specs.Hop.{Plan, target_of, hop_to}
use Rattle.lvdc_asm.specs.Lines.{OperandAddress, plain_address, literal_address, word_address, operand_address, with_instruction, with_constant, line_at, line_done, lines_after}
use Rattle.lvdc_asm.specs.Names.{entry_of, names_from, names_of, label_of, is_among, repeat_after, unless_repeated, names_in}
use Rattle.lvdc_asm.specs.Operands.{or_refused, octal_word, decimal_word, number_address, pair_address, reach, name_address, hop_word, name_word, constant_word}
use Rattle.lvdc_asm.specs.Pool.{Progress, LiteralPlace, is_same_literal, literal_of, new_place, place_by, literal_place}
use Rattle.lvdc_asm.specs.Target.{Target}
use Rattle.lvdc_asm.specs.declared.fault.AsmFault.{AsmFault}
use Rattle.lvdc_asm.specs.declared.fault.AsmFault.TheVariants.{OutOfRange, OutOfSector}
use Rattle.lvdc_deck.specs.Moving.{item_moved, fault_moved}
use Rattle.lvdc_deck.proofs.Types.{TypeOf}

-- names and what they stand for
abbrev pub Names : Type 0
Names = TypeOf (names_of [])

-- a literal of the pool
abbrev Pooled : Type 0
Pooled = TypeOf (literal_of first_data 0)

-- a value, or a refusal so many lines further on
abbrev pub refusal_moved : {V : Type 0} → ℕ → Result V AsmFault → Result V AsmFault
refusal_moved k (Ok value) = Ok value
refusal_moved k (Err fault) = Err (fault_moved k fault)

-- ---- names

names-from : (k number : ℕ) (assumed : DataPlace) (items : List Item) → names_from number assumed (map (item_moved k) items) ≡ names_from number assumed items
names-from k number assumed [] = refl
names-from k number assumed (item ∷ items) =
    ap (λ (names : Names). entry_of item.label (record { item = number; assumed = assumed }) ++ names) (names-from k (number + 1) (data_after assumed item.body) items)

-- a choice between two lines
line-moved : (k : ℕ) (b : Bool) (first other first_moved other_moved : Option ℕ) → first_moved ≡ option_map (λ (n : ℕ). k + n) first → other_moved ≡ option_map (λ (n : ℕ). k + n) other →
    (if b then first_moved else other_moved) ≡ option_map (λ (n : ℕ). k + n) (if b then first else other)
line-moved k true first other first_moved other_moved y n = y
line-moved k false first other first_moved other_moved y n = n

repeat-moved : (k : ℕ) (names : List (List ℕ)) (items : List Item) → repeat_after names (map (item_moved k) items) ≡ option_map (λ (n : ℕ). k + n) (repeat_after names items)
repeat-moved k names [] = refl
repeat-moved k names (item ∷ items) =
    line-moved k (is_among names item.label) (Some item.line) (repeat_after (names ++ label_of item.label) items) (Some (k + item.line)) (repeat_after (names ++ label_of item.label) (map (item_moved k) items))
    refl (repeat-moved k (names ++ label_of item.label) items)

unless-moved : (k : ℕ) (names : Names) (line : Option ℕ) → unless_repeated names (option_map (λ (n : ℕ). k + n) line) ≡ refusal_moved k (unless_repeated names line)
unless-moved k names None = refl
unless-moved k names (Some line) = refl

pub names-moved : (k : ℕ) (items : List Item) → names_in (map (item_moved k) items) ≡ refusal_moved k (names_in items)
names-moved k items =
    ap (λ (names : Names). unless_repeated names (repeat_after [] (map (item_moved k) items))) (names-from k 0 first_data items)
    ∙ ap (unless_repeated (names_of items)) (repeat-moved k [] items) ∙ unless-moved k (names_of items) (repeat_after [] items)

-- ---- operands

refused-moved : {V : Type 0} (k : ℕ) (fault : AsmFault) (value : Option V) → or_refused (fault_moved k fault) value ≡ refusal_moved k (or_refused fault value)
refused-moved k fault None = refl
refused-moved k fault (Some value) = refl

-- a choice between two addresses
chosen-moved : (k : ℕ) (b : Bool) (first other first_moved other_moved : Result ℕ AsmFault) → first_moved ≡ refusal_moved k first → other_moved ≡ refusal_moved k other →
    (if b then first_moved else other_moved) ≡ refusal_moved k (if b then first else other)
chosen-moved k true first other first_moved other_moved y n = y
chosen-moved k false first other first_moved other_moved y n = n

name-moved : (k line : ℕ) (op : Op) (here : Spot) (assumed : DataPlace) (offset : ℕ) (target : Option Target) →
    name_address (k + line) op here assumed offset target ≡ refusal_moved k (name_address line op here assumed offset target)
name-moved k line op here assumed offset None = refl
name-moved k line op here assumed offset (Some target) =
    chosen-moved k (nat_lt (target.at.loc + offset) 256) (or_refused (OutOfSector line) (reach op here assumed target offset)) (Err (OutOfRange line))
    (or_refused (OutOfSector (k + line)) (reach op here assumed target offset)) (Err (OutOfRange (k + line)))
    (refused-moved k (OutOfSector line) (reach op here assumed target offset)) refl

hop-moved : (k line : ℕ) (hop : Option HopConstant) → hop_word (k + line) hop ≡ refusal_moved k (hop_word line hop)
hop-moved k line None = refl
hop-moved k line (Some hop) = refl

word-moved : (k line : ℕ) (target : Option Target) → name_word (k + line) target ≡ refusal_moved k (name_word line target)
word-moved k line None = refl
word-moved k line (Some target) = hop-moved k line (hop_to target)

constant-moved : (plan : Plan) (k line : ℕ) (constant : Constant) → constant_word plan (k + line) constant ≡ refusal_moved k (constant_word plan line constant)
constant-moved plan k line (Oct n) = refused-moved k (OutOfRange line) (octal_word n)
constant-moved plan k line (Dec z) = refused-moved k (OutOfRange line) (decimal_word z)
constant-moved plan k line (HopOf name) = word-moved k line (target_of plan name)

-- ---- literals

new-moved : (k line : ℕ) (progress : Progress) (literal : Pooled) (at : Option Spot) → new_place (k + line) progress literal at ≡ refusal_moved k (new_place line progress literal at)
new-moved k line progress literal None = refl
new-moved k line progress literal (Some at) = refl

place-moved : (k line : ℕ) (progress : Progress) (literal : Pooled) (at : Option Spot) → place_by (k + line) progress literal at ≡ refusal_moved k (place_by line progress literal at)
place-moved k line progress literal (Some at) = refl
place-moved k line progress literal None = new-moved k line progress literal (pool_place progress.taken literal.pair literal.sector)

literal-moved : (k : ℕ) (place : Result LiteralPlace AsmFault) → literal_address (refusal_moved k place) ≡ refusal_moved k (literal_address place)
literal-moved k (Ok place) = refl
literal-moved k (Err fault) = refl

pooled-moved : (k line : ℕ) (assumed : DataPlace) (progress : Progress) (w : Result ℕ AsmFault) →
    word_address (k + line) assumed progress (refusal_moved k w) ≡ refusal_moved k (word_address line assumed progress w)
pooled-moved k line assumed progress (Ok w) =
    ap literal_address (place-moved k line progress (literal_of assumed w) (lookup (is_same_literal (literal_of assumed w)) progress.pool))
    ∙ literal-moved k (literal_place line progress (literal_of assumed w))
pooled-moved k line assumed progress (Err fault) = refl

-- ---- one line

plain-moved : (k : ℕ) (progress : Progress) (address : Result ℕ AsmFault) → plain_address progress (refusal_moved k address) ≡ refusal_moved k (plain_address progress address)
plain-moved k progress (Ok address) = refl
plain-moved k progress (Err fault) = refl

operand-moved : (plan : Plan) (k line : ℕ) (op : Op) (here : Spot) (assumed : DataPlace) (progress : Progress) (operand : Operand) →
    operand_address plan (k + line) op here assumed progress operand ≡ refusal_moved k (operand_address plan line op here assumed progress operand)
operand-moved plan k line op here assumed progress (Number n) =
    ap (plain_address progress) (refused-moved k (OutOfRange line) (number_address op n)) ∙ plain-moved k progress (or_refused (OutOfRange line) (number_address op n))
operand-moved plan k line op here assumed progress (Pair pair sector) =
    ap (plain_address progress) (refused-moved k (OutOfRange line) (pair_address pair sector)) ∙ plain-moved k progress (or_refused (OutOfRange line) (pair_address pair sector))
operand-moved plan k line op here assumed progress (Name name offset) =
    ap (plain_address progress) (name-moved k line op here assumed offset (target_of plan name))
    ∙ plain-moved k progress (name_address line op here assumed offset (target_of plan name))
operand-moved plan k line op here assumed progress (Literal constant) =
    ap (word_address (k + line) assumed progress) (constant-moved plan k line constant) ∙ pooled-moved k line assumed progress (constant_word plan line constant)

instruction-moved : (k : ℕ) (op : Op) (here : Spot) (syl : ℕ) (operand : Result OperandAddress AsmFault) →
    with_instruction op here syl (refusal_moved k operand) ≡ refusal_moved k (with_instruction op here syl operand)
instruction-moved k op here syl (Ok operand) = refl
instruction-moved k op here syl (Err fault) = refl

kept-moved : (k : ℕ) (here : Spot) (progress : Progress) (w : Result ℕ AsmFault) → with_constant here progress (refusal_moved k w) ≡ refusal_moved k (with_constant here progress w)
kept-moved k here progress (Ok w) = refl
kept-moved k here progress (Err fault) = refl

at-moved : (plan : Plan) (k line : ℕ) (assumed : DataPlace) (here : Place) (body : Body) (progress : Progress) →
    line_at plan (k + line) assumed here body progress ≡ refusal_moved k (line_at plan line assumed here body progress)
at-moved plan k line assumed here (says.Constant constant) progress =
    ap (with_constant here.at progress) (constant-moved plan k line constant) ∙ kept-moved k here.at progress (constant_word plan line constant)
at-moved plan k line assumed here (says.Instruction op operand) progress =
    ap (with_instruction op here.at (unwrap_or here.syl 0)) (operand-moved plan k line op here.at assumed progress operand)
    ∙ instruction-moved k op here.at (unwrap_or here.syl 0) (operand_address plan line op here.at assumed progress operand)
at-moved plan k line assumed here says.Code progress = refl
at-moved plan k line assumed here (says.Org at syl) progress = refl
at-moved plan k line assumed here (says.Words pair sector loc) progress = refl
at-moved plan k line assumed here (says.Sector pair sector) progress = refl
at-moved plan k line assumed here (says.Room count) progress = refl

done-moved : (plan : Plan) (k : ℕ) (assumed : DataPlace) (here : Option Place) (item : Item) (progress : Progress) →
    line_done plan assumed here (item_moved k item) progress ≡ refusal_moved k (line_done plan assumed here item progress)
done-moved plan k assumed None item progress = refl
done-moved plan k assumed (Some here) item progress = at-moved plan k item.line assumed here item.body progress

-- ---- all lines

pub lines-moved : (plan : Plan) (k number : ℕ) (assumed : DataPlace) (items : List Item) (progress : Result Progress AsmFault) →
    lines_after plan number assumed (map (item_moved k) items) (refusal_moved k progress) ≡ refusal_moved k (lines_after plan number assumed items progress)
lines-moved plan k number assumed [] (Ok progress) = refl
lines-moved plan k number assumed (item ∷ items) (Ok progress) =
    ap (lines_after plan (number + 1) (data_after assumed item.body) (map (item_moved k) items)) (done-moved plan k assumed (slice_index_or plan.spots number None) item progress)
    ∙ lines-moved plan k (number + 1) (data_after assumed item.body) items (line_done plan assumed (slice_index_or plan.spots number None) item progress)
lines-moved plan k number assumed [] (Err fault) = refl
lines-moved plan k number assumed (item ∷ items) (Err fault) = refl
