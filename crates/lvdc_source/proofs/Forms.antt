-- What a line means has a form that the items of a source have.
use Rattle.std.proofs.Common.{◌≡◌, ℕ, Bool, true, false, List, [], ◌∷◌, Result, Ok, Err, refl, sym, ap, subst, arith}
use Rattle.std.specs.Prelude.{not, ◌&&◌, ◌||◌, nat_lt, nat_le, if◌then◌else◌}
use Rattle.std.specs.declared.option.Option.{Option}
use Rattle.std.specs.declared.option.Option.TheVariants.{None, Some}
use Rattle.std.specs.Option.{option_map}
use Rattle.std.proofs.lemmas.Bool.Decides.{nat_tests}
use Rattle.std.proofs.lemmas.Option.{cond_some}
use Rattle.lvdc_isa.specs.declared.op.Op.{Op}
use Rattle.lvdc_isa.specs.declared.op.Op.TheVariants.{Hop, Mpy, Sub, Div, Tnz, Mph, And, Add, Tra, Xor, Pio, Sto, Tmi, Rsu, Cds, Shf, WrongShift, Exm, Cla}
use Rattle.lvdc_text.specs.Numbers.{number_of}
use Rattle.lvdc_source.specs.declared.fault.SourceFault.{SourceFault}
use Rattle.lvdc_source.specs.declared.block.Block.{Block}
use Rattle.lvdc_source.specs.declared.block.Block.TheVariants as kind
use Rattle.lvdc_source.specs.declared.item.Constant.{Constant}
use Rattle.lvdc_source.specs.declared.item.Operand.{Operand}
use Rattle.lvdc_source.specs.declared.item.Operand.TheVariants.{Number, Pair, Name, Literal}
use Rattle.lvdc_source.specs.declared.item.Body.{Body}
use Rattle.lvdc_source.specs.declared.item.Body.TheVariants as body
use Rattle.lvdc_source.specs.declared.item.Item.{Item}
use Rattle.lvdc_source.specs.declared.meaning.Meaning.{Meaning}
use Rattle.lvdc_source.specs.declared.meaning.Meaning.TheVariants as meaning
use Rattle.lvdc_source.specs.declared.operation.Operation.{Operation}
use Rattle.lvdc_source.specs.declared.operation.Operation.TheVariants as operation
use Rattle.lvdc_source.specs.Items.{is_literal, is_octal, is_address, is_pair, takes, IsSector, IsBody}
use Rattle.lvdc_text.specs.Lines.{NumberedLine, is_long, is_comment}
use Rattle.lvdc_source.specs.Lines.{Parts, parts_of}
use Rattle.lvdc_source.specs.Numbers.{octals_of}
use Rattle.lvdc_source.specs.Operations.{operation_of, is_unlabelled, is_modified, is_code, is_words, is_misplaced}
use Rattle.lvdc_source.specs.Operands.{octal_of, decimal_of, hop_of, number_in, place_of, place_in, either, address_in, constant_in, literal_in, pair_of, operand_in, is_sector, org_of, words_of, use_of, room_of, body_in}
use Rattle.lvdc_source.specs.Source.{is_bad_label, with_body, by_operand, by_operation, by_parts, meaning_of}

-- ---- tests, and what is there

both : (a b : Bool) → (a && b) ≡ true → (a ≡ true) × (b ≡ true)
both true b e = (refl, e)
both false b e = absurd (cc)

or_right : (a b : Bool) → b ≡ true → (a || b) ≡ true
or_right true b e = refl
or_right false b e = e

some_map : {A B : Type 0} (f : A → B) (o : Option A) (y : B) → option_map f o ≡ Some y → (x : A) × (o ≡ Some x) × (f x ≡ y)
some_map f None y e = absurd (cc)
some_map f (Some x) y e = (x, refl, cc)

if_err : {A E : Type 0} (test : Bool) (fault : E) (rest : Result A E) (x : A) → (if test then Err fault else rest) ≡ Ok x → (test ≡ false) × (rest ≡ Ok x)
if_err true fault rest x e = absurd (cc)
if_err false fault rest x e = (refl, e)

-- ---- operands

either_is : (test : Operand → Bool) (a b : Option Operand) → ((x : Operand) → a ≡ Some x → test x ≡ true) → ((x : Operand) → b ≡ Some x → test x ≡ true)
    → (x : Operand) → either a b ≡ Some x → test x ≡ true
either_is test (Some a) b first second x e = first x e
either_is test None b first second x e = second x e

octal-number : (text : List ℕ) (x : Operand) → number_in text ≡ Some x → is_octal x ≡ true
octal-number text x e = let parts = some_map (λ n. Number n) (number_of 8 9 text) x e in ap is_octal (sym parts.2)

address-number : (text : List ℕ) (x : Operand) → number_in text ≡ Some x → is_address x ≡ true
address-number text x e = let parts = some_map (λ n. Number n) (number_of 8 9 text) x e in ap is_address (sym parts.2)

address-place : (name : Option (List ℕ)) (offset : Option ℕ) (x : Operand) → place_of name offset ≡ Some x → is_address x ≡ true
address-place (Some name) (Some offset) x e = let same : Name name offset ≡ x = cc in ap is_address (sym same)
address-place (Some name) None x e = absurd (cc)
address-place None offset x e = absurd (cc)

address-is : (text : List ℕ) (x : Operand) → address_in text ≡ Some x → is_address x ≡ true
unfolding address_in
address-is text x e = either_is is_address (number_in text) (place_in text) (address-number text) (λ y f. address-place _ _ y f) x e

literal-is : (text : List ℕ) (x : Operand) → literal_in text ≡ Some x → is_literal x ≡ true
unfolding literal_in
literal-is text x e = let parts = some_map (λ constant. Literal constant) (constant_in text) x e in ap is_literal (sym parts.2)

word-is : (text : List ℕ) (x : Operand) → either (address_in text) (literal_in text) ≡ Some x → (is_address x || is_literal x) ≡ true
word-is text x e =
    either_is (λ y. is_address y || is_literal y) (address_in text) (literal_in text) (λ y f. ap (λ (b : Bool). b || is_literal y) (address-is text y f))
    (λ y f. or_right (is_address y) (is_literal y) (literal-is text y f)) x e

pair-is : (numbers : Option (List ℕ)) (x : Operand) → pair_of numbers ≡ Some x → is_pair x ≡ true
pair-is (Some (pair ∷ sector ∷ [])) x e = let same : Pair pair sector ≡ x = cc in ap is_pair (sym same)
pair-is other x e = absurd (cc)

-- an operand has a form that its operation takes
takes-operand_in : (op : Op) (text : List ℕ) (x : Operand) → operand_in op text ≡ Some x → takes op x ≡ true
takes-operand_in Sto text x e = address-is text x e
takes-operand_in Tra text x e = address-is text x e
takes-operand_in Tnz text x e = address-is text x e
takes-operand_in Tmi text x e = address-is text x e
takes-operand_in Pio text x e = octal-number text x e
takes-operand_in Shf text x e = octal-number text x e
takes-operand_in Cds text x e = pair-is (octals_of text) x e
takes-operand_in WrongShift text x e = absurd (cc)
takes-operand_in Exm text x e = absurd (cc)
takes-operand_in Hop text x e = word-is text x e
takes-operand_in Mpy text x e = word-is text x e
takes-operand_in Sub text x e = word-is text x e
takes-operand_in Div text x e = word-is text x e
takes-operand_in Mph text x e = word-is text x e
takes-operand_in And text x e = word-is text x e
takes-operand_in Add text x e = word-is text x e
takes-operand_in Xor text x e = word-is text x e
takes-operand_in Rsu text x e = word-is text x e
takes-operand_in Cla text x e = word-is text x e

-- ---- where a line stands

in_code : (block : Block) → not (is_code block) ≡ false → block ≡ kind.Code
in_code kind.Nowhere e = absurd (cc)
in_code kind.Code e = refl
in_code kind.Words e = absurd (cc)

in_words : (block : Block) → not (is_words block) ≡ false → block ≡ kind.Words
in_words kind.Nowhere e = absurd (cc)
in_words kind.Code e = absurd (cc)
in_words kind.Words e = refl

or_false : (a b : Bool) → b ≡ true → (a || b) ≡ false → ⊥
or_false true b e f = cc
or_false false b e f = cc

no_label : (label : List ℕ) (directive : Operation) → is_unlabelled directive ≡ true → is_bad_label label (Some directive) ≡ false → label ≡ []
no_label [] directive u e = refl
no_label (b ∷ bs) directive u e = absurd (or_false _ (is_unlabelled directive) u e)

-- ---- directives

in_sector : (pair sector : ℕ) → is_sector pair sector ≡ true → IsSector pair sector
in_sector pair sector e =
    let tests = both (nat_lt pair 4) (nat_lt sector 16) e in record { four_pairs = grind (arith, nat_tests); sixteen_sectors = grind (arith, nat_tests) }

module _ (block : Block) (label : List ℕ) (none : label ≡ []) where
  org-is : (numbers : Option (List ℕ)) (said : Body) → org_of numbers ≡ Some said → IsBody block label said
  org-is (Some (pair ∷ sector ∷ syl ∷ loc ∷ [])) said e =
      let parts = cond_some (is_sector pair sector && nat_lt syl 2 && nat_lt loc 256) (body.Org (record { pair = pair; sector = sector; loc = loc }) syl) said e in
      let outer = both (is_sector pair sector && nat_lt syl 2) (nat_lt loc 256) parts.0 in
      let inner = both (is_sector pair sector) (nat_lt syl 2) outer.0 in
      subst (IsBody block label) parts.1 (none, in_sector pair sector inner.0, grind (arith, nat_tests), grind (arith, nat_tests))
  org-is other said e = absurd (cc)

  words-is : (numbers : Option (List ℕ)) (said : Body) → words_of numbers ≡ Some said → IsBody block label said
  words-is (Some (pair ∷ sector ∷ [])) said e =
      let parts = cond_some (is_sector pair sector) (body.Words pair sector None) said e in
      subst (IsBody block label) parts.1 (none, in_sector pair sector parts.0, tt)
  words-is (Some (pair ∷ sector ∷ loc ∷ [])) said e =
      let parts = cond_some (is_sector pair sector && nat_lt loc 256) (body.Words pair sector (Some loc)) said e in
      let tests = both (is_sector pair sector) (nat_lt loc 256) parts.0 in
      subst (IsBody block label) parts.1 (none, in_sector pair sector tests.0, grind (arith, nat_tests))
  words-is other said e = absurd (cc)

  use-is : (numbers : Option (List ℕ)) (said : Body) → use_of numbers ≡ Some said → IsBody block label said
  use-is (Some (pair ∷ sector ∷ [])) said e =
      let parts = cond_some (is_sector pair sector) (body.Sector pair sector) said e in subst (IsBody block label) parts.1 (none, in_sector pair sector parts.0)
  use-is other said e = absurd (cc)

room-is : (block : Block) (label : List ℕ) → block ≡ kind.Words → (number : Option ℕ) (said : Body) → room_of number ≡ Some said → IsBody block label said
room-is block label open' (Some count) said e =
    let parts = cond_some (nat_lt 0 count && nat_le count 256) (body.Room count) said e in
    let tests = both (nat_lt 0 count) (nat_le count 256) parts.0 in
    subst (IsBody block label) parts.1 (open', grind (arith, nat_tests), grind (arith, nat_tests))
room-is block label open' None said e = absurd (cc)

constant-is : (block : Block) (label : List ℕ) → block ≡ kind.Words → (constant : Option Constant) (said : Body) → option_map (λ c. body.Constant c) constant ≡ Some said → IsBody block label said
constant-is block label open' constant said e = let parts = some_map (λ c. body.Constant c) constant said e in subst (IsBody block label) parts.2 open'

instruction-is : (block : Block) (label : List ℕ) → block ≡ kind.Code → (op : Op) (text : List ℕ) (said : Body) → option_map (λ operand. body.Instruction op operand) (operand_in op text) ≡ Some said → IsBody block label said
instruction-is block label open' op text said e =
    let parts = some_map (λ operand. body.Instruction op operand) (operand_in op text) said e in
    subst (IsBody block label) parts.2 (open', takes-operand_in op text parts.0 parts.1)

-- what an operation says has a form that it may have in this block
body-is : (block : Block) (label : List ℕ) (operation : Operation) (text : List ℕ) (said : Body) → is_bad_label label (Some operation) ≡ false → is_misplaced block operation ≡ false
    → body_in operation text ≡ Some said → IsBody block label said
unfolding body_in
body-is block label (operation.Machine op) text said l m e = instruction-is block label (in_code block m) op text said e
body-is block label operation.Oct text said l m e = constant-is block label (in_words block m) (octal_of text) said e
body-is block label operation.Dec text said l m e = constant-is block label (in_words block m) (decimal_of text) said e
body-is block label operation.Hopc text said l m e = constant-is block label (in_words block m) (hop_of text) said e
body-is block label operation.Bss text said l m e = room-is block label (in_words block m) (number_of 10 9 text) said e
body-is block label operation.Code text said l m e = let same : body.Code ≡ said = cc in subst (IsBody block label) same (no_label label operation.Code refl l)
body-is block label operation.Org text said l m e = org-is block label (no_label label operation.Org refl l) (octals_of text) said e
body-is block label operation.Words text said l m e = words-is block label (no_label label operation.Words refl l) (octals_of text) said e
body-is block label operation.Use text said l m e = use-is block label (no_label label operation.Use refl l) (octals_of text) said e
body-is block label operation.End text said l m e = absurd (cc)

-- ---- a line

with_body-is : (block : Block) (operation : Operation) (number : ℕ) (label text : List ℕ) (item : Item) → is_bad_label label (Some operation) ≡ false → is_misplaced block operation ≡ false
    → (said : Option Body) → body_in operation text ≡ said → with_body operation number label said ≡ Ok (meaning.Item item) → IsBody block item.label item.body
with_body-is block operation number label text item l m (Some said) b e =
    let same : ◌≡◌ {A = Item} (record { line = number; label = label; body = said }) item = cc in
    subst (λ (i : Item). IsBody block i.label i.body) same (body-is block label operation text said l m b)
with_body-is block operation number label text item l m None b e = absurd (cc)

by_operand-is : (block : Block) (operation : Operation) (number : ℕ) (label text : List ℕ) (item : Item) → is_bad_label label (Some operation) ≡ false → is_misplaced block operation ≡ false
    → by_operand operation number label text ≡ Ok (meaning.Item item) → IsBody block item.label item.body
by_operand-is block operation.End number label text item l m e = absurd (cc)
by_operand-is block operation number label text item l m e = with_body-is block operation number label text item l m (body_in operation text) refl e

by_operation-is : (block : Block) (number : ℕ) (parts : Parts) (named : Option Operation) (item : Item) → is_bad_label parts.label named ≡ false
    → by_operation block number parts named ≡ Ok (meaning.Item item) → IsBody block item.label item.body
by_operation-is block number parts None item l e = absurd (cc)
by_operation-is block number parts (Some operation) item l e =
    let unmodified = if_err (is_modified operation) _ _ (meaning.Item item) e in
    let placed = if_err (is_misplaced block operation) _ _ (meaning.Item item) unmodified.1 in
    by_operand-is block operation number parts.label parts.operand item l placed.0 placed.1

by_parts-is : (block : Block) (number : ℕ) (parts : Parts) (item : Item) → by_parts block number parts ≡ Ok (meaning.Item item) → IsBody block item.label item.body
by_parts-is block number parts item e =
    let labelled = if_err (is_bad_label parts.label (operation_of parts.operation)) _ _ (meaning.Item item) e in
    by_operation-is block number parts (operation_of parts.operation) item labelled.0 labelled.1

if_nothing : (test : Bool) (rest : Result Meaning SourceFault) (item : Item) → (if test then Ok meaning.Nothing else rest) ≡ Ok (meaning.Item item) → rest ≡ Ok (meaning.Item item)
if_nothing true rest item e = absurd (cc)
if_nothing false rest item e = e

-- the item of a line says what it may in this block
pub meaning_of-is : (block : Block) (line : NumberedLine) (item : Item) → meaning_of block line ≡ Ok (meaning.Item item) → IsBody block item.label item.body
unfolding meaning_of
meaning_of-is block line item e =
    let short = if_err (is_long line.text) _ _ (meaning.Item item) e in
    by_parts-is block line.number (parts_of line.text) item (if_nothing (is_comment line.text) _ item short.1)
