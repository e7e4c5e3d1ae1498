-- What each line of a program comes to, once all lines are assembled.
use Rattle.std.proofs.Common.{◌≡◌, ℕ, ◌+◌, ◌<◌, true, List, [], ◌∷◌, ◌++◌, drop, Option, None, Some, Result, Ok, Err, is_some, IfSome, unwrap_or, ◌^◌, refl, sym, ap, ◌∙◌, subst, arith, inl, inr}
use Rattle.std.specs.Map.{lookup}
use Rattle.std.proofs.lemmas.Bool.{true≢false, or_cases, false_from_ne_true}
use Rattle.std.proofs.lemmas.List.{length-set}
use Rattle.lvdc_map.specs.Address.{Spot, number_of}
use Rattle.lvdc_isa.specs.Instr.{operation, operation_code, syllable_of}
use Rattle.lvdc_isa.specs.declared.op.Op.{Op}
use Rattle.lvdc_isa.specs.declared.op.Op.TheVariants.{Hop, Mpy, Sub, Div, Tnz, Mph, And, Add, Tra, Xor, Pio, Sto, Tmi, Rsu, Cds, Shf, WrongShift, Exm, Cla}
use Rattle.lvdc_source.specs.Items.{takes}
use Rattle.lvdc_source.specs.declared.item.Body.{Body}
use Rattle.lvdc_source.specs.declared.item.Body.TheVariants as says
use Rattle.lvdc_source.specs.declared.item.Constant.{Constant}
use Rattle.lvdc_source.specs.declared.item.Item.{Item}
use Rattle.lvdc_source.specs.declared.item.Operand.{Operand}
use Rattle.lvdc_source.specs.declared.item.Operand.TheVariants.{Number, Pair, Name, Literal}
use Rattle.lvdc_place.specs.Slot.{Slot, is_slot, slot_of}
use Rattle.lvdc_place.specs.Slots.{Slots, are_free, pool_place}
use Rattle.lvdc_place.specs.Apart.{is_in, are_distinct, slots_onward, line_slots, program_slots, StandsAs, StandAs}
use Rattle.lvdc_place.specs.declared.spot.Spot.{Spot as Place}
use Rattle.lvdc_asm.proofs.Meant.{meant}
use Rattle.lvdc_asm.specs.Data.{data_after}
use Rattle.lvdc_asm.specs.DataPlace.{DataPlace}
use Rattle.lvdc_asm.specs.Hop.{Plan, target_of}
use Rattle.lvdc_asm.specs.Lines.{OperandAddress, plain_address, literal_address, word_address, operand_address, with_instruction, with_constant, line_at, line_done, lines_after}
use Rattle.lvdc_asm.specs.Locations.{with_code, with_word, with_syllable, both_syllables, location_at}
use Rattle.lvdc_asm.specs.Target.{Target}
use Rattle.lvdc_asm.specs.Operands.{number_address, pair_address, name_address, constant_word}
use Rattle.lvdc_asm.specs.Pool.{Progress, LiteralPlace, is_same_literal, literal_of, with_pooled, new_place, place_by, literal_place}
use Rattle.lvdc_asm.specs.declared.fault.AsmFault.{AsmFault}
use Rattle.lvdc_place.proofs.Tables.{is_slot-true}
use Rattle.lvdc_place.proofs.Distinct.{is_in-append, in-left, in-right}
use Rattle.lvdc_laws_assembly.specs.Images.{half_of}
use Rattle.lvdc_laws_assembly.proofs.Held.{held, held-code, held-code-other, held-word, held-word-other}
use Rattle.lvdc_laws_assembly.proofs.Operands.{refused-not, number-small, pair-small, name-small}
use Rattle.lvdc_laws_assembly.proofs.Pools.{drop-first, drop-next, lookup-push, lookup-each, literal-self, of_word, in-word, in-one, one-only, word-only, distinct-right, distinct-apart}
use Rattle.lvdc_laws_assembly.proofs.Steps.{IsPooled, small-word, small-code, Sound, Step, Stepped, stays, both-steps, pool-step, put-step}

-- ---- operands

-- a literal of a line is pooled, and its address is the location of its word
pub record IsStored (plan : Plan) (progress : Progress) (line : ℕ) (assumed : DataPlace) (constant : Constant) (address : ℕ) : Type 0 where
  pub word : ℕ
  pub value : constant_word plan line constant ≡ Ok word
  pub at : Spot
  pub stored : lookup (is_same_literal (literal_of assumed word)) progress.pool ≡ Some at
  pub loc : at.loc ≡ address

-- what the address of an operand is, by what was pooled
abbrev pub IsAddressOf : Plan → Progress → ℕ → Op → Spot → DataPlace → Operand → ℕ → Type 0
IsAddressOf plan progress line op here assumed (Number n) address = number_address op n ≡ Some address
IsAddressOf plan progress line op here assumed (Pair pair sector) address = pair_address pair sector ≡ Some address
IsAddressOf plan progress line op here assumed (Name name offset) address = name_address line op here assumed offset (target_of plan name) ≡ Ok address
IsAddressOf plan progress line op here assumed (Literal constant) address = IsStored plan progress line assumed constant address

-- also where more is assembled
address-stays : (own : List Slot) (p q : Progress) → Step own p q → (plan : Plan) (line : ℕ) (op : Op) (here : Spot) (assumed : DataPlace) (operand : Operand) (address : ℕ)
    → IsAddressOf plan p line op here assumed operand address → IsAddressOf plan q line op here assumed operand address
address-stays own p q step plan line op here assumed (Number n) address is = is
address-stays own p q step plan line op here assumed (Pair pair sector) address is = is
address-stays own p q step plan line op here assumed (Name name offset) address is = is
address-stays own p q step plan line op here assumed (Literal constant) address is = record {
  word = is.word;
  value = is.value;
  at = is.at;
  stored = step.finds assumed is.word is.at is.stored;
  loc = is.loc;
}

-- where a literal finds a place in the pool it is free, and in its sector; names of code stand in syllable 0 or 1
pub record Pools (plan : Plan) : Type 0 where
  pub free : (taken : Slots) (pair sector : ℕ) (at : Spot) → pool_place taken pair sector ≡ Some at → are_free taken (of_word at) ≡ true
  pub halves : (name : List ℕ) (target : Target) → target_of plan name ≡ Some target → IfSome target.syl (λ half. half < 2)
  pub sector : (taken : Slots) (pair sector : ℕ) (at : Spot) → sector < 16 → pool_place taken pair sector ≡ Some at → (at.pair ≡ pair) × (at.sector ≡ sector)

-- a literal was stored, or is there
record IsFound (whole : List Slot) (before : Progress) (assumed : DataPlace) (w : ℕ) (place : LiteralPlace) : Type 0 where
  stepped : Stepped whole [] before place.progress
  stored : lookup (is_same_literal (literal_of assumed w)) place.progress.pool ≡ Some place.at

new-found : (plan : Plan) (pools : Pools plan) (whole : List Slot) (line : ℕ) (p : Progress) (assumed : DataPlace) (w : ℕ) (found : Option Spot) (place : LiteralPlace) → Sound whole p
    → lookup (is_same_literal (literal_of assumed w)) p.pool ≡ None → pool_place p.taken assumed.pair assumed.sector ≡ found → new_place line p (literal_of assumed w) found ≡ Ok place
    → IsFound whole p assumed w place
new-found plan pools whole line p assumed w None place sound none is e = absurd (cc)
new-found plan pools whole line p assumed w (Some at) place sound none is e =
    let same : ◌≡◌ {A = LiteralPlace} (record { at = at; progress = with_pooled p (literal_of assumed w) at }) place = cc in
    subst (IsFound whole p assumed w) same (record {
      stepped = pool-step whole p assumed w at sound (pools.free p.taken assumed.pair assumed.sector at is) (λ small. pools.sector p.taken assumed.pair assumed.sector at small is);
      stored = lookup-push (is_same_literal (literal_of assumed w)) p.pool (literal_of assumed w) at (literal-self assumed w) none;
    })

place-found : (plan : Plan) (pools : Pools plan) (whole : List Slot) (line : ℕ) (p : Progress) (assumed : DataPlace) (w : ℕ) (found : Option Spot) (place : LiteralPlace) → Sound whole p
    → lookup (is_same_literal (literal_of assumed w)) p.pool ≡ found → place_by line p (literal_of assumed w) found ≡ Ok place → IsFound whole p assumed w place
place-found plan pools whole line p assumed w (Some at) place sound is e =
    let same : ◌≡◌ {A = LiteralPlace} (record { at = at; progress = p }) place = cc in
    subst (IsFound whole p assumed w) same (record { stepped = record { sound = sound; step = stays [] p }; stored = is })
place-found plan pools whole line p assumed w None place sound is e =
    new-found plan pools whole line p assumed w (pool_place p.taken assumed.pair assumed.sector) place sound is refl e

-- the address of an operand, and what was assembled with it
record IsOperand (whole : List Slot) (plan : Plan) (line : ℕ) (op : Op) (here : Spot) (assumed : DataPlace) (before : Progress) (operand : Operand) (x : OperandAddress) : Type 0 where
  stepped : Stepped whole [] before x.progress
  address : IsAddressOf plan x.progress line op here assumed operand x.address
  small : x.address < 2 ^ 9

-- the word of a literal stands in a location of a sector
literal-small : (whole : List Slot) (p : Progress) (assumed : DataPlace) (w : ℕ) (at : Spot) → Sound whole p → lookup (is_same_literal (literal_of assumed w)) p.pool ≡ Some at → at.loc < 256
literal-small whole p assumed w at sound h =
    let found = lookup-each (is_same_literal (literal_of assumed w)) p.pool (λ e. IsPooled whole p e.0.word e.1) at sound.pooled h in
    (is_slot-true (slot_of at 0) (found.2.inside 0 (omega arith))).loc

plain-operand : (whole : List Slot) (plan : Plan) (line : ℕ) (op : Op) (here : Spot) (assumed : DataPlace) (p : Progress) (operand : Operand) (r : Result ℕ AsmFault) (x : OperandAddress) → Sound whole p
    → ((address : ℕ) → r ≡ Ok address → IsAddressOf plan p line op here assumed operand address × (address < 2 ^ 9)) → plain_address p r ≡ Ok x → IsOperand whole plan line op here assumed p operand x
plain-operand whole plan line op here assumed p operand (Err fault) x sound is e = absurd (cc)
plain-operand whole plan line op here assumed p operand (Ok address) x sound is e =
    let same : ◌≡◌ {A = OperandAddress} (record { address = address; progress = p }) x = cc in
    subst (IsOperand whole plan line op here assumed p operand) same (record { stepped = record { sound = sound; step = stays [] p }; address = (is address refl).0; small = (is address refl).1 })

literal-operand : (whole : List Slot) (plan : Plan) (line : ℕ) (op : Op) (here : Spot) (assumed : DataPlace) (p : Progress) (constant : Constant) (w : ℕ) (r : Result LiteralPlace AsmFault) (x : OperandAddress)
    → constant_word plan line constant ≡ Ok w → ((place : LiteralPlace) → r ≡ Ok place → IsFound whole p assumed w place) → literal_address r ≡ Ok x
    → IsOperand whole plan line op here assumed p (Literal constant) x
literal-operand whole plan line op here assumed p constant w (Err fault) x value found e = absurd (cc)
literal-operand whole plan line op here assumed p constant w (Ok place) x value found e =
    let same : ◌≡◌ {A = OperandAddress} (record { address = place.at.loc; progress = place.progress }) x = cc in
    let is : IsFound whole p assumed w place = found place refl in
    subst (IsOperand whole plan line op here assumed p (Literal constant)) same (record {
      stepped = is.stepped;
      address = record { word = w; value = value; at = place.at; stored = is.stored; loc = refl };
      small = (let near = literal-small whole place.progress assumed w place.at is.stepped.sound is.stored in omega (arith, near));
    })

word-operand : (plan : Plan) (pools : Pools plan) (whole : List Slot) (line : ℕ) (op : Op) (here : Spot) (assumed : DataPlace) (p : Progress) (constant : Constant) (r : Result ℕ AsmFault) (x : OperandAddress) → Sound whole p
    → constant_word plan line constant ≡ r → word_address line assumed p r ≡ Ok x → IsOperand whole plan line op here assumed p (Literal constant) x
word-operand plan pools whole line op here assumed p constant (Err fault) x sound is e = absurd (cc)
word-operand plan pools whole line op here assumed p constant (Ok w) x sound is e =
    literal-operand whole plan line op here assumed p constant w (literal_place line p (literal_of assumed w)) x is
    (λ place f. place-found plan pools whole line p assumed w (lookup (is_same_literal (literal_of assumed w)) p.pool) place sound refl f) e

operand-is : (plan : Plan) (pools : Pools plan) (whole : List Slot) (line : ℕ) (op : Op) (here : Spot) (assumed : DataPlace) (p : Progress) (operand : Operand) (x : OperandAddress) → Sound whole p
    → operand_address plan line op here assumed p operand ≡ Ok x → IsOperand whole plan line op here assumed p operand x
operand-is plan pools whole line op here assumed p (Number n) x sound e =
    plain-operand whole plan line op here assumed p (Number n) _ x sound
    (λ address f. let is = refused-not _ (number_address op n) address f in (is, number-small op n address is)) e
operand-is plan pools whole line op here assumed p (Pair pair sector) x sound e =
    plain-operand whole plan line op here assumed p (Pair pair sector) _ x sound
    (λ address f. let is = refused-not _ (pair_address pair sector) address f in (is, pair-small pair sector address is)) e
operand-is plan pools whole line op here assumed p (Name name offset) x sound e =
    plain-operand whole plan line op here assumed p (Name name offset) (name_address line op here assumed offset (target_of plan name)) x sound
    (λ address f. (f, name-small line op here assumed offset (target_of plan name) address (λ target t. pools.halves name target t) f)) e
operand-is plan pools whole line op here assumed p (Literal constant) x sound e =
    word-operand plan pools whole line op here assumed p constant (constant_word plan line constant) x sound refl e

-- ---- one line

-- an instruction stands in its slot
pub record CodeHolds (plan : Plan) (done : Progress) (line : ℕ) (op : Op) (here : Place) (assumed : DataPlace) (operand : Operand) : Type 0 where
  pub address : ℕ
  pub small : address < 2 ^ 9
  pub meant : takes op operand ≡ true → operation (operation_code op) address ≡ op
  pub means : IsAddressOf plan done line op here.at assumed operand address
  pub held : held done.locations (slot_of here.at (unwrap_or here.syl 0)) ≡ Some (syllable_of (record { op = op; address = address }))

-- a constant stands in both slots of its word
pub record WordHolds (plan : Plan) (done : Progress) (line : ℕ) (here : Place) (constant : Constant) : Type 0 where
  pub word : ℕ
  pub value : constant_word plan line constant ≡ Ok word
  pub held : (syl : ℕ) → syl < 2 → held done.locations (slot_of here.at syl) ≡ Some (half_of syl word)

abbrev pub LineHolds : Plan → Progress → DataPlace → ℕ → Place → Body → Type 0
LineHolds plan done assumed line here (says.Instruction op operand) = CodeHolds plan done line op here assumed operand
LineHolds plan done assumed line here (says.Constant constant) = WordHolds plan done line here constant
LineHolds plan done assumed line here body = Unit {0}

abbrev pub ItemHolds : Plan → Progress → DataPlace → Item → Option Place → Type 0
ItemHolds plan done assumed item None = Unit {0}
ItemHolds plan done assumed item (Some here) = LineHolds plan done assumed item.line here item.body

-- the slots that a line fills: those that it takes, but none of room
abbrev pub fill_slots : Body → Option Place → List Slot
fill_slots (says.Room count) spot = []
fill_slots body spot = line_slots body spot

abbrev pub program_fills : List Item → List (Option Place) → List Slot
program_fills [] spots = []
program_fills (item ∷ items) [] = []
program_fills (item ∷ items) (spot ∷ spots) = fill_slots item.body spot ++ program_fills items spots

-- a line takes them
fill-taken : (body : Body) (spot : Option Place) (slot : Slot) → is_in slot (fill_slots body spot) ≡ true → is_in slot (line_slots body spot) ≡ true
fill-taken (says.Instruction op operand) spot slot h = h
fill-taken (says.Constant constant) spot slot h = h
fill-taken (says.Room count) spot slot h = absurd (true≢false (sym h))
fill-taken says.Code spot slot h = h
fill-taken (says.Org at syl) spot slot h = h
fill-taken (says.Words pair sector loc) spot slot h = h
fill-taken (says.Sector pair sector) spot slot h = h

fills-taken : (items : List Item) (spots : List (Option Place)) (slot : Slot) → is_in slot (program_fills items spots) ≡ true → is_in slot (program_slots items spots) ≡ true
fills-taken [] spots slot h = absurd (true≢false (sym h))
fills-taken (item ∷ items) [] slot h = absurd (true≢false (sym h))
fills-taken (item ∷ items) (spot ∷ spots) slot h =
    elim (or_cases (is_in slot (fill_slots item.body spot)) (is_in slot (program_fills items spots)) (sym (is_in-append slot (fill_slots item.body spot) (program_fills items spots)) ∙ h)) [
      | inl here ↦ in-left slot (line_slots item.body spot) (program_slots items spots) (fill-taken item.body spot slot here)
      | inr later ↦ in-right slot (line_slots item.body spot) (program_slots items spots) (fills-taken items spots slot later)
    ]

-- the slots of an instruction and of a constant
code-slots : (at : Spot) (syl : Option ℕ) → is_some syl ≡ true → slots_onward at 1 syl ≡ slot_of at (unwrap_or syl 0) ∷ []
code-slots at None h = absurd (true≢false (sym h))
code-slots at (Some syl) h = refl

word-slots : (at : Spot) (syl : Option ℕ) → syl ≡ None → slots_onward at 1 syl ≡ of_word at
word-slots at syl h = ap (slots_onward at 1) h

-- what a line added
record LineStep (whole : List Slot) (plan : Plan) (assumed : DataPlace) (line : ℕ) (here : Place) (body : Body) (before after : Progress) : Type 0 where
  stepped : Stepped whole (fill_slots body (Some here)) before after
  holds : LineHolds plan after assumed line here body

-- a syllable of an instruction is one
code-fits : (op : Op) → operation_code op < 16
code-fits Hop = omega arith
code-fits Mpy = omega arith
code-fits Sub = omega arith
code-fits Div = omega arith
code-fits Tnz = omega arith
code-fits Mph = omega arith
code-fits And = omega arith
code-fits Add = omega arith
code-fits Tra = omega arith
code-fits Xor = omega arith
code-fits Pio = omega arith
code-fits Sto = omega arith
code-fits Tmi = omega arith
code-fits Rsu = omega arith
code-fits Cds = omega arith
code-fits Shf = omega arith
code-fits WrongShift = omega arith
code-fits Exm = omega arith
code-fits Cla = omega arith

code-small : (op : Op) (address s : ℕ) → syllable_of (record { op = op; address = address }) ≡ s → address < 2 ^ 9 → s < 2 ^ 13
code-small op address s is small = omega (arith, is, small, code-fits op)

instruction-step : (whole : List Slot) (plan : Plan) (assumed : DataPlace) (line : ℕ) (op : Op) (operand : Operand) (here : Place) (p q : Progress) (r : Result OperandAddress AsmFault)
    → is_some here.syl ≡ true → is_slot (slot_of here.at (unwrap_or here.syl 0)) ≡ true → is_in (slot_of here.at (unwrap_or here.syl 0)) whole ≡ true
    → ((x : OperandAddress) → r ≡ Ok x → IsOperand whole plan line op here.at assumed p operand x) → ((x : OperandAddress) → r ≡ Ok x → takes op operand ≡ true → operation (operation_code op) x.address ≡ op)
    → with_instruction op here.at (unwrap_or here.syl 0) r ≡ Ok q
    → LineStep whole plan assumed line here (says.Instruction op operand) p q
instruction-step whole plan assumed line op operand here p q (Err fault) code inside part is meant-at e = absurd (cc)
instruction-step whole plan assumed line op operand here p q (Ok x) code inside part is meant-at e =
    let same : ◌≡◌ {A = Progress} (record x.progress { locations = with_code x.progress.locations here.at (unwrap_or here.syl 0) (syllable_of (record { op = op; address = x.address })) }) q = cc in
    subst (LineStep whole plan assumed line here (says.Instruction op operand) p) same (placed (unwrap_or here.syl 0) (syllable_of (record { op = op; address = x.address })) (is x refl) (code-slots here.at here.syl code) inside part refl refl)
  where
    placed : (syl s : ℕ) → IsOperand whole plan line op here.at assumed p operand x → slots_onward here.at 1 here.syl ≡ slot_of here.at syl ∷ []
        → is_slot (slot_of here.at syl) ≡ true → is_in (slot_of here.at syl) whole ≡ true → unwrap_or here.syl 0 ≡ syl
        → syllable_of (record { op = op; address = x.address }) ≡ s
        → LineStep whole plan assumed line here (says.Instruction op operand) p (record x.progress { locations = with_code x.progress.locations here.at syl s })
    placed syl s one slots inside part here-syl is-s =
        let put : Stepped whole (slot_of here.at syl ∷ []) x.progress (record x.progress { locations = with_code x.progress.locations here.at syl s }) =
        put-step whole (slot_of here.at syl ∷ []) x.progress (with_code x.progress.locations here.at syl s) one.stepped.sound
        (length-set x.progress.locations (number_of here.at) (with_syllable (location_at x.progress.locations here.at) syl s) ∙ one.stepped.sound.size)
        (λ other v i z n h. small-code x.progress.locations here.at syl s (code-small op x.address s is-s one.small) other v one.stepped.sound.size i n h)
        (λ other i n. held-code-other x.progress.locations here.at syl s other one.stepped.sound.size inside i n)
        (λ other h. one-only whole (slot_of here.at syl) other part h) in
        record {
          stepped = record {
            sound = put.sound;
            step = subst (λ (own : List Slot). Step own p (record x.progress { locations = with_code x.progress.locations here.at syl s })) (sym slots)
                (both-steps [] (slot_of here.at syl ∷ []) p x.progress (record x.progress { locations = with_code x.progress.locations here.at syl s }) one.stepped.step put.step);
          };
          holds = record {
            address = x.address;
            small = one.small;
            meant = meant-at x refl;
            means = address-stays (slot_of here.at syl ∷ []) x.progress (record x.progress { locations = with_code x.progress.locations here.at syl s }) put.step plan line op here.at assumed operand x.address one.address;
            held = subst (λ (k : ℕ). held (with_code x.progress.locations here.at syl s) (slot_of here.at k) ≡ Some (syllable_of (record { op = op; address = x.address }))) (sym here-syl)
                (held-code x.progress.locations here.at syl s one.stepped.sound.size inside ∙ ap (λ (k : ℕ). Some k) (sym is-s));
          };
        }

constant-step : (whole : List Slot) (plan : Plan) (assumed : DataPlace) (line : ℕ) (constant : Constant) (here : Place) (p q : Progress) (r : Result ℕ AsmFault)
    → here.syl ≡ None → ((syl : ℕ) → syl < 2 → is_slot (slot_of here.at syl) ≡ true) → ((syl : ℕ) → syl < 2 → is_in (slot_of here.at syl) whole ≡ true) → Sound whole p
    → constant_word plan line constant ≡ r → with_constant here.at p r ≡ Ok q → LineStep whole plan assumed line here (says.Constant constant) p q
constant-step whole plan assumed line constant here p q (Err fault) words inside part sound is e = absurd (cc)
constant-step whole plan assumed line constant here p q (Ok w) words inside part sound is e =
    let same : ◌≡◌ {A = Progress} (record p { locations = with_word p.locations here.at w }) q = cc in
    let low : 0 < 2 = omega arith in
    let high : 1 < 2 = omega arith in
    let put : Stepped whole (of_word here.at) p (record p { locations = with_word p.locations here.at w }) =
    put-step whole (of_word here.at) p (with_word p.locations here.at w) sound
    (length-set p.locations (number_of here.at) (both_syllables w) ∙ sound.size)
    (λ other v i z n h. small-word p.locations here.at w other v sound.size i z n h)
    (λ other i n. held-word-other p.locations here.at w other (inside 0 low) (inside 1 high) i n)
    (λ other h. word-only whole here.at other (part 0 low) (part 1 high) h) in
    subst (LineStep whole plan assumed line here (says.Constant constant) p) same (record {
      stepped = record {
        sound = put.sound;
        step = subst (λ (own : List Slot). Step own p (record p { locations = with_word p.locations here.at w })) (sym (word-slots here.at here.syl words)) put.step;
      };
      holds = record { word = w; value = is; held = λ syl small. held-word p.locations here.at w syl sound.size (inside syl small) };
    })

-- a line that adds nothing
same-step : (whole own : List Slot) (p q : Progress) → Sound whole p → ◌≡◌ {A = Result Progress AsmFault} (Ok p) (Ok q) → Stepped whole own p q
same-step whole own p q sound e =
    let same : p ≡ q = cc in
    subst (Stepped whole own p) same (record { sound = sound; step = stays own p })

-- the slots of a line, in the memory and among those of the program
record AreOf (whole own : List Slot) : Type 0 where
  inside : (slot : Slot) → is_in slot own ≡ true → is_slot slot ≡ true
  part : (slot : Slot) → is_in slot own ≡ true → is_in slot whole ≡ true

body-step : (plan : Plan) (pools : Pools plan) (whole : List Slot) (assumed : DataPlace) (line : ℕ) (here : Place) (body : Body) (p q : Progress) → Sound whole p → StandsAs body (Some here)
    → AreOf whole (line_slots body (Some here)) → line_at plan line assumed here body p ≡ Ok q → LineStep whole plan assumed line here body p q
body-step plan pools whole assumed line here (says.Instruction op operand) p q sound code own e =
    let slots = code-slots here.at here.syl code in
    let mine : is_in (slot_of here.at (unwrap_or here.syl 0)) (slots_onward here.at 1 here.syl) ≡ true =
    ap (is_in (slot_of here.at (unwrap_or here.syl 0))) slots ∙ in-one (slot_of here.at (unwrap_or here.syl 0)) in
    instruction-step whole plan assumed line op operand here p q (operand_address plan line op here.at assumed p operand) code
    (own.inside (slot_of here.at (unwrap_or here.syl 0)) mine) (own.part (slot_of here.at (unwrap_or here.syl 0)) mine)
    (λ x f. operand-is plan pools whole line op here.at assumed p operand x sound f) (λ x f t. meant plan line op here.at assumed p operand x t f) e
body-step plan pools whole assumed line here (says.Constant constant) p q sound words own e =
    constant-step whole plan assumed line constant here p q (constant_word plan line constant) words
    (λ syl small. own.inside (slot_of here.at syl) (ap (is_in (slot_of here.at syl)) (word-slots here.at here.syl words) ∙ in-word here.at syl small))
    (λ syl small. own.part (slot_of here.at syl) (ap (is_in (slot_of here.at syl)) (word-slots here.at here.syl words) ∙ in-word here.at syl small))
    sound refl e
body-step plan pools whole assumed line here (says.Room count) p q sound stands own e = record { stepped = same-step whole [] p q sound e; holds = tt }
body-step plan pools whole assumed line here says.Code p q sound stands own e = record { stepped = same-step whole (line_slots says.Code (Some here)) p q sound e; holds = tt }
body-step plan pools whole assumed line here (says.Org at syl) p q sound stands own e = record { stepped = same-step whole (line_slots (says.Org at syl) (Some here)) p q sound e; holds = tt }
body-step plan pools whole assumed line here (says.Words pair sector loc) p q sound stands own e =
    record { stepped = same-step whole (line_slots (says.Words pair sector loc) (Some here)) p q sound e; holds = tt }
body-step plan pools whole assumed line here (says.Sector pair sector) p q sound stands own e =
    record { stepped = same-step whole (line_slots (says.Sector pair sector) (Some here)) p q sound e; holds = tt }

-- what the line of an item added
record ItemStep (whole : List Slot) (plan : Plan) (assumed : DataPlace) (item : Item) (spot : Option Place) (before after : Progress) : Type 0 where
  stepped : Stepped whole (fill_slots item.body spot) before after
  holds : ItemHolds plan after assumed item spot

item-step : (plan : Plan) (pools : Pools plan) (whole : List Slot) (assumed : DataPlace) (item : Item) (spot : Option Place) (p q : Progress) → Sound whole p → StandsAs item.body spot
    → AreOf whole (line_slots item.body spot) → line_done plan assumed spot item p ≡ Ok q → ItemStep whole plan assumed item spot p q
item-step plan pools whole assumed item None p q sound stands own e = record { stepped = same-step whole (fill_slots item.body None) p q sound e; holds = tt }
item-step plan pools whole assumed item (Some here) p q sound stands own e =
    let is = body-step plan pools whole assumed item.line here item.body p q sound stands own e in
    record { stepped = is.stepped; holds = is.holds }

-- ---- later lines

-- what a line has put into its slots stays there
code-stays : (rest own : List Slot) (p q : Progress) (plan : Plan) (assumed : DataPlace) (line : ℕ) (here : Place) (body : Body) → Step rest p q
    → own ≡ line_slots body (Some here) → StandsAs body (Some here)
    → ((slot : Slot) → is_in slot own ≡ true → held q.locations slot ≡ held p.locations slot) → LineHolds plan p assumed line here body → LineHolds plan q assumed line here body
code-stays rest own p q plan assumed line here (says.Instruction op operand) step are code same holds = record {
  address = holds.address;
  small = holds.small;
  meant = holds.meant;
  means = address-stays rest p q step plan line op here.at assumed operand holds.address holds.means;
  held = same (slot_of here.at (unwrap_or here.syl 0)) (ap (is_in (slot_of here.at (unwrap_or here.syl 0))) (are ∙ code-slots here.at here.syl code) ∙ in-one (slot_of here.at (unwrap_or here.syl 0))) ∙ holds.held;
}
code-stays rest own p q plan assumed line here (says.Constant constant) step are words same holds = record {
  word = holds.word;
  value = holds.value;
  held = λ syl small. same (slot_of here.at syl) (ap (is_in (slot_of here.at syl)) (are ∙ word-slots here.at here.syl words) ∙ in-word here.at syl small) ∙ holds.held syl small;
}
code-stays rest own p q plan assumed line here (says.Room count) step are stands same holds = tt
code-stays rest own p q plan assumed line here says.Code step are stands same holds = tt
code-stays rest own p q plan assumed line here (says.Org at syl) step are stands same holds = tt
code-stays rest own p q plan assumed line here (says.Words pair sector loc) step are stands same holds = tt
code-stays rest own p q plan assumed line here (says.Sector pair sector) step are stands same holds = tt

item-stays : (rest : List Slot) (p q : Progress) (plan : Plan) (assumed : DataPlace) (item : Item) (spot : Option Place) → Step rest p q → StandsAs item.body spot
    → ((slot : Slot) → is_in slot (line_slots item.body spot) ≡ true → held q.locations slot ≡ held p.locations slot) → ItemHolds plan p assumed item spot → ItemHolds plan q assumed item spot
item-stays rest p q plan assumed item None step stands same holds = tt
item-stays rest p q plan assumed item (Some here) step stands same holds =
    code-stays rest (line_slots item.body (Some here)) p q plan assumed item.line here item.body step refl stands same holds

-- ---- all lines

-- each item holds, from this data place on
abbrev pub AllHold : Plan → Progress → DataPlace → List Item → List (Option Place) → Type 0
AllHold plan done assumed [] spots = Unit {0}
AllHold plan done assumed (item ∷ items) [] = ⊥
AllHold plan done assumed (item ∷ items) (spot ∷ spots) = ItemHolds plan done assumed item spot × AllHold plan done (data_after assumed item.body) items spots

-- what the lines added
pub record Walked (whole : List Slot) (plan : Plan) (assumed : DataPlace) (items : List Item) (spots : List (Option Place)) (before after : Progress) : Type 0 where
  pub stepped : Stepped whole (program_fills items spots) before after
  pub hold : AllHold plan after assumed items spots

-- the slots of the lines
pub record AreOfProgram (whole own : List Slot) : Type 0 where
  pub distinct : are_distinct own ≡ true
  pub inside : (slot : Slot) → is_in slot own ≡ true → is_slot slot ≡ true
  pub part : (slot : Slot) → is_in slot own ≡ true → is_in slot whole ≡ true

pub lines-walked : (plan : Plan) (pools : Pools plan) (whole : List Slot) (number : ℕ) (assumed : DataPlace) (items : List Item) (spots : List (Option Place)) (p q : Progress) → Sound whole p
    → drop number plan.spots ≡ spots → StandAs items spots → AreOfProgram whole (program_slots items spots) → lines_after plan number assumed items (Ok p) ≡ Ok q
    → Walked whole plan assumed items spots p q
lines-walked plan pools whole number assumed [] spots p q sound are stand own e =
    record { stepped = same-step whole [] p q sound e; hold = tt }
lines-walked plan pools whole number assumed (item ∷ items) [] p q sound are stand own e = absurd stand
lines-walked plan pools whole number assumed (item ∷ items) (spot ∷ spots) p q sound are stand own e =
    by (line_done plan assumed spot item p) refl
    (ap (λ (s : Option Place). lines_after plan (number + 1) (data_after assumed item.body) items (line_done plan assumed s item p)) (sym (drop-first plan.spots number spot spots None are)) ∙ e)
    (λ x s f. lines-walked plan pools whole (number + 1) (data_after assumed item.body) items spots x q s (drop-next plan.spots number spot spots are) stand.1 later f)
  where
    later : AreOfProgram whole (program_slots items spots)
    later = record {
      distinct = distinct-right (line_slots item.body spot) (program_slots items spots) own.distinct;
      inside = λ slot h. own.inside slot (in-right slot (line_slots item.body spot) (program_slots items spots) h);
      part = λ slot h. own.part slot (in-right slot (line_slots item.body spot) (program_slots items spots) h);
    }

    by : (r : Result Progress AsmFault) → line_done plan assumed spot item p ≡ r → lines_after plan (number + 1) (data_after assumed item.body) items r ≡ Ok q
        → ((x : Progress) → Sound whole x → lines_after plan (number + 1) (data_after assumed item.body) items (Ok x) ≡ Ok q → Walked whole plan (data_after assumed item.body) items spots x q)
        → Walked whole plan assumed (item ∷ items) (spot ∷ spots) p q
    by (Err fault) is e next = absurd (cc)
    by (Ok x) is e next =
        let here : ItemStep whole plan assumed item spot p x = item-step plan pools whole assumed item spot p x sound stand.0 (record {
          inside = λ slot h. own.inside slot (in-left slot (line_slots item.body spot) (program_slots items spots) h);
          part = λ slot h. own.part slot (in-left slot (line_slots item.body spot) (program_slots items spots) h);
        }) is in
        let there : Walked whole plan (data_after assumed item.body) items spots x q = next x here.stepped.sound e in
        record {
          stepped = record {
            sound = there.stepped.sound;
            step = both-steps (fill_slots item.body spot) (program_fills items spots) p x q here.stepped.step there.stepped.step;
          };
          hold = (
            item-stays (program_fills items spots) x q plan assumed item spot there.stepped.step stand.0
                (λ slot h. there.stepped.step.keeps slot (own.inside slot (in-left slot (line_slots item.body spot) (program_slots items spots) h))
                (here.stepped.sound.taken slot (own.part slot (in-left slot (line_slots item.body spot) (program_slots items spots) h)))
                (false_from_ne_true (is_in slot (program_fills items spots)) (λ f. true≢false (sym (fills-taken items spots slot f)
                ∙ distinct-apart (line_slots item.body spot) (program_slots items spots) slot own.distinct h))))
                here.holds,
            there.hold,
          );
        }
