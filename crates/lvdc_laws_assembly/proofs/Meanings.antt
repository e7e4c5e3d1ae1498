-- What the address of an operand and the word of a constant are to the machine.
use Rattle.std.proofs.Common.{◌≡◌, ◌≢◌, ℕ, zero, suc, ◌+◌, ◌-◌, ◌*◌, ◌/◌, ◌%◌, ◌^◌, ◌<◌, ◌≤◌, Bool, true, false, cond, ◌||◌, List, Option, None, Some, IfSome, Result, Ok, Err, ℤ, pos, negsuc, nat_lt, refl, sym, ap, ◌∙◌, subst, arith, inl, inr}
use Rattle.std.specs.Prelude.{◌==◌}
use Rattle.std.specs.Option.{option_and_then}
use Rattle.std.proofs.lemmas.Bool.{true≢false, eq-eqb, ne_eqb, ltb-true, le-ltb}
use Rattle.std.proofs.lemmas.Int.{ints}
use Rattle.lvdc_word.specs.Word.{signed}
use Rattle.lvdc_map.specs.Address.{Spot}
use Rattle.lvdc_map.specs.Banks.{bank_of}
use Rattle.lvdc_map.specs.Hop.{HopConstant, IsHopConstant, hop_of, word_of_hop}
use Rattle.lvdc_map.specs.Place.{a9, operand_kind, with_data}
use Rattle.lvdc_map.specs.declared.operand.OperandKind.TheVariants as kinds
use Rattle.lvdc_map.proofs.HopLaws.{hop_of-word_of_hop}
use Rattle.lvdc_isa.specs.declared.op.Op.{Op}
use Rattle.lvdc_isa.specs.declared.op.Op.TheVariants.{Tra, Tnz, Tmi}
use Rattle.lvdc_source.specs.declared.item.Constant.{Constant}
use Rattle.lvdc_source.specs.declared.item.Constant.TheVariants.{Oct, Dec, HopOf}
use Rattle.lvdc_place.specs.Slot.{IsSlot, is_slot, slot_of}
use Rattle.lvdc_place.proofs.Tables.{is_slot-true}
use Rattle.lvdc_asm.specs.DataPlace.{DataPlace}
use Rattle.lvdc_asm.specs.Hop.{Plan, hop_at, hop_by, hop_to, target_of, start_of}
use Rattle.lvdc_asm.specs.Operands.{is_transfer, pair_address, name_address, octal_word, decimal_word, hop_word, name_word, constant_word}
use Rattle.lvdc_asm.specs.Target.{Target}
use Rattle.lvdc_asm.specs.declared.fault.AsmFault.{AsmFault}
use Rattle.lvdc_asm.specs.declared.fault.AsmFault.TheVariants.{OutOfRange, UndefinedName}
use Rattle.lvdc_laws_assembly.specs.Holds.{IsWordOf, NamesWord, GoesTo, Comes, Reaches}
use Rattle.lvdc_laws_assembly.proofs.Assemblies.{option-cases}
use Rattle.lvdc_laws_assembly.proofs.Operands.{refused-not, pair-parts, IsReached, reached, GoesOn, StandsAt, reach-cases}
use Rattle.lvdc_laws_assembly.proofs.Ranges.{IsPlace}

-- ---- places

-- the even module of a duplex pair means its bank
pub even-bank : (pair : ℕ) → pair < 4 → bank_of 0 (pair * 2) ≡ pair
even-bank zero small = refl
even-bank (suc zero) small = refl
even-bank (suc (suc zero)) small = refl
even-bank (suc (suc (suc zero))) small = refl
even-bank (suc (suc (suc (suc n)))) small = absurd (omega arith)

a9-low : (address : ℕ) → address < 2 ^ 8 → a9 address ≡ false
a9-low address small = ne_eqb (address / 2 ^ 8 % 2) 1 (λ e. absurd (omega arith))

a9-high : (address loc : ℕ) → address ≡ 2 ^ 8 + loc → loc < 2 ^ 8 → a9 address ≡ true
a9-high address loc is small = eq-eqb (address / 2 ^ 8 % 2) 1 (omega (arith, is, small))

-- an address other than 775 doesn't mean PQ
not-pq : (address : ℕ) → (address ≡ 0o775 → ⊥) → operand_kind address ≢ kinds.Pq
not-pq address apart = by (address == 0o775) (address == 0o776 || address == 0o777) (ne_eqb address 0o775 apart)
  where
    by : (a b : Bool) → a ≡ false → cond a kinds.Pq (cond b kinds.Saver kinds.Memory) ≡ kinds.Pq → ⊥
    by true b e h = absurd (cc)
    by false true e h = cc
    by false false e h = cc

-- ---- names

-- where data are reached, the machine names their word
names-word : (here : Spot) (syl : ℕ) (assumed : DataPlace) (at : Spot) (offset address : ℕ) → IsPlace assumed → at.loc + offset < 256 → StandsAt assumed at offset address
    → NamesWord (hop_at here syl assumed) address (record at { loc = at.loc + offset })
names-word here syl assumed at offset address place near is = elim is.sector [
  | inl own ↦ (
      let low : address < 2 ^ 8 = omega (arith, own.1) in
      let pair : bank_of 0 (assumed.pair * 2) ≡ at.pair = even-bank assumed.pair place.four_pairs ∙ sym is.pair in
      let sector : cond (a9 address) 15 assumed.sector ≡ at.sector = ap (λ (b : Bool). cond b 15 assumed.sector) (a9-low address low) ∙ sym own.0 in
      let loc : address % 2 ^ 8 ≡ at.loc + offset = omega (arith, own.1) in
      record {
        spot = λ i. record { pair = pair i; sector = sector i; loc = loc i };
        memory = not-pq address (λ e. absurd (omega (arith, e, low)));
      }
      )
  | inr other ↦ (
      let pair : bank_of 0 (assumed.pair * 2) ≡ at.pair = even-bank assumed.pair place.four_pairs ∙ sym is.pair in
      let sector : cond (a9 address) 15 assumed.sector ≡ at.sector = ap (λ (b : Bool). cond b 15 assumed.sector) (a9-high address (at.loc + offset) other.1 near) ∙ sym other.0 in
      let loc : address % 2 ^ 8 ≡ at.loc + offset = omega (arith, other.1) in
      record {
        spot = λ i. record { pair = pair i; sector = sector i; loc = loc i };
        memory = not-pq address other.2;
      }
      )
]

syllable-is : (half address loc : ℕ) → half < 2 → loc < 2 ^ 8 → address ≡ half * 2 ^ 8 + loc → cond (a9 address) 1 0 ≡ half
syllable-is zero address loc small near is = ap (λ (b : Bool). cond b 1 0) (a9-low address (omega (arith, is)))
syllable-is (suc zero) address loc small near is = ap (λ (b : Bool). cond b 1 0) (a9-high address loc (omega (arith, is)) near)
syllable-is (suc (suc n)) address loc small near is = absurd (omega arith)

-- where a transfer goes on
goes-to : (here : Spot) (syl : ℕ) (assumed : DataPlace) (offset : ℕ) (target : Target) (address : ℕ) → here.pair < 4 → target.at.loc + offset < 256 → IfSome target.syl (λ half. half < 2)
    → GoesOn here offset target target.syl address → GoesTo (hop_at here syl assumed) address (record target.at { loc = target.at.loc + offset }) target.syl
goes-to here syl assumed offset target address four near halves is =
    let small : is.half < 2 = subst (λ (o : Option ℕ). IfSome o (λ half. half < 2)) is.code halves in
    let pair : bank_of 0 (here.pair * 2) ≡ target.at.pair = even-bank here.pair four ∙ sym is.pair in
    let loc : address % 2 ^ 8 ≡ target.at.loc + offset = omega (arith, is.bits, near) in
    let half : cond (a9 address) 1 0 ≡ is.half = syllable-is is.half address (target.at.loc + offset) small near is.bits in
    record {
      spot = λ i. record { pair = pair i; sector = sym is.sector i; loc = loc i };
      syllable = ap (λ (n : ℕ). Some n) half ∙ sym is.code;
    }

-- three operations go on
comes-on : (op : Op) (hop : HopConstant) (address : ℕ) (at : Spot) (syl : Option ℕ) → is_transfer op ≡ true → GoesTo hop address at syl → Comes op hop address at syl
comes-on Tra hop address at syl is goes = goes
comes-on Tnz hop address at syl is goes = goes
comes-on Tmi hop address at syl is goes = goes
comes-on _ hop address at syl is goes = absurd (true≢false (sym is))

comes-at : (op : Op) (hop : HopConstant) (address : ℕ) (at : Spot) (syl : Option ℕ) → is_transfer op ≡ false → NamesWord hop address at → Comes op hop address at syl
comes-at Tra hop address at syl is names = absurd (true≢false is)
comes-at Tnz hop address at syl is names = absurd (true≢false is)
comes-at Tmi hop address at syl is names = absurd (true≢false is)
comes-at _ hop address at syl is names = names

-- an address of a name comes to its place
pub name-reaches : (plan : Plan) (line : ℕ) (op : Op) (here : Spot) (syl : ℕ) (assumed : DataPlace) (name : List ℕ) (offset address : ℕ) → here.pair < 4 → IsPlace assumed
    → ((target : Target) → target_of plan name ≡ Some target → IfSome target.syl (λ half. half < 2))
    → name_address line op here assumed offset (target_of plan name) ≡ Ok address → Reaches plan (hop_at here syl assumed) op name offset address
name-reaches plan line op here syl assumed name offset address four place halves e = elim (option-cases (target_of plan name)) [
  | inr none ↦ (let nothing : ◌≡◌ {A = Result ℕ AsmFault} (Err (UndefinedName line)) (Ok address) = sym (ap (name_address line op here assumed offset) none) ∙ e in absurd (cc))
  | inl found ↦ (
      let target : Target = found.0 in
      let is : IsReached op here assumed offset found.0 address = reached line op here assumed offset found.0 address (ap (name_address line op here assumed offset) (sym found.1) ∙ e) in
      record {
        target = found.0;
        named = found.1;
        comes = elim (reach-cases op here assumed found.0 offset address is.reach) [
          | inl goes ↦ comes-on op (hop_at here syl assumed) address (record found.0.at { loc = found.0.at.loc + offset }) found.0.syl goes.0
              (goes-to here syl assumed offset found.0 address four is.near (halves found.0 found.1) goes.1)
          | inr stands ↦ comes-at op (hop_at here syl assumed) address (record found.0.at { loc = found.0.at.loc + offset }) found.0.syl stands.0
              (names-word here syl assumed found.0.at offset address place is.near stands.1)
        ];
      }
      )
]

-- the location of a word in the sector that is assumed names it
pub location-names : (here : Spot) (syl : ℕ) (assumed : DataPlace) (at : Spot) (address : ℕ) → IsPlace assumed → at.loc < 256 → at.pair ≡ assumed.pair → at.sector ≡ assumed.sector → at.loc ≡ address
    → NamesWord (hop_at here syl assumed) address at
location-names here syl assumed at address place near p s is =
    let low : address < 2 ^ 8 = omega (arith, is) in
    let pair : bank_of 0 (assumed.pair * 2) ≡ at.pair = even-bank assumed.pair place.four_pairs ∙ sym p in
    let sector : cond (a9 address) 15 assumed.sector ≡ at.sector = ap (λ (b : Bool). cond b 15 assumed.sector) (a9-low address low) ∙ sym s in
    let loc : address % 2 ^ 8 ≡ at.loc = omega (arith, is) in
    record {
      spot = λ i. record { pair = pair i; sector = sector i; loc = loc i };
      memory = not-pq address (λ e. absurd (omega (arith, e, low)));
    }

-- ---- numbers

-- CDS sets the pair and the sector
pub pair-sets : (hop : HopConstant) (pair sector address : ℕ) → pair_address pair sector ≡ Some address → with_data hop address ≡ record hop { dmod = pair * 2; dsec = sector; dupdn = true }
pair-sets hop pair sector address h =
    let parts = pair-parts pair sector address h in
    let dmod : address / 2 ^ 4 % 8 ≡ pair * 2 = omega (arith, parts.0, parts.1, parts.2) in
    let dsec : address % 16 ≡ sector = omega (arith, parts.0, parts.1, parts.2) in
    let dupdn : a9 address ≡ true = eq-eqb (address / 2 ^ 8 % 2) 1 (omega (arith, parts.0, parts.1, parts.2)) in
    λ i. record hop { dmod = dmod i; dsec = dsec i; dupdn = dupdn i }

-- ---- words

octal-is : (n w : ℕ) → octal_word n ≡ Some w → w ≡ n
octal-is n w h = by (nat_lt n (2 ^ 26)) h
  where
    by : (b : Bool) → ◌≡◌ {A = Option ℕ} (cond b (Some n) None) (Some w) → w ≡ n
    by true e = let same : n ≡ w = cc in sym same
    by false e = absurd (cc)

decimal-is : (z : ℤ) (w : ℕ) → decimal_word z ≡ Some w → signed w ≡ z
decimal-is (pos n) w h = by (nat_lt n (2 ^ 25)) refl h
  where
    by : (b : Bool) → nat_lt n (2 ^ 25) ≡ b → ◌≡◌ {A = Option ℕ} (cond b (Some n) None) (Some w) → signed w ≡ pos n
    by true is e = let same : n ≡ w = cc in subst (λ (v : ℕ). signed v ≡ pos n) same (rw is refl)
    by false is e = absurd (cc)
decimal-is (negsuc n) w h = by (nat_lt n (2 ^ 25)) refl h
  where
    by : (b : Bool) → nat_lt n (2 ^ 25) ≡ b → ◌≡◌ {A = Option ℕ} (cond b (Some (2 ^ 26 - (n + 1))) None) (Some w) → signed w ≡ negsuc n
    by true is e =
        let same : 2 ^ 26 - (n + 1) ≡ w = cc in
        let small : n < 2 ^ 25 = ltb-true n (2 ^ 25) is in
        let high : 2 ^ 25 ≤ w = omega (arith, same, small) in
        rw (le-ltb w (2 ^ 25) high) (omega (arith, ints, same, small))
    by false is e = absurd (cc)

-- the fields of a HOP constant of code in the memory
hop-back : (at : Spot) (assumed : DataPlace) (syl : Option ℕ) (line w : ℕ) → IfSome syl (λ half. is_slot (slot_of at half) ≡ true) → IsPlace assumed
    → hop_word line (hop_by at assumed syl) ≡ Ok w → hop_by at assumed syl ≡ Some (hop_of w)
hop-back at assumed None line w inside place e = absurd (cc)
hop-back at assumed (Some half) line w inside place e =
    let same : word_of_hop (hop_at at half assumed) ≡ w = cc in
    let slot : IsSlot (slot_of at half) = is_slot-true (slot_of at half) inside in
    let is : IsHopConstant (hop_at at half assumed) = record {
      imod = omega (arith, slot.pair);
      isec = slot.sector;
      syl = slot.syl;
      loc = slot.loc;
      dmod = omega (arith, place.four_pairs);
      dsec = place.sixteen_sectors;
    } in
    ap (λ (hop : HopConstant). Some hop) (sym (hop_of-word_of_hop (hop_at at half assumed) is) ∙ ap hop_of same)

-- what is known of the places of names
abbrev pub AreKnown : Plan → Type 0
AreKnown plan = (name : List ℕ) (target : Target) → target_of plan name ≡ Some target → IfSome target.syl (λ half. is_slot (slot_of target.at half) ≡ true) × IsPlace target.assumed

hop-is : (plan : Plan) (line : ℕ) (name : List ℕ) (w : ℕ) → AreKnown plan → name_word line (target_of plan name) ≡ Ok w → start_of plan name ≡ Some (hop_of w)
hop-is plan line name w known e = elim (option-cases (target_of plan name)) [
  | inr none ↦ (let nothing : ◌≡◌ {A = Result ℕ AsmFault} (Err (UndefinedName line)) (Ok w) = sym (ap (name_word line) none) ∙ e in absurd (cc))
  | inl found ↦ (
      let is = known name found.0 found.1 in
      ap (option_and_then hop_to) found.1 ∙ hop-back found.0.at found.0.assumed found.0.syl line w is.0 is.1 (ap (name_word line) (sym found.1) ∙ e)
      )
]

-- the word of a constant is what the constant says
pub word-says : (plan : Plan) (line : ℕ) (constant : Constant) (w : ℕ) → AreKnown plan → constant_word plan line constant ≡ Ok w → IsWordOf plan constant w
word-says plan line (Oct n) w known e = octal-is n w (refused-not (OutOfRange line) (octal_word n) w e)
word-says plan line (Dec z) w known e = decimal-is z w (refused-not (OutOfRange line) (decimal_word z) w e)
word-says plan line (HopOf name) w known e = hop-is plan line name w known e
