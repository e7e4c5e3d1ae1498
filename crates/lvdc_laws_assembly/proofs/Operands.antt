-- What is known of an operand that has an address.
use Rattle.std.proofs.Common.{◌≡◌, ℕ, ◌+◌, ◌*◌, ◌^◌, ◌<◌, ◌≤◌, Bool, true, false, cond, ◌&&◌, ◌||◌, Option, None, Some, Ok, Err, IfSome, refl, sym, ap, ◌∙◌, arith, inl, inr}
use Rattle.std.specs.Prelude.{◌==◌, ◌⊎◌, nat_lt}
use Rattle.std.proofs.lemmas.Bool.{and_parts, or_cases, eqb-true, ltb-true, eqb-false}
use Rattle.lvdc_map.specs.Address.{Spot}
use Rattle.lvdc_isa.specs.Instr.{is_shift}
use Rattle.lvdc_isa.specs.declared.op.Op.{Op}
use Rattle.lvdc_isa.specs.declared.op.Op.TheVariants.{Shf}
use Rattle.lvdc_asm.specs.DataPlace.{DataPlace}
use Rattle.lvdc_asm.specs.Operands.{or_refused, is_transfer, transfer_address, residual_address, data_address, reach, name_address, number_address, pair_address}
use Rattle.lvdc_asm.specs.Target.{Target}
use Rattle.lvdc_asm.specs.declared.fault.AsmFault.{AsmFault}
use Rattle.lvdc_asm.specs.declared.fault.AsmFault.TheVariants.{OutOfRange, OutOfSector}

pub refused-not : (fault : AsmFault) (o : Option ℕ) (address : ℕ) → or_refused fault o ≡ Ok address → o ≡ Some address
refused-not fault None address e = absurd (cc)
refused-not fault (Some a) address e = let same : a ≡ address = cc in ap (λ (x : ℕ). Some x) same

-- ---- numbers

at-most : (n k : ℕ) → k ≤ 32 → (n == k) ≡ true → n ≤ 32
at-most n k few h = omega (arith, eqb-true n k h, few)

pub shift-most : (n : ℕ) → is_shift n ≡ true → n ≤ 32
shift-most n h = elim (or_cases (n == 0 || n == 0o1 || n == 0o2 || n == 0o20) (n == 0o40) h) [
  | inr e ↦ at-most n 0o40 (omega arith) e
  | inl d ↦ elim (or_cases (n == 0 || n == 0o1 || n == 0o2) (n == 0o20) d) [
    | inr e ↦ at-most n 0o20 (omega arith) e
    | inl c ↦ elim (or_cases (n == 0 || n == 0o1) (n == 0o2) c) [
      | inr e ↦ at-most n 0o2 (omega arith) e
      | inl b ↦ elim (or_cases (n == 0) (n == 0o1) b) [
        | inr e ↦ at-most n 0o1 (omega arith) e
        | inl e ↦ at-most n 0 (omega arith) e
      ]
    ]
  ]
]

-- a shift has its pattern behind A8
pub shift-parts : (n address : ℕ) → number_address Shf n ≡ Some address → (n ≤ 32) × (address ≡ 2 ^ 7 + n)
shift-parts n address h = by (is_shift n) refl h
  where
    by : (b : Bool) → is_shift n ≡ b → cond b (Some (2 ^ 7 + n)) None ≡ Some address → (n ≤ 32) × (address ≡ 2 ^ 7 + n)
    by true is e = (shift-most n is, let same : 2 ^ 7 + n ≡ address = cc in sym same)
    by false is e = absurd (cc)

-- what every other operation has is the number itself
pub nine-parts : (n address : ℕ) → ◌≡◌ {A = Option ℕ} (cond (nat_lt n (2 ^ 9)) (Some n) None) (Some address) → (address ≡ n) × (n < 2 ^ 9)
nine-parts n address h = by (nat_lt n (2 ^ 9)) refl h
  where
    by : (b : Bool) → nat_lt n (2 ^ 9) ≡ b → ◌≡◌ {A = Option ℕ} (cond b (Some n) None) (Some address) → (address ≡ n) × (n < 2 ^ 9)
    by true is e = (let same : n ≡ address = cc in sym same, ltb-true n (2 ^ 9) is)
    by false is e = absurd (cc)

pub number-small : (op : Op) (n address : ℕ) → number_address op n ≡ Some address → address < 2 ^ 9
number-small Shf n address h = let parts = shift-parts n address h in omega (arith, parts.0, parts.1)
number-small _ n address h = let parts = nine-parts n address h in omega (arith, parts.0, parts.1)

-- CDS has the number of the even module and the sector
pub pair-parts : (pair sector address : ℕ) → pair_address pair sector ≡ Some address → (pair < 4) × (sector < 16) × (address ≡ 2 ^ 8 + pair * 2 ^ 5 + sector)
pair-parts pair sector address h = by (nat_lt pair 4 && nat_lt sector 16) refl h
  where
    by : (b : Bool) → (nat_lt pair 4 && nat_lt sector 16) ≡ b → cond b (Some (2 ^ 8 + pair * 2 ^ 5 + sector)) None ≡ Some address
        → (pair < 4) × (sector < 16) × (address ≡ 2 ^ 8 + pair * 2 ^ 5 + sector)
    by true is e =
        let both = and_parts (nat_lt pair 4) (nat_lt sector 16) is in
        (ltb-true pair 4 both.0, ltb-true sector 16 both.1, let same : 2 ^ 8 + pair * 2 ^ 5 + sector ≡ address = cc in sym same)
    by false is e = absurd (cc)

pub pair-small : (pair sector address : ℕ) → pair_address pair sector ≡ Some address → address < 2 ^ 9
pair-small pair sector address h = let parts = pair-parts pair sector address h in omega (arith, parts.0, parts.1, parts.2)

-- ---- names

-- the address of a name is one by which its place is reached
pub record IsReached (op : Op) (here : Spot) (assumed : DataPlace) (offset : ℕ) (target : Target) (address : ℕ) : Type 0 where
  pub near : target.at.loc + offset < 256
  pub reach : reach op here assumed target offset ≡ Some address

pub reached : (line : ℕ) (op : Op) (here : Spot) (assumed : DataPlace) (offset : ℕ) (target : Target) (address : ℕ)
    → name_address line op here assumed offset (Some target) ≡ Ok address → IsReached op here assumed offset target address
reached line op here assumed offset target address h = by (nat_lt (target.at.loc + offset) 256) refl h
  where
    by : (b : Bool) → nat_lt (target.at.loc + offset) 256 ≡ b → cond b (or_refused (OutOfSector line) (reach op here assumed target offset)) (Err (OutOfRange line)) ≡ Ok address
        → IsReached op here assumed offset target address
    by true is e = record { near = ltb-true (target.at.loc + offset) 256 is; reach = refused-not (OutOfSector line) (reach op here assumed target offset) address e }
    by false is e = absurd (cc)

-- a transfer stays in its sector, and A9 is the syllable
pub record GoesOn (here : Spot) (offset : ℕ) (target : Target) (syl : Option ℕ) (address : ℕ) : Type 0 where
  pub half : ℕ
  pub code : syl ≡ Some half
  pub pair : target.at.pair ≡ here.pair
  pub sector : target.at.sector ≡ here.sector
  pub bits : address ≡ half * 2 ^ 8 + (target.at.loc + offset)

pub goes-on : (here : Spot) (offset : ℕ) (target : Target) (syl : Option ℕ) (address : ℕ) → transfer_address here target offset syl ≡ Some address → GoesOn here offset target syl address
goes-on here offset target None address h = absurd (cc)
goes-on here offset target (Some half) address h = by (target.at.pair == here.pair && target.at.sector == here.sector) refl h
  where
    by : (b : Bool) → (target.at.pair == here.pair && target.at.sector == here.sector) ≡ b → cond b (Some (half * 2 ^ 8 + (target.at.loc + offset))) None ≡ Some address
        → GoesOn here offset target (Some half) address
    by true is e =
        let both = and_parts (target.at.pair == here.pair) (target.at.sector == here.sector) is in
        record {
          half = half;
          code = refl;
          pair = eqb-true target.at.pair here.pair both.0;
          sector = eqb-true target.at.sector here.sector both.1;
          bits = (let same : half * 2 ^ 8 + (target.at.loc + offset) ≡ address = cc in sym same);
        }
    by false is e = absurd (cc)

-- data stand in the sector that is assumed, with A9 0, or in the residual one, with A9 1, where PQ is not meant
pub record StandsAt (assumed : DataPlace) (at : Spot) (offset address : ℕ) : Type 0 where
  pub pair : at.pair ≡ assumed.pair
  pub sector : ((at.sector ≡ assumed.sector) × (address ≡ at.loc + offset)) ⊎ ((at.sector ≡ 15) × (address ≡ 2 ^ 8 + (at.loc + offset)) × (address ≡ 0o775 → ⊥))

residual : (loc address : ℕ) → residual_address loc ≡ Some address → (address ≡ 2 ^ 8 + loc) × (address ≡ 0o775 → ⊥)
residual loc address h = by (2 ^ 8 + loc == 0o775) refl h
  where
    by : (b : Bool) → (2 ^ 8 + loc == 0o775) ≡ b → cond b None (Some (2 ^ 8 + loc)) ≡ Some address → (address ≡ 2 ^ 8 + loc) × (address ≡ 0o775 → ⊥)
    by true is e = absurd (cc)
    by false is e =
        let same : 2 ^ 8 + loc ≡ address = cc in
        (sym same, λ pq. eqb-false (2 ^ 8 + loc) 0o775 is (same ∙ pq))

pub stands-at : (assumed : DataPlace) (at : Spot) (offset address : ℕ) → data_address assumed at offset ≡ Some address → StandsAt assumed at offset address
stands-at assumed at offset address h = by (at.pair == assumed.pair) (at.sector == assumed.sector) (at.sector == 15) refl refl refl h
  where
    by : (a b c : Bool) → (at.pair == assumed.pair) ≡ a → (at.sector == assumed.sector) ≡ b → (at.sector == 15) ≡ c
        → cond a (cond b (Some (at.loc + offset)) (cond c (residual_address (at.loc + offset)) None)) None ≡ Some address → StandsAt assumed at offset address
    by false b c p q r e = absurd (cc)
    by true true c p q r e =
        let same : at.loc + offset ≡ address = cc in
        record { pair = eqb-true at.pair assumed.pair p; sector = inl (eqb-true at.sector assumed.sector q, sym same) }
    by true false true p q r e =
        let parts = residual (at.loc + offset) address e in
        record { pair = eqb-true at.pair assumed.pair p; sector = inr (eqb-true at.sector 15 r, parts.0, parts.1) }
    by true false false p q r e = absurd (cc)

-- which of both it is
pub reach-cases : (op : Op) (here : Spot) (assumed : DataPlace) (target : Target) (offset address : ℕ) → reach op here assumed target offset ≡ Some address
    → ((is_transfer op ≡ true) × GoesOn here offset target target.syl address) ⊎ ((is_transfer op ≡ false) × StandsAt assumed target.at offset address)
reach-cases op here assumed target offset address h = by (is_transfer op) h
  where
    by : (b : Bool) → cond b (transfer_address here target offset target.syl) (data_address assumed target.at offset) ≡ Some address
        → ((b ≡ true) × GoesOn here offset target target.syl address) ⊎ ((b ≡ false) × StandsAt assumed target.at offset address)
    by true e = inl (refl, goes-on here offset target target.syl address e)
    by false e = inr (refl, stands-at assumed target.at offset address e)

half-small : (syl : Option ℕ) (half : ℕ) → syl ≡ Some half → IfSome syl (λ (h : ℕ). h < 2) → half < 2
half-small None half is h = absurd (cc)
half-small (Some s) half is h = let same : s ≡ half = cc in omega (arith, h)

pub reached-small : (op : Op) (here : Spot) (assumed : DataPlace) (offset : ℕ) (target : Target) (address : ℕ) → IfSome target.syl (λ half. half < 2)
    → IsReached op here assumed offset target address → address < 2 ^ 9
reached-small op here assumed offset target address half is = elim (reach-cases op here assumed target offset address is.reach) [
  | inl goes ↦ (
      let on : GoesOn here offset target target.syl address = goes.1 in
      let near : target.at.loc + offset < 256 = is.near in
      let small : on.half < 2 = half-small target.syl on.half on.code half in
      omega (arith, on.bits)
      )
  | inr stands ↦ (
      let at : StandsAt assumed target.at offset address = stands.1 in
      let near : target.at.loc + offset < 256 = is.near in
      elim at.sector [ inl own ↦ omega (arith, own.1) | inr other ↦ omega (arith, other.1) ]
      )
]

pub name-small : (line : ℕ) (op : Op) (here : Spot) (assumed : DataPlace) (offset : ℕ) (o : Option Target) (address : ℕ)
    → ((target : Target) → o ≡ Some target → IfSome target.syl (λ half. half < 2)) → name_address line op here assumed offset o ≡ Ok address → address < 2 ^ 9
name-small line op here assumed offset None address halves h = absurd (cc)
name-small line op here assumed offset (Some target) address halves h =
    reached-small op here assumed offset target address (halves target refl) (reached line op here assumed offset target address h)
