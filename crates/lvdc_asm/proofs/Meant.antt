-- The address that an operand comes to is one at which the code of its operation means that operation.
use Rattle.std.proofs.Common.{◌≡◌, ◌==◌, ◌&&◌, ◌||◌, true≢false, ℕ, ◌+◌, ◌*◌, ◌/◌, ◌%◌, ◌^◌, ◌<◌, Bool, true, false, cond, Option, None, Some, Result, Ok, nat_lt, refl, sym, ap, subst, arith}
use Rattle.std.proofs.lemmas.Bool.{ltb-true, eqb-true}
use Rattle.lvdc_map.specs.Address.{Spot}
use Rattle.lvdc_isa.specs.Instr.{operation, fourteen, is_shift, operation_code}
use Rattle.lvdc_isa.specs.declared.op.Op.{Op}
use Rattle.lvdc_isa.specs.declared.op.Op.TheVariants.{Hop, Mpy, Sub, Div, Tnz, Mph, And, Add, Tra, Xor, Pio, Sto, Tmi, Rsu, Cds, Shf, WrongShift, Exm, Cla}
use Rattle.lvdc_source.specs.Items.{takes}
use Rattle.lvdc_source.specs.declared.item.Operand.{Operand}
use Rattle.lvdc_source.specs.declared.item.Operand.TheVariants.{Number, Pair, Name, Literal}
use Rattle.lvdc_asm.specs.DataPlace.{DataPlace}
use Rattle.lvdc_asm.specs.Hop.{Plan}
use Rattle.lvdc_asm.specs.Lines.{OperandAddress, plain_address, operand_address}
use Rattle.lvdc_asm.specs.Operands.{or_refused, number_address, pair_address}
use Rattle.lvdc_asm.specs.Pool.{Progress}
use Rattle.lvdc_asm.specs.declared.fault.AsmFault.{AsmFault}

-- one answer has one value
ok-same : (r : Result OperandAddress AsmFault) (a x : OperandAddress) → r ≡ Ok a → r ≡ Ok x → a ≡ x
ok-same r a x p q = cc

-- what has an address has it from a value
address-is : (progress : Progress) (fault : AsmFault) (o : Option ℕ) (x : OperandAddress) → plain_address progress (or_refused fault o) ≡ Ok x → o ≡ Some x.address
address-is progress fault None x h = cc
address-is progress fault (Some a) x h = ap (λ (y : OperandAddress). Some y.address) (ok-same (plain_address progress (Ok a)) (record { address = a; progress = progress }) x refl h)

-- CDS at the address of a pair and a sector
cds-at : (pair sector address : ℕ) → pair < 4 → sector < 16 → address ≡ 2 ^ 8 + pair * 2 ^ 5 + sector → fourteen address ≡ Cds
cds-at pair sector address p s is = let a8 : address / 2 ^ 7 % 2 ≡ 0 = omega arith in rw a8 refl

cds-by : (pair sector address : ℕ) (p s : Bool) → nat_lt pair 4 ≡ p → nat_lt sector 16 ≡ s → cond (p && s) (Some (2 ^ 8 + pair * 2 ^ 5 + sector)) None ≡ Some address → fourteen address ≡ Cds
cds-by pair sector address true true p s h = cds-at pair sector address (omega (arith, ltb-true)) (omega (arith, ltb-true)) (let e : 2 ^ 8 + pair * 2 ^ 5 + sector ≡ address = cc in sym e)
cds-by pair sector address true false p s h = cc
cds-by pair sector address false s p q h = cc

cds : (pair sector address : ℕ) → pair_address pair sector ≡ Some address → fourteen address ≡ Cds
cds pair sector address h = cds-by pair sector address (nat_lt pair 4) (nat_lt sector 16) refl refl h

-- a shift at the address of its pattern, which is one of five
shf-is : (n k : ℕ) → (n == k) ≡ true → fourteen (2 ^ 7 + k) ≡ Shf → fourteen (2 ^ 7 + n) ≡ Shf
shf-is n k e h = subst (λ (m : ℕ). fourteen (2 ^ 7 + m) ≡ Shf) (sym (eqb-true n k e)) h

shf-one : (n : ℕ) (a b c d e : Bool) → (n == 0) ≡ a → (n == 0o1) ≡ b → (n == 0o2) ≡ c → (n == 0o20) ≡ d → (n == 0o40) ≡ e → (a || b || c || d || e) ≡ true → fourteen (2 ^ 7 + n) ≡ Shf
shf-one n true b c d e p q r s t h = shf-is n 0 p refl
shf-one n false true c d e p q r s t h = shf-is n 1 q refl
shf-one n false false true d e p q r s t h = shf-is n 2 r refl
shf-one n false false false true e p q r s t h = shf-is n 16 s refl
shf-one n false false false false true p q r s t h = shf-is n 32 t refl
shf-one n false false false false false p q r s t h = cc

shf-at : (n : ℕ) → is_shift n ≡ true → fourteen (2 ^ 7 + n) ≡ Shf
shf-at n h = shf-one n (n == 0) (n == 0o1) (n == 0o2) (n == 0o20) (n == 0o40) refl refl refl refl refl h

shf-by : (n address : ℕ) (b : Bool) → is_shift n ≡ b → cond b (Some (2 ^ 7 + n)) None ≡ Some address → fourteen address ≡ Shf
shf-by n address true h e = subst (λ (a : ℕ). fourteen a ≡ Shf) (let is : 2 ^ 7 + n ≡ address = cc in is) (shf-at n h)
shf-by n address false h e = cc

shf : (n address : ℕ) → number_address Shf n ≡ Some address → fourteen address ≡ Shf
shf n address h = shf-by n address (is_shift n) refl h

pub meant : (plan : Plan) (line : ℕ) (op : Op) (here : Spot) (assumed : DataPlace) (progress : Progress) (operand : Operand) (x : OperandAddress)
    → takes op operand ≡ true → operand_address plan line op here assumed progress operand ≡ Ok x → operation (operation_code op) x.address ≡ op
meant plan line Hop here assumed progress operand x t h = refl
meant plan line Mpy here assumed progress operand x t h = refl
meant plan line Sub here assumed progress operand x t h = refl
meant plan line Div here assumed progress operand x t h = refl
meant plan line Tnz here assumed progress operand x t h = refl
meant plan line Mph here assumed progress operand x t h = refl
meant plan line And here assumed progress operand x t h = refl
meant plan line Add here assumed progress operand x t h = refl
meant plan line Tra here assumed progress operand x t h = refl
meant plan line Xor here assumed progress operand x t h = refl
meant plan line Pio here assumed progress operand x t h = refl
meant plan line Sto here assumed progress operand x t h = refl
meant plan line Tmi here assumed progress operand x t h = refl
meant plan line Rsu here assumed progress operand x t h = refl
meant plan line Cla here assumed progress operand x t h = refl
meant plan line WrongShift here assumed progress operand x t h = absurd (true≢false (sym t))
meant plan line Exm here assumed progress operand x t h = absurd (true≢false (sym t))
meant plan line Cds here assumed progress (Number n) x t h = absurd (true≢false (sym t))
meant plan line Cds here assumed progress (Name name offset) x t h = absurd (true≢false (sym t))
meant plan line Cds here assumed progress (Literal constant) x t h = absurd (true≢false (sym t))
meant plan line Cds here assumed progress (Pair pair sector) x t h = cds pair sector x.address (address-is progress _ (pair_address pair sector) x h)
meant plan line Shf here assumed progress (Pair pair sector) x t h = absurd (true≢false (sym t))
meant plan line Shf here assumed progress (Name name offset) x t h = absurd (true≢false (sym t))
meant plan line Shf here assumed progress (Literal constant) x t h = absurd (true≢false (sym t))
meant plan line Shf here assumed progress (Number n) x t h = shf n x.address (address-is progress _ (number_address Shf n) x h)
