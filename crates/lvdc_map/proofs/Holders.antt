-- Which banks are there, and which twins hold them.
use Rattle.std.proofs.Common.{◌≡◌, ℕ, ◌+◌, ◌-◌, ◌*◌, ◌/◌, ◌%◌, ◌<◌, Bool, true, false, cond, ◌||◌, inl, inr, refl, sym, ap, ◌∙◌, arith}
use Rattle.std.specs.Prelude.{nat_lt}
use Rattle.std.proofs.lemmas.Bool.{true≢false, lt-ltb, le-ltb, cases_lt}
use Rattle.lvdc_map.specs.Address.{Spot}
use Rattle.lvdc_map.specs.Banks.{is_simplex, bank_of, holds, HasBank}

or_true : (a : Bool) → (a || true) ≡ true
or_true true = refl
or_true false = refl

or_second : (a b : Bool) → (a || b) ≡ true → a ≡ false → b ≡ true
or_second true b h e = absurd (true≢false e)
or_second false b h e = h

-- both twins hold an address of a duplex pair that is there
pub holds_duplex : (banks twin : ℕ) (at : Spot) → HasBank banks at → is_simplex banks (at.pair % 4) ≡ false → holds banks twin at ≡ true
holds_duplex banks twin at bank duplex =
    rw duplex
    (elim (cases_lt at.pair 4) [
      | inl low ↦ lt-ltb at.pair 4 low
      | inr high ↦ (
          let small : at.pair < 8 = bank.small in
          let same : at.pair - 4 ≡ at.pair % 4 = omega arith in
          let simplex : is_simplex banks (at.pair - 4) ≡ true = or_second (nat_lt at.pair 4) (is_simplex banks (at.pair - 4)) bank.there (le-ltb at.pair 4 high) in
          absurd (true≢false (sym simplex ∙ ap (is_simplex banks) same ∙ duplex))
          )
    ])

-- the bank that a number below 8 means
pub there_bank : (banks number : ℕ) (at : Spot) → number < 8 → at.pair ≡ bank_of banks number → HasBank banks at
there_bank banks number at small is = by_simplex (is_simplex banks (number / 2)) refl is
  where
    by_simplex : (b : Bool) → is_simplex banks (number / 2) ≡ b → at.pair ≡ cond b (number / 2 + 4 * (number % 2)) (number / 2) → HasBank banks at
    by_simplex false e p = record { small = omega arith; there = rw (lt-ltb at.pair 4 (omega arith)) refl }
    by_simplex true e p = elim (cases_lt at.pair 4) [
      | inl low ↦ record { small = omega arith; there = rw (lt-ltb at.pair 4 low) refl }
      | inr high ↦ (
          let same : number / 2 ≡ at.pair - 4 = omega arith in
          let simplex : is_simplex banks (at.pair - 4) ≡ true = ap (is_simplex banks) (sym same) ∙ e in
          record { small = omega arith; there = rw simplex (or_true (nat_lt at.pair 4)) }
          )
    ]
