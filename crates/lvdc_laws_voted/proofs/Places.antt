-- Addresses, their places in the modules, and the twins that hold them.
use Rattle.std.proofs.Common.{◌≡◌, ℕ, ◌+◌, ◌*◌, ◌/◌, ◌%◌, ◌<◌, Bool, true, false, cond, ◌&&◌, refl, sym, ap, ◌∙◌, arith}
use Rattle.std.specs.Prelude.{◌==◌, nat_lt}
use Rattle.std.proofs.lemmas.Bool.{eqb-true, eqb-false, ltb-true, eq-eqb, ne_eqb}
use Rattle.lvdc_map.specs.Address.{Spot, is_same}
use Rattle.lvdc_map.specs.Banks.{is_simplex, home, holds, held_at, HasBank}

-- addresses that are the same are equal
abbrev pub SameLaw : Type 0
SameLaw = (a b : Spot) → is_same a b ≡ true → a ≡ b

-- both twins hold the addresses of a duplex pair
abbrev pub DuplexLaw : Type 0
DuplexLaw = (banks twin : ℕ) (at : Spot) → HasBank banks at → is_simplex banks (at.pair % 4) ≡ false → holds banks twin at ≡ true

-- a twin holds one bank at each place
held_bank : (b : Bool) (twin x y : ℕ) → cond b (twin == x / 4) (nat_lt x 4) ≡ true → cond b (twin == y / 4) (nat_lt y 4) ≡ true → x % 4 ≡ y % 4 → x ≡ y
held_bank true twin x y hx hy e = let p : twin ≡ x / 4 = eqb-true _ _ hx in let q : twin ≡ y / 4 = eqb-true _ _ hy in omega arith
held_bank false twin x y hx hy e = let p : x < 4 = ltb-true _ _ hx in let q : y < 4 = ltb-true _ _ hy in omega arith

-- two addresses that a twin holds stand at one place only where they are the same
pub same_home : (banks twin : ℕ) (a b : Spot) → holds banks twin a ≡ true → holds banks twin b ≡ true → is_same (home a) (home b) ≡ is_same a b
same_home banks twin a b ha hb = ap (λ (t : Bool). t && a.sector == b.sector && a.loc == b.loc) (by_place (a.pair % 4 == b.pair % 4) refl)
  where
    by_place : (t : Bool) → (a.pair % 4 == b.pair % 4) ≡ t → t ≡ (a.pair == b.pair)
    by_place true e =
        let p : a.pair % 4 ≡ b.pair % 4 = eqb-true _ _ e in
        sym (eq-eqb a.pair b.pair (held_bank (is_simplex banks (b.pair % 4)) twin a.pair b.pair
        (ap (λ (n : ℕ). cond (is_simplex banks n) (twin == a.pair / 4) (nat_lt a.pair 4)) (sym p) ∙ ha) hb p))
    by_place false e = sym (ne_eqb a.pair b.pair (λ q. eqb-false _ _ e (ap (λ (n : ℕ). n % 4) q)))

-- the twin that holds an address of a simplex pair
pub holds_simplex : (banks : ℕ) (at : Spot) → HasBank banks at → is_simplex banks (at.pair % 4) ≡ true
    → (holds banks (at.pair / 4) at ≡ true) × (at.pair / 4 < 2)
holds_simplex banks at bank simplex = (rw simplex (eq-eqb (at.pair / 4) (at.pair / 4) refl), let small : at.pair < 8 = bank.small in omega arith)

-- the address that a twin holds at the place of one that it holds
pub held-again : (banks twin : ℕ) (at : Spot) → holds banks twin at ≡ true → held_at banks twin (home at) ≡ at
held-again banks twin at h = ap (λ (n : ℕ). record at { pair = n }) (by_simplex (is_simplex banks (at.pair % 4)) h)
  where
    by_simplex : (b : Bool) → cond b (twin == at.pair / 4) (nat_lt at.pair 4) ≡ true → cond b (at.pair % 4 + 4 * twin) (at.pair % 4) ≡ at.pair
    by_simplex true h = let e : twin ≡ at.pair / 4 = eqb-true _ _ h in omega arith
    by_simplex false h = let e : at.pair < 4 = ltb-true _ _ h in omega arith
