-- A reader of parity sees damage of an odd number of bits in some half, and stuck bits of which each half has at most one.
use Rattle.std.proofs.Common.{◌≡◌, ℕ, zero, suc, ◌+◌, ◌*◌, ◌/◌, ◌%◌, ◌^◌, ◌<◌, ◌≤◌, true, false, ◌&&◌, ◌||◌, ◌==◌, bit_and, bit_xor, min, ◌⊎◌, inl, inr, refl, sym, ap, ◌∙◌, arith}
use Rattle.std.specs.Prelude.{nat_lt, nat_le}
use Rattle.std.specs.Int.Bits.{xor_zero_r}
use Rattle.std.proofs.lemmas.Bool.{eqb-true, ne_eqb, eq-eqb, leb-true, ltb-true, or_cases, or_left, or_right, and_parts, and_left, and_right}
use Rattle.std.proofs.lemmas.Nat.{xor_shr, xor_mod, and_shr, and_mod, and_le_r}
use Rattle.std.proofs.lemmas.Nat.Bits.{bit_at_lowest, bit_at_xor, bit_at_and}
use Rattle.lvdc_word.specs.Cell.{ones, is_good_half, is_good, with_stuck}
use Rattle.lvdc_withstands.specs.Form.{is_odd, is_single}

-- ---- ones

-- the parities of two numbers add up in their difference
ones_xor : (k a b : ℕ) → ones k (bit_xor a b) % 2 ≡ (ones k a + ones k b) % 2
ones_xor zero a b = refl
ones_xor (suc k) a b =
    let more : ones k (bit_xor (a / 2) (b / 2)) % 2 ≡ (ones k (a / 2) + ones k (b / 2)) % 2 = ones_xor k (a / 2) (b / 2) in
    let low : bit_xor a b % 2 ≡ (a % 2 + b % 2) % 2 = sym (bit_at_lowest (bit_xor a b)) ∙ bit_at_xor a b 0 ∙ (λ i. (bit_at_lowest a i + bit_at_lowest b i) % 2) in
    let half : bit_xor a b / 2 ≡ bit_xor (a / 2) (b / 2) = xor_shr a b 1 in
    omega (arith, more, low, ap (ones k) half)

-- a part of a mask has no more ones
ones_and : (k a b : ℕ) → ones k (bit_and a b) ≤ ones k b
ones_and zero a b = omega arith
ones_and (suc k) a b =
    let more : ones k (bit_and (a / 2) (b / 2)) ≤ ones k (b / 2) = ones_and k (a / 2) (b / 2) in
    let low : bit_and a b % 2 ≡ min (a % 2) (b % 2) = sym (bit_at_lowest (bit_and a b)) ∙ bit_at_and a b 0 ∙ (λ i. min (bit_at_lowest a i) (bit_at_lowest b i)) in
    let half : bit_and a b / 2 ≡ bit_and (a / 2) (b / 2) = and_shr a b 1 in
    omega (arith, more, low, ap (ones k) half)

no_ones : (k n : ℕ) → n < 2 ^ k → ones k n ≡ 0 → n ≡ 0
no_ones zero n h e = omega arith
no_ones (suc k) n h e =
    let p : 2 ^ suc k ≡ 2 * 2 ^ k = omega arith in
    let more : ones k (n / 2) ≡ 0 → n / 2 ≡ 0 = no_ones k (n / 2) (omega arith) in
    let none : n / 2 ≡ 0 = more (omega arith) in
    omega arith

-- ---- damage

odd_to_even : (x y z : ℕ) → z % 2 ≡ (x + y) % 2 → x % 2 ≡ 1 → y % 2 ≡ 1 → (z % 2 == 1) ≡ false
odd_to_even x y z e hx hy = ne_eqb (z % 2) 1 (λ h. omega arith)

half_bad : (half mask : ℕ) → is_good_half half ≡ true → is_odd mask ≡ true → is_good_half (bit_xor half mask) ≡ false
half_bad half mask good odd =
    odd_to_even (ones 14 half) (ones 14 mask) (ones 14 (bit_xor half mask)) (ones_xor 14 half mask) (eqb-true _ _ good) (eqb-true _ _ odd)

-- a good cell in which an odd number of bits of some half is turned over is bad
pub damage-seen : (cell mask : ℕ) → is_good cell ≡ true → (is_odd (mask / 2 ^ 14) || is_odd (mask % 2 ^ 14)) ≡ true → is_good (bit_xor cell mask) ≡ false
damage-seen cell mask good odd =
    let parts = and_parts (is_good_half (cell / 2 ^ 14)) (is_good_half (cell % 2 ^ 14)) good in
    elim (or_cases (is_odd (mask / 2 ^ 14)) (is_odd (mask % 2 ^ 14)) odd) [
      | inl high ↦ and_left (is_good_half (bit_xor cell mask / 2 ^ 14)) (is_good_half (bit_xor cell mask % 2 ^ 14))
          (ap is_good_half (xor_shr cell mask 14) ∙ half_bad (cell / 2 ^ 14) (mask / 2 ^ 14) parts.0 high)
      | inr low ↦ and_right (is_good_half (bit_xor cell mask / 2 ^ 14)) (is_good_half (bit_xor cell mask % 2 ^ 14))
          (ap is_good_half (xor_mod cell mask 14) ∙ half_bad (cell % 2 ^ 14) (mask % 2 ^ 14) parts.1 low)
    ]

-- ---- stuck bits

-- of a half with at most one bit a part is empty or odd
empty_or_odd : (x half : ℕ) → x ≡ ones 14 half → half < 2 ^ 14 → x ≤ 1 → (half ≡ 0) ⊎ (is_odd half ≡ true)
empty_or_odd zero half e small few = inl (no_ones 14 half small (sym e))
empty_or_odd (suc x) half e small few = inr (eq-eqb (ones 14 half % 2) 1 (ap (λ (n : ℕ). n % 2) (sym e) ∙ (let one : x ≡ 0 = omega arith in omega arith)))

part_of : (a mask : ℕ) → is_single mask ≡ true → (bit_and a mask ≡ 0) ⊎ (is_odd (bit_and a mask) ≡ true)
part_of a mask single =
    let parts = and_parts (nat_lt mask (2 ^ 14)) (nat_le (ones 14 mask) 1) single in
    let small : mask < 2 ^ 14 = ltb-true _ _ parts.0 in
    let few : ones 14 mask ≤ 1 = leb-true _ _ parts.1 in
    let below : bit_and a mask ≤ mask = and_le_r a mask in
    let fewer : ones 14 (bit_and a mask) ≤ ones 14 mask = ones_and 14 a mask in
    empty_or_odd (ones 14 (bit_and a mask)) (bit_and a mask) refl (omega arith) (le_trans _ _ _ fewer few)
  where
    le_trans : (x y z : ℕ) → x ≤ y → y ≤ z → x ≤ z
    le_trans x y z h k = omega arith

-- what is shown of a good cell is that cell or a bad one
pub stuck-seen : (cell mask value : ℕ) → is_good cell ≡ true → (is_single (mask / 2 ^ 14) && is_single (mask % 2 ^ 14)) ≡ true
    → (with_stuck cell mask value ≡ cell) ⊎ (is_good (with_stuck cell mask value) ≡ false)
unfolding with_stuck
stuck-seen cell mask value good single = by_halves (part_of (turned / 2 ^ 14) (mask / 2 ^ 14) parts.0) (part_of (turned % 2 ^ 14) (mask % 2 ^ 14) parts.1)
  where
    turned : ℕ
    turned = bit_xor cell value

    parts : (is_single (mask / 2 ^ 14) ≡ true) × (is_single (mask % 2 ^ 14) ≡ true)
    parts = and_parts (is_single (mask / 2 ^ 14)) (is_single (mask % 2 ^ 14)) single

    part : ℕ
    part = bit_and turned mask

    high : part / 2 ^ 14 ≡ bit_and (turned / 2 ^ 14) (mask / 2 ^ 14)
    high = and_shr turned mask 14

    low : part % 2 ^ 14 ≡ bit_and (turned % 2 ^ 14) (mask % 2 ^ 14)
    low = and_mod turned mask 14

    seen : (is_odd (part / 2 ^ 14) || is_odd (part % 2 ^ 14)) ≡ true → (bit_xor cell part ≡ cell) ⊎ (is_good (bit_xor cell part) ≡ false)
    seen odd = inr (damage-seen cell part good odd)

    by_halves : (bit_and (turned / 2 ^ 14) (mask / 2 ^ 14) ≡ 0) ⊎ (is_odd (bit_and (turned / 2 ^ 14) (mask / 2 ^ 14)) ≡ true)
        → (bit_and (turned % 2 ^ 14) (mask % 2 ^ 14) ≡ 0) ⊎ (is_odd (bit_and (turned % 2 ^ 14) (mask % 2 ^ 14)) ≡ true)
        → (bit_xor cell part ≡ cell) ⊎ (is_good (bit_xor cell part) ≡ false)
    by_halves (inl h) (inl l) =
        let none : part ≡ 0 = omega (arith, high, low, h, l) in
        inl (ap (bit_xor cell) none ∙ xor_zero_r cell)
    by_halves (inr h) _ = seen (or_left (is_odd (part / 2 ^ 14)) (is_odd (part % 2 ^ 14)) (ap is_odd high ∙ h))
    by_halves (inl h) (inr l) = seen (or_right (is_odd (part / 2 ^ 14)) (is_odd (part % 2 ^ 14)) (ap is_odd low ∙ l))
