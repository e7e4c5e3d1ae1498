-- The good cells are exactly the codes of words.
use Rattle.std.proofs.Common.{◌≡◌, ℕ, zero, suc, ◌+◌, ◌-◌, ◌*◌, ◌/◌, ◌%◌, ◌^◌, ◌<◌, true, sym, ap, ◌∙◌, arith}
use Rattle.std.specs.Int.RustNames.{count_ones}
use Rattle.std.proofs.lemmas.Nat.{ones_le_self}
use lib.Count.{ones_step}
use Rattle.std.proofs.lemmas.Bool.{eq-eqb, eqb-true, and_from, and_parts}
use Rattle.lvdc_word.specs.Word.{upper, lower, joined}
use Rattle.lvdc_word.specs.Cell.{ones, is_good_half, is_good, half_of, code_of, word_in}

-- ---- counts of ones

-- the lowest bits of a number that has no others
pub ones-count : (k n : ℕ) → n < 2 ^ k → ones k n ≡ count_ones n
ones-count zero n h =
    let none : n ≡ 0 = omega arith in
    omega (arith, ap count_ones none, ones_le_self 0)
ones-count (suc k) n h =
    let p : 2 ^ suc k ≡ 2 * 2 ^ k = omega arith in
    let more : ones k (n / 2) ≡ count_ones (n / 2) = ones-count k (n / 2) (omega arith) in
    omega (arith, more, ones_step n)

-- one bit more
ones-above : (k b s : ℕ) → s < 2 ^ k → ones (suc k) (b * 2 ^ k + s) ≡ ones k s + b % 2
ones-above zero b s h =
    let none : s ≡ 0 = omega arith in
    let same : b * 2 ^ 0 + s ≡ b = omega arith in
    rw same (omega arith)
ones-above (suc k) b s h =
    let e : 2 ^ suc k ≡ 2 * 2 ^ k = omega arith in
    let small : s / 2 < 2 ^ k = omega arith in
    let low : (b * 2 ^ suc k + s) % 2 ≡ s % 2 = omega (arith, ap (λ (p : ℕ). b * p) e) in
    let high : (b * 2 ^ suc k + s) / 2 ≡ b * 2 ^ k + s / 2 = omega (arith, ap (λ (p : ℕ). b * p) e) in
    let more : ones (suc k) (b * 2 ^ k + s / 2) ≡ ones k (s / 2) + b % 2 = ones-above k b (s / 2) small in
    omega (arith, low, more, ap (ones (suc k)) high)

-- ---- halves

odd_sum : (x y : ℕ) → y ≡ x + (1 - x % 2) % 2 → y % 2 ≡ 1
odd_sum x y e = omega arith

good_half : (s : ℕ) → s < 2 ^ 13 → is_good_half (half_of s) ≡ true
good_half s h = eq-eqb (ones 14 (half_of s) % 2) 1 (odd_sum (ones 13 s) (ones 14 (half_of s)) (ones-above 13 (1 - ones 13 s % 2) s h))

parity_bit : (x y b : ℕ) → b < 2 → y ≡ x + b % 2 → y % 2 ≡ 1 → 1 - x % 2 ≡ b
parity_bit x y b h e odd = omega arith

-- a good half is that of its syllable
half_again : (half : ℕ) → half < 2 ^ 14 → is_good_half half ≡ true → half_of (half % 2 ^ 13) ≡ half
half_again half h good =
    let parts : half / 2 ^ 13 * 2 ^ 13 + half % 2 ^ 13 ≡ half = omega arith in
    let bit : half / 2 ^ 13 < 2 = omega arith in
    let low : half % 2 ^ 13 < 2 ^ 13 = omega arith in
    let counted : ones 14 half ≡ ones 13 (half % 2 ^ 13) + half / 2 ^ 13 % 2 =
    sym (ap (ones 14) parts) ∙ ones-above 13 (half / 2 ^ 13) (half % 2 ^ 13) low in
    let parity = parity_bit (ones 13 (half % 2 ^ 13)) (ones 14 half) (half / 2 ^ 13) bit counted (eqb-true (ones 14 half % 2) 1 good) in
    ap (λ (p : ℕ). p * 2 ^ 13 + half % 2 ^ 13) parity ∙ parts

-- ---- cells

halves_high : (x y : ℕ) → y < 2 ^ 14 → (x * 2 ^ 14 + y) / 2 ^ 14 ≡ x
halves_high x y h = omega arith

halves_low : (x y : ℕ) → y < 2 ^ 14 → (x * 2 ^ 14 + y) % 2 ^ 14 ≡ y
halves_low x y h = omega arith

half_small : (p s : ℕ) → s < 2 ^ 13 → (1 - p % 2) * 2 ^ 13 + s < 2 ^ 14
half_small p s h = omega arith

-- the code of a word is good
pub good-code : (w : ℕ) → w < 2 ^ 26 → is_good (code_of w) ≡ true
good-code w h =
    let high : upper w < 2 ^ 13 = omega arith in
    let low : lower w < 2 ^ 13 = omega arith in
    let small = half_small (ones 13 (lower w)) (lower w) low in
    and_from (is_good_half (code_of w / 2 ^ 14)) (is_good_half (code_of w % 2 ^ 14))
    (ap is_good_half (halves_high (half_of (upper w)) (half_of (lower w)) small) ∙ good_half (upper w) high)
    (ap is_good_half (halves_low (half_of (upper w)) (half_of (lower w)) small) ∙ good_half (lower w) low)

word_of_halves : (p q x y : ℕ) → x < 2 ^ 13 → y < 2 ^ 13
    → (((1 - p % 2) * 2 ^ 13 + x) * 2 ^ 14 + ((1 - q % 2) * 2 ^ 13 + y)) / 2 ^ 14 % 2 ^ 13 * 2 ^ 13
    + (((1 - p % 2) * 2 ^ 13 + x) * 2 ^ 14 + ((1 - q % 2) * 2 ^ 13 + y)) % 2 ^ 13 ≡ x * 2 ^ 13 + y
word_of_halves p q x y hx hy = omega arith

-- and holds the word
pub word-code : (w : ℕ) → w < 2 ^ 26 → word_in (code_of w) ≡ w
word-code w h =
    let high : upper w < 2 ^ 13 = omega arith in
    let low : lower w < 2 ^ 13 = omega arith in
    let whole : joined (upper w) (lower w) ≡ w = omega arith in
    word_of_halves (ones 13 (upper w)) (ones 13 (lower w)) (upper w) (lower w) high low ∙ whole

-- the word of any cell is one
pub word-small : (cell : ℕ) → word_in cell < 2 ^ 26
word-small cell = omega arith

word_upper : (cell : ℕ) → upper (word_in cell) ≡ cell / 2 ^ 14 % 2 ^ 13
word_upper cell = omega arith

word_lower : (cell : ℕ) → lower (word_in cell) ≡ cell % 2 ^ 14 % 2 ^ 13
word_lower cell = omega arith

-- a good cell is the code of its word
pub code-word : (cell : ℕ) → cell < 2 ^ 28 → is_good cell ≡ true → code_of (word_in cell) ≡ cell
code-word cell h good =
    let parts = and_parts (is_good_half (cell / 2 ^ 14)) (is_good_half (cell % 2 ^ 14)) good in
    let one : half_of (upper (word_in cell)) ≡ cell / 2 ^ 14 = ap half_of (word_upper cell) ∙ half_again (cell / 2 ^ 14) (omega arith) parts.0 in
    let zero : half_of (lower (word_in cell)) ≡ cell % 2 ^ 14 = ap half_of (word_lower cell) ∙ half_again (cell % 2 ^ 14) (omega arith) parts.1 in
    omega (arith, one, zero)
