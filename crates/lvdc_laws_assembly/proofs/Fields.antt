-- The rows of a listing, read back.
use Rattle.std.proofs.Common.{◌≡◌, ℕ, zero, suc, ◌+◌, ◌-◌, ◌/◌, ◌%◌, ◌^◌, ◌<◌, ◌≤◌, Bool, true, false, cond, ◌&&◌, List, [], ◌∷◌, ◌++◌, length, take, drop, replicate, decimal, codes, append_assoc, length-append, Option, None, Some, nat_lt, nat_le, refl, sym, ap, ◌∙◌, subst, arith}
use Rattle.std.specs.List.{list_all}
use Rattle.std.proofs.lemmas.Bool.{true≢false, and_parts, ne_eqb, leb-true, ltb-true}
use Rattle.std.proofs.lemmas.List.{length-replicate}
use Rattle.lvdc_map.specs.Address.{Spot}
use Rattle.lvdc_map.specs.Memory.{Memory, word_at}
use Rattle.lvdc_text.specs.Lines.{NumberedLine}
use Rattle.lvdc_text.specs.Numbers.{is_digit, value_of, is_number, octal_text}
use Rattle.lvdc_text.proofs.ReadBack.{number_of-octal_text, number_of-decimal}
use Rattle.lvdc_listing.specs.Places.{place_text}
use Rattle.lvdc_listing.specs.Rows.{blanks, row, pool_row}
use Rattle.lvdc_laws_assembly.specs.Shown.{Shown, byte_at, field_shown, row_shown}

-- ---- numbers

value-by : (b : Bool) (text : List ℕ) (n : ℕ) → ◌≡◌ {A = Option ℕ} (cond b (Some (value_of 8 text)) None) (Some n) → value_of 8 text ≡ n
value-by true text n e = cc
value-by false text n e = absurd (cc)

-- octal digits stand for their number
pub value-octal : (width n : ℕ) → 0 < width → n < 8 ^ width → value_of 8 (octal_text width n) ≡ n
value-octal width n some small = value-by (is_number 8 width (octal_text width n)) (octal_text width n) n (number_of-octal_text width width n some (omega arith) small)

-- ---- lists

drop-front : (xs ys : List ℕ) (n : ℕ) → length xs ≡ n → drop n (xs ++ ys) ≡ ys
drop-front [] ys n h = ap (λ (k : ℕ). drop k ys) (sym h)
drop-front (x ∷ xs) ys zero h = absurd (omega arith)
drop-front (x ∷ xs) ys (suc n) h = drop-front xs ys n (omega arith)

take-front : (xs ys : List ℕ) (n : ℕ) → length xs ≡ n → take n (xs ++ ys) ≡ xs
take-front [] ys n h = ap (λ (k : ℕ). take k ys) (sym h)
take-front (x ∷ xs) ys zero h = absurd (omega arith)
take-front (x ∷ xs) ys (suc n) h = ap (λ (rest : List ℕ). x ∷ rest) (take-front xs ys n (omega arith))

-- ---- the number of a line

-- what is known of a number of at most seven digits
pub record IsShort (digits : List ℕ) : Type 0 where
  pub few : length digits ≤ 7
  pub all : list_all (is_digit 10) digits ≡ true

short-by : (digits : List ℕ) (n : ℕ) (b : Bool) → is_number 10 7 digits ≡ b → ◌≡◌ {A = Option ℕ} (cond b (Some (value_of 10 digits)) None) (Some n) → IsShort digits
short-by digits n true is e =
    let one = and_parts (nat_lt 0 (length digits)) (nat_le (length digits) 7 && list_all (is_digit 10) digits) is in
    let two = and_parts (nat_le (length digits) 7) (list_all (is_digit 10) digits) one.1 in
    record { few = leb-true (length digits) 7 two.0; all = two.1 }
short-by digits n false is e = absurd (cc)

pub short-decimal : (n : ℕ) → n < 10 ^ 7 → IsShort (decimal n)
short-decimal n small = short-by (decimal n) n (is_number 10 7 (decimal n)) refl (number_of-decimal 7 n (omega arith) small (omega (arith, small)))

-- a row doesn't begin with a letter
first-small : (k : ℕ) (digits rest : List ℕ) → list_all (is_digit 10) digits ≡ true → byte_at (replicate k 32 ++ digits ++ 32 ∷ [] ++ rest) 0 < 58
first-small (suc k) digits rest all = omega arith
first-small zero [] rest all = omega arith
first-small zero (d ∷ ds) rest all =
    let both = and_parts (is_digit 10 d) (list_all (is_digit 10) ds) all in
    let digit = and_parts (nat_le 48 d) (nat_lt d (48 + 10)) both.0 in
    omega (arith, ltb-true d 58 digit.1)

-- ---- the row of a line

-- its parts, put together from the right
regroup : (h f g text : List ℕ) → h ++ f ++ g ++ 32 ∷ [] ++ text ≡ h ++ ((f ++ g) ++ 32 ∷ text)
regroup h f g text =
    append_assoc (h ++ f ++ g) (32 ∷ []) text
    ∙ ap (λ (z : List ℕ). z ++ 32 ∷ text) (append_assoc h f g)
    ∙ append_assoc h (f ++ g) (32 ∷ text)

by-tests : (p q : Bool) (x y z : List Shown) → p ≡ false → q ≡ false → cond p x (cond q y z) ≡ z
by-tests true q x y z a b = absurd (true≢false a)
by-tests false true x y z a b = absurd (true≢false b)
by-tests false false x y z a b = refl

one-test : (p : Bool) (x y : List Shown) → p ≡ false → cond p x y ≡ y
one-test true x y h = absurd (true≢false h)
one-test false x y h = refl

-- a row begins with a blank or with a digit
pub row-begins : (line : NumberedLine) (field : List ℕ) → line.number < 10 ^ 7 → byte_at (row line field) 0 < 58
row-begins line field small =
    subst (λ (text : List ℕ). byte_at text 0 < 58)
    (sym (regroup (blanks 7 (decimal line.number) ++ decimal line.number ++ 32 ∷ []) field (blanks 20 field) line.text))
    (first-small (7 - length (decimal line.number)) (decimal line.number) ((field ++ blanks 20 field) ++ 32 ∷ line.text) (short-decimal line.number small).all)

-- it shows what its field does
pub line-row : (line : NumberedLine) (field : List ℕ) → line.number < 10 ^ 7 → length field ≤ 20 → row_shown (row line field) ≡ field_shown (field ++ blanks 20 field)
line-row line field small few =
    let short : IsShort (decimal line.number) = short-decimal line.number small in
    let whole : row line field ≡ blanks 7 (decimal line.number) ++ decimal line.number ++ 32 ∷ [] ++ ((field ++ blanks 20 field) ++ 32 ∷ line.text) =
    regroup (blanks 7 (decimal line.number) ++ decimal line.number ++ 32 ∷ []) field (blanks 20 field) line.text in
    let eight : length (blanks 7 (decimal line.number) ++ decimal line.number ++ 32 ∷ []) ≡ 8 =
    omega (
      arith,
      length-append (blanks 7 (decimal line.number) ++ decimal line.number) (32 ∷ []),
      length-append (blanks 7 (decimal line.number)) (decimal line.number),
      length-replicate {A = ℕ} (7 - length (decimal line.number)) 32,
      short.few,
    ) in
    let twenty : length (field ++ blanks 20 field) ≡ 20 = omega (arith, length-append field (blanks 20 field), length-replicate {A = ℕ} (20 - length field) 32, few) in
    let cut : take 20 (drop 8 (row line field)) ≡ field ++ blanks 20 field =
    ap (λ (text : List ℕ). take 20 (drop 8 text)) whole
    ∙ ap (take 20) (drop-front (blanks 7 (decimal line.number) ++ decimal line.number ++ 32 ∷ []) ((field ++ blanks 20 field) ++ 32 ∷ line.text) 8 eight)
    ∙ take-front (field ++ blanks 20 field) (32 ∷ line.text) 20 twenty in
    one-test _ _ _ (ne_eqb (byte_at (row line field) 0) 80 (λ e. absurd (omega (arith, row-begins line field small, e))))
    ∙ ap field_shown cut

-- ---- fields

-- the numbers of an address are in their ranges
pub record IsIn (at : Spot) : Type 0 where
  pub pair : at.pair < 4
  pub sector : at.sector < 16
  pub loc : at.loc < 256

-- an instruction
abbrev pub code_field : Spot → ℕ → ℕ → List ℕ
code_field at syl v = place_text (record { at = at; syl = Some syl }) ++ (codes " " ++ octal_text 5 v)

pub code-shown : (at : Spot) (syl v : ℕ) → IsIn at → syl < 2 → v < 2 ^ 13 → field_shown (code_field at syl v ++ blanks 20 (code_field at syl v)) ≡ record { at = at; syl = Some syl; value = v } ∷ []
unfolding octal_text
code-shown at syl v near half small =
    let pair : value_of 8 (octal_text 1 at.pair) ≡ at.pair = value-octal 1 at.pair (omega arith) (omega (arith, near.pair)) in
    let sector : value_of 8 (octal_text 2 at.sector) ≡ at.sector = value-octal 2 at.sector (omega arith) (omega (arith, near.sector)) in
    let loc : value_of 8 (octal_text 3 at.loc) ≡ at.loc = value-octal 3 at.loc (omega arith) (omega (arith, near.loc)) in
    let which : value_of 8 (octal_text 1 syl) ≡ syl = value-octal 1 syl (omega arith) (omega arith) in
    let value : value_of 8 (octal_text 5 v) ≡ v = value-octal 5 v (omega arith) (omega arith) in
    by-tests _ _ _ _ _ (ne_eqb (48 + v / 8 / 8 / 8 / 8 % 8) 32 (λ e. absurd (omega (arith, e)))) (ne_eqb (48 + syl % 8) 45 (λ e. absurd (omega (arith, e))))
    ∙ (λ i. record { at = record { pair = pair i; sector = sector i; loc = loc i }; syl = Some (which i); value = value i } ∷ [])

-- a constant
abbrev pub word_field : Spot → ℕ → List ℕ
word_field at v = place_text (record { at = at; syl = None }) ++ (codes " " ++ octal_text 9 v)

pub word-shown : (at : Spot) (v : ℕ) → IsIn at → v < 2 ^ 26 → field_shown (word_field at v ++ blanks 20 (word_field at v)) ≡ record { at = at; syl = None; value = v } ∷ []
unfolding octal_text
word-shown at v near small =
    let pair : value_of 8 (octal_text 1 at.pair) ≡ at.pair = value-octal 1 at.pair (omega arith) (omega (arith, near.pair)) in
    let sector : value_of 8 (octal_text 2 at.sector) ≡ at.sector = value-octal 2 at.sector (omega arith) (omega (arith, near.sector)) in
    let loc : value_of 8 (octal_text 3 at.loc) ≡ at.loc = value-octal 3 at.loc (omega arith) (omega (arith, near.loc)) in
    let value : value_of 8 (octal_text 9 v) ≡ v = value-octal 9 v (omega arith) (omega arith) in
    one-test _ _ _ (ne_eqb (48 + v / 8 / 8 / 8 / 8 / 8 / 8 / 8 / 8 % 8) 32 (λ e. absurd (omega (arith, e))))
    ∙ (λ i. record { at = record { pair = pair i; sector = sector i; loc = loc i }; syl = None; value = value i } ∷ [])

-- room, and nothing
pub room-shown : (at : Spot) → field_shown ((place_text (record { at = at; syl = None }) ++ []) ++ blanks 20 (place_text (record { at = at; syl = None }) ++ [])) ≡ []
unfolding octal_text
room-shown at = refl

pub none-shown : field_shown ([] ++ blanks 20 []) ≡ []
none-shown = refl

-- ---- pooled words

pub pool-shown : (m : Memory) (at : Spot) → IsIn at → word_at m at < 2 ^ 26 → row_shown (pool_row m at) ≡ record { at = at; syl = None; value = word_at m at } ∷ []
unfolding octal_text
pool-shown m at near small =
    let v : ℕ = word_at m at in
    let pair : value_of 8 (octal_text 1 at.pair) ≡ at.pair = value-octal 1 at.pair (omega arith) (omega (arith, near.pair)) in
    let sector : value_of 8 (octal_text 2 at.sector) ≡ at.sector = value-octal 2 at.sector (omega arith) (omega (arith, near.sector)) in
    let loc : value_of 8 (octal_text 3 at.loc) ≡ at.loc = value-octal 3 at.loc (omega arith) (omega (arith, near.loc)) in
    let value : value_of 8 (octal_text 9 (word_at m at)) ≡ word_at m at = value-octal 9 (word_at m at) (omega arith) (omega (arith, small)) in
    λ i. record { at = record { pair = pair i; sector = sector i; loc = loc i }; syl = None; value = value i } ∷ []
