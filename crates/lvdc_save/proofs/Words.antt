-- Texts of words with single blanks between them, and what the words of such a text are.
use Rattle.std.proofs.Common.{◌≡◌, ℕ, ◌+◌, ◌*◌, ◌-◌, ◌/◌, ◌%◌, ◌^◌, ◌<◌, ◌≤◌, zero, suc, Bool, true, false, leb, ltb, ◌==◌, List, [], ◌∷◌, ◌++◌, All, length, get_or, None, Some, refl, sym, ap, ◌∙◌, arith, rules, append_assoc, append-nil, decimal, if◌then◌else◌}
use Rattle.std.specs.Prelude.{nat_lt, nat_le}
use Rattle.std.specs.List.{list_all, slice_split, filter}
use Rattle.std.proofs.lemmas.Bool.{leb-true, ltb-true}
use Rattle.std.proofs.lemmas.Bool.Decides.{nat_tests}
use Rattle.std.proofs.lemmas.List.Elements.{All-nil, All-cons}
use Rattle.std.proofs.lemmas.List.Folds.{list_all-append}
use Rattle.std.proofs.lemmas.List.Splits.{slice_split_at, slice_split_none}
use Rattle.std.proofs.lemmas.Str.Parse.{IsNumeralModel, numerals_by_fold}
use Rattle.std.proofs.lemmas.Fmt.{digits_decimal, decimal_nonempty, first_decimal, decimal_digit}
use Rattle.std.specs.Prelude.{fold}
use Rattle.lvdc_text.specs.Lines.{is_blank, has_bytes, token_texts_of}
use Rattle.lvdc_text.specs.Numbers.{is_digit, value_of, is_plain, octal_text, plain_number_of, number_of}
use Rattle.lvdc_text.proofs.Digits.{octal_text-zero, octal_text-suc}
use Rattle.lvdc_text.proofs.ReadBack.{length-octal_text, number_of-decimal}
use Rattle.lvdc_save.proofs.Below.{both}

-- ---- words

-- neither a blank nor a control byte
abbrev pub is_visible : ℕ → Bool
is_visible b = nat_lt 32 b

-- the text is one word
pub record IsWord (text : List ℕ) : Type 0 where
  pub some : 0 < length text
  pub visible : list_all is_visible text ≡ true

-- each text is one word
abbrev pub AreWords : List (List ℕ) → Type 0
AreWords [] = Unit {0}
AreWords (word ∷ words) = IsWord word × AreWords words

-- the words, each after a blank
abbrev pub after_blanks : List (List ℕ) → List ℕ
after_blanks [] = []
after_blanks (word ∷ words) = 32 ∷ (word ++ after_blanks words)

-- one word more
abbrev pub with_word : List ℕ → List ℕ → List ℕ
with_word text word = text ++ (32 ∷ word)

blanks-append : (front back : List (List ℕ)) → after_blanks (front ++ back) ≡ after_blanks front ++ after_blanks back
blanks-append [] back = refl
blanks-append (word ∷ words) back =
    ap (λ (rest : List ℕ). 32 ∷ (word ++ rest)) (blanks-append words back)
    ∙ sym (append_assoc (32 ∷ word) (after_blanks words) (after_blanks back))

-- word by word
pub one_by_one : (text : List ℕ) (words : List (List ℕ)) → fold with_word text words ≡ text ++ after_blanks words
one_by_one text [] = sym (append-nil text)
one_by_one text (word ∷ words) = one_by_one (with_word text word) words ∙ append_assoc text (32 ∷ word) (after_blanks words)

-- word by word, and then a group of them
pub and_group : (text : List ℕ) (before group : List (List ℕ))
    → fold with_word text before ++ after_blanks group ≡ text ++ after_blanks (before ++ group)
and_group text before group =
    ap (λ (front : List ℕ). front ++ after_blanks group) (one_by_one text before)
    ∙ append_assoc text (after_blanks before) (after_blanks group)
    ∙ ap (λ (back : List ℕ). text ++ back) (sym (blanks-append before group))

-- word by word, but for a group of them in the midst
pub with_group : (text : List ℕ) (before group after : List (List ℕ)) →
    fold with_word (fold with_word text before ++ after_blanks group) after ≡ text ++ after_blanks (before ++ group ++ after)
with_group text before group after =
    one_by_one (fold with_word text before ++ after_blanks group) after
    ∙ ap (λ (front : List ℕ). front ++ after_blanks after) (and_group text before group)
    ∙ append_assoc text (after_blanks (before ++ group)) (after_blanks after)
    ∙ ap (λ (back : List ℕ). text ++ back) (sym (blanks-append (before ++ group) after))

visible-no_blank : (b : ℕ) → is_visible b ≡ true → is_blank b ≡ false
visible-no_blank b e = let high : 32 < b = ltb-true 32 b e in grind (arith, nat_tests)

no_blank : (word : List ℕ) → list_all is_visible word ≡ true → All (λ (b : ℕ). is_blank b ≡ false) word
no_blank [] e = All-nil (λ (b : ℕ). is_blank b ≡ false)
no_blank (b ∷ bs) e =
    let tests = both (is_visible b) (list_all is_visible bs) e in
    All-cons (λ (b : ℕ). is_blank b ≡ false) b bs (visible-no_blank b tests.0) (no_blank bs tests.1)

pieces_of : (word : List ℕ) (words : List (List ℕ)) → IsWord word → AreWords words
    → slice_split is_blank (word ++ after_blanks words) ≡ word ∷ words
pieces_of word [] one more = ap (slice_split is_blank) (append-nil word) ∙ slice_split_none is_blank word (no_blank word one.visible)
pieces_of word (next ∷ words) one more =
    slice_split_at is_blank word 32 (next ++ after_blanks words) (no_blank word one.visible) refl
    ∙ ap (λ (pieces : List (List ℕ)). word ∷ pieces) (pieces_of next words more.0 more.1)

kept : (words : List (List ℕ)) → AreWords words → filter has_bytes words ≡ words
kept [] all = refl
kept ([] ∷ words) all = absurd (let some = all.0.some in omega (arith, some))
kept ((b ∷ bs) ∷ words) all =
    let some : (length (b ∷ bs) == 0) ≡ false = grind (arith, nat_tests) in
    rw (some, kept words all.1) refl

-- the words of a text are those that it was made of
pub words_back : (word : List ℕ) (words : List (List ℕ)) → IsWord word → AreWords words
    → token_texts_of (word ++ after_blanks words) ≡ word ∷ words
words_back word words one more = ap (filter has_bytes) (pieces_of word words one more) ∙ kept (word ∷ words) (one, more)

-- ---- bytes of a line

-- no control byte, such as LF or CR
abbrev pub is_printing : ℕ → Bool
is_printing b = nat_le 32 b

visible-printing : (b : ℕ) → is_visible b ≡ true → is_printing b ≡ true
visible-printing b e = let high : 32 < b = ltb-true 32 b e in grind (arith, nat_tests)

word-printing : (word : List ℕ) → list_all is_visible word ≡ true → list_all is_printing word ≡ true
word-printing [] e = refl
word-printing (b ∷ bs) e =
    let tests = both (is_visible b) (list_all is_visible bs) e in
    rw (visible-printing b tests.0, word-printing bs tests.1) refl

-- a text of words has no control byte
pub words-printing : (word : List ℕ) (words : List (List ℕ)) → IsWord word → AreWords words
    → list_all is_printing (word ++ after_blanks words) ≡ true
words-printing word [] one more = ap (list_all is_printing) (append-nil word) ∙ word-printing word one.visible
words-printing word (next ∷ words) one more =
    list_all-append is_printing word (32 ∷ (next ++ after_blanks words))
    ∙ rw (word-printing word one.visible, words-printing next words more.0 more.1) refl

-- ---- numbers

digit-visible : (base b : ℕ) → is_digit base b ≡ true → is_visible b ≡ true
digit-visible base b e =
    let low : 48 ≤ b = leb-true 48 b (both (leb 48 b) (ltb b (48 + base)) e).0 in grind (arith, nat_tests)

digits-visible : (base : ℕ) (digits : List ℕ) → list_all (is_digit base) digits ≡ true → list_all is_visible digits ≡ true
digits-visible base [] e = refl
digits-visible base (d ∷ ds) e =
    let tests = both (is_digit base d) (list_all (is_digit base) ds) e in
    rw (digit-visible base d tests.0, digits-visible base ds tests.1) refl

octal-visible : (width n : ℕ) → list_all is_visible (octal_text width n) ≡ true
octal-visible zero n = ap (list_all is_visible) (octal_text-zero n)
octal-visible (suc width) n =
    let here : is_visible (48 + n % 8) ≡ true = grind (arith, nat_tests) in
    ap (list_all is_visible) (octal_text-suc width n) ∙ list_all-append is_visible (octal_text width (n / 8)) ((48 + n % 8) ∷ [])
    ∙ rw (octal-visible width (n / 8), here) refl

-- a number in octal digits is a word
pub octal-word : (width n : ℕ) → 0 < width → IsWord (octal_text width n)
octal-word width n some = record { some = omega (arith, some, length-octal_text width n); visible = octal-visible width n }

decimal_digits : IsNumeralModel (λ text. list_all (is_digit 10) text ≡ true) (value_of 10)
decimal_digits = numerals_by_fold _ (search rules) (fold (λ value b. 10 * value + (b - 48))) (search rules)

-- and so is a number in decimal digits
pub decimal-word : (n : ℕ) → n < 10 ^ 7 → IsWord (decimal n)
decimal-word n low =
    let wide : n < 2 ^ 64 = omega (arith, low) in
    record { some = decimal_nonempty n wide; visible = digits-visible 10 (decimal n) (digits_decimal decimal_digits n wide) }

plain-first : (digits : List ℕ) → 48 < get_or digits 0 0 → is_plain digits ≡ true
plain-first [] high = refl
plain-first (d ∷ []) high = refl
plain-first (d ∷ e ∷ ds) high = let other : (d == 48) ≡ false = grind (arith, nat_tests) in rw other refl

decimal-plain : (n : ℕ) → n < 2 ^ 64 → is_plain (decimal n) ≡ true
decimal-plain zero low = ap is_plain (decimal_digit 0 (omega arith))
decimal-plain (suc n) low = plain-first (decimal (suc n)) (first_decimal (suc n) (omega arith) low)

-- a number in decimal digits has no needless zero
pub plain_number-decimal : (n : ℕ) → n < 10 ^ 7 → plain_number_of 7 (decimal n) ≡ Some n
plain_number-decimal n low =
    let wide : n < 2 ^ 64 = omega (arith, low) in
    ap (λ (plain : Bool). if plain then number_of 10 7 (decimal n) else None) (decimal-plain n wide)
    ∙ number_of-decimal 7 n (omega arith) low wide
