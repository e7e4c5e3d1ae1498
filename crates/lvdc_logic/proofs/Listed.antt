-- Items of lists that stand one after another.
use Rattle.std.proofs.Common.{◌≡◌, ℕ, zero, suc, ◌+◌, ◌≤◌, List, [], ◌∷◌, ◌++◌, All, length, refl, sym, ap, ◌∙◌, arith, length-append, append_assoc}
use Rattle.std.specs.Prelude.{slice_index, slice_index_or}
use Rattle.std.proofs.lemmas.List.{append-nil}
use Rattle.std.proofs.lemmas.List.Elements.{All-nil, All-append}
use Rattle.lvdc_vote.specs.Copies.{Copies, settled, IsSized, IsFresh}
use Rattle.lvdc_model.specs.Listing.{items_at, three_at, copies_from, counts_from}

-- ---- items

-- items after the first are items of the rest
items-rest : (x : ℕ) (xs : List ℕ) (from n : ℕ) → items_at (x ∷ xs) (suc from) n ≡ items_at xs from n
items-rest x xs from zero = refl
items-rest x xs from (suc n) = ap (λ ys. slice_index xs from ∷ ys) (items-rest x xs (suc from) n)

-- those that stand first
items-first : (xs after : List ℕ) (n : ℕ) → length xs ≡ n → items_at (xs ++ after) 0 n ≡ xs
items-first [] after zero e = refl
items-first [] after (suc n) e = absurd (omega (arith, e))
items-first (x ∷ xs) after zero e = absurd (omega (arith, e))
items-first (x ∷ xs) after (suc n) e = ap (λ ys. x ∷ ys) (items-rest x (xs ++ after) 0 n ∙ items-first xs after n (omega (arith, e)))

-- those that stand after others
items-own : (before xs after : List ℕ) (from n : ℕ) → length before ≡ from → length xs ≡ n → items_at (before ++ (xs ++ after)) from n ≡ xs
items-own [] xs after zero n e size = items-first xs after n size
items-own [] xs after (suc from) n e size = absurd (omega (arith, e))
items-own (x ∷ before) xs after zero n e size = absurd (omega (arith, e))
items-own (x ∷ before) xs after (suc from) n e size =
    items-rest x (before ++ (xs ++ after)) from n ∙ items-own before xs after from n (omega (arith, e)) size

-- ---- copies

-- the latches of copies, one after another
abbrev pub words_of : List Copies → List ℕ
words_of [] = []
words_of (t ∷ ts) = (t.one ++ t.two ++ t.three) ++ words_of ts

-- each module has its latches, and no copy has latched
pub data AreSized : List ℕ → List Copies → Type 0 where
  NoneSized : AreSized [] []
  MoreSized : {n : ℕ} {sizes : List ℕ} {t : Copies} {ts : List Copies} → IsSized n t → IsFresh t → AreSized sizes ts → AreSized (n ∷ sizes) (t ∷ ts)

-- fresh copies are those settled
settled-is : (t : Copies) (one two three : List ℕ) → IsFresh t → one ≡ t.one → two ≡ t.two → three ≡ t.three → settled one two three ≡ t
settled-is t one two three fresh p q r = λ i.
    record { one = p i; two = q i; three = r i; shadow_one = sym fresh.one i; shadow_two = sym fresh.two i; shadow_three = sym fresh.three i }

-- the copies of a module stand where its latches begin
three-own : (before after : List ℕ) (t : Copies) (from n : ℕ) → length before ≡ from → IsSized n t → IsFresh t
    → three_at (before ++ ((t.one ++ t.two ++ t.three) ++ after)) from n ≡ t
three-own before after t from n e size fresh =
    settled-is t _ _ _ fresh
    (ap (λ ws. items_at (before ++ ws) from n) first ∙ items-own before t.one (t.two ++ (t.three ++ after)) from n e size.one)
    (ap (λ ws. items_at ws (from + n) n) second ∙ items-own (before ++ t.one) t.two (t.three ++ after) (from + n) n (omega (arith, length-append before t.one, e, size.one)) size.two)
    (ap (λ ws. items_at ws (from + n + n) n) third
    ∙ items-own ((before ++ t.one) ++ t.two) t.three after (from + n + n) n
    (omega (arith, length-append (before ++ t.one) t.two, length-append before t.one, e, size.one, size.two)) size.three)
  where
    first : (t.one ++ t.two ++ t.three) ++ after ≡ t.one ++ (t.two ++ (t.three ++ after))
    first = append_assoc (t.one ++ t.two) t.three after ∙ append_assoc t.one t.two (t.three ++ after)

    second : before ++ ((t.one ++ t.two ++ t.three) ++ after) ≡ (before ++ t.one) ++ (t.two ++ (t.three ++ after))
    second = ap (λ ws. before ++ ws) first ∙ sym (append_assoc before t.one (t.two ++ (t.three ++ after)))

    third : before ++ ((t.one ++ t.two ++ t.three) ++ after) ≡ ((before ++ t.one) ++ t.two) ++ (t.three ++ after)
    third = second ∙ sym (append_assoc (before ++ t.one) t.two (t.three ++ after))

-- three copies have three times the latches
length-three : (n : ℕ) (t : Copies) → IsSized n t → length (t.one ++ t.two ++ t.three) ≡ n + n + n
length-three n t size =
    omega (arith, length-append (t.one ++ t.two) t.three, length-append t.one t.two, size.one, size.two, size.three)

-- copies are those of their latches
pub copies-back : (sizes : List ℕ) (ts : List Copies) (before : List ℕ) (from : ℕ) → AreSized sizes ts → length before ≡ from
    → copies_from (before ++ words_of ts) from sizes ≡ ts
copies-back _ _ before from NoneSized e = refl
copies-back _ _ before from (MoreSized {n} {sizes} {t} {ts} size fresh rest) e =
    λ i. three-own before (words_of ts) t from n e size fresh i ∷ (ap (λ ws. copies_from ws (from + n + n + n) sizes) (sym (append_assoc before (t.one ++ t.two ++ t.three) (words_of ts)))
    ∙ copies-back sizes ts (before ++ (t.one ++ t.two ++ t.three)) (from + n + n + n) rest
    (omega (arith, length-append before (t.one ++ t.two ++ t.three), length-three n t size, e))) i

-- seven lists, appended one after another
pub seven-appended : (a b c d e f g : List ℕ) → (((((a ++ b) ++ c) ++ d) ++ e) ++ f) ++ g ≡ a ++ (b ++ (c ++ (d ++ (e ++ (f ++ (g ++ []))))))
seven-appended a b c d e f g =
    append_assoc ((((a ++ b) ++ c) ++ d) ++ e) f g
    ∙ append_assoc (((a ++ b) ++ c) ++ d) e (f ++ g)
    ∙ append_assoc ((a ++ b) ++ c) d (e ++ (f ++ g))
    ∙ append_assoc (a ++ b) c (d ++ (e ++ (f ++ g)))
    ∙ append_assoc a b (c ++ (d ++ (e ++ (f ++ g))))
    ∙ ap (λ ws. a ++ (b ++ (c ++ (d ++ (e ++ (f ++ ws)))))) (sym (append-nil g))

-- ---- counts

-- counts of modules, one after another
abbrev pub all_counts : List (List ℕ) → List ℕ
all_counts [] = []
all_counts (three ∷ rest) = three ++ all_counts rest

-- three counts each
pub data AreThrees : ℕ → List (List ℕ) → Type 0 where
  NoneCounted : AreThrees zero []
  MoreCounted : {n : ℕ} {three : List ℕ} {rest : List (List ℕ)} → length three ≡ 3 → AreThrees n rest → AreThrees (suc n) (three ∷ rest)

-- counts are those of their list
pub counts-back : (n : ℕ) (counts : List (List ℕ)) (before : List ℕ) (from : ℕ) → AreThrees n counts → length before ≡ from
    → counts_from (before ++ all_counts counts) from n ≡ counts
counts-back _ _ before from NoneCounted e = refl
counts-back _ _ before from (MoreCounted {n} {three} {rest} size more) e =
    λ i. items-own before three (all_counts rest) from 3 e size i ∷ (ap (λ ws. counts_from ws (from + 3) n) (sym (append_assoc before three (all_counts rest)))
    ∙ counts-back n rest (before ++ three) (from + 3) more (omega (arith, length-append before three, e, size))) i

-- no item is above the most
items-most : (most : ℕ) (counts : List ℕ) → ((k : ℕ) → slice_index counts k ≤ most) → (from n c : ℕ) → slice_index (items_at counts from n) c ≤ most
items-most most counts h from zero c = omega arith
items-most most counts h from (suc n) zero = h from
items-most most counts h from (suc n) (suc c) = items-most most counts h (suc from) n c

-- no count that is read back is above the most
pub counts-most : (most : ℕ) (counts : List ℕ) → ((k : ℕ) → slice_index counts k ≤ most) → (from n i c : ℕ)
    → slice_index (slice_index_or (counts_from counts from n) i []) c ≤ most
counts-most most counts h from zero i c = omega arith
counts-most most counts h from (suc n) zero c = items-most most counts h from 3 c
counts-most most counts h from (suc n) (suc i) c = counts-most most counts h (from + 3) n i c

-- the most of all is that of each
pub each-most : (most : ℕ) (counts : List ℕ) → All (λ n. n ≤ most) counts → (k : ℕ) → slice_index counts k ≤ most
each-most most [] h k = omega arith
each-most most (n ∷ counts) h zero = h 0 n (omega arith)
each-most most (n ∷ counts) h (suc k) = each-most most counts (λ j d less. h (suc j) d (omega (arith, less))) k

-- and the other way
pub all-most : (most : ℕ) (counts : List ℕ) → ((k : ℕ) → slice_index counts k ≤ most) → All (λ n. n ≤ most) counts
all-most most [] h k d less = absurd (omega (arith, less))
all-most most (n ∷ counts) h zero d less = h 0
all-most most (n ∷ counts) h (suc k) d less = all-most most counts (λ j. h (suc j)) k d (omega (arith, less))

-- no count of all is above the most
pub listed-most : (most : ℕ) (counts : List (List ℕ)) → ((i k : ℕ) → slice_index (slice_index_or counts i []) k ≤ most) → All (λ n. n ≤ most) (all_counts counts)
listed-most most [] h = All-nil (λ n. n ≤ most)
listed-most most (three ∷ rest) h =
    All-append (λ n. n ≤ most) three (all_counts rest) (all-most most three (h 0)) (listed-most most rest (λ i. h (suc i)))
