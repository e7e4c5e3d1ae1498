-- A list whose items have rising keys is what a test leaves of the items of all numbers.
use Rattle.std.proofs.Common.{◌≡◌, ◌≢◌, ℕ, zero, suc, ◌+◌, ◌<◌, ◌≤◌, Bool, true, false, cond, List, [], ◌∷◌, All, map, refl, sym, ap, subst, ◌∙◌, arith}
use Rattle.std.specs.Prelude.{◌==◌}
use Rattle.std.specs.List.{filter, range_with_len}
use Rattle.std.proofs.lemmas.Bool.{eqb-true, eqb-false}
use Rattle.std.proofs.lemmas.List.Elements.{All-nil, All-cons, All-tail}

module _ {X : Type 0} (key : X → ℕ) where
  -- the keys rise from a number on
  abbrev pub Rises : ℕ → List X → Type 0
  Rises least [] = Unit {0}
  Rises least (x ∷ xs) = (least ≤ key x) × Rises (suc (key x)) xs

  -- none of them is a number before
  pub none_before : (m least : ℕ) (xs : List X) → m < least → Rises least xs → All (λ x. key x ≢ m) xs
  none_before m least [] less rises = All-nil (λ x. key x ≢ m)
  none_before m least (x ∷ xs) less rises =
      let from : least ≤ key x = rises.0 in
      All-cons (λ x. key x ≢ m) x xs (λ (same : key x ≡ m). absurd (omega (arith, less, from, same)))
      (none_before m (suc (key x)) xs (omega (arith, less, from)) rises.1)

  module _ (item : ℕ → X) (test : X → Bool) where
    -- what is left from a number on
    abbrev left : ℕ → ℕ → List X
    left first n = filter test (map item (range_with_len first n))

    -- the number passes, or it doesn't
    taken : (first n : ℕ) (x : X) → item first ≡ x → test x ≡ true → left first (suc n) ≡ x ∷ left (first + 1) n
    taken first n x is passes =
        ap (λ (y : X). cond (test y) (y ∷ left (first + 1) n) (left (first + 1) n)) is
        ∙ ap (λ (b : Bool). cond b (x ∷ left (first + 1) n) (left (first + 1) n)) passes

    passed_over : (first n : ℕ) → test (item first) ≡ false → left first (suc n) ≡ left (first + 1) n
    passed_over first n fails = ap (λ (b : Bool). cond b (item first ∷ left (first + 1) n) (left (first + 1) n)) fails

    -- each item of the list is that of its key and passes, and the item of no other number does
    pub gathered : (n first : ℕ) (xs : List X) → Rises first xs → All (λ x. key x < first + n) xs → All (λ x. item (key x) ≡ x) xs
        → All (λ x. test x ≡ true) xs → ((m : ℕ) → m < first + n → All (λ x. key x ≢ m) xs → first ≤ m → test (item m) ≡ false)
        → left first n ≡ xs
    gathered zero first [] rises below own passes others = refl
    gathered zero first (x ∷ xs) rises below own passes others =
        let less : key x < first + 0 = below 0 x (omega arith) in
        let from : first ≤ key x = rises.0 in
        absurd (omega (arith, less, from))
    gathered (suc n) first [] rises below own passes others =
        passed_over first n (others first (omega arith) (All-nil (λ x. key x ≢ first)) (omega arith))
        ∙ gathered n (first + 1) [] tt (All-nil (λ x. key x < first + 1 + n)) own passes
        (λ m less none from. others m (omega (arith, less)) none (omega (arith, from)))
    gathered (suc n) first (x ∷ xs) rises below own passes others =
        by_key (λ ys rest less is goes other. gathered n (first + 1) ys rest less is goes other) (key x == first) refl
      where
        below_all : All (λ y. key y < first + 1 + n) (x ∷ xs)
        below_all = λ k d l. let less = below k d l in omega (arith, less)

        by_key : ((ys : List X) → Rises (first + 1) ys → All (λ y. key y < first + 1 + n) ys → All (λ y. item (key y) ≡ y) ys
            → All (λ y. test y ≡ true) ys → ((m : ℕ) → m < first + 1 + n → All (λ y. key y ≢ m) ys → first + 1 ≤ m → test (item m) ≡ false)
            → left (first + 1) n ≡ ys)
            → (b : Bool) → (key x == first) ≡ b → left first (suc n) ≡ x ∷ xs
        by_key rest true e =
            let same : key x ≡ first = eqb-true (key x) first e in
            let next : suc (key x) ≡ first + 1 = omega (arith, same) in
            taken first n x (ap item (sym same) ∙ own 0 x (omega arith)) (passes 0 x (omega arith))
            ∙ ap (λ (ys : List X). x ∷ ys)
            (rest xs (subst (λ (k : ℕ). Rises k xs) next rises.1) (All-tail (λ y. key y < first + 1 + n) x xs below_all)
            (All-tail (λ y. item (key y) ≡ y) x xs own) (All-tail (λ y. test y ≡ true) x xs passes)
            (λ m less none from. others m (omega (arith, less))
            (All-cons (λ y. key y ≢ m) x xs (λ (is : key x ≡ m). absurd (omega (arith, is, same, from))) none) (omega (arith, from))))
        by_key rest false e =
            let other : key x ≢ first = eqb-false (key x) first e in
            let from : first ≤ key x = rises.0 in
            let later : first + 1 ≤ key x = above (key x) first other from in
            let rises_later : Rises (first + 1) (x ∷ xs) = (later, rises.1) in
            passed_over first n (others first (omega arith) (none_before first (first + 1) (x ∷ xs) (omega arith) rises_later) (omega arith))
            ∙ rest (x ∷ xs) rises_later below_all own passes (λ m less none from. others m (omega (arith, less)) none (omega (arith, from)))
          where
            above : (a b : ℕ) → a ≢ b → b ≤ a → b + 1 ≤ a
            above a b differ most = grind (arith, differ, most)
