-- Which module has two wrong copies.
use Rattle.std.proofs.Common.{◌≡◌, ℕ, zero, suc, ◌+◌, ◌<◌, ◌≤◌, Bool, true, false, cond, List, [], ◌∷◌, Option, Some, None, IsNone, find, refl, sym, ap, ◌∙◌, subst, arith, ⊎_elim, true≢false, ◌↔◌}
use Rattle.std.proofs.lemmas.Bool.{cases_eq}

-- n numbers from k on
abbrev pub numbers : ℕ → ℕ → List ℕ
numbers k zero = []
numbers k (suc n) = k ∷ numbers (suc k) n

-- the first number that passes the test is found
pub first_found : (p : ℕ → Bool) (k n m : ℕ) → k ≤ m → m < k + n → ((j : ℕ) → k ≤ j → j < m → p j ≡ false) → p m ≡ true → find p (numbers k n) ≡ Some m
first_found p k zero m low high before here = absurd (omega arith)
first_found p k (suc n) m low high before here =
    ⊎_elim (λ e. ap (λ b. cond b (Some k) (find p (numbers (suc k) n))) (ap p (sym e) ∙ here) ∙ ap Some (sym e))
    (λ other. ap (λ b. cond b (Some k) (find p (numbers (suc k) n))) (before k (omega arith) (omega arith))
    ∙ first_found p (suc k) n m (omega arith) (omega arith) (λ j low high. before j (omega arith) high) here)
    (cases_eq m k)

-- where none passes it, none is found
pub none_found : (p : ℕ → Bool) (k n : ℕ) → ((j : ℕ) → k ≤ j → j < k + n → p j ≡ false) → find p (numbers k n) ≡ None
none_found p k zero h = refl
none_found p k (suc n) h =
    ap (λ b. cond b (Some k) (find p (numbers (suc k) n))) (h k (omega arith) (omega arith)) ∙ none_found p (suc k) n (λ j low high. h j (omega arith) (omega arith))

-- where none is found, none passes it
head_fails : (b : Bool) (k : ℕ) (o : Option ℕ) → IsNone (cond b (Some k) o) → (b ≡ false) × IsNone o
head_fails false k o h = (refl, h)
head_fails true k o h = absurd (true≢false h)

none_pass : (p : ℕ → Bool) (k n : ℕ) → IsNone (find p (numbers k n)) → (m : ℕ) → k ≤ m → m < k + n → p m ≡ false
none_pass p k zero h m low high = absurd (omega arith)
none_pass p k (suc n) h m low high =
    let both = head_fails (p k) k (find p (numbers (suc k) n)) h in
    ⊎_elim (λ e. ap p e ∙ both.0) (λ other. none_pass p (suc k) n both.1 m (omega arith) (omega arith)) (cases_eq m k)

-- of the numbers from 1 to 7 none is found exactly where none passes
pub none_of_seven : (p : ℕ → Bool) (o : Option ℕ) → o ≡ find p (numbers 1 7) → IsNone o ↔ ((m : ℕ) → 1 ≤ m → m ≤ 7 → p m ≡ false)
none_of_seven p o e = (
  λ h m low high. none_pass p 1 7 (subst IsNone e h) m low (omega arith),
  λ h. subst IsNone (sym (e ∙ none_found p 1 7 (λ j low high. h j low (omega arith)))) refl,
)

-- one number more fails
pub fails_next : (p : ℕ → Bool) (k i : ℕ) → ((j : ℕ) → k ≤ j → j < i → p j ≡ false) → p i ≡ false → (j : ℕ) → k ≤ j → j < i + 1 → p j ≡ false
fails_next p k i before here j low high = ⊎_elim (λ e. ap p e ∙ here) (λ other. before j low (omega arith)) (cases_eq j i)

-- where two tests agree on the numbers from 1 to 7, they find the same
pub find_same : (p q : ℕ → Bool) → ((m : ℕ) → 1 ≤ m → m ≤ 7 → q m ≡ p m) → find p (numbers 1 7) ≡ find q (numbers 1 7)
find_same p q same =
    rw (
      same 1 (omega arith) (omega arith),
      same 2 (omega arith) (omega arith),
      same 3 (omega arith) (omega arith),
      same 4 (omega arith) (omega arith),
      same 5 (omega arith) (omega arith),
      same 6 (omega arith) (omega arith),
      same 7 (omega arith) (omega arith),
    ) refl
