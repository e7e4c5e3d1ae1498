-- From the lines of a run, in whatever order, to the steps of the run.
use Rattle.std.proofs.Common.{◌≡◌, ℕ, zero, suc, ◌*◌, ◌<◌, ◌≤◌, Bool, true, false, ◌&&◌, ◌||◌, ◌==◌, cond, List, [], ◌∷◌, All, Some, find, refl, sym, ap, ◌∙◌, arith, ⊎_elim}
use Rattle.std.specs.Prelude.{nat_lt, is_none, MatchBool}
use Rattle.std.specs.List.{list_any}
use Rattle.std.specs.List.Sorted.{IsPermutation}
use Rattle.std.proofs.lemmas.Bool.{true≢false, ltb-true, ltb-false, eqb-true, cases_eq, and_from, and_left, and_right, false_from_ne_true}
use Rattle.std.proofs.lemmas.List.Elements.{All-weaker, filter_passes}
use Rattle.std.proofs.lemmas.List.Sorted.{list_any-IsPermutation, All-permutation}
use Rattle.lvdc_fault.specs.Script.{first_of, makes_wrong, is_wrong, two_wrong, wrong_module}
use Rattle.lvdc_fault.specs.declared.event.Event.{Event}
use Rattle.lvdc_withstands.specs.Form.{lines_in, one_wrong_before}
use Rattle.lvdc_withstands.specs.Copies.{NeverTwo, HasTwo}
use Rattle.lvdc_withstands.proofs.Sweeps.{makes_wrong-begun}

-- ---- the lines of the run

wrong-in : (count step number copy : ℕ) (script : List Event) → step < 3 * count → is_wrong (lines_in count script) step number copy ≡ is_wrong script step number copy
wrong-in count step number copy [] below = refl
wrong-in count step number copy (e ∷ es) below = by_run (nat_lt (first_of e) (3 * count)) refl (wrong-in count step number copy es below)
  where
    rest : List Event
    rest = lines_in count es

    by_run : (b : Bool) → nat_lt (first_of e) (3 * count) ≡ b → is_wrong rest step number copy ≡ is_wrong es step number copy
        → is_wrong (cond b (e ∷ rest) rest) step number copy ≡ (makes_wrong step number copy e || is_wrong es step number copy)
    by_run true is more = ap (λ (b : Bool). makes_wrong step number copy e || b) more
    by_run false is more =
        let late : 3 * count ≤ first_of e = ltb-false (first_of e) (3 * count) is in
        let idle : makes_wrong step number copy e ≡ false = false_from_ne_true (makes_wrong step number copy e) (λ acts. let begun : first_of e ≤ step = makes_wrong-begun step number copy e acts in omega arith) in
        more ∙ sym (ap (λ (b : Bool). b || is_wrong es step number copy) idle)

module _ (count : ℕ) (script sorted : List Event) (moved : IsPermutation (lines_in count script) sorted) where
  wrong-sorted : (step number copy : ℕ) → step < 3 * count → is_wrong sorted step number copy ≡ is_wrong script step number copy
  wrong-sorted step number copy below = sym (list_any-IsPermutation (makes_wrong step number copy) (lines_in count script) sorted moved) ∙ wrong-in count step number copy script below

  two-sorted : (step number : ℕ) → step < 3 * count → two_wrong sorted step number ≡ two_wrong script step number
  two-sorted step number below =
      let one = wrong-sorted step number 1 below in
      let two = wrong-sorted step number 2 below in
      let three = wrong-sorted step number 3 below in
      λ i. (one i && two i) || (one i && three i) || (two i && three i)

  all-begin : All (λ e. first_of e < 3 * count) sorted
  all-begin =
      All-weaker (λ e. nat_lt (first_of e) (3 * count) ≡ true) (λ e. first_of e < 3 * count) (λ e h. ltb-true (first_of e) (3 * count) h) sorted
      (All-permutation (λ e. nat_lt (first_of e) (3 * count) ≡ true) (lines_in count script) sorted moved (filter_passes (λ e. nat_lt (first_of e) (3 * count)) script))

  -- ---- the seven modules

  none_of_seven : (p : ℕ → Bool) → ((m : ℕ) → 1 ≤ m → m ≤ 7 → p m ≡ false) → is_none (find p (1 ∷ 2 ∷ 3 ∷ 4 ∷ 5 ∷ 6 ∷ 7 ∷ [])) ≡ true
  none_of_seven p h =
      rw (h 1 (omega arith) (omega arith), h 2 (omega arith) (omega arith), h 3 (omega arith) (omega arith), h 4 (omega arith) (omega arith), h 5 (omega arith) (omega arith), h 6 (omega arith) (omega arith), h 7 (omega arith) (omega arith)) refl

  found : (p : ℕ → Bool) (ms : List ℕ) (m : ℕ) → list_any (λ x. x == m) ms ≡ true → p m ≡ true → is_none (find p ms) ≡ false
  found p [] m h hit = absurd (true≢false (sym h))
  found p (x ∷ xs) m h hit = by_test (p x) refl (found p xs m) (x == m) refl h
    where
      by_test : (b : Bool) → p x ≡ b → (list_any (λ x. x == m) xs ≡ true → p m ≡ true → is_none (find p xs) ≡ false)
          → (c : Bool) → (x == m) ≡ c → (c || list_any (λ x. x == m) xs) ≡ true → is_none (cond b (Some x) (find p xs)) ≡ false
      by_test true is more c same k = refl
      by_test false is more true same k = absurd (true≢false (sym hit ∙ sym (ap p (eqb-true x m same)) ∙ is))
      by_test false is more false same k = more k hit

  one_of_seven : (m : ℕ) → 1 ≤ m → m ≤ 7 → list_any (λ x. x == m) (1 ∷ 2 ∷ 3 ∷ 4 ∷ 5 ∷ 6 ∷ 7 ∷ []) ≡ true
  one_of_seven zero low high = absurd (omega arith)
  one_of_seven (suc zero) low high = refl
  one_of_seven (suc (suc zero)) low high = refl
  one_of_seven (suc (suc (suc zero))) low high = refl
  one_of_seven (suc (suc (suc (suc zero)))) low high = refl
  one_of_seven (suc (suc (suc (suc (suc zero))))) low high = refl
  one_of_seven (suc (suc (suc (suc (suc (suc zero)))))) low high = refl
  one_of_seven (suc (suc (suc (suc (suc (suc (suc zero))))))) low high = refl
  one_of_seven (suc (suc (suc (suc (suc (suc (suc (suc m)))))))) low high = absurd (omega arith)

  -- ---- all steps

  never_before : NeverTwo sorted → (n : ℕ) → n ≤ 3 * count → one_wrong_before script n ≡ true
  never_before never zero le = refl
  never_before never (suc n) le =
      and_from (one_wrong_before script n) (is_none (wrong_module script n)) (never_before never n (omega arith))
      (none_of_seven (two_wrong script n) (λ m low high. sym (two-sorted n m (omega arith)) ∙ never m low high n))

  pub never : NeverTwo sorted → one_wrong_before script (3 * count) ≡ true
  never h = never_before h (3 * count) (omega arith)

  found_before : (has : HasTwo sorted) → has.two.step < 3 * count → (n : ℕ) → has.two.step < n → one_wrong_before script n ≡ false
  found_before has below zero lt = absurd (omega arith)
  found_before has below (suc n) lt =
      ⊎_elim
      (λ here. and_right (one_wrong_before script n) (is_none (wrong_module script n))
      (found (two_wrong script n) (1 ∷ 2 ∷ 3 ∷ 4 ∷ 5 ∷ 6 ∷ 7 ∷ []) has.number (one_of_seven has.number has.low has.high)
      (ap (λ (k : ℕ). two_wrong script k has.number) (sym here) ∙ sym (two-sorted has.two.step has.number below) ∙ has.two.two)))
      (λ other. and_left (one_wrong_before script n) (is_none (wrong_module script n)) (found_before has below n (omega arith))) (cases_eq has.two.step n)

  pub has-two : HasTwo sorted → one_wrong_before script (3 * count) ≡ false
  has-two has = let below : has.two.step < 3 * count = has.two.before (3 * count) all-begin in found_before has below (3 * count) below

  -- by what is told of the sorted lines
  pub decided : (b : Bool) → MatchBool b (NeverTwo sorted) (HasTwo sorted) → b ≡ one_wrong_before script (3 * count)
  decided true h = sym (never h)
  decided false h = sym (has-two h)
