-- The least number that passes a test.
use Rattle.std.proofs.Common.{◌≡◌, ℕ, zero, suc, ◌+◌, ◌-◌, ◌<◌, ◌≤◌, Bool, true, false, Option, None, Some, refl, sym, ap, ◌∙◌, arith, inl, inr}
use Rattle.std.proofs.lemmas.Bool.{cases_Bool, cases_lt, cases_eq}
use Rattle.lvdc_place.specs.Slots.{least}

-- every number of a range fails the test
pub record NonePasses (test : ℕ → Bool) (from end : ℕ) : Type 0 where
  pub fails : (n : ℕ) → from ≤ n → n < end → test n ≡ false

-- it is found
pub least-is : (test : ℕ → Bool) (from count n : ℕ) → from ≤ n → n < from + count → test n ≡ true → NonePasses test from n → least test from count ≡ Some n
unfolding least
least-is test from zero n low high passes below = absurd (omega arith)
least-is test from (suc more) n low high passes below = elim (cases_eq from n) [
  | inl here ↦ rw (ap test here ∙ passes) (ap Some here)
  | inr later ↦ (
      let next : from < n = omega arith in
      rw (below.fails from (omega arith) next)
      (least-is test (from + 1) more n (omega arith) (omega arith) passes (record { fails = λ m a b. below.fails m (omega arith) b }))
      )
]

-- there is none
pub least-none : (test : ℕ → Bool) (from count : ℕ) → NonePasses test from (from + count) → least test from count ≡ None
unfolding least
least-none test from zero none = refl
least-none test from (suc more) none =
    rw (none.fails from (omega arith) (omega arith))
    (least-none test (from + 1) more (record { fails = λ m a b. none.fails m (omega arith) (omega arith) }))

-- what is said of the number that was found
pub record IsLeast (test : ℕ → Bool) (from end n : ℕ) : Type 0 where
  pub low : from ≤ n
  pub high : n < end
  pub passes : test n ≡ true
  pub below : NonePasses test from n

-- what is said of what was found
abbrev pub Finds : (ℕ → Bool) → ℕ → ℕ → Option ℕ → Type 0
Finds test from end None = NonePasses test from end
Finds test from end (Some n) = IsLeast test from end n

pub least-finds : (test : ℕ → Bool) (from count : ℕ) → Finds test from (from + count) (least test from count)
unfolding least
least-finds test from zero = record { fails = λ n a b. absurd (omega arith) }
least-finds test from (suc more) = elim (cases_Bool (test from)) [
  | inl here ↦ rw here (record { low = omega arith; high = omega arith; passes = here; below = record { fails = λ n a b. absurd (omega arith) } })
  | inr fails ↦ rw fails (later (least test (from + 1) more) fails (least-finds test (from + 1) more))
]
  where
    later : (found : Option ℕ) → test from ≡ false → Finds test (from + 1) (from + 1 + more) found → Finds test from (from + suc more) found
    later None fails none = record { fails = λ n a b. elim (cases_eq from n) [ inl e ↦ ap test (sym e) ∙ fails | inr d ↦ none.fails n (omega arith) (omega arith) ] }
    later (Some n) fails some = record {
      low = (let h = some.low in omega arith);
      high = (let h = some.high in omega arith);
      passes = some.passes;
      below = record { fails = λ m a b. elim (cases_eq from m) [ inl e ↦ ap test (sym e) ∙ fails | inr d ↦ some.below.fails m (omega arith) b ] };
    }

-- it is looked for from a number on below which none passes
pub least-skip : (test : ℕ → Bool) (from start count : ℕ) → from ≤ start → NonePasses test from start → least test from count ≡ least test start (from + count - start)
least-skip test from start count low below = by_found (least test start (from + count - start)) refl (least-finds test start (from + count - start))
  where
    by_found : (found : Option ℕ) → least test start (from + count - start) ≡ found → Finds test start (start + (from + count - start)) found → least test from count ≡ least test start (from + count - start)
    by_found None is none =
        least-none test from count (record { fails = λ n a b. elim (cases_lt n start) [ inl early ↦ below.fails n a early | inr late ↦ none.fails n late (omega arith) ] })
        ∙ sym is
    by_found (Some n) is some =
        let l = some.low in
        let h = some.high in
        least-is test from count n (omega arith) (omega arith) some.passes
        (record { fails = λ m a b. elim (cases_lt m start) [ inl early ↦ below.fails m a early | inr late ↦ some.below.fails m late b ] })
        ∙ sym is
