-- A list as long as a bound that names no number twice, and none from the bound on, names each number below it.
use Rattle.std.proofs.Common.{⊎_elim, ◌≡◌, ◌≢◌, ◌↔◌, ℕ, zero, suc, ◌<◌, ◌≤◌, Bool, true, false, not, ◌&&◌, List, [], ◌∷◌, length, get_or, refl, sym, ◌∙◌, arith, None}
use Rattle.std.specs.Prelude.{All, AllPairs, nat_lt, nat_eq, ◌==◌}
use Rattle.std.specs.List.{list_any, list_all}
use Rattle.std.proofs.lemmas.Bool.{cases_Bool, eq-eqb, ne_eqb}
use Rattle.std.proofs.lemmas.Bool.Decides.{nat_tests, Decides-eqb}
use Rattle.std.proofs.lemmas.List.Folds.{list_any_at, list_any_none}
use Rattle.std.proofs.lemmas.List.Sums.{AllPass-from_list_all, list_all-from_AllPass}
use Rattle.std.proofs.lemmas.List.Kept.{AllPairs-cons}
use Rattle.std.proofs.lemmas.Map.Made.{IsDistinct-from_AllPairs}
use Rattle.std.proofs.lemmas.Map.Steps.{length-le_from_distinct_below, le-length_from_below}
use Rattle.lvdc_vote.specs.Copies.{IsFullOrder}
use Rattle.lvdc_orders.specs.Orders.{names_once, is_order, order_of, plain_order}

-- `d == c` and `c == d` are the same test
list_any-sym : (c : ℕ) (cs : List ℕ) → list_any (λ d. d == c) cs ≡ list_any (nat_eq c) cs
list_any-sym c [] = refl
list_any-sym c (d ∷ ds) =
    let e : (d == c) ≡ (c == d) = grind (arith, nat_tests) in
    rw (e, list_any-sym c ds) refl

-- ---- no number twice

once_step : (c : ℕ) (cs : List ℕ) (has rest : Bool) → list_any (λ d. d == c) cs ≡ has → (not has && rest) ≡ true → All (λ d. c ≢ d) cs × (rest ≡ true)
once_step c cs true rest is both = absurd cc
once_step c cs false rest is both = (λ k d within e. let found = list_any_at (λ d. d == c) cs k d within (eq-eqb (get_or cs k d) c (sym e)) in cc, both)

pub names_once-apart : (cs : List ℕ) → names_once cs ≡ true → AllPairs (λ c d. c ≢ d) cs
names_once-apart [] once = λ i j d before within. absurd (omega arith)
names_once-apart (c ∷ cs) once =
    let step = once_step c cs (list_any (λ d. d == c) cs) (names_once cs) refl once in
    AllPairs-cons (λ c d. c ≢ d) c cs step.0 (names_once-apart cs step.1)

pub apart-names_once : (cs : List ℕ) → AllPairs (λ c d. c ≢ d) cs → names_once cs ≡ true
apart-names_once [] apart = refl
apart-names_once (c ∷ cs) apart =
    let none : list_any (λ d. d == c) cs ≡ false = list_any_none (λ d. d == c) cs (λ k d within. ne_eqb (get_or cs k d) c (λ e. apart 0 (suc k) d (omega arith) (omega arith) (sym e))) in
    rw (none, apart-names_once cs (λ i j d before within. apart (suc i) (suc j) d (omega arith) (omega arith))) refl

-- ---- none from the bound on

pub below-tested : (n : ℕ) (cs : List ℕ) → list_all (λ c. nat_lt c n) cs ≡ true → All (λ c. c < n) cs
below-tested n cs all = λ k d within.
    let here = AllPass-from_list_all (λ c. nat_lt c n) cs all k d within in grind (arith, nat_tests)

pub tested-below : (n : ℕ) (cs : List ℕ) → All (λ c. c < n) cs → list_all (λ c. nat_lt c n) cs ≡ true
tested-below n cs below = list_all-from_AllPass (λ c. nat_lt c n) cs (λ k d within. let here = below k d within in grind (arith, nat_tests))

below_member : (n : ℕ) (cs : List ℕ) → All (λ c. c < n) cs → (q : ℕ) → list_any (nat_eq q) cs ≡ true → q < n
below_member n [] below q has = absurd cc
below_member n (c ∷ cs) below q has =
    ⊎_elim
    (λ t. let here = below 0 0 (omega arith) in let e : q ≡ c = grind (arith, nat_tests) in omega arith)
    (λ f. below_member n cs (λ k d within. below (suc k) d (omega arith)) q (rw f at has))
    (cases_Bool (nat_eq q c))

-- ---- all of them

-- so many numbers below the bound are at most as many as the bound
few : (n : ℕ) (cs : List ℕ) → All (λ c. c < n) cs → AllPairs (λ c d. c ≢ d) cs → length cs ≤ n
few n cs below apart = length-le_from_distinct_below cs n (IsDistinct-from_AllPairs Decides-eqb cs apart) (below_member n cs below)

named : (n c : ℕ) (cs : List ℕ) → length cs ≡ n → c < n → All (λ c. c < n) cs → AllPairs (λ c d. c ≢ d) cs → (has : Bool) → list_any (λ d. d == c) cs ≡ has → has ≡ true
named n c cs size within below apart true is = refl
named n c cs size within below apart false is =
    let other : All (λ d. c ≢ d) cs = λ k d inside e. let found = list_any_at (λ d. d == c) cs k d inside (eq-eqb (get_or cs k d) c (sym e)) in cc in
    let more = few n (c ∷ cs) (below_more c cs within below) (AllPairs-cons (λ c d. c ≢ d) c cs other apart) in
    absurd (omega arith)
  where
    below_more : (c : ℕ) (cs : List ℕ) → c < n → All (λ c. c < n) cs → All (λ c. c < n) (c ∷ cs)
    below_more c cs here later zero d inside = here
    below_more c cs here later (suc k) d inside = later k d (omega arith)

-- such a list is a full order, and a full order is such a list
pub full_from_tests : (n : ℕ) (cs : List ℕ) → length cs ≡ n → list_all (λ c. nat_lt c n) cs ≡ true → names_once cs ≡ true → IsFullOrder n cs
full_from_tests n cs size tested once =
    let below = below-tested n cs tested in
    let apart = names_once-apart cs once in
    record {
      each_once = record { below = below; once = apart };
      all = λ c within. named n c cs size within below apart (list_any (λ d. d == c) cs) refl;
    }

pub length-full : (n : ℕ) (cs : List ℕ) → IsFullOrder n cs → length cs ≡ n
length-full n cs full =
    let most = few n cs full.each_once.below full.each_once.once in
    let least = le-length_from_below cs n (λ q within. sym (list_any-sym q cs) ∙ full.all q within) in
    omega arith

-- ---- the orders of 21 copies

pub full_from_order : (cs : List ℕ) → is_order cs ≡ true → IsFullOrder 21 cs
full_from_order cs is = by (length cs == 21) (list_all (λ c. nat_lt c 21) cs) refl refl is
  where
    by : (size below : Bool) → (length cs == 21) ≡ size → list_all (λ c. nat_lt c 21) cs ≡ below → (size && below && names_once cs) ≡ true → IsFullOrder 21 cs
    by true true size below once = let e : length cs ≡ 21 = grind (arith, nat_tests) in full_from_tests 21 cs e below once
    by true false size below once = absurd cc
    by false below size tested once = absurd cc

pub order_from_full : (cs : List ℕ) → IsFullOrder 21 cs → is_order cs ≡ true
order_from_full cs full =
    let size : (length cs == 21) ≡ true = eq-eqb (length cs) 21 (length-full 21 cs full) in
    rw (size, tested-below 21 cs full.each_once.below, apart-names_once cs full.each_once.once) refl

pub plain_is_full : IsFullOrder 21 plain_order
plain_is_full = full_from_order plain_order refl

-- what the tests tell
pub tells_full : (cs : List ℕ) (told : Bool) → told ≡ is_order cs → told ≡ true ↔ IsFullOrder 21 cs
tells_full cs told is = (λ yes. full_from_order cs (sym is ∙ yes), λ full. is ∙ order_from_full cs full)

-- more than 21 numbers are no order
pub order_of-long : (cs : List ℕ) → 21 < length cs → order_of cs ≡ None
order_of-long cs long = let size : (length cs == 21) ≡ false = grind (arith, nat_tests) in rw size refl
