-- Copies that latch one after another: the shadow of each, whatever the order.
use Rattle.std.proofs.Common.{◌≡◌, ◌≢◌, ℕ, ◌+◌, ◌<◌, List, length, take, get_or, refl, sym, ◌∙◌, ap, arith, Bool, true, false, ◌||◌, cond, Some, Option}
use Rattle.std.specs.Prelude.{◌==◌, AllPairs}
use Rattle.std.specs.List.{list_any}
use Rattle.std.proofs.lemmas.List.Folds.{list_any_more, list_any_none}
use Rattle.std.proofs.lemmas.List.{get_or-take, length-take, get_or_default}
use Rattle.std.proofs.lemmas.Bool.{ne_eqb, eq-eqb}
use Rattle.lvdc_vote.specs.Copies.{latched_in}

-- a copy that comes at i in an order doesn't come before
pub not_yet : (order : List ℕ) (i copy : ℕ) → AllPairs (λ c d. c ≢ d) order → i < length order → get_or order i 0 ≡ copy → list_any (λ c. c == copy) (take i order) ≡ false
not_yet order i copy once within at =
    list_any_none (λ c. c == copy) (take i order)
    (λ k d h.
    let lt : k < i = omega (arith, length-take i order, h) in
    let lk : k < length order = omega arith in
    rw (get_or-take i order k d lt)
    (ne_eqb (get_or order k d) copy
    (λ e. once k i 0 lt within (get_or_default order k 0 d lk ∙ e ∙ sym at))))

-- a choice between two tests
either : (a b : Bool) (x y : Option (List ℕ)) → cond (a || b) x y ≡ cond b x (cond a x y)
either true true x y = refl
either true false x y = refl
either false true x y = refl
either false false x y = refl

-- one more of the list: a copy of that number has latched, and any other has latched what it had
pub latched_same : (order : List ℕ) (i n : ℕ) (words : List ℕ) (had : Option (List ℕ)) → i < length order → get_or order i 0 ≡ n → latched_in (take (i + 1) order) n words had ≡ Some words
latched_same order i n words had within at =
    rw (list_any_more (λ c. c == n) order i 0 within)
    (either (list_any (λ c. c == n) (take i order)) (get_or order i 0 == n) (Some words) had
    ∙ ap (λ (b : Bool). cond b (Some words) (latched_in (take i order) n words had)) (eq-eqb (get_or order i 0) n at))

pub latched_other : (order : List ℕ) (i n : ℕ) (words : List ℕ) (had : Option (List ℕ)) → i < length order → get_or order i 0 ≢ n → latched_in (take (i + 1) order) n words had ≡ latched_in (take i order) n words had
latched_other order i n words had within at =
    rw (list_any_more (λ c. c == n) order i 0 within)
    (either (list_any (λ c. c == n) (take i order)) (get_or order i 0 == n) (Some words) had
    ∙ ap (λ (b : Bool). cond b (Some words) (latched_in (take i order) n words had)) (ne_eqb (get_or order i 0) n at))
