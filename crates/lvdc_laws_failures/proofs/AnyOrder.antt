-- Whatever the order in which the copies latch, each latches the same.
use Rattle.std.proofs.Common.{◌≡◌, ℕ, ◌<◌, Bool, true, false, ◌||◌, cond, List, [], ◌∷◌, refl, ap, ◌∙◌, arith}
use Rattle.std.specs.Prelude.{◌==◌, unwrap_or}
use Rattle.std.specs.List.{list_any}
use Rattle.std.specs.declared.option.Option.{Option}
use Rattle.std.specs.declared.option.Option.TheVariants.{None, Some}
use Rattle.std.proofs.lemmas.Bool.{eqb-true}
use Rattle.lvdc_vote.specs.Copies.{IsFullOrder}
use Rattle.lvdc_modules.specs.Rows.{rows}
use Rattle.lvdc_laws_failures.specs.Listeners.{Teller, Sound, Three}
use Rattle.lvdc_laws_failures.specs.Split.{Run, Adversary}
use Rattle.lvdc_laws_failures.specs.Steps.{next_copies}
use Rattle.lvdc_laws_failures.specs.Orders.{Within, none_latched, latches_now, with_one_latched, with_latched, latched_by, all_latched}

-- the first of an order, before the rest
head-is : (f : ℕ → Teller) (number other : ℕ) (is_head in_rest : Bool) (had : Option Teller) → (is_head ≡ true → number ≡ other)
    → cond in_rest (Some (f other)) (cond is_head (Some (f number)) had) ≡ cond (is_head || in_rest) (Some (f other)) had
head-is f number other true true had e = refl
head-is f number other true false had e = ap (λ (k : ℕ). Some (f k)) (e refl)
head-is f number other false in_rest had e = refl

-- a copy that the order names has latched what it latches by itself
latched-is : (a : Adversary) (memory port : ℕ) (w : Within) (order : List ℕ) (other : ℕ)
    → (with_latched a memory port w order).latched other ≡ cond (list_any (λ d. d == other) order) (Some (latches_now a w memory port other)) (w.latched other)
latched-is a memory port w [] other = refl
latched-is a memory port w (number ∷ order) other =
    latched-is a memory port (with_one_latched a memory port w number) order other
    ∙ head-is (latches_now a w memory port) number other (number == other) (list_any (λ d. d == other) order) (w.latched other) (eqb-true number other)

-- equal parts make equal wholes
abbrev three_copies : Teller → Teller → Teller → Three
three_copies one two three = record { one = one; two = two; three = three }

three-are : (one two three x y z : Teller) → one ≡ x → two ≡ y → three ≡ z → three_copies one two three ≡ three_copies x y z
three-are one two three x y z p q r = rw (p, q, r) refl

seven-are : (s t u v w x y s' t' u' v' w' x' y' : Three) → s ≡ s' → t ≡ t' → u ≡ u' → v ≡ v' → w ≡ w' → x ≡ x' → y ≡ y'
    → s ∷ t ∷ u ∷ v ∷ w ∷ x ∷ y ∷ [] ≡ s' ∷ t' ∷ u' ∷ v' ∷ w' ∷ x' ∷ y' ∷ []
seven-are s t u v w x y s' t' u' v' w' x' y' a b c d e f g = rw (a, b, c, d, e, f, g) refl

-- so any full order leaves the copies that a step leaves
pub any-order : (a : Adversary) (run : Run) (memory port : ℕ) (order : List ℕ) → IsFullOrder 21 order
    → all_latched (with_latched a memory port (none_latched run) order) 0 7 ≡ next_copies a run 1 rows memory port
any-order a run memory port order full =
    seven-are _ _ _ _ _ _ _ _ _ _ _ _ _ _
    (three-are _ _ _ _ _ _ (is 0 (omega arith)) (is 1 (omega arith)) (is 2 (omega arith)))
    (three-are _ _ _ _ _ _ (is 3 (omega arith)) (is 4 (omega arith)) (is 5 (omega arith)))
    (three-are _ _ _ _ _ _ (is 6 (omega arith)) (is 7 (omega arith)) (is 8 (omega arith)))
    (three-are _ _ _ _ _ _ (is 9 (omega arith)) (is 10 (omega arith)) (is 11 (omega arith)))
    (three-are _ _ _ _ _ _ (is 12 (omega arith)) (is 13 (omega arith)) (is 14 (omega arith)))
    (three-are _ _ _ _ _ _ (is 15 (omega arith)) (is 16 (omega arith)) (is 17 (omega arith)))
    (three-are _ _ _ _ _ _ (is 18 (omega arith)) (is 19 (omega arith)) (is 20 (omega arith)))
  where
    is : (number : ℕ) → number < 21 → latched_by (with_latched a memory port (none_latched run) order) number ≡ latches_now a (none_latched run) memory port number
    is number below =
        ap (λ (had : Option Teller). unwrap_or had (Sound []))
        (latched-is a memory port (none_latched run) order number ∙ ap (λ (named : Bool). cond named (Some (latches_now a (none_latched run) memory port number)) None) (full.all number below))
