-- Logs whose lines are equal.
use Rattle.std.proofs.Common.{◌≡◌, Bool, true, false, ◌&&◌, ◌==◌, List, [], ◌∷◌, ◌++◌, length, take, drop, is_some, MatchOption, refl, sym, ap, ◌∙◌}
use Rattle.std.proofs.lemmas.Bool.{true≢false, eqb-true, and_parts}
use Rattle.std.proofs.lemmas.List.{take-append-drop}
use Rattle.std.specs.declared.option.Option.{Option}
use Rattle.std.specs.declared.option.Option.TheVariants.{None, Some}
use lib.Pointwise.{pointwise}
use Rattle.lvdc_plain.specs.declared.records.Exchange.{Exchange}
use Rattle.lvdc_runs.specs.Same.{is_same_bit, is_same_exchange}
use Rattle.lvdc_study.specs.Waypoints.{IsPrefix}

bit-equal : (a b : Bool) → is_same_bit a b ≡ true → a ≡ b
bit-equal true true h = refl
bit-equal true false h = absurd (true≢false (sym h))
bit-equal false true h = absurd (true≢false (sym h))
bit-equal false false h = refl

exchange-equal : (a b : Exchange) → is_same_exchange a b ≡ true → a ≡ b
exchange-equal a b h =
    let last = and_parts (a.time == b.time && a.port == b.port && is_same_bit a.reading b.reading) (a.word == b.word) h in
    let third = and_parts (a.time == b.time && a.port == b.port) (is_same_bit a.reading b.reading) last.0 in
    let first = and_parts (a.time == b.time) (a.port == b.port) third.0 in
    let time = eqb-true a.time b.time first.0 in
    let port = eqb-true a.port b.port first.1 in
    let reading = bit-equal a.reading b.reading third.1 in
    let word = eqb-true a.word b.word last.1 in
    λ i. record { time = time i; port = port i; reading = reading i; word = word i }

module _ (same : Exchange → Exchange → Bool) (each : (a b : Exchange) → same a b ≡ is_same_exchange a b) where
  lines-equal : (xs ys : List Exchange) → pointwise same xs ys ≡ true → xs ≡ ys
  lines-equal [] [] h = refl
  lines-equal [] (y ∷ ys) h = absurd (true≢false (sym h))
  lines-equal (x ∷ xs) [] h = absurd (true≢false (sym h))
  lines-equal (x ∷ xs) (y ∷ ys) h =
      let parts = and_parts (same x y) (pointwise same xs ys) h in
      let here = exchange-equal x y (sym (each x y) ∙ parts.0) in
      let rest = lines-equal xs ys parts.1 in
      λ i. here i ∷ rest i

  -- a log that begins with lines
  pub prefix-is : (log lines : List Exchange) → pointwise same (take (length lines) log) lines ≡ true → IsPrefix lines log
  prefix-is log lines h = record {
    rest = drop (length lines) log;
    is = ap (λ (first : List Exchange). first ++ drop (length lines) log) (sym (lines-equal (take (length lines) log) lines h)) ∙ take-append-drop (length lines) log;
  }

-- what is found where something is found
pub prefix-found : {A : Type 0} (found : Option A) (P : Type 0) (Q : A → Type 0) (is : Bool) → is ≡ is_some found → is ≡ true
    → MatchOption found P Q → (a : A) × Q a
prefix-found None P Q is same told h = absurd (true≢false (sym told ∙ same))
prefix-found (Some a) P Q is same told h = (a, h)
