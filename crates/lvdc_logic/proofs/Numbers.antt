-- The 21 copies by their numbers: each latches once, whatever the order.
use Rattle.std.proofs.Common.{◌≡◌, ◌≢◌, ℕ, zero, suc, ◌+◌, ◌*◌, ◌/◌, ◌%◌, ◌<◌, Bool, true, false, List, [], length, take, get_or, refl, sym, ◌∙◌, ap, arith, add-zero, None, Some, Option}
use Rattle.std.specs.Prelude.{AllPairs, ◌==◌}
use Rattle.std.proofs.lemmas.Bool.{eqb-true, eqb-false, false≢true}
use Rattle.lvdc_vote.specs.Copies.{Copies, shadow_of, after_latch, IsFresh}
use Rattle.lvdc_vote.proofs.Orders.{latched_same, latched_other, not_yet}
use Rattle.lvdc_logic.specs.declared.triples.Triples.{Triples}
use Rattle.lvdc_modules.specs.declared.bus.Bus.{Bus}
use Rattle.lvdc_model.specs.Voted.{inputs}
use Rattle.lvdc_logic.specs.Seven.{of_seven}
use Rattle.lvdc_logic.specs.Harmed.{latched_under}
use Rattle.lvdc_logic.specs.Latching.{copies_in, latched_at, latched_named, after_named, after_number, after_numbers, triple_in, AllFresh}
use Rattle.lvdc_forces.specs.declared.in_force.Faults.{Faults}

-- a fact of each of seven modules
pub seven : (P : ℕ → Type 0) → P 0 → P 1 → P 2 → P 3 → P 4 → P 5 → P 6 → (k : ℕ) → k < 7 → P k
seven P a b c d e f g zero h = a
seven P a b c d e f g (suc zero) h = b
seven P a b c d e f g (suc (suc zero)) h = c
seven P a b c d e f g (suc (suc (suc zero))) h = d
seven P a b c d e f g (suc (suc (suc (suc zero)))) h = e
seven P a b c d e f g (suc (suc (suc (suc (suc zero))))) h = f
seven P a b c d e f g (suc (suc (suc (suc (suc (suc zero)))))) h = g
seven P a b c d e f g (suc (suc (suc (suc (suc (suc (suc k))))))) h = absurd (omega (arith, h))

-- ---- one copy of a module

-- one more of the list: a copy of that number that is named has latched, and any other has latched what it had
named_same : (named : Bool) (order : List ℕ) (i n : ℕ) (words : List ℕ) (had : Option (List ℕ)) → named ≡ true → i < length order → get_or order i 0 ≡ n
    → latched_named named (take (i + 1) order) n words had ≡ Some words
named_same true order i n words had e within at = latched_same order i n words had within at
named_same false order i n words had e within at = absurd (false≢true e)

named_other : (named : Bool) (order : List ℕ) (i n : ℕ) (words : List ℕ) (had : Option (List ℕ)) → i < length order → get_or order i 0 ≢ n
    → latched_named named (take (i + 1) order) n words had ≡ latched_named named (take i order) n words had
named_other true order i n words had within at = latched_other order i n words had within at
named_other false order i n words had within at = refl

-- where the number that comes next isn't named, each copy has latched what it had
named_pass : (named : ℕ → Bool) (order : List ℕ) (i n number : ℕ) (words : List ℕ) (had : Option (List ℕ)) → i < length order → get_or order i 0 ≡ n → named n ≡ false
    → latched_named (named number) (take (i + 1) order) number words had ≡ latched_named (named number) (take i order) number words had
named_pass named order i n number words had within at off = by (n == number) refl where
  by : (b : Bool) → (n == number) ≡ b
      → latched_named (named number) (take (i + 1) order) number words had ≡ latched_named (named number) (take i order) number words had
  by true e = rw (sym (ap named (eqb-true n number e)) ∙ off) refl
  by false e = named_other (named number) order i number words had within (λ z. eqb-false n number e (sym at ∙ z))

-- a copy whose number comes next has not latched
named_fresh : (named : Bool) (order : List ℕ) (i n : ℕ) (words : List ℕ) (had : Option (List ℕ)) → had ≡ None → AllPairs (λ c d. c ≢ d) order → i < length order → get_or order i 0 ≡ n
    → latched_named named (take i order) n words had ≡ None
named_fresh true order i n words had none once within at = rw (not_yet order i n once within at) none
named_fresh false order i n words had none once within at = none

-- ---- the copies of a module

-- the copy whose number comes next latches
own_more : (t : Copies) (named : ℕ → Bool) (order : List ℕ) (i first copy : ℕ) (words : ℕ → List ℕ) (ws : List ℕ) → i < length order → get_or order i 0 ≡ first + copy → copy < 3
    → ws ≡ words (first + copy) → named (first + copy) ≡ true
    → after_latch (after_named t named (take i order) first words) copy ws ≡ after_named t named (take (i + 1) order) first words
own_more t named order i first zero words ws within at below is on =
    rw (
      is,
      named_same (named first) order i first (words first) t.shadow_one (ap named (sym (add-zero first)) ∙ on) within (at ∙ add-zero first),
      named_other (named (first + 1)) order i (first + 1) (words (first + 1)) t.shadow_two within (λ e. omega arith),
      named_other (named (first + 2)) order i (first + 2) (words (first + 2)) t.shadow_three within (λ e. omega arith),
      add-zero,
    ) refl
own_more t named order i first (suc zero) words ws within at below is on =
    rw (
      is,
      named_other (named first) order i first (words first) t.shadow_one within (λ e. omega arith),
      named_same (named (first + 1)) order i (first + 1) (words (first + 1)) t.shadow_two on within at,
      named_other (named (first + 2)) order i (first + 2) (words (first + 2)) t.shadow_three within (λ e. omega arith),
    ) refl
own_more t named order i first (suc (suc zero)) words ws within at below is on =
    rw (
      is,
      named_other (named first) order i first (words first) t.shadow_one within (λ e. omega arith),
      named_other (named (first + 1)) order i (first + 1) (words (first + 1)) t.shadow_two within (λ e. omega arith),
      named_same (named (first + 2)) order i (first + 2) (words (first + 2)) t.shadow_three on within at,
    ) refl
own_more t named order i first (suc (suc (suc n))) words ws within at below is on = absurd (omega arith)

-- a number that is none of the three copies' comes next
other_more : (t : Copies) (named : ℕ → Bool) (order : List ℕ) (i first : ℕ) (words : ℕ → List ℕ) → i < length order → get_or order i 0 ≢ first → get_or order i 0 ≢ first + 1 → get_or order i 0 ≢ first + 2
    → after_named t named (take i order) first words ≡ after_named t named (take (i + 1) order) first words
other_more t named order i first words within a b c =
    rw (
      named_other (named first) order i first (words first) t.shadow_one within a,
      named_other (named (first + 1)) order i (first + 1) (words (first + 1)) t.shadow_two within b,
      named_other (named (first + 2)) order i (first + 2) (words (first + 2)) t.shadow_three within c,
    ) refl

-- the copies of a module after one number more of the order that is named
module_more : (t : Copies) (named : ℕ → Bool) (order : List ℕ) (i n number : ℕ) (words : ℕ → List ℕ) (ws : List ℕ) → i < length order → get_or order i 0 ≡ n → ws ≡ words n → named n ≡ true
    → latched_at (after_named t named (take i order) (3 * number) words) number n ws ≡ after_named t named (take (i + 1) order) (3 * number) words
module_more t named order i n number words ws within at is on = by (n / 3 == number) refl where
  by : (b : Bool) → (n / 3 == number) ≡ b → latched_at (after_named t named (take i order) (3 * number) words) number n ws ≡ after_named t named (take (i + 1) order) (3 * number) words
  by true h =
      let q : n / 3 ≡ number = eqb-true (n / 3) number h in
      let e : n ≡ 3 * number + n % 3 = omega (arith, q) in
      rw h (own_more t named order i (3 * number) (n % 3) words ws within (at ∙ e) (omega arith) (is ∙ ap words e) (sym (ap named e) ∙ on))
  by false h =
      let q : n / 3 ≢ number = eqb-false (n / 3) number h in
      rw h (other_more t named order i (3 * number) words within (λ z. omega (arith, q)) (λ z. omega (arith, q)) (λ z. omega (arith, q)))

-- and of one that isn't
pass_more : (t : Copies) (named : ℕ → Bool) (order : List ℕ) (i n first : ℕ) (words : ℕ → List ℕ) → i < length order → get_or order i 0 ≡ n → named n ≡ false
    → after_named t named (take i order) first words ≡ after_named t named (take (i + 1) order) first words
pass_more t named order i n first words within at off =
    rw (
      named_pass named order i n first (words first) t.shadow_one within at off,
      named_pass named order i n (first + 1) (words (first + 1)) t.shadow_two within at off,
      named_pass named order i n (first + 2) (words (first + 2)) t.shadow_three within at off,
    ) refl

-- the copy of a module whose number comes next has not latched
module_fresh : (t : Copies) (named : ℕ → Bool) (order : List ℕ) (i n number : ℕ) (words : ℕ → List ℕ) → IsFresh t → AllPairs (λ c d. c ≢ d) order → i < length order → get_or order i 0 ≡ n → n / 3 ≡ number
    → shadow_of (after_named t named (take i order) (3 * number) words) (n % 3) ≡ None
module_fresh t named order i n number words fresh once within at q = by (n % 3) (omega (arith, q)) (omega arith) where
  by : (copy : ℕ) → n ≡ 3 * number + copy → copy < 3 → shadow_of (after_named t named (take i order) (3 * number) words) copy ≡ None
  by zero e below = named_fresh (named (3 * number)) order i (3 * number) (words (3 * number)) t.shadow_one fresh.one once within (at ∙ e ∙ add-zero (3 * number))
  by (suc zero) e below = named_fresh (named (3 * number + 1)) order i (3 * number + 1) (words (3 * number + 1)) t.shadow_two fresh.two once within (at ∙ e)
  by (suc (suc zero)) e below = named_fresh (named (3 * number + 2)) order i (3 * number + 2) (words (3 * number + 2)) t.shadow_three fresh.three once within (at ∙ e)
  by (suc (suc (suc copy))) e below = absurd (omega (arith, below))

-- ---- all modules

-- the copy whose number comes next latches, where it is named
pub numbers_more : (t : Triples) (named : ℕ → Bool) (order : List ℕ) (i n : ℕ) (words : ℕ → List ℕ) (ws : List ℕ) → i < length order → get_or order i 0 ≡ n → ws ≡ words n → named n ≡ true
    → after_number (after_numbers t named (take i order) words) n ws ≡ after_numbers t named (take (i + 1) order) words
numbers_more t named order i n words ws within at is on =
    rw (
      module_more t.timer named order i n 0 words ws within at is on,
      module_more t.locator named order i n 1 words ws within at is on,
      module_more t.decoder named order i n 2 words ws within at is on,
      module_more t.selector named order i n 3 words ws within at is on,
      module_more t.accumulator named order i n 4 words ws within at is on,
      module_more t.multiplier named order i n 5 words ws within at is on,
      module_more t.exchange named order i n 6 words ws within at is on,
    ) refl

-- and otherwise none does
pub numbers_pass : (t : Triples) (named : ℕ → Bool) (order : List ℕ) (i n : ℕ) (words : ℕ → List ℕ) → i < length order → get_or order i 0 ≡ n → named n ≡ false
    → after_numbers t named (take i order) words ≡ after_numbers t named (take (i + 1) order) words
numbers_pass t named order i n words within at off = λ j.
    record {
      timer = pass_more t.timer named order i n 0 words within at off j;
      locator = pass_more t.locator named order i n 3 words within at off j;
      decoder = pass_more t.decoder named order i n 6 words within at off j;
      selector = pass_more t.selector named order i n 9 words within at off j;
      accumulator = pass_more t.accumulator named order i n 12 words within at off j;
      multiplier = pass_more t.multiplier named order i n 15 words within at off j;
      exchange = pass_more t.exchange named order i n 18 words within at off j;
    }

-- before the first number none has latched
none_yet : (named : Bool) (n : ℕ) (words : List ℕ) (had : Option (List ℕ)) → had ≡ latched_named named [] n words had
none_yet true n words had = refl
none_yet false n words had = refl

module_none : (t : Copies) (named : ℕ → Bool) (first : ℕ) (words : ℕ → List ℕ) → t ≡ after_named t named [] first words
module_none t named first words = λ j.
    record t {
      shadow_one = none_yet (named first) first (words first) t.shadow_one j;
      shadow_two = none_yet (named (first + 1)) (first + 1) (words (first + 1)) t.shadow_two j;
      shadow_three = none_yet (named (first + 2)) (first + 2) (words (first + 2)) t.shadow_three j;
    }

pub numbers_none : (t : Triples) (named : ℕ → Bool) (words : ℕ → List ℕ) → t ≡ after_numbers t named [] words
numbers_none t named words = λ j.
    record {
      timer = module_none t.timer named 0 words j;
      locator = module_none t.locator named 3 words j;
      decoder = module_none t.decoder named 6 words j;
      selector = module_none t.selector named 9 words j;
      accumulator = module_none t.accumulator named 12 words j;
      multiplier = module_none t.multiplier named 15 words j;
      exchange = module_none t.exchange named 18 words j;
    }

-- the copy whose number comes next has not latched
pub numbers_fresh : (t : Triples) (named : ℕ → Bool) (order : List ℕ) (i n : ℕ) (words : ℕ → List ℕ) → AllFresh t → AllPairs (λ c d. c ≢ d) order → i < length order → get_or order i 0 ≡ n → n < 21
    → shadow_of (triple_in (after_numbers t named (take i order) words) n) (n % 3) ≡ None
numbers_fresh t named order i n words fresh once within at below =
    let all = after_numbers t named (take i order) words in
    seven
    (λ k. n / 3 ≡ k → shadow_of (of_seven all.timer all.locator all.decoder all.selector all.accumulator all.multiplier all.exchange k) (n % 3) ≡ None)
    (module_fresh t.timer named order i n 0 words fresh.timer once within at)
    (module_fresh t.locator named order i n 1 words fresh.locator once within at)
    (module_fresh t.decoder named order i n 2 words fresh.decoder once within at)
    (module_fresh t.selector named order i n 3 words fresh.selector once within at)
    (module_fresh t.accumulator named order i n 4 words fresh.accumulator once within at)
    (module_fresh t.multiplier named order i n 5 words fresh.multiplier once within at)
    (module_fresh t.exchange named order i n 6 words fresh.exchange once within at)
    (n / 3) (omega arith) refl

-- what a copy reads stays while others latch
inputs_stay : (deaf : Bool) (t : Triples) (named : ℕ → Bool) (order : List ℕ) (words : ℕ → List ℕ) (c : ℕ) (voted : Bus) → inputs deaf (copies_in (after_numbers t named order words)) c voted ≡ inputs deaf (copies_in t) c voted
inputs_stay true t named order words c voted = refl
inputs_stay false t named order words c voted = refl

-- so does what it latches
pub latched_stays : (f : Faults) (t : Triples) (named : ℕ → Bool) (order : List ℕ) (words : ℕ → List ℕ) (voted : Bus) (n : ℕ) → latched_under f (after_numbers t named order words) voted n ≡ latched_under f t voted n
unfolding latched_under
latched_stays f t named order words voted n = rw (inputs_stay f.deaf t named order words (n % 3 + 1) voted) refl
