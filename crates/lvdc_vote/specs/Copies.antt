-- Three copies of the latches of a module and their shadows: what each call makes of them.
use Rattle.std.specs.Prelude.{◌≡◌, ◌≢◌, ℕ, List, length, Bool, true, not, Option, Some, None, unwrap_or, if◌then◌else◌, ◌==◌, ◌<◌, All, AllPairs}
use Rattle.std.specs.List.{list_any}
use Rattle.lvdc_vote.specs.Latches.{majority_of, same_words}

-- the latches of three copies, and of each its shadow: what it has latched, until the three are settled
pub record Copies : Type 0 where
  pub one : List ℕ
  pub two : List ℕ
  pub three : List ℕ
  pub shadow_one : Option (List ℕ)
  pub shadow_two : Option (List ℕ)
  pub shadow_three : Option (List ℕ)

-- three copies, of which none has latched
abbrev pub settled : List ℕ → List ℕ → List ℕ → Copies
settled one two three = record { one = one; two = two; three = three; shadow_one = None; shadow_two = None; shadow_three = None }

-- that of three which the number 0, 1 or 2 names
abbrev pub chosen : {A : Type 0} → A → A → A → ℕ → A
chosen one two three copy = if copy == 0 then one else (if copy == 1 then two else three)

-- the latches of a copy
abbrev pub copy_of : Copies → ℕ → List ℕ
copy_of t copy = chosen t.one t.two t.three copy

-- the shadow of a copy, where it has latched
abbrev pub shadow_of : Copies → ℕ → Option (List ℕ)
shadow_of t copy = chosen t.shadow_one t.shadow_two t.shadow_three copy

-- the copies after one of them latched these words
abbrev pub after_latch : Copies → ℕ → List ℕ → Copies
after_latch t copy words =
    chosen (record t { shadow_one = Some words }) (record t { shadow_two = Some words }) (record t { shadow_three = Some words }) copy

-- what each copy has latched takes its place, and these words that of a copy that hasn't latched
abbrev pub after_settle : Copies → List ℕ → Copies
after_settle t words = settled (unwrap_or t.shadow_one words) (unwrap_or t.shadow_two words) (unwrap_or t.shadow_three words)

-- the vote over the three copies
abbrev pub vote_of : Copies → List ℕ
vote_of t = majority_of t.one t.two t.three

-- whether a copy differs from the vote
abbrev pub differs_of : Copies → ℕ → Bool
differs_of t copy = not (same_words (copy_of t copy) (vote_of t))

-- no copy has a shadow
pub record IsFresh (t : Copies) : Type 0 where
  pub one : t.shadow_one ≡ None
  pub two : t.shadow_two ≡ None
  pub three : t.shadow_three ≡ None

-- each copy has so many latches
pub record IsSized (n : ℕ) (t : Copies) : Type 0 where
  pub one : length t.one ≡ n
  pub two : length t.two ≡ n
  pub three : length t.three ≡ n

-- a list that names numbers below the bound, each at most once
pub record IsOrder (bound : ℕ) (order : List ℕ) : Type 0 where
  pub below : All (λ c. c < bound) order
  pub once : AllPairs (λ c d. c ≢ d) order

-- a list that names each number below the bound once, and no other
pub record IsFullOrder (bound : ℕ) (order : List ℕ) : Type 0 where
  pub each_once : IsOrder bound order
  pub all : (c : ℕ) → c < bound → list_any (λ d. d == c) order ≡ true

-- the shadow of the copy of this number after those of the list latched: its words where the list names it
abbrev pub latched_in : List ℕ → ℕ → List ℕ → Option (List ℕ) → Option (List ℕ)
latched_in order number words had = if list_any (λ c. c == number) order then Some words else had
