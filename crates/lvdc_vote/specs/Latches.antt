-- Lists of latch words: their majority, and what hurts make of them.
use Rattle.std.specs.Prelude.{ℕ, ◌<◌, List, [], ◌∷◌, Bool, true, false, slice_index, slice_set, if◌then◌else◌, ◌==◌, ◌&&◌}
use Rattle.std.specs.Int.{bit_at}
use Rattle.std.specs.List.{list_any}
use Rattle.lvdc_vote.specs.Bits.{TwoAre, majority, flipped, forced}
use Rattle.lvdc_vote.specs.declared.hurt.Hurt.{Hurt}
use Rattle.lvdc_vote.specs.declared.hurt.Hurt.TheVariants.{Lag, Flip, Force}

-- the majority of three lists, word by word
abbrev pub majority_of : List ℕ → List ℕ → List ℕ → List ℕ
majority_of (x ∷ xs) (y ∷ ys) (z ∷ zs) = majority x y z ∷ majority_of xs ys zs
majority_of _ _ _ = []

-- each bit of each word of the vote is the value that at least two of the three lists have there
abbrev pub IsMajority : List ℕ → List ℕ → List ℕ → List ℕ → Type 0
IsMajority one two three vote =
    (index i : ℕ) → TwoAre (bit_at (slice_index one index) i) (bit_at (slice_index two index) i) (bit_at (slice_index three index) i) (bit_at (slice_index vote index) i)

-- the list in whose word at the index the bits under the mask are turned over
abbrev pub flipped_at : List ℕ → ℕ → ℕ → List ℕ
flipped_at words index mask = slice_set words index (flipped (slice_index words index) mask)

-- the list in whose word at the index the bits under the mask are the value's
abbrev pub forced_at : List ℕ → ℕ → ℕ → ℕ → List ℕ
forced_at words index mask value = slice_set words index (forced (slice_index words index) mask value)

-- what one hurt makes of the latches; a lag only chooses the latches that the others act on
abbrev pub hurt_by : List ℕ → Hurt → List ℕ
hurt_by words Lag = words
hurt_by words (Flip index mask) = flipped_at words index mask
hurt_by words (Force index mask value) = forced_at words index mask value

-- what all of them make of the latches, in order
abbrev pub hurt_by_all : List ℕ → List Hurt → List ℕ
hurt_by_all words [] = words
hurt_by_all words (hurt ∷ hurts) = hurt_by_all (hurt_by words hurt) hurts

-- whether a hurt is a lag
abbrev pub is_lag : Hurt → Bool
is_lag Lag = true
is_lag (Flip _ _) = false
is_lag (Force _ _ _) = false

-- whether a lag stands among the hurts
abbrev pub lags : List Hurt → Bool
lags hurts = list_any is_lag hurts

-- what a copy latches: the next latches, or under a lag its old ones, changed by the other hurts in order
abbrev pub latched_by : List ℕ → List ℕ → List Hurt → List ℕ
latched_by old next hurts = hurt_by_all (if lags hurts then old else next) hurts

-- a hurt names a latch that there is
abbrev pub FitsLatches : ℕ → Hurt → Type 0
FitsLatches n Lag = Unit {0}
FitsLatches n (Flip index _) = index < n
FitsLatches n (Force index _ _) = index < n

-- whether two lists have the same words
abbrev pub same_words : List ℕ → List ℕ → Bool
same_words [] [] = true
same_words [] (y ∷ ys) = false
same_words (x ∷ xs) [] = false
same_words (x ∷ xs) (y ∷ ys) = (x == y) && same_words xs ys
