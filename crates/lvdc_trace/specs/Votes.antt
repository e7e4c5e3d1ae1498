-- The votes that a trace keeps from one step to the next.
use Rattle.std.specs.Prelude.{◌≡◌, ℕ, ◌-◌, ◌≤◌, ◌<◌, List, [], ◌∷◌, slice_index, slice_index_or}
use Rattle.lvdc_vote.specs.Copies.{Copies}
use Rattle.lvdc_vote.specs.Numbers.{latches_of}
use Rattle.lvdc_logic.specs.Logic.{vote_at}
use Rattle.lvdc_trace.specs.declared.votes.Votes.{Votes}

-- those of the seven modules, in the order of their numbers from 1
abbrev pub votes_in : Votes → List (List ℕ)
votes_in v = v.timer ∷ v.locator ∷ v.decoder ∷ v.selector ∷ v.accumulator ∷ v.multiplier ∷ v.exchange ∷ []

-- these words are the votes of the latches of a module
abbrev pub AreVotesOf : List ℕ → List Copies → ℕ → Type 0
AreVotesOf words copies number = (index : ℕ) → index < latches_of number → slice_index words index ≡ vote_at copies number index

-- they are the votes over these copies
abbrev pub AreVotes : Votes → List Copies → Type 0
AreVotes v copies = (number : ℕ) → 1 ≤ number → number ≤ 7 → AreVotesOf (slice_index_or (votes_in v) (number - 1) []) copies number
