-- Who hears what: 22 listeners with voters of their own, and copies that may tell each of them something else.
use Rattle.std.specs.Prelude.{ℕ, List, map}
use Rattle.lvdc_vote.specs.Copies.{Copies, settled, vote_of}

-- who hears the copies: copy c of module m, both counted from 1, and the exchange with memory and ports
pub data Listener : Type 0 where
  Copy : ℕ → ℕ → Listener
  Exchange : Listener

-- what a copy tells in a step: where it was sound in the step before its latches, the same to all; where it failed to each
-- listener what it likes
pub data Teller : Type 0 where
  Sound : List ℕ → Teller
  Failed : (Listener → List ℕ) → Teller

-- the latches that it tells a listener
abbrev pub told : Listener → Teller → List ℕ
told listener (Sound latches) = latches
told listener (Failed says) = says listener

-- the three copies of a module
pub record Three : Type 0 where
  pub one : Teller
  pub two : Teller
  pub three : Teller

-- what the three tell a listener
abbrev pub told_by_three : Listener → Three → Copies
told_by_three listener t = settled (told listener t.one) (told listener t.two) (told listener t.three)

-- what the listener's voters make of it: bit by bit what at least two of them say
abbrev pub heard : Listener → Three → List ℕ
heard listener t = vote_of (told_by_three listener t)

-- what a listener hears of all modules
abbrev pub all_heard : Listener → List Three → List (List ℕ)
all_heard listener copies = map (heard listener) copies
