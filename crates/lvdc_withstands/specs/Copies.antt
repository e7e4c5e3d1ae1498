-- When copies of a module are wrong in the same step, by the lines of a script.
use Rattle.std.specs.Prelude.{◌≡◌, ℕ, ◌<◌, ◌≤◌, true, false, ◌&&◌, nat_lt, List, All}
use Rattle.lvdc_fault.specs.Script.{first_of, makes_wrong, is_wrong, two_wrong}
use Rattle.lvdc_fault.specs.declared.event.Event.{Event}

-- two copies of a module are never wrong in the same step
abbrev pub NeverMeet : List Event → ℕ → ℕ → ℕ → Type 0
NeverMeet lines number one other = (step : ℕ) → (is_wrong lines step number one && is_wrong lines step number other) ≡ false

-- they are, in a step before each one before which all lines begin
pub record Meet (lines : List Event) (number one other : ℕ) : Type 0 where
  pub step : ℕ
  pub before : (steps : ℕ) → All (λ e. first_of e < steps) lines → step < steps
  pub both : (is_wrong lines step number one && is_wrong lines step number other) ≡ true

-- a module never has two wrong copies
abbrev pub NeverTwoOf : List Event → ℕ → Type 0
NeverTwoOf lines number = (step : ℕ) → two_wrong lines step number ≡ false

-- it has, in a step before each one before which all lines begin
pub record HasTwoOf (lines : List Event) (number : ℕ) : Type 0 where
  pub step : ℕ
  pub before : (steps : ℕ) → All (λ e. first_of e < steps) lines → step < steps
  pub two : two_wrong lines step number ≡ true

-- no module ever has two wrong copies
abbrev pub NeverTwo : List Event → Type 0
NeverTwo lines = (number : ℕ) → 1 ≤ number → number ≤ 7 → NeverTwoOf lines number

-- one has
pub record HasTwo (lines : List Event) : Type 0 where
  pub number : ℕ
  pub low : 1 ≤ number
  pub high : number ≤ 7
  pub two : HasTwoOf lines number

-- by lines that have all begun, a copy is wrong up to before this step
abbrev pub IsWrongUntil : List Event → ℕ → ℕ → ℕ → Type 0
IsWrongUntil lines number copy until = (step : ℕ) → All (λ e. first_of e ≤ step) lines → is_wrong lines step number copy ≡ nat_lt step until

-- with one line more, from its first step on, a copy is wrong up to before this step; and where the line acts on the copy, another
-- one is no longer wrong
pub record GoesOn (line : Event) (number copy mine others until : ℕ) : Type 0 where
  pub reaches : (step : ℕ) → first_of line ≤ step → makes_wrong step number copy line ≡ true → step < until
  pub keeps : (step : ℕ) → step < mine → step < until
  pub ends : (step : ℕ) → first_of line ≤ step → step < until → makes_wrong step number copy line ≡ false → step < mine
  pub apart : (step : ℕ) → makes_wrong step number copy line ≡ true → others ≤ step

-- the line begins to act on a copy while another one is still wrong
pub record Meets (line : Event) (number copy others : ℕ) : Type 0 where
  pub acts : makes_wrong (first_of line) number copy line ≡ true
  pub early : first_of line < others
