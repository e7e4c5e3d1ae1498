-- A call that is made again while it is interrupted, and what it comes to.
use Rattle.std.specs.Prelude.{◌≡◌, ◌≢◌, ℕ, zero, suc, ◌-◌, ◌^◌, ◌<◌, ◌⊎◌, List, length, Result, Ok, Err, IsErr, IfErr, MatchResult}
use Rattle.std.specs.IoError.{error_kind}
use Rattle.std.specs.declared.io.Error.{Error}
use Rattle.std.specs.declared.io.ErrorKind.TheVariants.{Interrupted, TimedOut}

-- how many calls are made at most; no signals come so often
abbrev pub most_tries : ℕ
most_tries = 2 ^ 64 - 1

-- so many calls in a row, from one state to another, each of which was interrupted
abbrev pub WereInterrupted : {S X : Type 0} → (S → Result X Error → S → Type 0) → ℕ → S → S → Type 0
WereInterrupted call zero before after = after ≡ before
WereInterrupted {S} call (suc n) before after = (between : S) × (error : Error)
    × WereInterrupted call n before between × call between (Err error) after × (error_kind error ≡ Interrupted)

-- What a call comes to that is made again while it is interrupted.
pub data IsTried {S X : Type 0} (call : S → Result X Error → S → Type 0) (before : S) (answer : Result X Error) (after : S) : Type 0 where
  -- the answer is that of the first call that wasn't interrupted, be it a count or an error, and no call was made after it
  answered : (interrupted : ℕ) (between : S) → interrupted < most_tries → WereInterrupted call interrupted before between
      → call between answer after → IfErr answer (λ error. error_kind error ≢ Interrupted) → IsTried call before answer after
  -- or all calls that are made at most were interrupted
  given_up : (error : Error) → WereInterrupted call most_tries before after → answer ≡ Err error → error_kind error ≡ TimedOut
      → IsTried call before answer after

-- a source tells its reader's answer: the same count, or a failure for a failure
abbrev pub TellsRead : {E F : Type 0} → Result ℕ E → Result ℕ F → Type 0
TellsRead answer told = MatchResult told (λ count. answer ≡ Ok count) (λ _. IsErr answer)

-- a sink tells its writer's answer, and a failure too where the writer took no byte of some
abbrev pub TellsWrite : {E F : Type 0} → List ℕ → Result ℕ E → Result ℕ F → Type 0
TellsWrite piece answer told =
    MatchResult told (λ count. answer ≡ Ok count) (λ _. IsErr answer ⊎ ((answer ≡ Ok 0) × (0 < length piece)))
