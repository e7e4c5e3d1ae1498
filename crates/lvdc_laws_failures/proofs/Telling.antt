-- What copies tell after a step in which at most one of each module fails: two of three the row over what all hear.
use Rattle.std.proofs.Common.{◌≡◌, ℕ, zero, suc, ◌+◌, ◌≤◌, ◌<◌, Bool, true, false, cond, List, [], ◌∷◌, length, map, refl, sym, ◌∙◌, ap, arith}
use Rattle.lvdc_vote.specs.Copies.{vote_of}
use Rattle.lvdc_vote.specs.Numbers.{latches_of}
use Rattle.lvdc_modules.specs.Rows.{rows, bus_of}
use Rattle.lvdc_modules.specs.declared.bus.Bus.{Bus}
use Rattle.lvdc_fault.specs.Script.{are_two}
use Rattle.lvdc_laws_phases.specs.States.{next_of, after_phase}
use Rattle.lvdc_laws_voted.specs.Copies.{ModuleAgrees, Agree}
use Rattle.lvdc_laws_failures.specs.Listeners.{Listener, Copy, Sound, Failed, Three, told, told_by_three, heard, all_heard}
use Rattle.lvdc_laws_failures.specs.Split.{Run, Adversary}
use Rattle.lvdc_laws_failures.specs.Steps.{words_from, next_teller, next_three, next_copies}

-- ---- how many words are told

pub length-words_from : (says : ℕ → ℕ) (index n : ℕ) → length (words_from says index n) ≡ n
length-words_from says index zero = refl
length-words_from says index (suc n) = ap suc (length-words_from says (suc index) n)

length-told : (listener : Listener) (fails : Bool) (says : Listener → ℕ → ℕ) (latches : List ℕ) (n : ℕ) → length latches ≡ n
    → length (told listener (cond fails (Failed (λ other. words_from (says other) 0 n)) (Sound latches))) ≡ n
length-told listener true says latches n h = length-words_from (says listener) 0 n
length-told listener false says latches n h = h

-- ---- the rows

-- each row gives as many latches as its module has
abbrev pub RowsFit : ℕ → List (Bus → List ℕ) → Type 0
RowsFit m [] = Unit {0}
RowsFit m (row ∷ more) = ((b : Bus) → length (row b) ≡ latches_of m) × RowsFit (m + 1) more

pub rows-fit : RowsFit 1 rows
rows-fit = (λ b. refl, (λ b. refl, (λ b. refl, (λ b. refl, (λ b. refl, (λ b. refl, (λ b. refl, tt)))))))

-- ---- what is heard of them

-- what is heard of all modules is the votes over what is told
pub heard-votes : (listener : Listener) (copies : List Three) → map vote_of (map (told_by_three listener) copies) ≡ all_heard listener copies
heard-votes listener [] = refl
heard-votes listener (t ∷ ts) = ap (λ (votes : List (List ℕ)). heard listener t ∷ votes) (heard-votes listener ts)

-- ---- a module after a step

-- all its listeners heard these states, and two of its copies don't fail
module _ (a : Adversary) (run : Run) (states : List (List ℕ)) (memory port : ℕ) (hears : (listener : Listener) → all_heard listener run.now.copies ≡ states) where
  told-sound : (listener : Listener) (m c : ℕ) (row : Bus → List ℕ) → a.fails run m c ≡ false
      → told listener (next_teller a run m c row memory port) ≡ row (bus_of states memory port)
  told-sound listener m c row sound = rw (sound, hears (Copy m c)) refl

  length-next : (listener : Listener) (m c : ℕ) (row : Bus → List ℕ) → ((b : Bus) → length (row b) ≡ latches_of m)
      → length (told listener (next_teller a run m c row memory port)) ≡ length (row (bus_of states memory port))
  length-next listener m c row fits =
      length-told listener (a.fails run m c) (a.says run m c) (row (bus_of (all_heard (Copy m c) run.now.copies) memory port)) (latches_of m) (fits _)
      ∙ sym (fits (bus_of states memory port))

  three-agree : (listener : Listener) (m : ℕ) (row : Bus → List ℕ) → ((b : Bus) → length (row b) ≡ latches_of m) → are_two (a.fails run m) ≡ false
      → ModuleAgrees (a.fails run m) (told_by_three listener (next_three a run m row memory port)) (row (bus_of states memory port))
  three-agree listener m row fits few =
      record {
        two = few;
        first = told-sound listener m 1 row;
        second = told-sound listener m 2 row;
        third = told-sound listener m 3 row;
        sized = record { one = length-next listener m 1 row fits; two = length-next listener m 2 row fits; three = length-next listener m 3 row fits };
      }

  -- so of the modules from m on, whoever listens
  more-agree : (listener : Listener) (m : ℕ) (rs : List (Bus → List ℕ)) → RowsFit m rs → ((j : ℕ) → m ≤ j → j < m + length rs → are_two (a.fails run j) ≡ false)
      → Agree (a.fails run) m (map (told_by_three listener) (next_copies a run m rs memory port)) (next_of rs (bus_of states memory port))
  more-agree listener m [] fits few = tt
  more-agree listener m (r ∷ rs) fits few = (
    three-agree listener m r fits.0 (few m (omega arith) (omega arith)),
    more-agree listener (m + 1) rs fits.1 (λ j low high. few j (omega arith) (omega arith)),
  )

  -- and of all seven
  pub copies-agree : ((m : ℕ) → 1 ≤ m → m ≤ 7 → are_two (a.fails run m) ≡ false) → (listener : Listener)
      → Agree (a.fails run) 1 (map (told_by_three listener) (next_copies a run 1 rows memory port)) (after_phase states memory port)
  copies-agree few listener = more-agree listener 1 rows rows-fit (λ j low high. few j low (omega arith))
