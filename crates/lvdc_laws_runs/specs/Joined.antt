-- When a run has joined the plain run: no event is left, and each stored cell is the code of the plain run's word.
use Rattle.std.specs.Prelude.{◌≡◌, ℕ, ◌<◌, true, List, All}
use Rattle.lvdc_word.specs.Cell.{code_of}
use Rattle.lvdc_map.specs.Address.{Spot}
use Rattle.lvdc_map.specs.Banks.{holds}
use Rattle.lvdc_map.specs.Memory.{word_at}
use Rattle.lvdc_fault.specs.Script.{span_of}
use Rattle.lvdc_fault.specs.declared.event.Event.{Event}
use Rattle.lvdc_fault.specs.declared.event.Event.TheVariants.{Damage, Stick, Dead}
use Rattle.lvdc_fault.specs.declared.verdict.Verdict.TheVariants.{Admissible}
use Rattle.lvdc_model.specs.CellsBefore.{cell_before}
use Rattle.lvdc_model.specs.Judging.{first_bad_below}
use Rattle.lvdc_model.specs.Runs.{guarded}
use Rattle.lvdc_model.specs.Trial.{Trial, plain_in}

-- an event has ended before a step: its last step counts, and that of damage is its only one
abbrev pub EndsBefore : ℕ → Event → Type 0
EndsBefore step e = (span_of e).last < step

-- so has each event of a script
abbrev pub AllEndBefore : ℕ → List Event → Type 0
AllEndBefore step script = All (EndsBefore step) script

-- an event is not on memory
abbrev pub SparesMemory : Event → Type 0
SparesMemory (Damage twin at step mask) = ⊥
SparesMemory (Stick twin at first last mask value) = ⊥
SparesMemory (Dead twin pair first last) = ⊥
SparesMemory _ = Unit {0}

-- nor is any event of a script
abbrev pub AllSpareMemory : List Event → Type 0
AllSpareMemory script = All SparesMemory script

-- before a step each twin stores the code of the plain run's word at every address that it holds
abbrev pub StoresWords : Trial → ℕ → Type 0
StoresWords o step =
    (twin : ℕ) → twin < 2 → (at : Spot) → holds o.opening.banks twin at ≡ true → cell_before o twin at step ≡ code_of (word_at (plain_in o step).memory at)

-- before a step the run has joined the plain run: no step was inadmissible, no event is left, and the twins store its words. The copies
-- may still differ: they latch the same words in this step.
pub record HasJoined (o : Trial) (step : ℕ) : Type 0 where
  pub admissible : first_bad_below o step ≡ Admissible
  pub over : AllEndBefore step o.script
  pub stores : StoresWords o step

-- what a run tells stays as it was before a step up to a later one: no step is inadmissible, no copy differs, and nothing is repaired
pub record StaysJoined (o : Trial) (step later : ℕ) : Type 0 where
  pub admissible : first_bad_below o later ≡ Admissible
  pub counts : (guarded o later).counts ≡ (guarded o step).counts
  pub repairs : (guarded o later).repairs ≡ (guarded o step).repairs
