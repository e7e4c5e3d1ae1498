-- Up to the first event what script and plain run say of a step is what the plain run alone says.
use Rattle.std.proofs.Common.{◌≡◌, ℕ, zero, suc, ◌<◌, ◌≤◌, not, ◌&&◌, cond, [], refl, ap, ◌∙◌, arith}
use Rattle.std.specs.declared.option.Option.{Option}
use Rattle.std.specs.declared.option.Option.TheVariants.{None, Some}
use Rattle.lvdc_word.specs.Cell.{code_of, is_good}
use Rattle.lvdc_map.specs.Address.{Spot, is_same}
use Rattle.lvdc_map.specs.Banks.{is_simplex, home, holds}
use Rattle.lvdc_map.specs.Memory.{word_at}
use Rattle.lvdc_map.specs.declared.placed.Placed.{Placed}
use Rattle.lvdc_fault.specs.Damage.{shown_of}
use Rattle.lvdc_fault.specs.Recoverable.{is_recovered}
use Rattle.lvdc_fault.specs.Script.{active_events}
use Rattle.lvdc_fault.specs.declared.verdict.Verdict.TheVariants.{Admissible, Memory}
use Rattle.lvdc_model.specs.Trial.{Trial, plain_in, read_at, store_at}
use Rattle.lvdc_model.specs.CellsBefore.{reads_it, damaged_at, mended, overwritten, cell_after, cell_before, shown_at}
use Rattle.lvdc_model.specs.Judging.{is_recoverable, judged_memory, judged_logic, judged, is_begun, or_else, first_bad_below}
use Rattle.lvdc_laws_runs.specs.Early.{AllBeginFrom, fault_free}
use Rattle.lvdc_laws_runs.proofs.Idle.{LeavesMemory, none-before, module-none, leaves-none, shown-same, damaged-none}

-- ---- a step in which a script does nothing to memory

module _ (o : Trial) (step : ℕ) (leaves : LeavesMemory o.script step) (twin : ℕ) (at : Spot) where
  mended-same : (cell : ℕ) → mended o step twin at cell ≡ mended (fault_free o) step twin at cell
  mended-same cell =
      λ i. cond
      (reads_it (read_at o step) at && not (is_simplex o.opening.banks (home at).pair)
      && not (leaves.dead twin (home at).pair i) && not (is_good (leaves.shown twin (home at) cell i)))
      (code_of (word_at (plain_in o step).memory at)) cell

  overwritten-same : (s : Option Placed) (cell : ℕ) → overwritten o step twin at s cell ≡ overwritten (fault_free o) step twin at s cell
  overwritten-same None cell = refl
  overwritten-same (Some s) cell =
      λ i. cond (is_same at s.at && holds o.opening.banks twin at && not (leaves.dead twin (home at).pair i)) (code_of s.word) cell

  -- it leaves the stored cell that it leaves under no script
  pub after-same : (cell : ℕ) → cell_after o step twin at cell ≡ cell_after (fault_free o) step twin at cell
  after-same cell =
      overwritten-same (store_at o step) (mended o step twin at (damaged_at o step twin at cell))
      ∙ ap (overwritten (fault_free o) step twin at (store_at o step))
      (mended-same (damaged_at o step twin at cell) ∙ ap (mended (fault_free o) step twin at) (leaves.damaged twin (home at) cell))

-- ---- up to the first event

module _ (o : Trial) (first : ℕ) (later : AllBeginFrom first o.script) where
  cell-same : (twin : ℕ) (at : Spot) (step : ℕ) → step ≤ first → cell_before o twin at step ≡ cell_before (fault_free o) twin at step
  cell-same twin at zero early = refl
  cell-same twin at (suc step) early =
      after-same o step (leaves-none o.script step (none-before first step (omega arith) o.script later)) twin at (cell_before o twin at step)
      ∙ ap (cell_after (fault_free o) step twin at) (cell-same twin at step (omega arith))

  module _ (step : ℕ) (early : step < first) where
    none-here : active_events o.script step ≡ []
    none-here = none-before first step early o.script later

    shown-at-same : (twin : ℕ) (at : Spot) → shown_at o twin at step ≡ shown_at (fault_free o) twin at step
    shown-at-same twin at =
        shown-same o.script step none-here twin (home at) (damaged_at o step twin at (cell_before o twin at step))
        ∙ ap (shown_of [] step twin (home at)) (damaged-none o.script step none-here twin (home at) (cell_before o twin at step) ∙ cell-same twin at step (omega arith))

    recoverable-same : (at : Spot) → is_recoverable o step at ≡ is_recoverable (fault_free o) step at
    recoverable-same at = λ i. is_recovered o.opening.banks at (word_at (plain_in o step).memory at) (λ twin. shown-at-same twin at i)

    memory-same : (r : Option Spot) → judged_memory o step r ≡ judged_memory (fault_free o) step r
    memory-same None = refl
    memory-same (Some at) = ap (λ b. cond b Admissible (Memory step at)) (recoverable-same at)

    pub judged-same : judged o step ≡ judged (fault_free o) step
    judged-same = ap (judged_logic o step) (module-none o.script step none-here) ∙ memory-same (read_at o step)

  -- so the first step that isn't admissible is the same up to there
  pub bad-same : (n : ℕ) → n ≤ first → first_bad_below o n ≡ first_bad_below (fault_free o) n
  bad-same zero early = refl
  bad-same (suc n) early =
      let before = bad-same n (omega arith) in
      let here = judged-same n (omega arith) in
      λ i. or_else (before i) (cond (is_begun o n) (here i) Admissible)
