-- The stored cells of the twins are those of the definition.
use Rattle.std.specs.Prelude.{◌≡◌, ℕ, suc, ◌<◌, true, slice_index, Ok}
use Rattle.lvdc_map.specs.Address.{Spot}
use Rattle.lvdc_map.specs.Banks.{holds}
use Rattle.lvdc_map.specs.Memory.{word_at}
use Rattle.lvdc_twin.specs.declared.read_out.ReadOut.{ReadOut}
use Rattle.lvdc_model.specs.Trial.{Trial, plain_in}
use Rattle.lvdc_model.specs.CellsBefore.{cell_before, damaged_at}
use Rattle.lvdc_model.specs.Twins.{Twins, cell_at, read_answer, after_read}

-- each twin stores this at every address that it holds; which twin is selected is left free
pub record Stores (banks : ℕ) (cell : ℕ → Spot → ℕ) (t : Twins) : Type 0 where
  pub cells : (twin : ℕ) → twin < 2 → (at : Spot) → holds banks twin at ≡ true → cell_at t twin at ≡ cell twin at
  pub selected : (pair : ℕ) → slice_index t.selected pair < 2

-- the cells before a step
abbrev pub StoresBefore : Trial → ℕ → Twins → Type 0
StoresBefore o step t = Stores o.opening.banks (λ twin at. cell_before o twin at step) t

-- the same after this step's damage
abbrev pub StoresDamaged : Trial → ℕ → Twins → Type 0
StoresDamaged o step t = Stores o.opening.banks (λ twin at. damaged_at o step twin at (cell_before o twin at step)) t

-- a read finds the plain run's word, and leaves the cells before the next step
pub record ReadsPlain (o : Trial) (step : ℕ) (t : Twins) (at : Spot) : Type 0 where
  pub out : ReadOut
  pub answer : read_answer o step t at ≡ Ok out
  pub word : out.word ≡ word_at (plain_in o step).memory at
  pub stores : StoresBefore o (suc step) (after_read o step t at out)
