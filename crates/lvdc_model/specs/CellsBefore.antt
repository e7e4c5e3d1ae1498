-- What each twin stores before a step, by the plain run and the script alone.
use Rattle.std.specs.Prelude.{ℕ, zero, suc, Bool, false, not, ◌&&◌, if◌then◌else◌, unwrap_or, option_map}
use Rattle.std.specs.declared.option.Option.{Option}
use Rattle.std.specs.declared.option.Option.TheVariants.{None, Some}
use Rattle.lvdc_word.specs.Cell.{code_of, is_good}
use Rattle.lvdc_map.specs.Address.{Spot, is_same}
use Rattle.lvdc_map.specs.Banks.{is_simplex, home, holds}
use Rattle.lvdc_map.specs.Memory.{memory_of}
use Rattle.lvdc_map.specs.declared.placed.Placed.{Placed}
use Rattle.lvdc_fault.specs.Damage.{damaged, is_dead, shown_of}
use Rattle.lvdc_model.specs.Trial.{Trial, plain_in, read_at, store_at}

-- the stored cell after the read of a step, which mends the cell of a duplex pair that a twin shows bad, unless that twin is dead
abbrev pub mended : Trial → ℕ → ℕ → Spot → ℕ → ℕ
mended o step twin at cell =
    if unwrap_or (option_map (is_same at) (read_at o step)) false && not (is_simplex o.opening.banks (home at).pair)
    && not (is_dead o.script step twin (home at).pair) && not (is_good (shown_of o.script step twin (home at) cell))
    then code_of ((plain_in o step).memory at) else cell

-- the stored cell after a store: a twin that holds the address and isn't dead takes the word
abbrev pub overwritten : Trial → ℕ → ℕ → Spot → Option Placed → ℕ → ℕ
overwritten o step twin at None cell = cell
overwritten o step twin at (Some s) cell =
    if is_same at s.at && holds o.opening.banks twin at && not (is_dead o.script step twin (home at).pair) then code_of s.word else cell

-- the cell that a twin stores at an address before a step; of a simplex pair only the twin that holds the address is asked
abbrev pub cell_before : Trial → ℕ → Spot → ℕ → ℕ
cell_before o twin at zero = code_of (memory_of o.opening.image at)
cell_before o twin at (suc step) =
    let damage = damaged step twin (home at) o.script (cell_before o twin at step) in overwritten o step twin at (store_at o step) (mended o step twin at damage)

-- what a twin shows at an address in a step, once that step's damage is done
abbrev pub shown_at : Trial → ℕ → Spot → ℕ → ℕ
shown_at o twin at step = shown_of o.script step twin (home at) (damaged step twin (home at) o.script (cell_before o twin at step))

-- ---- for the laws

-- is what is read, if anything is, at this address?
abbrev pub reads_it : Option Spot → Spot → Bool
reads_it asked at = unwrap_or (option_map (is_same at) asked) false

-- does a read mend the cell?
abbrev pub is_mended : Trial → ℕ → ℕ → Spot → ℕ → Bool
is_mended o step twin at cell =
    reads_it (read_at o step) at && not (is_simplex o.opening.banks (home at).pair)
    && not (is_dead o.script step twin (home at).pair) && not (is_good (shown_of o.script step twin (home at) cell))

-- the stored cell that a step leaves: it is damaged, then mended by a read, then overwritten by a store
abbrev pub cell_after : Trial → ℕ → ℕ → Spot → ℕ → ℕ
cell_after o step twin at cell = overwritten o step twin at (store_at o step) (mended o step twin at (damaged step twin (home at) o.script cell))

-- is a twin dead at an address in a step?
abbrev pub is_dead_at : Trial → ℕ → ℕ → Spot → Bool
is_dead_at o step twin at = is_dead o.script step twin (home at).pair

-- what a twin shows at an address in a step, where it stores this cell
abbrev pub shown_with : Trial → ℕ → ℕ → Spot → ℕ → ℕ
shown_with o step twin at cell = shown_of o.script step twin (home at) cell

-- a stored cell after the damage of a step
abbrev pub damaged_at : Trial → ℕ → ℕ → Spot → ℕ → ℕ
damaged_at o step twin at cell = damaged step twin (home at) o.script cell
