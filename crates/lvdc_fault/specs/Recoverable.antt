-- Whether the word of an address can be recovered from what the twins show there.
use Rattle.std.specs.Prelude.{ℕ, ◌/◌, ◌%◌, Bool, ◌==◌, if◌then◌else◌}
use Rattle.lvdc_word.specs.Cell.{code_of}
use Rattle.lvdc_map.specs.Address.{Spot}
use Rattle.lvdc_map.specs.Banks.{is_simplex}
use Rattle.lvdc_twin.specs.Store.{survives}

-- of a simplex pair the twin with the bank shows the word's cell; of a duplex pair the cell survives in what the two twins show
abbrev pub is_recovered : ℕ → Spot → ℕ → (ℕ → ℕ) → Bool
is_recovered banks at w shown =
    if is_simplex banks (at.pair % 4) then shown (at.pair / 4) == code_of w else survives (code_of w) (shown 0) (shown 1)

-- the same of a cell, by whether its pair is simplex
abbrev pub recovers_by : Bool → ℕ → ℕ → (ℕ → ℕ) → Bool
recovers_by simplex bank cell shown = if simplex then shown (bank / 4) == cell else survives cell (shown 0) (shown 1)

-- what each twin shows, of two
abbrev pub shown_by : ℕ → ℕ → ℕ → ℕ
shown_by zeroth first twin = if twin == 0 then zeroth else first
