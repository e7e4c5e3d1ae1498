-- The fields of a fault line.
use Rattle.std.specs.Prelude.{ℕ, ◌^◌, nat_le, List, if◌then◌else◌, Option, None, Some}
use Rattle.lvdc_map.specs.Address.{Spot}
use Rattle.lvdc_text.specs.Numbers.{number_of, plain_number_of, below}
use Rattle.lvdc_vote.specs.Numbers.{latches_of}
use Rattle.lvdc_fault.specs.Events.{STEPS}
use Rattle.lvdc_lines.specs.declared.fields.ModuleCopy.{ModuleCopy}
use Rattle.lvdc_lines.specs.declared.fields.Span.{Span}

-- the number, where it is the first or a later one
abbrev pub from : ℕ → Option ℕ → Option ℕ
from first None = None
from first (Some n) = if nat_le first n then Some n else None

-- a decimal number without a needless zero, from the first on and below the limit
abbrev pub decimal_in : ℕ → ℕ → List ℕ → Option ℕ
decimal_in first limit text = from first (below limit (plain_number_of 7 text))

-- a number of octal digits, at most so many, below the limit
abbrev pub octal_in : ℕ → ℕ → List ℕ → Option ℕ
octal_in limit digits text = below limit (number_of 8 digits text)

-- a step
unfoldable pub step_in : List ℕ → Option ℕ
step_in text = decimal_in 0 STEPS text

-- a twin: 0 or 1
unfoldable pub twin_in : List ℕ → Option ℕ
twin_in text = decimal_in 0 2 text

-- a pair: 0 to 3
unfoldable pub pair_in : List ℕ → Option ℕ
pair_in text = octal_in 4 1 text

-- bits of a cell
unfoldable pub cell_in : List ℕ → Option ℕ
cell_in text = octal_in (2 ^ 28) 10 text

-- the copy of these numbers
abbrev pub module_copy_of : Option ℕ → Option ℕ → Option ModuleCopy
module_copy_of (Some number) (Some copy) = Some (record { number = number; copy = copy })
module_copy_of _ _ = None

-- a module, 1 to 7, and a copy, 1 to 3
unfoldable pub module_copy_in : List ℕ → List ℕ → Option ModuleCopy
module_copy_in number copy = module_copy_of (decimal_in 1 8 number) (decimal_in 1 4 copy)

-- a latch of the module
unfoldable pub index_in : Option ModuleCopy → List ℕ → Option ℕ
index_in (Some named) text = decimal_in 0 (latches_of named.number) text
index_in None text = None

-- the steps from the first to the last, where they are in order
abbrev pub span_of : Option ℕ → Option ℕ → Option Span
span_of (Some first) (Some last) = if nat_le first last then Some (record { first = first; last = last }) else None
span_of _ _ = None

-- the first and the last step
unfoldable pub span_in : List ℕ → List ℕ → Option Span
span_in first last = span_of (step_in first) (step_in last)

-- the place of these numbers
abbrev pub place_of : Option ℕ → Option ℕ → Option ℕ → Option Spot
place_of (Some pair) (Some sector) (Some loc) = Some (record { pair = pair; sector = sector; loc = loc })
place_of _ _ _ = None

-- a pair, a sector and a location
unfoldable pub place_in : List ℕ → List ℕ → List ℕ → Option Spot
place_in pair sector loc = place_of (pair_in pair) (octal_in 16 2 sector) (octal_in 256 3 loc)
