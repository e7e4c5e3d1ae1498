-- The code of 0 is at every address.
use Rattle.std.proofs.Common.{◌≡◌, ℕ, ◌<◌, get_or, ◌∙◌}
use Rattle.lvdc_word.specs.Cell.{code_of}
use Rattle.lvdc_fault.proofs.Coding.{codes-zero, memory-zero}
use Rattle.lvdc_fault.proofs.codes.Codes.zero.Goals as goal

all-zero : (c : goal.In_ok-cells) (place d : ℕ) → place < 32768 → get_or c.in_ok-cells.cells.items place d ≡ code_of 0
all-zero c place d small = c.in_ok-cells.ensures.all place d small ∙ c.encode.ensures

pub invariant_of-result : goal.invariant_of-result
invariant_of-result c =
    (codes-zero c.in_ok-cells.cells.items c.in_ok-cells.ensures.size (all-zero c), c.in_ok-cells.ensures.blank ∙ c.encode.ensures)

pub returns : goal.returns
returns c = memory-zero c.in_ok-cells.cells.items c.in_ok-cells.ensures.size (all-zero c)
