-- The code of 0 is at each place of the sector.
use Rattle.std.proofs.Common.{ℕ, List, get_or, sym, ap, ◌∙◌}
use Rattle.lvdc_fault.proofs.Coding.{zero-word}
use Rattle.lvdc_fault.proofs.codes.Codes.is_blank.Goals as goal

pub returns : goal.returns
returns c blank number small at =
    ap (λ (words : List ℕ). get_or words number 0) (sym c.self.view_is)
    ∙ zero-word c.self.inside.cells.items number small c.self.invariant.0 (c.is_blank.ensures blank number 0 small at ∙ c.self.invariant.1)
