use Rattle.std.proofs.Common.{take}
use Rattle.lvdc_withstands.proofs.Sweeps.{Swept}
use Rattle.lvdc_withstands.proofs.copies.are_apart.Given as goal

abbrev pub invariant-loop-line : goal.invariant-loop-line
invariant-loop-line l = Swept (take l.line-index l.lines) l.number l.one l.other l.one_until l.other_until
