-- The memory has 0 there, which is known.
use Rattle.std.proofs.Common.{true, sym}
use Rattle.lvdc_machine.proofs.Telling.{known-is, shown-known}
use Rattle.lvdc_machine.proofs.machine.Machine.is_zero.Goals as goal

pub returns : goal.returns
returns c zero o r n ds h at ok same =
    let s = h.shows in
    let holds = (rw (← c.self.view_is) at s).memory in
    let nothing_there = c.is_zero.ensures zero o _ _ _ holds at ok same in
    sym (shown-known _ _ 0 (known-is s at true h.begun (rw (← c.self.view_is) (sym nothing_there.recovered))) (rw (← c.self.view_is) (sym nothing_there.word)))
