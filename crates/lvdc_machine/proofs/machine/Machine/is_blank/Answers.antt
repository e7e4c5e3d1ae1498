-- The memory has nothing there but 0, which is known.
use Rattle.std.proofs.Common.{true, sym}
use Rattle.lvdc_machine.proofs.Telling.{known-is, shown-known}
use Rattle.lvdc_machine.proofs.machine.Machine.is_blank.Goals as goal

pub returns : goal.returns
returns c = record {
  told = λ blank o r n ds h at ok sector.
      let s = h.shows in
      let holds = (rw (← c.self.view_is) at s).memory in
      let nothing_there = c.is_blank.ensures blank o _ _ _ holds at ok sector in
      sym (shown-known _ _ 0 (known-is s at true h.begun (rw (← c.self.view_is) (sym nothing_there.recovered))) (rw (← c.self.view_is) (sym nothing_there.word)));
  words = λ blank o r n ds h at ok sector.
      let holds = (rw (← c.self.view_is) at h.shows).memory in
      rw (← c.self.view_is) (c.is_blank.ensures blank o _ _ _ holds at ok sector).word;
}
