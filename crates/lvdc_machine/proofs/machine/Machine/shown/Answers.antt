use Rattle.std.proofs.Common.{◌∙◌, sym}
use Rattle.lvdc_machine.proofs.Telling.{known-is, shown-known, shown-unknown}
use Rattle.lvdc_machine.proofs.machine.Machine.shown.Goals as goal

pub returns-then-recoverable : goal.returns-then-recoverable
returns-then-recoverable c = record {
  told = λ o r n ds h.
      let s = h.shows in
      let holds = (rw (← c.self.view_is) at s).memory in
      shown-known _ _ c.intended.result
      (sym c.if-recoverable.true ∙ known-is s c.args.at c.recoverable.result h.begun (rw (← c.self.view_is) (c.recoverable.ensures o _ _ _ holds)))
      (rw (← c.self.view_is) (c.intended.ensures o _ _ _ holds));
}

pub returns-else-recoverable : goal.returns-else-recoverable
returns-else-recoverable c = record {
  told = λ o r n ds h.
      let s = h.shows in
      let holds = (rw (← c.self.view_is) at s).memory in
      shown-unknown _ _
      (sym c.if-recoverable.false ∙ known-is s c.args.at c.recoverable.result h.begun (rw (← c.self.view_is) (c.recoverable.ensures o _ _ _ holds)));
}
