use Rattle.lvdc_machine.proofs.machine.Machine.intended.Goals as goal

pub returns : goal.returns
returns c = record { told = λ o r n ds h. rw (← c.self.view_is) (c.intended.ensures o _ _ _ (rw (← c.self.view_is) at h.shows).memory) }
