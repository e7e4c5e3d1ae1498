use Rattle.lvdc_logic.proofs.logic.Logic.copy_word.Goals as goal

pub returns-else-self : goal.returns-else-self
returns-else-self c = rw (← c.self.view_is, c.if-self.false) (c.latch_on.ensures c.args.copy)
