use Rattle.lvdc_machine.proofs.machine.Machine.verdict.Goals as goal

pub returns-in-Guarded-clause-verdict : goal.returns-in-Guarded-clause-verdict
returns-in-Guarded-clause-verdict c = λ o v ds h is.
    let found = c.found.ensures.verdict o v ds h is in
    rw (← c.self.view_is, c.in-Guarded.is) found
