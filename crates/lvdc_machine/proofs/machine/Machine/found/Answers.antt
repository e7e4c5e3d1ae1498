use Rattle.std.proofs.Common.{◌∙◌, sym, ap, arith}
use Rattle.lvdc_model.specs.Runs.{read_of_wish}
use Rattle.lvdc_machine.proofs.Judging.{found-wrong, found-none, known_then}
use Rattle.lvdc_machine.proofs.machine.Machine.found.Goals as goal

pub returns-in-Some-clause-verdict : goal.returns-in-Some-clause-verdict
returns-in-Some-clause-verdict c = λ o v ds h is.
    let known = known_then c.self.inside.script c.self.inside.on_memory.last c.self.inside.steps c.self.inside.forces.known c.self.invariant.known (rw (← c.self.view_is) at c.requires.begun) in
    found-wrong (rw (← c.self.view_is) at h) c.in-Some.number (sym known.wrong ∙ sym c.wrong_module.ensures ∙ c.in-Some.is)

pub returns-in-None-clause-verdict : goal.returns-in-None-clause-verdict
returns-in-None-clause-verdict c = λ o v ds h is.
    let known = known_then c.self.inside.script c.self.inside.on_memory.last c.self.inside.steps c.self.inside.forces.known c.self.invariant.known (rw (← c.self.view_is) at c.requires.begun) in
    found-none (rw (← c.self.view_is) at h) c.found_memory.result c.read_of.result (sym known.wrong ∙ sym c.wrong_module.ensures ∙ c.in-None.is)
    (c.found_memory.ensures o v ds h) (c.read_of.ensures.value ∙ ap read_of_wish is)

pub returns-in-None-clause-right : goal.returns-in-None-clause-right
returns-in-None-clause-right c = λ good.
    let known = known_then c.self.inside.script c.self.inside.on_memory.last c.self.inside.steps c.self.inside.forces.known c.self.invariant.known (rw (← c.self.view_is) at c.requires.begun) in
    rw (← c.self.view_is) (c.none_wrong.ensures c.self.inside.script c.self.inside.steps (sym known.wrong ∙ sym c.wrong_module.ensures ∙ c.in-None.is) 1 (omega arith) (omega arith))

pub found_memory-requires-clause-begun : goal.found_memory-requires-clause-begun
found_memory-requires-clause-begun c = c.requires.begun

pub found_memory-requires-clause-there : goal.found_memory-requires-clause-there
found_memory-requires-clause-there c = c.read_of.ensures.there _ c.requires.there

pub found_memory-requires-clause-sound : goal.found_memory-requires-clause-sound
found_memory-requires-clause-sound c = λ is. rw c.read_of.ensures.value (c.requires.sound is)

pub returns-in-Some-clause-right : goal.returns-in-Some-clause-right
returns-in-Some-clause-right c = λ is. absurd (cc is)
