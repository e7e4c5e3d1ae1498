-- A sound word can be recovered, and of any other the memory is asked.
use Rattle.std.proofs.Common.{◌∙◌, sym, ap}
use Rattle.std.specs.declared.option.Option.TheVariants.{Some}
use Rattle.lvdc_machine.proofs.Judging.{found-good, found-bad, found-recovered}
use Rattle.lvdc_machine.proofs.machine.Machine.found_memory.Goals as goal

pub returns-then-is_sound : goal.returns-then-is_sound
returns-then-is_sound c = λ o v ds h. found-recovered o v c.args.at (c.requires.sound c.if-is_sound.true o v ds h)

pub returns-then-recoverable : goal.returns-then-recoverable
returns-then-recoverable c = λ o v ds h.
    let s = rw (← c.self.view_is) at h in
    let begun = rw (← c.self.view_is) at c.requires.begun in
    rw c.in-Some.is (found-good o v c.in-Some.address
    (sym c.if-recoverable.true ∙ c.recoverable.ensures o (Some v.steps) v.twins v.intended (rw (begun ∙ ap Some s.steps) at s.memory)))

pub returns-else-recoverable : goal.returns-else-recoverable
returns-else-recoverable c = λ o v ds h.
    let s = rw (← c.self.view_is) at h in
    let begun = rw (← c.self.view_is) at c.requires.begun in
    rw c.in-Some.is (found-bad o v c.in-Some.address c.self.inside.steps s.steps
    (sym c.if-recoverable.false ∙ c.recoverable.ensures o (Some v.steps) v.twins v.intended (rw (begun ∙ ap Some s.steps) at s.memory)))
