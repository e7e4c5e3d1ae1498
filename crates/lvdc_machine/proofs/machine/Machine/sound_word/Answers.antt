-- What the memory finds at the address that is to be read.
use Rattle.std.proofs.Common.{refl}
use Rattle.lvdc_machine.proofs.Judging.{found-sound}
use Rattle.lvdc_machine.proofs.machine.Machine.sound_word.Goals as goal

pub returns-clause-sound : goal.returns-clause-sound
returns-clause-sound c = rw (← c.self.view_is)
    (found-sound _ c.sound_word.result c.args.at c.in_ok-at.field-0 c.in_ok-at.was (rw (← c.self.view_is) at c.requires.begun) c.sound_word.ensures.recovered
    c.sound_word.ensures.answer)

pub returns-clause-read : goal.returns-clause-read
returns-clause-read c = λ some. rw c.in_ok-at.was refl
