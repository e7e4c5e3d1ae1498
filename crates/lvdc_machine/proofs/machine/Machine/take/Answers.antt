-- A sound word is what a read of its address finds.
use Rattle.lvdc_machine.proofs.Arms.{shows-sound}
use Rattle.lvdc_machine.proofs.HandedOut.{sound-told}
use Rattle.lvdc_machine.proofs.machine.Machine.take.Goals as goal

pub returns-clause-shows : goal.returns-clause-shows
returns-clause-shows c = λ o v ds h.
    shows-sound v c.args.wanted c.args.word (c.requires.sound o v ds h) c.requires.read (rw c.nothing.ensures at (c.make.ensures.shows o v ds h))

pub returns-clause-told : goal.returns-clause-told
returns-clause-told c = λ o v ds h. sound-told o v c.args.wanted c.args.word (c.requires.sound o v ds h) c.requires.read
