use Rattle.std.proofs.Common.{◌/◌, ap}
use Rattle.lvdc_port.proofs.Lists.{spare-less}
use Rattle.lvdc_machine.specs.View.{View}
use Rattle.lvdc_machine.proofs.Ports.{port-read, room-spent}
use Rattle.lvdc_machine.proofs.machine.Machine.read_port.Goals as goal

pub returns-in-Ok-clause-shows : goal.returns-in-Ok-clause-shows
returns-in-Ok-clause-shows g c = λ o v h.
    port-read h c.make.new.self _ c.args.port c.in-Ok.word _ c.in-Ok.ensures.ok c.in-Ok.ensures.word (ap (λ (m : View). m.steps / 3) c.self.view_is)
    (λ w s. c.make.ensures.shows o w _ s)

pub returns-in-Ok-clause-fit : goal.returns-in-Ok-clause-fit
returns-in-Ok-clause-fit g c = record {
  distinct = c.answer.ensures.distinct;
  room = c.answer.ensures.spare _ (spare-less (λ b. (goal.PortDevice-dyn g (b.vtable, b.value)).spare b.value) _ _ c.args.devices.now.items
      (room-spent c.args.self.now c.make.new.self c.make.ensures.made c.make.ensures.steps c.requires.may.left c.requires.due) c.requires.fit.room);
}

pub returns-in-Err-clause-fit : goal.returns-in-Err-clause-fit
returns-in-Err-clause-fit g c = record {
  distinct = c.answer.ensures.distinct;
  room = c.in-Err.ensures.spare_err _ c.requires.fit.room;
}
