use Rattle.lvdc_plain.proofs.Causes.{since-start}
use Rattle.lvdc_machine.proofs.Calls.{fit-made}
use Rattle.lvdc_machine.proofs.machine.Machine.exchange.Goals as goal

pub returns-in-Nothing-clause-shows : goal.returns-in-Nothing-clause-shows
returns-in-Nothing-clause-shows g c = λ o v h. rw c.in-Nothing.is (rw c.nothing.ensures at (c.make.ensures.shows o v _ h))

pub returns-in-Nothing-clause-made : goal.returns-in-Nothing-clause-made
returns-in-Nothing-clause-made g c = c.make.ensures.made

pub returns-in-Nothing-clause-since : goal.returns-in-Nothing-clause-since
returns-in-Nothing-clause-since g c = since-start

pub returns-in-Nothing-clause-fit : goal.returns-in-Nothing-clause-fit
returns-in-Nothing-clause-fit g c =
    fit-made (λ b. (goal.PortDevice-dyn g (b.vtable, b.value)).device_of b.value) (λ b. (goal.PortDevice-dyn g (b.vtable, b.value)).spare b.value) c.args.self.now c.make.new.self c.args.devices.now.items c.requires.fit c.make.ensures.made

pub returns-in-Some-clause-shows : goal.returns-in-Some-clause-shows
returns-in-Some-clause-shows g c = λ o v h. c.take.ensures.shows o v _ h

pub returns-in-Some-clause-told : goal.returns-in-Some-clause-told
returns-in-Some-clause-told g c = λ o v h. c.take.ensures.told o v _ h

pub returns-in-Some-clause-made : goal.returns-in-Some-clause-made
returns-in-Some-clause-made g c = c.take.ensures.made

pub returns-in-Some-clause-since : goal.returns-in-Some-clause-since
returns-in-Some-clause-since g c = since-start

pub returns-in-Some-clause-fit : goal.returns-in-Some-clause-fit
returns-in-Some-clause-fit g c =
    fit-made (λ b. (goal.PortDevice-dyn g (b.vtable, b.value)).device_of b.value) (λ b. (goal.PortDevice-dyn g (b.vtable, b.value)).spare b.value) c.args.self.now c.take.new.self c.args.devices.now.items c.requires.fit c.take.ensures.made

pub returns-in_default-wanted : goal.returns-in_default-wanted
returns-in_default-wanted g c = c.exchange_any.ensures
