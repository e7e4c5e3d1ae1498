use Rattle.lvdc_plain.proofs.Causes.{since-start}
use Rattle.lvdc_machine.proofs.Calls.{fit-made}
use Rattle.lvdc_machine.proofs.machine.Machine.exchange_any.Goals as goal

pub returns-in-Fetch-clause-shows : goal.returns-in-Fetch-clause-shows
returns-in-Fetch-clause-shows g c = λ o v h. rw c.in-Fetch.is (c.read_any.ensures.shows o v _ h)

pub returns-in-Operand-clause-shows : goal.returns-in-Operand-clause-shows
returns-in-Operand-clause-shows g c = λ o v h. rw c.in-Operand.is (c.read_any-in-Operand.ensures.shows o v _ h)

pub returns-in-Fetch-clause-told : goal.returns-in-Fetch-clause-told
returns-in-Fetch-clause-told g c = λ o v h. rw c.in-Fetch.is (c.read_any.ensures.told o v _ h)

pub returns-in-Operand-clause-told : goal.returns-in-Operand-clause-told
returns-in-Operand-clause-told g c = λ o v h. rw c.in-Operand.is (c.read_any-in-Operand.ensures.told o v _ h)

pub returns-in-PortRead-clause-told : goal.returns-in-PortRead-clause-told
returns-in-PortRead-clause-told g c = rw c.in-PortRead.is c.read_port.ensures.told

pub returns-in-Store-clause-shows : goal.returns-in-Store-clause-shows
returns-in-Store-clause-shows g c = λ o v h. rw c.in-Store.is (c.store.ensures.shows o v _ h)

pub returns-in-PortRead-clause-shows : goal.returns-in-PortRead-clause-shows
returns-in-PortRead-clause-shows g c = rw c.in-PortRead.is c.read_port.ensures.shows

pub returns-in-PortRead-clause-named : goal.returns-in-PortRead-clause-named
returns-in-PortRead-clause-named g c = rw c.in-PortRead.is c.read_port.ensures.named

pub returns-in-PortWrite-clause-shows : goal.returns-in-PortWrite-clause-shows
returns-in-PortWrite-clause-shows g c = rw c.in-PortWrite.is c.write_port.ensures.shows

pub returns-in-PortWrite-clause-named : goal.returns-in-PortWrite-clause-named
returns-in-PortWrite-clause-named g c = rw c.in-PortWrite.is c.write_port.ensures.named

pub returns-in-PortRead-clause-made : goal.returns-in-PortRead-clause-made
returns-in-PortRead-clause-made g c = c.read_port.ensures.made

pub returns-in-PortRead-clause-since : goal.returns-in-PortRead-clause-since
returns-in-PortRead-clause-since g c = c.read_port.ensures.since

pub returns-in-PortRead-clause-fails : goal.returns-in-PortRead-clause-fails
returns-in-PortRead-clause-fails g c = c.read_port.ensures.fails

pub returns-in-PortRead-clause-unchanged : goal.returns-in-PortRead-clause-unchanged
returns-in-PortRead-clause-unchanged g c = c.read_port.ensures.unchanged

pub returns-in-PortWrite-clause-made : goal.returns-in-PortWrite-clause-made
returns-in-PortWrite-clause-made g c = c.write_port.ensures.made

pub returns-in-PortWrite-clause-since : goal.returns-in-PortWrite-clause-since
returns-in-PortWrite-clause-since g c = c.write_port.ensures.since

pub returns-in-PortWrite-clause-fails : goal.returns-in-PortWrite-clause-fails
returns-in-PortWrite-clause-fails g c = c.write_port.ensures.fails

pub returns-in-PortWrite-clause-unchanged : goal.returns-in-PortWrite-clause-unchanged
returns-in-PortWrite-clause-unchanged g c = c.write_port.ensures.unchanged

pub returns-in-Fetch-clause-made : goal.returns-in-Fetch-clause-made
returns-in-Fetch-clause-made g c = c.read_any.ensures.made

pub returns-in-Fetch-clause-since : goal.returns-in-Fetch-clause-since
returns-in-Fetch-clause-since g c = since-start

pub returns-in-Store-clause-made : goal.returns-in-Store-clause-made
returns-in-Store-clause-made g c = c.store.ensures.made

pub returns-in-Store-clause-since : goal.returns-in-Store-clause-since
returns-in-Store-clause-since g c = since-start

pub returns-in-PortRead-clause-fit : goal.returns-in-PortRead-clause-fit
returns-in-PortRead-clause-fit g c = c.read_port.ensures.fit

pub returns-in-PortWrite-clause-fit : goal.returns-in-PortWrite-clause-fit
returns-in-PortWrite-clause-fit g c = c.write_port.ensures.fit

pub returns-in-Fetch-clause-fit : goal.returns-in-Fetch-clause-fit
returns-in-Fetch-clause-fit g c =
    fit-made (λ b. (goal.PortDevice-dyn g (b.vtable, b.value)).device_of b.value) (λ b. (goal.PortDevice-dyn g (b.vtable, b.value)).spare b.value) c.args.self.now c.read_any.new.self c.args.devices.now.items c.requires.fit c.read_any.ensures.made

pub returns-in-Store-clause-fit : goal.returns-in-Store-clause-fit
returns-in-Store-clause-fit g c =
    fit-made (λ b. (goal.PortDevice-dyn g (b.vtable, b.value)).device_of b.value) (λ b. (goal.PortDevice-dyn g (b.vtable, b.value)).spare b.value) c.args.self.now c.store.new.self c.args.devices.now.items c.requires.fit c.store.ensures.made

pub returns-in-Operand-clause-made : goal.returns-in-Operand-clause-made
returns-in-Operand-clause-made g c = c.read_any-in-Operand.ensures.made

pub returns-in-Operand-clause-since : goal.returns-in-Operand-clause-since
returns-in-Operand-clause-since g c = since-start

pub returns-in-Operand-clause-fit : goal.returns-in-Operand-clause-fit
returns-in-Operand-clause-fit g c =
    fit-made (λ b. (goal.PortDevice-dyn g (b.vtable, b.value)).device_of b.value) (λ b. (goal.PortDevice-dyn g (b.vtable, b.value)).spare b.value) c.args.self.now c.read_any-in-Operand.new.self c.args.devices.now.items c.requires.fit c.read_any-in-Operand.ensures.made
