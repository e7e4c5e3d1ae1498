use Rattle.lvdc_machine.proofs.Starting.{fresh-fit, if-ok-weaker}
use Rattle.lvdc_machine.proofs.machine.Machine.from_snapshot.Goals as goal

pub returns-clause-stands : goal.returns-clause-stands
returns-clause-stands g c = rw c.prepare_all.ensures.devices (c.resumed.ensures.stands _)

pub returns-clause-fresh : goal.returns-clause-fresh
returns-clause-fresh g c = c.resumed.ensures.fresh

pub returns-clause-fit : goal.returns-clause-fit
returns-clause-fit g c =
    if-ok-weaker c.resumed.result _ _ (λ machine fresh.
    fresh-fit (λ b. (goal.PortDevice-dyn g (b.vtable, b.value)).device_of b.value) (λ b. (goal.PortDevice-dyn g (b.vtable, b.value)).spare b.value) fresh c.prepare_all.new.devices.items (rw (← c.prepare_all.ensures.devices) at c.requires.distinct) c.in_ok-prepare_all.ensures.ok)
    c.resumed.ensures.fresh

pub returns-clause-devices : goal.returns-clause-devices
returns-clause-devices g c = c.prepare_all.ensures.devices

pub returns-clause-faults : goal.returns-clause-faults
returns-clause-faults g c = c.prepare_all.ensures.faults
