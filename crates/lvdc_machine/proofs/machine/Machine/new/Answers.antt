use Rattle.std.proofs.Common.{ℕ, ap, subst, ◌∙◌}
use Rattle.lvdc_port.specs.Devices.{HasSpare, HoldWords}
use Rattle.lvdc_machine.specs.declared.mode.Pace.{Pace}
use Rattle.lvdc_machine.specs.Room.{exchanges_left}
use Rattle.lvdc_machine.proofs.Starting.{fresh-fit, if-ok-weaker}
use Rattle.lvdc_machine.proofs.machine.Machine.new.Goals as goal

pub returns-clause-begins : goal.returns-clause-begins
returns-clause-begins g c =
    rw c.prepare_all.ensures.devices (c.at_start.ensures.begins _ (subst HoldWords c.prepare_all.ensures.devices c.in_ok-prepare_all.ensures.words))

pub returns-clause-fit : goal.returns-clause-fit
returns-clause-fit g c =
    if-ok-weaker c.at_start.result _ _ (λ machine begins.
    fresh-fit (λ b. (goal.PortDevice-dyn g (b.vtable, b.value)).device_of b.value) (λ b. (goal.PortDevice-dyn g (b.vtable, b.value)).spare b.value) begins.fresh c.prepare_all.new.devices.items (rw (← c.prepare_all.ensures.devices) at c.requires.distinct)
    (subst (λ (n : ℕ). HasSpare (λ b. (goal.PortDevice-dyn g (b.vtable, b.value)).spare b.value) n c.prepare_all.new.devices.items)
    (c.exchanges.ensures ∙ ap (λ (p : Pace). exchanges_left p 0 c.args.limit) c.of.ensures) c.in_ok-prepare_all.ensures.ok))
    (c.at_start.ensures.begins _ c.in_ok-prepare_all.ensures.words)

pub returns-clause-devices : goal.returns-clause-devices
returns-clause-devices g c = c.prepare_all.ensures.devices

pub returns-clause-faults : goal.returns-clause-faults
returns-clause-faults g c = c.prepare_all.ensures.faults
