use Rattle.std.proofs.Common.{ℕ, ◌*◌, ◌/◌, ◌≡◌, map, arith, refl, sym, ap, subst}
use Rattle.lvdc_port.specs.Supplies.{ports_of}
use Rattle.lvdc_laws_runs.specs.Early.{AllBeginFrom}
use Rattle.lvdc_machine.specs.declared.mode.Pace.TheVariants.{ByStep}
use Rattle.lvdc_machine.proofs.Refused.{since-same}
use Rattle.lvdc_runs.proofs.Stationed.{has_run-late}
use Rattle.lvdc_study.specs.Study.{opening_over}
use Rattle.lvdc_study.specs.declared.fault.Unstudied.TheVariants.{Device as DeviceFailed}
use Rattle.lvdc_study.proofs.Making.{late-exchange, has-failed, since-run, since-on, failed-since}
use Rattle.lvdc_study.proofs.late.run_from.Goals as goal

pub returns-in-None-clause-judged : goal.returns-in-None-clause-judged
returns-in-None-clause-judged g c =
    let program = c.args.program.now in
    let p = opening_over program (map (λ b. (goal.PortDevice-dyn g (b.vtable, b.value)).device_of b.value) c.args.devices.now.items) in
    let at = c.in_ok-machine.ensures in
    let leaves = c.run.ensures.leaves in
    has_run-late p program.count c.args.station.now c.args.script c.args.times c.requires.ahead c.in_ok-machine.machine c.run.new.self _ c.requires.station ByStep at.fresh leaves.keeps
    c.in-None.ensures leaves.fit.distinct
    (c.run.ensures.stands _ _ c.args.station.now.steps (at.stands p c.requires.station (sym c.in_ok-unplugs.ensures.items) c.in-Ok.ensures.brought))

pub returns-in-None-clause-since : goal.returns-in-None-clause-since
returns-in-None-clause-since g c =
    let answers = c.run.ensures.answers in
    let at = c.in_ok-machine.ensures in
    since-on c.args.devices.now.items c.bring.new.devices.items c.run.new.devices.items c.in-Ok.ensures.since
    (since-run _ _ c.bring.new.devices.items c.machine_at.new.devices.items c.run.new.devices.items (ap ports_of at.devices) at.faults
    c.run.new.self.end c.in-None.ensures (rw (sym answers.answer) (answers.cause (rw at.fresh.end refl))) c.run.ensures.leaves.left)

pub returns-in-Some-clause-failed : goal.returns-in-Some-clause-failed
returns-in-Some-clause-failed g c =
    let answers = c.run.ensures.answers in
    let at = c.in_ok-machine.ensures in
    let same = since-same {device_of = (λ b. (goal.PortDevice-dyn g (b.vtable, b.value)).device_of b.value)} {count = (λ b. (goal.PortDevice-dyn g (b.vtable, b.value)).faults b.value)}
    c.bring.new.devices.items c.machine_at.new.devices.items at.devices at.faults in
    failed-since (λ b. (goal.PortDevice-dyn g (b.vtable, b.value)).device_of b.value) (λ b. (goal.PortDevice-dyn g (b.vtable, b.value)).faults b.value)
    c.args.devices.now.items c.bring.new.devices.items c.run.new.devices.items c.in-Ok.ensures.since (λ port has. same.left port (c.run.ensures.leaves.left port has)) (DeviceFailed c.in-Some.port)
    (has-failed _ _ c.bring.new.devices.items c.machine_at.new.devices.items c.run.new.devices.items (ap ports_of at.devices) at.faults
    c.run.new.self.end c.in-Some.port c.in-Some.ensures (rw (sym answers.answer) (answers.cause (rw at.fresh.end refl))))

pub returns-in-Some-clause-fails : goal.returns-in-Some-clause-fails
returns-in-Some-clause-fails g c =
    let program = c.args.program.now in
    let p = opening_over program (map (λ b. (goal.PortDevice-dyn g (b.vtable, b.value)).device_of b.value) c.args.devices.now.items) in
    late-exchange p program.count c.args.times c.args.station.now c.args.script c.run.new.self _ c.in-Some.port c.requires.station c.requires.ahead
    (c.run.ensures.stands _ _ c.args.station.now.steps (c.in_ok-machine.ensures.stands p c.requires.station (sym c.in_ok-unplugs.ensures.items) c.in-Ok.ensures.brought))
    c.in-Some.ensures

pub returns-in-Err-clause-fails : goal.returns-in-Err-clause-fails
returns-in-Err-clause-fails g c =
    let program = c.args.program.now in
    let p = opening_over program (map (λ b. (goal.PortDevice-dyn g (b.vtable, b.value)).device_of b.value) c.args.devices.now.items) in
    let steps = c.args.station.now.steps in
    let ahead = c.requires.ahead in
    let times = c.requires.station.whole.times in
    let whole : 3 * (steps / 3) ≡ steps = omega (arith, times) in
    c.fails_early.ensures p c.args.script (steps / 3) c.args.times c.requires.station.opening
    (subst (λ (n : ℕ). AllBeginFrom n c.args.script) (sym whole) c.requires.later) (omega (arith, ahead)) c.in-Err.e c.in-Err.ensures.fails
