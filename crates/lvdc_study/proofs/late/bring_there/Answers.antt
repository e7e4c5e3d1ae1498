use Rattle.std.proofs.Common.{map, sym, ◌∙◌}
use Rattle.lvdc_study.specs.Study.{opening_over}
use Rattle.lvdc_study.proofs.Making.{is-nil, since-supplied}
use Rattle.lvdc_study.proofs.late.bring_there.Goals as goal

pub returns-then-is_empty-2-clause-brought : goal.returns-then-is_empty-2-clause-brought
returns-then-is_empty-2-clause-brought g c =
    let program = c.args.program.now in
    let p = opening_over program (map (λ b. (goal.PortDevice-dyn g (b.vtable, b.value)).device_of b.value) c.args.devices.now.items) in
    let stay = is-nil program.unplugs.now (sym c.is_empty.ensures ∙ c.if-is_empty.true) in
    let quiet = sym c.items.ensures ∙ is-nil c.items.result.now (sym c.is_empty-then-is_empty.ensures ∙ c.if-is_empty-2.true) in
    c.in_ok-supply_all.ensures.ok ∙ sym (c.quiet_stations_leave_devices.ensures p program.count c.args.station.now c.requires.station stay quiet)

pub returns-then-is_empty-2-clause-since : goal.returns-then-is_empty-2-clause-since
returns-then-is_empty-2-clause-since g c =
    since-supplied _ _ c.args.devices.now.items c.supply_all.new.devices.items c.supply_all.new.devices.items
    c.in_ok-supply_all.ensures.ports c.in_ok-supply_all.ensures.faults
