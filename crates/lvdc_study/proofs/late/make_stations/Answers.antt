use Rattle.std.proofs.Common.{map}
use Rattle.lvdc_study.specs.Study.{opening_over}
use Rattle.lvdc_study.proofs.Making.{starts-free}
use Rattle.lvdc_study.proofs.late.make_stations.Goals as goal

pub stations_of-requires-clause-fault_free : goal.stations_of-requires-clause-fault_free
stations_of-requires-clause-fault_free g c =
    let begins = c.in_ok-machine.ensures.begins in
    record {
      program = opening_over c.args.program.now (map (λ b. (goal.PortDevice-dyn g (b.vtable, b.value)).device_of b.value) c.args.devices.now.items);
      under_way = starts-free c.args.program.now _ _ _ c.in_ok-unplugs.ensures.items c.in_ok-supply_all.ensures.ok _ c.in_ok-machine.machine _ c.new.ensures
          begins.opening begins.fresh begins.stands;
    }

pub returns : goal.returns
returns g c =
    let begins = c.in_ok-machine.ensures.begins in
    c.stations_of.ensures (opening_over c.args.program.now (map (λ b. (goal.PortDevice-dyn g (b.vtable, b.value)).device_of b.value) c.args.devices.now.items))
    (starts-free c.args.program.now _ _ _ c.in_ok-unplugs.ensures.items c.in_ok-supply_all.ensures.ok _ c.in_ok-machine.machine _ c.new.ensures
    begins.opening begins.fresh begins.stands)
