use Rattle.std.proofs.Common.{refl, ap, ◌∙◌}
use Rattle.std.proofs.lemmas.Option.{slice_get_read}
use Rattle.lvdc_port.specs.Supplies.{kind_at, ports_of, kinds_of}
use Rattle.lvdc_port.proofs.Supplied.{ports-supply, kinds-supply, distinct-ports, supplied-more}
use Rattle.lvdc_port.proofs.supplies.supply_all.Goals as goal

pub returns-in-Err-clause-err : goal.returns-in-Err-clause-err
returns-in-Err-clause-err g c = record {
  count = c.loop-supply.supply-index;
  next = c.supply-item.result;
  is_next = slice_get_read c.args.supplies.now _ _ _ refl c.loop-supply-test.true c.supply-item.is;
  tape = ap (λ devices. kind_at (λ device. device) c.supply-item.result.port devices) c.in-Err.ensures.err ∙ c.in-Err.ensures.want;
  devices = c.in-Err.ensures.err ∙ c.loop-supply.invariant.front;
}

pub returns-in-Err-clause-distinct : goal.returns-in-Err-clause-distinct
returns-in-Err-clause-distinct g c =
    distinct-ports _ _ (ap ports_of c.in-Err.ensures.err ∙ c.loop-supply.invariant.ports)

pub loop-supply-preserved : goal.loop-supply-preserved
loop-supply-preserved g c = record {
  front = supplied-more c.args.supplies.now c.loop-supply.supply-index c.supply-item.result _ _ _ c.loop-supply-test.true c.supply-item.is c.in-Ok.ensures.ok c.loop-supply.invariant.front;
  ports = ap ports_of c.in-Ok.ensures.ok ∙ ports-supply _ _ ∙ c.loop-supply.invariant.ports;
  kinds = ap kinds_of c.in-Ok.ensures.ok ∙ kinds-supply _ _ ∙ c.loop-supply.invariant.kinds;
  spare = c.supply_one.ensures.spare ∙ c.loop-supply.invariant.spare;
  faults = c.supply_one.ensures.faults ∙ c.loop-supply.invariant.faults;
  told = c.supply_one.ensures.told ∙ c.loop-supply.invariant.told;
}

pub returns-clause-distinct : goal.returns-clause-distinct
returns-clause-distinct g c = distinct-ports _ _ c.loop-supply.invariant.ports
