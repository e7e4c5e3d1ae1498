use Rattle.std.proofs.Common.{arith, Some, sym, ap, ◌∙◌}
use Rattle.lvdc_port.proofs.Places.{first_within, kept_first}
use Rattle.lvdc_port.proofs.Supplied.{supply_first, supply_lacking, kind_first, kind-map}
use Rattle.lvdc_port.proofs.supplies.supply_one.Goals as goal

pub returns-in_default-clause-ok : goal.returns-in_default-clause-ok
returns-in_default-clause-ok g c =
    supply_lacking c.args.supply.now (rw c.deref.ensures.value at c.in_default.ensures)

pub index_mut-device-requires : goal.index_mut-device-requires
index_mut-device-requires g c =
    omega (arith, first_within c.in-Some.ensures, c.deref.ensures.len)

pub returns-in-Ok-clause-ok : goal.returns-in-Ok-clause-ok
returns-in-Ok-clause-ok g c =
    supply_first c.args.supply.now _ _ (rw c.deref.ensures.value at c.in-Some.ensures) c.index_mut-device.ensures.value c.in-Ok.ensures.ok

pub returns-in-Ok-clause-spare : goal.returns-in-Ok-clause-spare
returns-in-Ok-clause-spare g c = kept_first _ _ _ _ _ c.index_mut-device.ensures.value c.in-Ok.ensures.spare

pub returns-in-Ok-clause-faults : goal.returns-in-Ok-clause-faults
returns-in-Ok-clause-faults g c = kept_first _ _ _ _ _ c.index_mut-device.ensures.value c.in-Ok.ensures.faults

pub returns-in-Ok-clause-told : goal.returns-in-Ok-clause-told
returns-in-Ok-clause-told g c = kept_first _ _ _ _ _ c.index_mut-device.ensures.value c.in-Ok.ensures.told

pub returns-in-Err-clause-err : goal.returns-in-Err-clause-err
returns-in-Err-clause-err g c = kept_first _ _ _ _ _ c.index_mut-device.ensures.value c.in-Err.ensures.err

pub returns-in-Err-clause-spare : goal.returns-in-Err-clause-spare
returns-in-Err-clause-spare g c = kept_first _ _ _ _ _ c.index_mut-device.ensures.value c.in-Err.ensures.spare

pub returns-in-Err-clause-faults : goal.returns-in-Err-clause-faults
returns-in-Err-clause-faults g c = kept_first _ _ _ _ _ c.index_mut-device.ensures.value c.in-Err.ensures.faults

pub returns-in-Err-clause-told : goal.returns-in-Err-clause-told
returns-in-Err-clause-told g c = kept_first _ _ _ _ _ c.index_mut-device.ensures.value c.in-Err.ensures.told

pub returns-in-Err-clause-want : goal.returns-in-Err-clause-want
returns-in-Err-clause-want g c =
    sym (kind-map _ c.args.supply.now.port _)
    ∙ kind_first _ (rw c.deref.ensures.value at c.in-Some.ensures) c.index_mut-device.ensures.value
    ∙ ap (λ k. Some k) c.in-Err.ensures.want
