use Rattle.std.proofs.Common.{subst, ◌∙◌, arith}
use Rattle.lvdc_port.specs.Devices.{RoomFor}
use Rattle.lvdc_port.proofs.Places.{word_first, after_first, count_first, fault_first, others_first, first_within, spare_at_answered, spare_at_failed, told_first, told_lacking, word_lacking, after_lacking, others_same, kept_first, has_first}
use Rattle.lvdc_port.proofs.requests.exchange.Goals as goal

pub returns-in_default-clause-word : goal.returns-in_default-clause-word
returns-in_default-clause-word g c =
    let lacks = rw (c.deref.ensures.value, c.port-port.ensures) at c.in_default.ensures in word_lacking c.args.request c.args.time lacks

pub returns-in_default-clause-ok : goal.returns-in_default-clause-ok
returns-in_default-clause-ok g c =
    let lacks = rw (c.deref.ensures.value, c.port-port.ensures) at c.in_default.ensures in after_lacking c.args.request lacks

pub returns-in_default-clause-others : goal.returns-in_default-clause-others
returns-in_default-clause-others g c =
    let lacks = rw (c.deref.ensures.value, c.port-port.ensures) at c.in_default.ensures in others_same lacks

pub index_mut-device-requires : goal.index_mut-device-requires
index_mut-device-requires g c =
    omega (arith, first_within c.in-Some.ensures, c.deref.ensures.len)

pub serve-requires : goal.serve-requires
serve-requires g c =
    let first = rw (c.deref.ensures.value, c.port-port.ensures) at c.in-Some.ensures in
    subst (λ room. RoomFor c.args.request room) (count_first _ _ first c.index_mut-device.ensures.value) (c.requires (has_first first))

pub returns-in-Ok-clause-word : goal.returns-in-Ok-clause-word
returns-in-Ok-clause-word g c =
    let first = rw (c.deref.ensures.value, c.port-port.ensures) at c.in-Some.ensures in c.in-Ok.ensures.word ∙ word_first c.args.request c.args.time _ first c.index_mut-device.ensures.value

pub returns-in-Ok-clause-ok : goal.returns-in-Ok-clause-ok
returns-in-Ok-clause-ok g c =
    let first = rw (c.deref.ensures.value, c.port-port.ensures) at c.in-Some.ensures in after_first c.args.request _ _ first c.index_mut-device.ensures.value c.in-Ok.ensures.ok

pub returns-in-Ok-clause-others : goal.returns-in-Ok-clause-others
returns-in-Ok-clause-others g c =
    let first = rw (c.deref.ensures.value, c.port-port.ensures) at c.in-Some.ensures in others_first _ first

pub returns-in-Ok-clause-faults : goal.returns-in-Ok-clause-faults
returns-in-Ok-clause-faults g c =
    kept_first _ _ _ _ _ c.index_mut-device.ensures.value c.in-Ok.ensures.cause.answered

pub returns-in-Err-clause-err : goal.returns-in-Err-clause-err
returns-in-Err-clause-err g c =
    kept_first _ _ _ _ _ c.index_mut-device.ensures.value c.in-Err.ensures.err

pub returns-in-Err-clause-others : goal.returns-in-Err-clause-others
returns-in-Err-clause-others g c =
    let first = rw (c.deref.ensures.value, c.port-port.ensures) at c.in-Some.ensures in others_first _ first

pub returns-in-Err-clause-fault : goal.returns-in-Err-clause-fault
returns-in-Err-clause-fault g c =
    let first = rw c.deref.ensures.value at c.in-Some.ensures in
    let fault = fault_first _ _ _ _ first c.index_mut-device.ensures.value c.in-Err.ensures.err c.faults_of.ensures c.in-Err.ensures.cause.failed in
    (c.port-port.ensures, fault.0, fault.1)

pub returns-in-Err-clause-spare_err : goal.returns-in-Err-clause-spare_err
returns-in-Err-clause-spare_err g c =
    kept_first _ _ _ _ _ c.index_mut-device.ensures.value c.in-Err.ensures.spare_err

pub returns-in-Ok-clause-spare_at : goal.returns-in-Ok-clause-spare_at
returns-in-Ok-clause-spare_at g c =
    let first = rw (c.deref.ensures.value, c.port-port.ensures) at c.in-Some.ensures in
    spare_at_answered (λ b. (goal.PortDevice-dyn g (b.vtable, b.value)).spare b.value) c.args.request _ _ first c.index_mut-device.ensures.value c.in-Ok.ensures.ok c.in-Ok.ensures.spare

pub returns-in-Err-clause-spare_at : goal.returns-in-Err-clause-spare_at
returns-in-Err-clause-spare_at g c =
    let first = rw (c.deref.ensures.value, c.port-port.ensures) at c.in-Some.ensures in
    spare_at_failed (λ b. (goal.PortDevice-dyn g (b.vtable, b.value)).spare b.value) _ _ first c.index_mut-device.ensures.value c.in-Err.ensures.err c.in-Err.ensures.spare

pub returns-in_default-clause-told : goal.returns-in_default-clause-told
returns-in_default-clause-told g c =
    let lacks = rw (c.deref.ensures.value, c.port-port.ensures) at c.in_default.ensures in
    told_lacking (λ b. (goal.PortDevice-dyn g (b.vtable, b.value)).told b.value) c.args.request c.args.time lacks

pub returns-in-Ok-clause-told : goal.returns-in-Ok-clause-told
returns-in-Ok-clause-told g c =
    let first = rw (c.deref.ensures.value, c.port-port.ensures) at c.in-Some.ensures in
    told_first (λ b. (goal.PortDevice-dyn g (b.vtable, b.value)).told b.value) c.args.request c.args.time _ _ first c.index_mut-device.ensures.value c.in-Ok.ensures.ok c.in-Ok.ensures.told

pub returns-in-Err-clause-told_err : goal.returns-in-Err-clause-told_err
returns-in-Err-clause-told_err g c =
    kept_first _ _ _ _ _ c.index_mut-device.ensures.value c.in-Err.ensures.told_err
