use Rattle.std.proofs.Common.{[], refl, arith}
use Rattle.std.specs.declared.option.Option.TheVariants.{Some}
use Rattle.lvdc_port.proofs.Lists.{room-in}
use Rattle.lvdc_plain.specs.Lists.{Left}
use Rattle.lvdc_plain.proofs.Lefts.{go-distinct, go-has, go-count, fail-rose, fail-others, others-in, spare-same}
use Rattle.lvdc_machine.proofs.answers.answer.Goals as goal

pub exchange-requires : goal.exchange-requires
exchange-requires g c =
    room-in c.args.devices.now.items (λ b. (goal.PortDevice-dyn g (b.vtable, b.value)).device_of b.value)
    (λ b. (goal.PortDevice-dyn g (b.vtable, b.value)).spare b.value) 1 _ c.requires.room (omega arith)

pub returns-in-Ok-clause-since : goal.returns-in-Ok-clause-since
returns-in-Ok-clause-since g c =
    let same : Left (λ b. (goal.PortDevice-dyn g (b.vtable, b.value)).device_of b.value) [] 0 c.args.devices.now.items c.args.devices.now.items = record { is = refl } in
    record {
      left = go-has same (Some c.args.request) _ c.in-Ok.ensures.ok;
      counts = go-count same (Some c.args.request) _ (λ b. (goal.PortDevice-dyn g (b.vtable, b.value)).faults b.value) c.in-Ok.ensures.ok c.in-Ok.ensures.faults c.requires.distinct;
    }

pub returns-in-Ok-clause-distinct : goal.returns-in-Ok-clause-distinct
returns-in-Ok-clause-distinct g c =
    let same : Left (λ b. (goal.PortDevice-dyn g (b.vtable, b.value)).device_of b.value) [] 0 c.args.devices.now.items c.args.devices.now.items = record { is = refl } in
    go-distinct same (Some c.args.request) _ c.in-Ok.ensures.ok c.requires.distinct

pub returns-in-Err-clause-fails : goal.returns-in-Err-clause-fails
returns-in-Err-clause-fails g c =
    let same : Left (λ b. (goal.PortDevice-dyn g (b.vtable, b.value)).device_of b.value) [] 0 c.args.devices.now.items c.args.devices.now.items = record { is = refl } in
    record {
      states = c.in-Err.ensures.err;
      alone = record {
        rose = fail-rose same _ (λ b. (goal.PortDevice-dyn g (b.vtable, b.value)).faults b.value) _ c.in-Err.ensures.err c.requires.distinct
            (rw c.in-Err.ensures.fault.1 at c.in-Err.ensures.fault.2);
        others = fail-others same _ (λ b. (goal.PortDevice-dyn g (b.vtable, b.value)).faults b.value) _ c.in-Err.ensures.err c.requires.distinct
            (λ port apart. others-in c.args.devices.now.items c.exchange.new.devices.items (λ b. (goal.PortDevice-dyn g (b.vtable, b.value)).device_of b.value)
            (λ b. (goal.PortDevice-dyn g (b.vtable, b.value)).faults b.value) c.in-Err.ensures.fault.0 port c.in-Err.ensures.others c.in-Err.ensures.err apart);
      };
    }

pub returns-in-Err-clause-spare_err : goal.returns-in-Err-clause-spare_err
returns-in-Err-clause-spare_err g c =
    λ n room. spare-same (λ b. (goal.PortDevice-dyn g (b.vtable, b.value)).spare b.value) n _ _ c.in-Err.ensures.spare_err room
