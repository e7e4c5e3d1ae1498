use Rattle.std.proofs.Common.{sym}
use Rattle.lvdc_machine.proofs.Refused.{since-same}
use Rattle.lvdc_study.proofs.Making.{none-rose}
use Rattle.lvdc_study.proofs.runs.go_past.Goals as goal

pub returns-in-Err-clause-left : goal.returns-in-Err-clause-left
returns-in-Err-clause-left g c =
    (since-same {device_of = (λ b. (goal.PortDevice-dyn g (b.vtable, b.value)).device_of b.value)} {count = (λ b. (goal.PortDevice-dyn g (b.vtable, b.value)).faults b.value)}
    c.args.devices.now.items c.go_through.new.devices.items c.in-Err.ensures.devices c.in-Err.ensures.faults).left

pub returns-in-None-clause-since : goal.returns-in-None-clause-since
returns-in-None-clause-since g c =
    let goes = c.in-Ok.ensures.goes in
    record {
      left = goes.left;
      counts =
          none-rose (λ b. (goal.PortDevice-dyn g (b.vtable, b.value)).device_of b.value) (λ b. (goal.PortDevice-dyn g (b.vtable, b.value)).faults b.value)
          c.args.devices.now.items c.go_through.new.devices.items c.go_through.new.self.end c.in-None.ensures (rw (sym goes.answer) goes.cause);
    }
