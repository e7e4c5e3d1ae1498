use Rattle.std.proofs.Common.{◌+◌, refl, arith}
use Rattle.lvdc_debug.proofs.Going.{on_err}
use Rattle.lvdc_trace.proofs.Onward.{goes_not, goes_then, goes_whole, part_then}
use Rattle.lvdc_trace.proofs.Telling.{told-none, told-more, failed-before}
use Rattle.lvdc_trace.proofs.whole.put_steps.Goals as goal

pub loop-index-init : goal.loop-index-init
loop-index-init g c = record {
  goes =
      goes_not (λ b. (goal.PortDevice-dyn g (b.vtable, b.value)).device_of b.value) (λ b. (goal.PortDevice-dyn g (b.vtable, b.value)).spare b.value) (λ b. (goal.PortDevice-dyn g (b.vtable, b.value)).faults b.value)
      c.args.machine.now c.args.devices.now.items c.requires.fit;
  text = λ o begin from s. told-none o begin c.args.machine.now.mode from c.args.machine.now.end c.args.out.now.items (failed-before o begin from c.args.machine.now _ s);
  short = omega arith;
}

pub loop-index-preserved : goal.loop-index-preserved
loop-index-preserved g c =
    let so_far = c.loop-index.invariant in
    let next = c.in_ok-put_next.ensures in
    record {
      goes =
          goes_then (λ b. (goal.PortDevice-dyn g (b.vtable, b.value)).device_of b.value) (λ b. (goal.PortDevice-dyn g (b.vtable, b.value)).spare b.value) (λ b. (goal.PortDevice-dyn g (b.vtable, b.value)).faults b.value)
          c.loop-index.index 1 c.args.machine.now c.loop-index.machine c.put_next.new.machine c.args.devices.now.items c.loop-index.devices.items
          c.put_next.new.devices.items so_far.goes next.goes;
      text = λ o begin from s.
          let there = so_far.goes.stands o begin from s in
          told-more o begin c.args.machine.now.mode from c.loop-index.index _ c.loop-index.machine c.put_next.new.machine _ _ c.args.out.now.items c.loop-index.out.items
          c.put_next.new.out.items refl so_far.goes.leaves.keeps.mode there next.goes.stands (λ some. (next.goes.kept some).0) (so_far.text o begin from s)
          (next.text o begin (from + c.loop-index.index) there);
      short =
          let most = so_far.goes.leaves.most in
          omega (arith, so_far.short, next.short (omega (arith, most, c.requires.left, c.requires.limit, c.loop-index-test.true)));
    }

pub returns-in_err-put_next-clause-part : goal.returns-in_err-put_next-clause-part
returns-in_err-put_next-clause-part g c =
    on_err _ (part_then (λ b. (goal.PortDevice-dyn g (b.vtable, b.value)).device_of b.value) (λ b. (goal.PortDevice-dyn g (b.vtable, b.value)).spare b.value) (λ b. (goal.PortDevice-dyn g (b.vtable, b.value)).faults b.value)
    c.loop-index.index 1 c.args.count c.args.machine.now c.loop-index.machine c.put_next.new.machine c.args.devices.now.items c.loop-index.devices.items
    c.put_next.new.devices.items (omega (arith, c.loop-index-test.true)) c.loop-index.invariant.goes
    (goes_whole (λ b. (goal.PortDevice-dyn g (b.vtable, b.value)).device_of b.value) (λ b. (goal.PortDevice-dyn g (b.vtable, b.value)).spare b.value) (λ b. (goal.PortDevice-dyn g (b.vtable, b.value)).faults b.value)
    1 1 c.loop-index.machine c.put_next.new.machine c.loop-index.devices.items c.put_next.new.devices.items (omega arith) c.in_err-put_next.ensures.goes))
