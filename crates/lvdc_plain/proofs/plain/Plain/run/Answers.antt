use Rattle.std.proofs.Common.{◌≡◌, ◌+◌, sym, Some, None, arith, rules}
use Rattle.lvdc_plain.proofs.Steps.{stands-kept-for, stands-next, stands-early, stands-at}
use Rattle.lvdc_plain.proofs.Causes.{since-more, since-caused}
use Rattle.lvdc_plain.proofs.Calls.{answers-kept, answers-made, leaves-kept, keeps-then}
use Rattle.lvdc_plain.proofs.plain.Plain.run.Goals as goal

pub returns-in-Some-clause-stands : goal.returns-in-Some-clause-stands
returns-in-Some-clause-stands g c =
    λ o t h. stands-kept-for o t c.args.times _ _ c.in-Some.end (rw (← c.self.view_is) c.in-Some.is) h

pub returns-in-Some-clause-answers : goal.returns-in-Some-clause-answers
returns-in-Some-clause-answers g c =
    answers-kept (λ b. (goal.PortDevice-dyn g (b.vtable, b.value)).device_of b.value) (λ b. (goal.PortDevice-dyn g (b.vtable, b.value)).faults b.value) c.args.self.now c.args.devices.now.items c.in-Some.end
    (rw (← c.self.view_is) c.in-Some.is) (rw c.in-Some.is at c.self.invariant.4)

pub returns-in-Some-clause-leaves : goal.returns-in-Some-clause-leaves
returns-in-Some-clause-leaves g c =
    leaves-kept (λ b. (goal.PortDevice-dyn g (b.vtable, b.value)).device_of b.value) (λ b. (goal.PortDevice-dyn g (b.vtable, b.value)).spare b.value) c.args.times c.args.self.now c.args.devices.now.items c.requires.fit

pub returns-in-Some-end-clause-stands : goal.returns-in-Some-end-clause-stands
returns-in-Some-end-clause-stands g c =
    let come : c.advance.new.self.end ≡ Some c.in-Some-end.end = rw (← c.self-in-loop-made.view_is) c.in-Some-end.is in
    λ o t h. stands-early o t c.loop-made._made c.args.times _ _ _ (sym come) c.loop-made-test.true (c.advance.ensures.stands o (t + c.loop-made._made) (c.loop-made.invariant.stands o t h))

pub returns-in-Some-end-clause-answers : goal.returns-in-Some-end-clause-answers
returns-in-Some-end-clause-answers g c =
    answers-made (λ b. (goal.PortDevice-dyn g (b.vtable, b.value)).device_of b.value) (λ b. (goal.PortDevice-dyn g (b.vtable, b.value)).faults b.value) c.args.self.now c.advance.new.self c.args.devices.now.items c.advance.new.devices.items _
    (search rules) (search rules) (rw c.in-Some-end.is at c.self-in-loop-made.invariant.4)
    (since-caused c.loop-made.invariant.since _ _ c.advance.ensures.leaves.left c.advance.ensures.cause)

pub returns-in-Some-end-clause-leaves : goal.returns-in-Some-end-clause-leaves
returns-in-Some-end-clause-leaves g c =
    let more = c.advance.ensures.leaves in
    record {
      keeps = keeps-then c.loop-made.invariant.keeps more.keeps;
      most = omega (arith, c.loop-made.invariant.times, more.most, c.loop-made-test.true);
      left = λ port has. c.loop-made.invariant.since.left port (more.left port has);
      fit = more.fit;
    }

pub loop-made-preserved : goal.loop-made-preserved
loop-made-preserved g c =
    let more = c.advance.ensures.leaves in
    let runs : c.advance.new.self.end ≡ None = rw (← c.self-in-loop-made.view_is) c.in_default-end.is in
    record {
      stands = λ o t h. stands-next o t c.loop-made._made _ _ (c.advance.ensures.stands o (t + c.loop-made._made) (c.loop-made.invariant.stands o t h));
      running = runs;
      keeps = keeps-then c.loop-made.invariant.keeps more.keeps;
      times = omega (arith, c.loop-made.invariant.times, more.most);
      fit = more.fit;
      since = since-more c.loop-made.invariant.since _ more.left (rw runs at c.advance.ensures.cause);
    }

pub returns-clause-stands : goal.returns-clause-stands
returns-clause-stands g c =
    λ o t h. stands-at o t c.loop-made._made c.args.times _ _ (omega arith) (c.loop-made.invariant.stands o t h)

pub returns-clause-answers : goal.returns-clause-answers
returns-clause-answers g c =
    answers-made (λ b. (goal.PortDevice-dyn g (b.vtable, b.value)).device_of b.value) (λ b. (goal.PortDevice-dyn g (b.vtable, b.value)).faults b.value) c.args.self.now c.loop-made.self c.args.devices.now.items c.loop-made.devices.items _
    (search rules) (search rules) tt
    (rw c.loop-made.invariant.running c.loop-made.invariant.since.counts)

pub returns-clause-leaves : goal.returns-clause-leaves
returns-clause-leaves g c = record {
  keeps = c.loop-made.invariant.keeps;
  most = omega (arith, c.loop-made.invariant.times, c.loop-made-test.false);
  left = c.loop-made.invariant.since.left;
  fit = c.loop-made.invariant.fit;
}
