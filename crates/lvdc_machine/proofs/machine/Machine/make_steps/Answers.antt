use Rattle.std.proofs.Common.{◌+◌, refl, sym, ◌∙◌, arith, add-zero, rules}
use Rattle.lvdc_plain.proofs.Causes.{since-start, since-more}
use Rattle.lvdc_machine.proofs.Blame.{caused-since}
use Rattle.lvdc_machine.proofs.Calls.{answers-kept, answers-made, leaves-kept}
use Rattle.lvdc_machine.proofs.Frames.{keeps-then}
use Rattle.lvdc_machine.proofs.Resuming.{stands-kept, stands-early, stands-next, stands-at}
use Rattle.lvdc_machine.proofs.machine.Machine.make_steps.Goals as goal

pub returns-in-Some : goal.returns-in-Some
returns-in-Some g c =
    let end = sym c.ended.ensures ∙ c.in-Some.is in
    record {
      stands = λ o r t h. stands-kept o r t c.args.steps _ _ c.in-Some.end end h;
      answers = answers-kept (λ b. (goal.PortDevice-dyn g (b.vtable, b.value)).device_of b.value) (λ b. (goal.PortDevice-dyn g (b.vtable, b.value)).faults b.value) c.args.self.now c.args.devices.now.items c.in-Some.end end;
      leaves = leaves-kept (λ b. (goal.PortDevice-dyn g (b.vtable, b.value)).device_of b.value) (λ b. (goal.PortDevice-dyn g (b.vtable, b.value)).spare b.value) c.args.steps c.args.self.now c.args.devices.now.items c.requires.fit;
    }

pub returns-in-Some-ended : goal.returns-in-Some-ended
returns-in-Some-ended g c =
    let more = c.advance.ensures.leaves in
    let now = c.in-Some-ended.is in
    record {
      stands = λ o r t h. stands-early o r t c.loop-made._made c.args.steps _ _ _ (sym now ∙ c.ended-in-loop-made.ensures) c.loop-made-test.true
          (c.advance.ensures.stands o r (t + c.loop-made._made) (c.loop-made.invariant.stands o r t h));
      answers = answers-made (λ b. (goal.PortDevice-dyn g (b.vtable, b.value)).device_of b.value) (λ b. (goal.PortDevice-dyn g (b.vtable, b.value)).faults b.value) c.args.self.now c.advance.new.self c.args.devices.now.items c.advance.new.devices.items _
          (search rules) (search rules) (caused-since c.loop-made.invariant.since _ _ more.left c.advance.ensures.cause)
          (λ mode. c.advance.ensures.through (c.loop-made.invariant.keeps.mode ∙ mode));
      leaves = record {
        keeps = keeps-then c.loop-made.invariant.keeps more.keeps;
        most = omega (arith, c.loop-made.invariant.steps, more.most, c.loop-made-test.true);
        left = λ port has. c.loop-made.invariant.since.left port (more.left port has);
        fit = more.fit;
      };
    }

pub loop-made-preserved : goal.loop-made-preserved
loop-made-preserved g c =
    let more = c.advance.ensures.leaves in
    record {
      stands = λ o r t h. stands-next o r t c.loop-made._made _ _ (c.advance.ensures.stands o r (t + c.loop-made._made) (c.loop-made.invariant.stands o r t h));
      running = sym c.in_default-ended.ensures;
      keeps = keeps-then c.loop-made.invariant.keeps more.keeps;
      steps = omega (arith, c.loop-made.invariant.steps, more.most);
      fit = more.fit;
      since = since-more c.loop-made.invariant.since _ more.left (rw (← c.in_default-ended.ensures) at c.advance.ensures.cause);
    }

pub loop-made-init : goal.loop-made-init
loop-made-init g c = record {
  stands = λ o r t h. rw add-zero h;
  running = search rules;
  keeps = record { banks = refl; script = refl; unplugs = refl; limit = refl; mode = refl; pace = refl };
  steps = omega arith;
  fit = c.requires.fit;
  since = since-start;
}

pub returns : goal.returns
returns g c = record {
  stands = λ o r t h. stands-at o r t c.loop-made._made c.args.steps _ _ (omega arith) (c.loop-made.invariant.stands o r t h);
  answers = answers-made (λ b. (goal.PortDevice-dyn g (b.vtable, b.value)).device_of b.value) (λ b. (goal.PortDevice-dyn g (b.vtable, b.value)).faults b.value) c.args.self.now c.loop-made.self c.args.devices.now.items c.loop-made.devices.items _
      (search rules) (search rules) (rw c.loop-made.invariant.running c.loop-made.invariant.since.counts)
      (λ mode verdict is. let running = c.loop-made.invariant.running in absurd (cc (running, is)));
  leaves = record {
    keeps = c.loop-made.invariant.keeps;
    most = omega (arith, c.loop-made.invariant.steps, c.loop-made-test.false);
    left = c.loop-made.invariant.since.left;
    fit = c.loop-made.invariant.fit;
  };
}
