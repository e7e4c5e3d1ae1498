use Rattle.std.proofs.Common.{refl, arith}
use Rattle.lvdc_plain.specs.Plain.{started}
use Rattle.lvdc_plain.proofs.Steps.{holds_shown, stands-wait, stands-go, stands-fail}
use Rattle.lvdc_plain.proofs.Lefts.{left-map, left-distinct, left-spare, left-has, left-count, go-distinct, go-has, go-count, fail-distinct, fail-has, fail-rose, fail-others, spare-same}
use Rattle.lvdc_plain.proofs.Causes.{caused-made}
use Rattle.lvdc_plain.proofs.plain.Plain.advance.Goals as goal

pub returns-then-self-gt0-clause-stands : goal.returns-then-self-gt0-clause-stands
returns-then-self-gt0-clause-stands g c =
    λ o t h. stands-wait o t c.args.self.now _ _ _ h c.requires.running (rw (← c.self.view_is) c.if-self-gt0.true) (rw (← c.self.view_is) (left-map (rw c.deref.ensures.value at c.unplug_all.ensures.left)))
    c.wait.ensures.shows c.wait.ensures.end c.wait.ensures.keeps.unplugs c.wait.ensures.times

pub returns-then-self-gt0-clause-cause : goal.returns-then-self-gt0-clause-cause
returns-then-self-gt0-clause-cause g c =
    rw (c.wait.ensures.end, c.requires.running) (left-count (rw c.deref.ensures.value at c.unplug_all.ensures.left) (λ b. (goal.PortDevice-dyn g (b.vtable, b.value)).faults b.value) c.requires.fit.distinct)

pub answer-requires : goal.answer-requires
answer-requires g c =
    left-spare (rw c.deref.ensures.value at c.unplug_all.ensures.left) (λ b. (goal.PortDevice-dyn g (b.vtable, b.value)).spare b.value) 1 _ (omega (arith, c.requires.left)) c.requires.fit.room

pub returns-in-Ok-clause-stands : goal.returns-in-Ok-clause-stands
returns-in-Ok-clause-stands g c =
    λ o t h. stands-go o t c.args.self.now _ _ _ _ c.fetched-instr.result c.taken-m.result c.request-request.result c.in-Ok.answer h c.requires.running
    (rw (← c.self.view_is) (omega (arith, c.if-self-gt0.false))) (rw (← c.self.view_is) (left-map (rw c.deref.ensures.value at c.unplug_all.ensures.left)))
    (λ p s. c.fetched-instr.ensures.value p (holds_shown (rw (← c.self.view_is) at s))) (λ p s. c.request-request.ensures p (holds_shown (rw (← c.self.view_is) at s)))
    (rw (← c.self.view_is) c.in-Ok.ensures.word) c.in-Ok.ensures.ok (λ p s. c.taken-m.ensures p (holds_shown (rw (← c.self.view_is) at s)))
    c.execute.ensures.shows c.execute.ensures.end c.execute.ensures.keeps.unplugs c.execute.ensures.times

pub returns-in-Ok-clause-cause : goal.returns-in-Ok-clause-cause
returns-in-Ok-clause-cause g c =
    caused-made _ _ _ _ _ _ (c.execute.ensures.end (started 0 c.args.self.now.place (λ _. 0)) refl)
    (go-count (rw c.deref.ensures.value at c.unplug_all.ensures.left) c.request-request.result _ (λ b. (goal.PortDevice-dyn g (b.vtable, b.value)).faults b.value) c.in-Ok.ensures.ok c.in-Ok.ensures.faults c.requires.fit.distinct)

pub returns-in-Err-clause-stands : goal.returns-in-Err-clause-stands
returns-in-Err-clause-stands g c =
    λ o t h. rw (c.fail.ensures.new, c.in-Err.ensures.err) (stands-fail o t c.args.self.now _ _ c.fetched-instr.result c.request-request.result c.in-Err.fault.port h c.requires.running
    (rw (← c.self.view_is) (omega (arith, c.if-self-gt0.false))) (rw (← c.self.view_is) (left-map (rw c.deref.ensures.value at c.unplug_all.ensures.left)))
    (λ p s. c.fetched-instr.ensures.value p (holds_shown (rw (← c.self.view_is) at s))) (λ p s. c.request-request.ensures p (holds_shown (rw (← c.self.view_is) at s))) c.in-Err.ensures.fault.0)

pub returns-in-Err-clause-cause : goal.returns-in-Err-clause-cause
returns-in-Err-clause-cause g c =
    rw c.fail.ensures.new (record {
      rose = fail-rose (rw c.deref.ensures.value at c.unplug_all.ensures.left) _ (λ b. (goal.PortDevice-dyn g (b.vtable, b.value)).faults b.value) _ c.in-Err.ensures.err c.requires.fit.distinct c.in-Err.ensures.fault.1;
      others = fail-others (rw c.deref.ensures.value at c.unplug_all.ensures.left) _ (λ b. (goal.PortDevice-dyn g (b.vtable, b.value)).faults b.value) _ c.in-Err.ensures.err c.requires.fit.distinct c.in-Err.ensures.others;
    })

pub returns-then-self-gt0-clause-leaves : goal.returns-then-self-gt0-clause-leaves
returns-then-self-gt0-clause-leaves g c = record {
  keeps = c.wait.ensures.keeps;
  most = omega (arith, c.wait.ensures.times);
  left = left-has (rw c.deref.ensures.value at c.unplug_all.ensures.left);
  fit = record {
    distinct = left-distinct (rw c.deref.ensures.value at c.unplug_all.ensures.left) c.requires.fit.distinct;
    room = left-spare (rw c.deref.ensures.value at c.unplug_all.ensures.left) (λ b. (goal.PortDevice-dyn g (b.vtable, b.value)).spare b.value) _ _ (omega (arith, c.wait.ensures.keeps.limit, c.wait.ensures.times)) c.requires.fit.room;
  };
}

pub returns-in-Ok-clause-leaves : goal.returns-in-Ok-clause-leaves
returns-in-Ok-clause-leaves g c = record {
  keeps = c.execute.ensures.keeps;
  most = omega (arith, c.execute.ensures.times);
  left = go-has (rw c.deref.ensures.value at c.unplug_all.ensures.left) c.request-request.result _ c.in-Ok.ensures.ok;
  fit = record {
    distinct = go-distinct (rw c.deref.ensures.value at c.unplug_all.ensures.left) c.request-request.result _ c.in-Ok.ensures.ok c.requires.fit.distinct;
    room = c.in-Ok.ensures.spare _
        (left-spare (rw c.deref.ensures.value at c.unplug_all.ensures.left) (λ b. (goal.PortDevice-dyn g (b.vtable, b.value)).spare b.value) _ _ (omega (arith, c.execute.ensures.keeps.limit, c.execute.ensures.times, c.requires.left)) c.requires.fit.room);
  };
}

pub returns-in-Err-clause-leaves : goal.returns-in-Err-clause-leaves
returns-in-Err-clause-leaves g c = rw c.fail.ensures.new (record {
  keeps = record { banks = refl; limit = refl; unplugs = refl };
  most = omega arith;
  left = fail-has (rw c.deref.ensures.value at c.unplug_all.ensures.left) _ c.in-Err.ensures.err;
  fit = record {
    distinct = fail-distinct (rw c.deref.ensures.value at c.unplug_all.ensures.left) _ c.in-Err.ensures.err c.requires.fit.distinct;
    room = spare-same (λ b. (goal.PortDevice-dyn g (b.vtable, b.value)).spare b.value) _ _ _ c.in-Err.ensures.spare_err (left-spare (rw c.deref.ensures.value at c.unplug_all.ensures.left) (λ b. (goal.PortDevice-dyn g (b.vtable, b.value)).spare b.value) _ _ (omega arith) c.requires.fit.room);
  };
})
