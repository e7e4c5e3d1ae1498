use Rattle.lvdc_memory.proofs.Begun.{since-right, since-until, since-holds}
use Rattle.lvdc_memory.proofs.events.MemoryEvents.begin.Goals as goal

pub invariant_of-self : goal.invariant_of-self
invariant_of-self c = record {
  events = c.self.invariant.events;
  parts = c.self.invariant.parts;
  right = since-right c.self.inside.events.items c.self.inside.parts.items c.self.invariant.parts c.args.step c.self.inside.until c.self.inside.last c.self.invariant.right
      c.self.invariant.until (c.lasts.ensures c.if-lasts.true);
  until = since-until c.self.inside.events.items c.self.inside.parts.items c.self.invariant.parts c.args.step c.self.inside.until c.self.inside.last c.self.invariant.until
      (c.lasts.ensures c.if-lasts.true);
}

pub returns-then-lasts-clause-begun : goal.returns-then-lasts-clause-begun
returns-then-lasts-clause-begun c = λ o t i same h.
    since-holds c.self.inside.events.items c.self.inside.parts.items c.self.invariant.parts c.args.step c.self.inside.until c.self.inside.last c.self.invariant.right
    c.self.invariant.until (c.lasts.ensures c.if-lasts.true) o c.args.memory.now t i (rw (← c.self.view_is) at same) (rw (← c.self.view_is) at h)
