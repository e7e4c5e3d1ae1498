use Rattle.std.proofs.Common.{List, refl, ◌∙◌, subst, arith}
use Rattle.lvdc_fault.specs.declared.event.Event.{Event}
use Rattle.lvdc_memory.specs.Order.{AreOnMemory}
use Rattle.lvdc_machine.proofs.machine.Machine.begin.Goals as goal

pub go_to-requires : goal.go_to-requires
go_to-requires c =
    record {
      fit = c.self.invariant.forces;
      events = c.self.invariant.events;
      bound = omega (arith, c.self.invariant.steps, c.self.invariant.limit);
    }

pub invariant_of-self : goal.invariant_of-self
invariant_of-self c = record {
  events = c.self.invariant.events;
  on_memory = rw c.begin.ensures.events c.self.invariant.on_memory;
  forces = c.go_to.ensures.fit;
  known = rw c.begin.ensures.last c.go_to.ensures.known;
  differed = c.self.invariant.differed;
  banks = c.begin.ensures.banks ∙ c.self.invariant.banks;
  log = c.self.invariant.log;
  log_room = c.self.invariant.log_room;
  repairs = c.self.invariant.repairs;
  repairs_room = c.self.invariant.repairs_room;
  steps = c.self.invariant.steps;
  limit = c.self.invariant.limit;
  judges = c.self.invariant.judges;
  timed = c.self.invariant.timed;
  going = c.self.invariant.going;
  logged = c.self.invariant.logged;
  noted = c.self.invariant.noted;
}

pub returns : goal.returns
returns c = record {
  shows = λ o v ds h.
      let s = rw (← c.self.view_is) at h in
      record {
        banks = s.banks;
        script = s.script;
        unplugs = s.unplugs;
        copies = s.copies;
        memory = rw (c.begin.ensures.last, ← s.steps)
            (c.begin.ensures.begun o v.twins v.intended (subst (λ (es : List Event). AreOnMemory es c.self.inside.on_memory.events) s.script c.self.invariant.on_memory) s.memory);
        left = s.left;
        log = s.log;
        repairs = s.repairs;
        counts = s.counts;
        steps = s.steps;
        end = s.end;
      };
  new = rw (← c.self.view_is) refl;
  last = rw (← c.self.view_is) c.begin.ensures.last;
}
