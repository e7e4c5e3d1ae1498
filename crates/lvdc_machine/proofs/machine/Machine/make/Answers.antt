use Rattle.std.proofs.Common.{◌%◌, refl, sym, subst, arith}
use Rattle.lvdc_forces.specs.InForce.{IsInForce}
use Rattle.lvdc_machine.proofs.Judging.{known_then}
use Rattle.lvdc_machine.proofs.Noting.{log-noted, repairs-noted, goes-on}
use Rattle.lvdc_machine.proofs.Timer.{stays-in-time}
use Rattle.lvdc_machine.proofs.Making.{log-room, repair-room, begun-made, ends-made, shows-made}
use Rattle.lvdc_machine.proofs.machine.Machine.make.Goals as goal

pub step_under-requires : goal.step_under-requires
step_under-requires c = record { differed = λ number copy. omega (arith, c.self.invariant.differed number copy, c.self.invariant.steps, c.self.invariant.limit) }

pub invariant_of-self : goal.invariant_of-self
invariant_of-self c =
    let may = rw (← c.self.view_is) at c.requires.may in
    let known = known_then c.self.inside.script c.self.inside.on_memory.last c.self.inside.steps c.self.inside.forces.known c.self.invariant.known may.begun in
    let in_force = subst (IsInForce c.self.inside.script c.self.inside.steps) (sym c.in_force.ensures) known.force in
    record {
      events = c.self.invariant.events;
      on_memory = c.self.invariant.on_memory;
      forces = c.self.invariant.forces;
      known = c.self.invariant.known;
      differed = c.step_under.ensures.differed c.self.inside.steps c.self.invariant.differed;
      banks = c.self.invariant.banks;
      log = λ own. log-room c.self.inside.pace c.self.inside.steps c.self.inside.limit _ _ _ c.args.brought.line (c.self.invariant.log own) may.left
          (rw (← c.self.view_is) at c.requires.line) c.note.ensures.length c.note.ensures.none;
      log_room = let room = log-room c.self.inside.pace c.self.inside.steps c.self.inside.limit _ _ _ c.args.brought.line c.self.invariant.log_room may.left
          (rw (← c.self.view_is) at c.requires.line) c.note.ensures.length c.note.ensures.none in
          let grown = c.note.ensures.capacity in omega (arith, room, grown);
      repairs = repair-room c.self.inside.pace c.self.inside.steps c.self.inside.limit _ _ _ c.args.brought.repair c.self.invariant.repairs may.left
          (rw (← c.self.view_is) at c.requires.repair) c.note-2.ensures.length c.note-2.ensures.none;
      repairs_room = let room = repair-room c.self.inside.pace c.self.inside.steps c.self.inside.limit _ _ _ c.args.brought.repair c.self.invariant.repairs_room may.left
          (rw (← c.self.view_is) at c.requires.repair) c.note-2.ensures.length c.note-2.ensures.none in
          let grown = c.note-2.ensures.capacity in omega (arith, room, grown);
      steps = omega (arith, may.left);
      limit = c.self.invariant.limit;
      judges = c.self.invariant.judges;
      timed = rw (c.step_under.ensures.copies c.self.inside.script c.self.inside.steps c.self.invariant.events in_force) (stays-in-time c.self.inside.mode c.self.inside.script c.self.inside.steps c.self.inside.logic.copies
          c.args.brought.memory c.args.brought.port may.right c.self.invariant.timed);
      going = λ none. rw c.bus.ensures at (goes-on (c.bus.result.now.exchange.stop % 4) c.self.inside.steps _ c.keep_end.ensures none);
      logged = rw c.note.ensures.items (log-noted c.self.inside.steps _ c.args.brought.line (rw (← c.self.view_is) at c.requires.dated) c.self.invariant.logged);
      noted = rw c.note-2.ensures.items (repairs-noted c.self.inside.banks c.self.inside.steps _ c.args.brought.repair (rw (← c.self.view_is) at c.requires.noted) c.self.invariant.noted);
    }

pub returns-clause-shows : goal.returns-clause-shows
returns-clause-shows c = λ o v ds h.
    let known = known_then c.self.inside.script c.self.inside.on_memory.last c.self.inside.steps c.self.inside.forces.known c.self.invariant.known (rw (← c.self.view_is) at c.requires.may).begun in
    let in_force = subst (IsInForce c.self.inside.script c.self.inside.steps) (sym c.in_force.ensures) known.force in
    shows-made (rw (← c.self.view_is) at h) c.args.brought _ _ _ _ _ _ (c.step_under.ensures.copies c.self.inside.script c.self.inside.steps c.self.invariant.events in_force) c.step_under.ensures.counts c.note.ensures.items
    c.note-2.ensures.items c.bus.ensures c.keep_end.ensures

pub returns-clause-made : goal.returns-clause-made
returns-clause-made c = rw (← c.self.view_is) (record {
  keeps = record { banks = refl; script = refl; unplugs = refl; limit = refl; mode = refl; pace = refl };
  begun = begun-made (c.bus.result.now.exchange.stop % 4) c.self.inside.steps _ _ c.keep_end.ensures (rw (← c.self.view_is) at c.requires.may).begun;
  ends = ends-made (c.bus.result.now.exchange.stop % 4) c.self.inside.steps _ c.keep_end.ensures;
})
