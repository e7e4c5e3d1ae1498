use Rattle.std.proofs.Common.{length, sym, ap, refl, ◌∙◌, arith}
use Rattle.lvdc_machine.proofs.Again.{few-repairs, begins-timed, log-whole}
use Rattle.lvdc_machine.proofs.Standing.{after-none}
use Rattle.lvdc_machine.proofs.machine.Machine.resumed.Goals as goal

pub invariant_of-result : goal.invariant_of-result
invariant_of-result c =
    let whole = c.requires.whole in
    let few = few-repairs c.args.snapshot.banks c.args.snapshot.steps c.args.snapshot.repairs whole.repairs in
    let room = c.in_ok-log.ensures.log_room in
    let noted_room = c.in_ok-log.ensures.repairs_room in
    let same = ap length c.in_ok-log.ensures.repairs in
    let within = c.requires.steps in
    record {
      events = c.requires.events;
      on_memory = c.in_ok-on_memory.ensures.events;
      forces = c.in_ok-forces.ensures.fit;
      known = rw c.in_ok-on_memory.ensures.last c.in_ok-forces.ensures.known;
      differed = c.from_latches-logic.ensures.differed c.args.snapshot.steps (rw c.items-2.ensures whole.most);
      banks = c.in_ok-on_memory.ensures.banks;
      log = λ own. absurd (cc own);
      log_room = omega (arith, room);
      repairs = omega (arith, few, same, within);
      repairs_room = omega (arith, noted_room);
      steps = c.requires.steps;
      limit = c.requires.limit;
      judges = λ e. refl;
      timed = rw (c.from_latches-logic.ensures.copies, c.items.ensures) (begins-timed c.args.snapshot whole);
      going = λ none. rw (c.from_latches-logic.ensures.copies, c.items.ensures) whole.stop;
      logged = rw c.in_ok-log.ensures.log (log-whole c.args.snapshot whole);
      noted = rw c.in_ok-log.ensures.repairs whole.repairs;
    }

pub returns-clause-stands : goal.returns-clause-stands
returns-clause-stands c devices = λ o v script unplugs banks means left. record {
  shows = record {
    banks = sym banks;
    script = sym script;
    unplugs = sym unplugs;
    copies = rw c.items.ensures at c.from_latches-logic.ensures.copies ∙ sym means.copies;
    memory = c.in_ok-on_memory.ensures.holds o v script banks means;
    left = sym left;
    log = c.in_ok-log.ensures.log ∙ sym means.log;
    repairs = c.in_ok-log.ensures.repairs ∙ sym means.repairs;
    counts = rw c.items-2.ensures at c.from_latches-logic.ensures.counts ∙ sym means.counts;
    steps = sym means.steps;
    end = sym means.end;
  };
  begun = c.in_ok-on_memory.ensures.last;
  ends = sym (after-none v.steps ∙ means.steps);
}

pub returns-clause-fresh : goal.returns-clause-fresh
returns-clause-fresh c = record { mode_is = refl; pace_is = refl; limit_is = refl; steps_are = refl; end = refl }
