use Rattle.std.proofs.Common.{length, refl, sym, ap, ◌∙◌, arith}
use Rattle.lvdc_machine.proofs.Starting.{stands-start, starts-in-time, starts-going, judges-by}
use Rattle.lvdc_machine.proofs.Noting.{no-log, no-repairs}
use Rattle.lvdc_machine.proofs.machine.Machine.at_start.Goals as goal

pub invariant_of-result : goal.invariant_of-result
invariant_of-result c = record {
  events = c.requires.events;
  on_memory = c.in_ok-on_memory.ensures.events;
  forces = c.in_ok-forces.ensures;
  known = rw c.in_ok-on_memory.ensures.last tt;
  differed = c.new-2.ensures.differed;
  banks = c.in_ok-memory.ensures.banks;
  log = λ own. let none = ap length c.in_ok-log.ensures.log in omega (arith, none);
  log_room = let none = ap length c.in_ok-log.ensures.log in let had = c.in_ok-log.ensures.log_room in omega (arith, none, had, c.exchanges.ensures);
  repairs = let none = ap length c.in_ok-log.ensures.repairs in omega (arith, none);
  repairs_room = let none = ap length c.in_ok-log.ensures.repairs in let had = c.in_ok-log.ensures.repairs_room in omega (arith, none, had, c.repairs.ensures);
  steps = omega arith;
  limit = c.requires.limit;
  judges = λ e. judges-by c.args.start.mode (sym c.of-pace.ensures ∙ e);
  timed = starts-in-time c.args.start.mode c.args.start.start _ c.new-2.ensures.copies;
  going = λ none. starts-going c.args.start.start _ c.new-2.ensures.copies;
  logged = rw c.in_ok-log.ensures.log (no-log 0);
  noted = rw c.in_ok-log.ensures.repairs (no-repairs c.args.start.banks 0);
}

pub returns : goal.returns
returns c = record {
  begins = λ devices words. record {
    opening = record { image = c.in_ok-memory.ensures.placed; start = c.is_hop_constant.ensures; devices = words };
    stands = stands-start _ _ _ (record {
      banks = refl;
      script = refl;
      unplugs = refl;
      copies = c.new-2.ensures.copies;
      memory = rw c.in_ok-on_memory.ensures.last (c.in_ok-memory.ensures.holds _ refl refl);
      left = refl;
      log = c.in_ok-log.ensures.log;
      repairs = c.in_ok-log.ensures.repairs;
      counts = c.new-2.ensures.counts;
      steps = refl;
      end = refl;
    }) c.in_ok-on_memory.ensures.last refl refl;
    fresh = record { mode_is = refl; pace_is = c.of-pace.ensures; limit_is = refl; steps_are = refl; end = refl };
  };
}
