use Rattle.std.proofs.Common.{ℕ, List, sym, ap, subst, arith}
use Rattle.lvdc_port.specs.Device as device
use Rattle.lvdc_port.specs.Devices.{HasSpare}
use Rattle.lvdc_machine.specs.Resumed.{StandsFrom}
use Rattle.lvdc_machine.specs.Room.{exchanges_to_come}
use Rattle.lvdc_machine.specs.View.{View}
use Rattle.lvdc_machine.proofs.Blame.{since-then, made-caused, made-unjudged, fails-has, fails-since}
use Rattle.lvdc_machine.proofs.Frames.{keeps-ended, made-most}
use Rattle.lvdc_machine.proofs.Refused.{refused-comes, refused-made, refused-failed, made-anew, turns-then, since-same}
use Rattle.lvdc_machine.proofs.machine.Machine.make_refused.Goals as goal

pub returns-in-Ok-clause-made : goal.returns-in-Ok-clause-made
returns-in-Ok-clause-made g c =
    let turned = c.in_ok-turn.ensures.turned in
    let made = c.in-Ok.ensures.made in
    let since = since-then (since-same c.args.devices.now.items c.prepare_all.new.devices.items c.prepare_all.ensures.devices c.prepare_all.ensures.faults) c.in-Ok.ensures.since in
    record {
      stands = λ o first n going h.
          refused-made o first c.args.self.now c.turn.new.self c.exchange.new.self _ _ c.wanted-wanted.result
          (refused-comes o first n c.args.self.now _ going c.requires.refused
          (subst (λ (ds : List device.Device). StandsFrom o first n c.args.self.now ds) (sym c.prepare_all.ensures.devices) h))
          turned c.requires.refused.refusal c.wanted-wanted.ensures.value (λ v s. c.in-Ok.ensures.shows o v s)
          (made-anew c.args.self.now c.turn.new.self c.exchange.new.self turned made);
      turns = turns-then c.args.self.now c.turn.new.self c.exchange.new.self turned made.keeps;
      most = omega (arith, ap (λ (m : View). m.steps) turned, made-most c.exchange.new.self.end _ _ made.ends);
      cause = made-caused since c.exchange.new.self.end _ _ made.ends;
      unjudged = made-unjudged c.exchange.new.self.end _ _ made.ends;
      left = since.left;
      fit = c.exchange.ensures.fit;
    }

pub returns-in-Err-clause-made : goal.returns-in-Err-clause-made
returns-in-Err-clause-made g c =
    let turned = c.in_ok-turn.ensures.turned in
    let failed = rw c.in-Err.ensures.unchanged at c.fail.ensures in
    let since = since-same c.args.devices.now.items c.prepare_all.new.devices.items c.prepare_all.ensures.devices c.prepare_all.ensures.faults in
    record {
      stands = λ o first n going h.
          refused-failed o first c.args.self.now c.turn.new.self c.fail.new.self _ _ c.wanted-wanted.result c.in-Err.port
          (refused-comes o first n c.args.self.now _ going c.requires.refused
          (subst (λ (ds : List device.Device). StandsFrom o first n c.args.self.now ds) (sym c.prepare_all.ensures.devices) h))
          turned c.wanted-wanted.ensures.value c.in-Err.ensures.named c.in-Err.ensures.fails.states failed;
      turns = turns-then c.args.self.now c.turn.new.self c.fail.new.self turned (keeps-ended c.turn.new.self c.fail.new.self _ failed);
      most = omega (arith, ap (λ (m : View). m.steps) turned, ap (λ (m : View). m.steps) failed);
      cause = rw c.fail.ensures (fails-since since c.in-Err.ensures.fails);
      unjudged = λ verdict is. let end = ap (λ (m : View). m.end) c.fail.ensures in absurd (cc (end, is));
      left = λ port has. since.left port (fails-has c.in-Err.ensures.fails port has);
      fit = record {
        distinct = c.exchange.ensures.fit.distinct;
        room = subst (λ (n : ℕ). HasSpare (λ b. (goal.PortDevice-dyn g (b.vtable, b.value)).spare b.value) n c.exchange.new.devices.items)
            (sym (ap exchanges_to_come c.fail.ensures)) c.exchange.ensures.fit.room;
      };
    }
