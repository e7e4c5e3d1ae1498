use Rattle.std.proofs.Common.{ℕ, sym, ap, subst, ◌∙◌, arith}
use Rattle.std.specs.declared.option.Option.TheVariants.{Some}
use Rattle.lvdc_port.specs.Devices.{HasSpare}
use Rattle.lvdc_model.specs.Runs.{read_of_wish}
use Rattle.lvdc_machine.specs.Room.{exchanges_to_come}
use Rattle.lvdc_machine.specs.View.{View}
use Rattle.lvdc_machine.proofs.Blame.{since-then, made-caused, made-unjudged, fails-has, fails-since}
use Rattle.lvdc_machine.proofs.Frames.{keeps-then, keeps-begun, keeps-ended, made-most}
use Rattle.lvdc_machine.proofs.HandedOut.{running-state, told-judged, told-made, told-failed}
use Rattle.lvdc_machine.proofs.Judging.{sound-recovered}
use Rattle.lvdc_machine.proofs.Resuming.{is-prepared, wanted-wished, stands-judged, stands-made, stands-failed}
use Rattle.lvdc_machine.proofs.machine.Machine.advance.Goals as goal

pub returns-in_default-clause-stands : goal.returns-in_default-clause-stands
returns-in_default-clause-stands g c = λ o r t h.
    let p = is-prepared o r t c.args.self.now c.begin.new.self _ _ h c.requires.running c.begin.ensures.new c.begin.ensures.last
    (λ v s. c.begin.ensures.shows o v _ s) c.unplug_due.ensures.devices in
    stands-judged o r t c.begin.new.self c.stop.new.self _ c.verdict.result p
    (c.verdict.ensures.verdict o _ _ p.shows (wanted-wished p.shows _ c.wanted-wanted.ensures.value)) c.in_default.not-Admissible c.stop.ensures

pub returns-in-Ok-clause-stands : goal.returns-in-Ok-clause-stands
returns-in-Ok-clause-stands g c = λ o r t h.
    let p = is-prepared o r t c.args.self.now c.begin.new.self _ _ h c.requires.running c.begin.ensures.new c.begin.ensures.last
    (λ v s. c.begin.ensures.shows o v _ s) c.unplug_due.ensures.devices in
    let wish = wanted-wished p.shows _ c.wanted-wanted.ensures.value in
    stands-made o r t c.begin.new.self c.exchange.new.self _ _ c.verdict.result c.wanted-wanted.result p
    (c.verdict.ensures.verdict o _ _ p.shows wish) c.in-Admissible.is wish (λ v s. c.in-Ok.ensures.shows o v s) c.in-Ok.ensures.made

pub returns-in-Err-clause-stands : goal.returns-in-Err-clause-stands
returns-in-Err-clause-stands g c = λ o r t h.
    let p = is-prepared o r t c.args.self.now c.begin.new.self _ _ h c.requires.running c.begin.ensures.new c.begin.ensures.last
    (λ v s. c.begin.ensures.shows o v _ s) c.unplug_due.ensures.devices in
    let wish = wanted-wished p.shows _ c.wanted-wanted.ensures.value in
    stands-failed o r t c.begin.new.self c.fail.new.self _ _ c.verdict.result c.wanted-wanted.result c.in-Err.port p
    (c.verdict.ensures.verdict o _ _ p.shows wish) c.in-Admissible.is wish c.in-Err.ensures.named c.in-Err.ensures.fails.states
    (rw c.in-Err.ensures.unchanged at c.fail.ensures)

pub returns-in_default-clause-cause : goal.returns-in_default-clause-cause
returns-in_default-clause-cause g c = rw c.stop.ensures c.unplug_due.ensures.since.counts

pub returns-in-Ok-clause-cause : goal.returns-in-Ok-clause-cause
returns-in-Ok-clause-cause g c =
    made-caused (since-then c.unplug_due.ensures.since c.in-Ok.ensures.since) c.exchange.new.self.end _ _ c.in-Ok.ensures.made.ends

pub returns-in-Err-clause-cause : goal.returns-in-Err-clause-cause
returns-in-Err-clause-cause g c = rw c.fail.ensures (fails-since c.unplug_due.ensures.since c.in-Err.ensures.fails)

pub returns-in_default-clause-through : goal.returns-in_default-clause-through
returns-in_default-clause-through g c =
    λ mode verdict is. absurd (c.in_default.not-Admissible (c.verdict.ensures.through (ap (λ (m : View). m.mode) c.begin.ensures.new ∙ mode)))

pub returns-in-Ok-clause-through : goal.returns-in-Ok-clause-through
returns-in-Ok-clause-through g c = λ mode verdict. made-unjudged c.exchange.new.self.end _ _ c.in-Ok.ensures.made.ends verdict

pub returns-in-Err-clause-through : goal.returns-in-Err-clause-through
returns-in-Err-clause-through g c =
    λ mode verdict is. let failed = ap (λ (m : View). m.end) c.fail.ensures in absurd (cc (failed, is))

pub exchange-requires-clause-may : goal.exchange-requires-clause-may
exchange-requires-clause-may g c = record {
  begun = c.begin.ensures.last ∙ ap Some (sym (ap (λ (m : View). m.steps) c.begin.ensures.new));
  left = rw c.begin.ensures.new c.requires.left;
  right = c.verdict.ensures.right c.in-Admissible.is;
}

pub exchange-requires-clause-fit : goal.exchange-requires-clause-fit
exchange-requires-clause-fit g c = record {
  distinct = c.unplug_due.ensures.distinct;
  room = subst (λ (n : ℕ). HasSpare (λ b. (goal.PortDevice-dyn g (b.vtable, b.value)).spare b.value) n c.unplug_due.new.devices.items)
      (sym (ap exchanges_to_come c.begin.ensures.new)) (c.unplug_due.ensures.spare _ c.requires.fit.room);
}

pub returns-in_default-clause-leaves : goal.returns-in_default-clause-leaves
returns-in_default-clause-leaves g c = record {
  keeps = keeps-then (keeps-begun c.args.self.now c.begin.new.self c.begin.ensures.new) (keeps-ended c.begin.new.self c.stop.new.self _ c.stop.ensures);
  most = omega (arith, ap (λ (m : View). m.steps) c.begin.ensures.new, ap (λ (m : View). m.steps) c.stop.ensures);
  left = c.unplug_due.ensures.since.left;
  fit = record {
    distinct = c.unplug_due.ensures.distinct;
    room = subst (λ (n : ℕ). HasSpare (λ b. (goal.PortDevice-dyn g (b.vtable, b.value)).spare b.value) n c.unplug_due.new.devices.items)
        (sym (ap exchanges_to_come c.stop.ensures ∙ ap exchanges_to_come c.begin.ensures.new)) (c.unplug_due.ensures.spare _ c.requires.fit.room);
  };
}

pub returns-in-Ok-clause-leaves : goal.returns-in-Ok-clause-leaves
returns-in-Ok-clause-leaves g c = record {
  keeps = keeps-then (keeps-begun c.args.self.now c.begin.new.self c.begin.ensures.new) c.in-Ok.ensures.made.keeps;
  most = omega (arith, ap (λ (m : View). m.steps) c.begin.ensures.new, made-most c.exchange.new.self.end _ _ c.in-Ok.ensures.made.ends);
  left = (since-then c.unplug_due.ensures.since c.in-Ok.ensures.since).left;
  fit = c.exchange.ensures.fit;
}

pub returns-in-Err-clause-leaves : goal.returns-in-Err-clause-leaves
returns-in-Err-clause-leaves g c = record {
  keeps = keeps-then (keeps-begun c.args.self.now c.begin.new.self c.begin.ensures.new)
      (keeps-ended c.begin.new.self c.fail.new.self _ (rw c.in-Err.ensures.unchanged at c.fail.ensures));
  most = omega (arith, ap (λ (m : View). m.steps) c.begin.ensures.new, ap (λ (m : View). m.steps) (rw c.in-Err.ensures.unchanged at c.fail.ensures));
  left = λ port has. c.unplug_due.ensures.since.left port (fails-has c.in-Err.ensures.fails port has);
  fit = record {
    distinct = c.exchange.ensures.fit.distinct;
    room = subst (λ (n : ℕ). HasSpare (λ b. (goal.PortDevice-dyn g (b.vtable, b.value)).spare b.value) n c.exchange.new.devices.items)
        (sym (ap exchanges_to_come c.fail.ensures)) c.exchange.ensures.fit.room;
  };
}

pub returns-in_default-clause-told : goal.returns-in_default-clause-told
returns-in_default-clause-told g c = λ o r t h.
    let p = is-prepared o r t c.args.self.now c.begin.new.self _ _ h c.requires.running c.begin.ensures.new c.begin.ensures.last
    (λ v s. c.begin.ensures.shows o v _ s) c.unplug_due.ensures.devices in
    rw (running-state o c.args.self.now.mode r t c.args.self.now.end c.requires.running, ← ap (λ (m : View). m.mode) c.begin.ensures.new)
    (told-judged o r t c.begin.new.self _ c.stop.new.self.end c.verdict.result p
    (c.verdict.ensures.verdict o _ _ p.shows (wanted-wished p.shows _ c.wanted-wanted.ensures.value)) c.in_default.not-Admissible)

pub returns-in-Ok-clause-told : goal.returns-in-Ok-clause-told
returns-in-Ok-clause-told g c = λ o r t h.
    let p = is-prepared o r t c.args.self.now c.begin.new.self _ _ h c.requires.running c.begin.ensures.new c.begin.ensures.last
    (λ v s. c.begin.ensures.shows o v _ s) c.unplug_due.ensures.devices in
    let wish = wanted-wished p.shows _ c.wanted-wanted.ensures.value in
    rw (running-state o c.args.self.now.mode r t c.args.self.now.end c.requires.running, ← ap (λ (m : View). m.mode) c.begin.ensures.new)
    (told-made o r t c.begin.new.self c.exchange.new.self _ c.verdict.result c.wanted-wanted.result c.in-Ok.made p
    (c.verdict.ensures.verdict o _ _ p.shows wish) c.in-Admissible.is wish (c.in-Ok.ensures.told o _ p.shows) c.in-Ok.ensures.made.ends)

pub returns-in-Err-clause-told : goal.returns-in-Err-clause-told
returns-in-Err-clause-told g c = λ o r t h. told-failed _ _ _ _ (ap (λ (m : View). m.end) c.fail.ensures)

pub verdict-requires-clause-sound : goal.verdict-requires-clause-sound
verdict-requires-clause-sound g c = λ some.
    sound-recovered c.begin.new.self (read_of_wish c.wanted-wanted.result) c.sound_word-sound.result (rw c.read_of.ensures.value at c.sound_word-sound.ensures.sound)
    (sym c.is_some.ensures ∙ some)
