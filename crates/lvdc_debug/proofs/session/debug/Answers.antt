use Rattle.std.proofs.Common.{◌≡◌, ℕ, ◌+◌, ◌<◌, ◌++◌, [], take, fold, map, length, codes, refl, sym, ap, ◌∙◌, arith, length-append}
use Rattle.std.proofs.lemmas.List.{get_or-map, length-map, take_all}
use Rattle.lvdc_text.specs.Lines.{part_of}
use Rattle.lvdc_model.specs.Trial.{Trial}
use Rattle.lvdc_debug.specs.declared.course.Course.{Course}
use Rattle.lvdc_debug.specs.Session.{at_start, after_line, entries}
use Rattle.lvdc_debug.specs.Standing.{command_texts, AtStart, subject_of, IsSubject, StandsAmid}
use Rattle.lvdc_debug.proofs.Entries.{course_more, entries_more, entries_none}
use Rattle.lvdc_debug.proofs.Going.{moves_then, moves_not, subject_before, on_err}
use Rattle.lvdc_debug.proofs.Showing.{stands_after}
use Rattle.lvdc_debug.proofs.Spent.{no_line, spent_more}
use Rattle.lvdc_debug.proofs.session.debug.Goals as goal

pub loop-line-init : goal.loop-line-init
loop-line-init g c = record {
  ready =
      let start = c.requires.fresh.steps_are in
      rw c.new-course.ensures (record {
        mode = c.requires.fresh.mode_is;
        limit_is = refl;
        few = omega arith;
        made = omega (arith, start);
        fit = c.requires.fit;
      });
  moves =
      rw c.new-course.ensures (moves_not (λ b. (goal.PortDevice-dyn g (b.vtable, b.value)).device_of b.value) (λ b. (goal.PortDevice-dyn g (b.vtable, b.value)).faults b.value)
      0 c.args.machine.now c.args.devices.now.items);
  course = λ o s opens st is. c.new-course.ensures;
  text = λ o s opens st is. c.in_ok-extend_from_slice.ensures.items ∙ entries_none s _ c.new-out.ensures.items;
  short = λ apart. omega (arith, length-append {A = ℕ}, ap length c.in_ok-extend_from_slice.ensures.items, ap length c.new-out.ensures.items);
}

pub loop-line-preserved : goal.loop-line-preserved
loop-line-preserved g c =
    let before = c.loop-line.invariant in
    let took = c.in_ok-take_line.ensures in
    let texts = command_texts c.args.bytes.now c.args.commands.now in
    let within : c.loop-line.line-index < length c.args.commands.now = c.loop-line-test.true in
    let few : c.loop-line.line-index < length texts = omega (arith, within, length-map c.args.commands.now (part_of c.args.bytes.now)) in
    let text = c.part.ensures ∙ sym (get_or-map (part_of c.args.bytes.now) c.args.commands.now c.loop-line.line-index no_line [] within) in
    record {
      ready = record {
        mode = took.ready.mode;
        limit_is = took.ready.limit_is ∙ before.ready.limit_is;
        few = rw before.ready.limit_is at took.ready.few;
        made = took.ready.made;
        fit = took.ready.fit;
      };
      moves =
          moves_then (λ b. (goal.PortDevice-dyn g (b.vtable, b.value)).device_of b.value) (λ b. (goal.PortDevice-dyn g (b.vtable, b.value)).faults b.value)
          0 c.loop-line.course.asked c.take_line.new.self.asked c.args.machine.now c.loop-line.machine c.take_line.new.machine
          c.args.devices.now.items c.loop-line.devices.items c.take_line.new.devices.items before.moves took.moves;
      course = λ o s opens st is.
          let stands = (before.moves.goes o st).stands in
          let old = subject_before o c.loop-line.course.asked c.take_line.new.self.asked c.loop-line.machine c.take_line.new.machine _ s took.moves.forward took.ready.limit_is
          (took.moves.goes o stands) is in
          course_more s texts c.loop-line.line-index c.part.result.now c.loop-line.course few text (before.course o s opens st old) c.take_line.new.self
          (took.went o s opens stands is);
      text = λ o s opens st is.
          let stands = (before.moves.goes o st).stands in
          let old = subject_before o c.loop-line.course.asked c.take_line.new.self.asked c.loop-line.machine c.take_line.new.machine _ s took.moves.forward took.ready.limit_is
          (took.moves.goes o stands) is in
          entries_more s texts c.loop-line.line-index c.part.result.now c.loop-line.course few text (before.course o s opens st old) (codes "LVDC DEBUG\n")
          c.loop-line.out.items c.take_line.new.out.items (before.text o s opens st old) (took.text o s opens stands is);
      short = λ apart.
          spent_more c.args.bytes.now c.args.commands.now c.loop-line.line-index c.part.result.now (length c.loop-line.out.items) (length c.take_line.new.out.items)
          apart within (c.requires.within c.loop-line.line-index no_line within) c.part.ensures (before.short apart) took.short;
    }

pub returns-in_err-take_line-clause-amid : goal.returns-in_err-take_line-clause-amid
returns-in_err-take_line-clause-amid g c =
    let before = c.loop-line.invariant in
    let took = c.in_err-take_line.ensures in
    let texts = command_texts c.args.bytes.now c.args.commands.now in
    let within : c.loop-line.line-index < length c.args.commands.now = c.loop-line-test.true in
    let few : c.loop-line.line-index < length texts = omega (arith, within, length-map c.args.commands.now (part_of c.args.bytes.now)) in
    let text = c.part.ensures ∙ sym (get_or-map (part_of c.args.bytes.now) c.args.commands.now c.loop-line.line-index no_line [] within) in
    let amid : (o : Trial)
    → AtStart o c.args.machine.now (map (λ b. (goal.PortDevice-dyn g (b.vtable, b.value)).device_of b.value) c.args.devices.now.items)
    → StandsAmid o texts c.take_line.new.machine (map (λ b. (goal.PortDevice-dyn g (b.vtable, b.value)).device_of b.value) c.take_line.new.devices.items) =
    λ o at.
    let opens = at.opening in
    let st = at.stands in
    let s = subject_of o c.take_line.new.machine in
    let is : IsSubject o c.take_line.new.machine c.take_line.new.self.asked s = record { trial = refl; limit = refl; state = λ k h. refl } in
    let stands = (before.moves.goes o st).stands in
    let goes = took.moves.goes o stands in
    let old = subject_before o c.loop-line.course.asked c.take_line.new.self.asked c.loop-line.machine c.take_line.new.machine _ s took.moves.forward took.ready.limit_is goes is in
    let course = course_more s texts c.loop-line.line-index c.part.result.now c.loop-line.course few text (before.course o s opens st old) c.take_line.new.self
    (took.went o s opens stands is) in
    record {
      count = c.loop-line.line-index + 1;
      within = omega (arith, few);
      after = stands_after o (take (c.loop-line.line-index + 1) texts) c.take_line.new.self.asked c.take_line.new.machine _ (c.judges_alone.ensures o opens) took.ready.mode
          (ap (λ (x : Course). x.asked) course) goes.stands;
    } in
    on_err _ amid

pub returns-clause-text : goal.returns-clause-text
returns-clause-text g c = λ o at.
    let opens = at.opening in
    let st = at.stands in
    let before = c.loop-line.invariant in
    let texts = command_texts c.args.bytes.now c.args.commands.now in
    let all : take c.loop-line.line-index texts ≡ texts =
    take_all c.loop-line.line-index texts (omega (arith, c.loop-line-test.false, length-map c.args.commands.now (part_of c.args.bytes.now))) in
    let s = subject_of o c.loop-line.machine in
    before.text o s opens st (record { trial = refl; limit = refl; state = λ k h. refl }) ∙ ap (λ x. codes "LVDC DEBUG\n" ++ entries s at_start x) all

pub returns-clause-stands : goal.returns-clause-stands
returns-clause-stands g c = λ o at.
    let opens = at.opening in
    let st = at.stands in
    let before = c.loop-line.invariant in
    let texts = command_texts c.args.bytes.now c.args.commands.now in
    let all : take c.loop-line.line-index texts ≡ texts =
    take_all c.loop-line.line-index texts (omega (arith, c.loop-line-test.false, length-map c.args.commands.now (part_of c.args.bytes.now))) in
    let s = subject_of o c.loop-line.machine in
    let course = before.course o s opens st (record { trial = refl; limit = refl; state = λ k h. refl }) ∙ ap (fold (after_line s) at_start) all in
    stands_after o texts c.loop-line.course.asked c.loop-line.machine _ (c.judges_alone.ensures o opens) before.ready.mode (ap (λ (x : Course). x.asked) course)
    (before.moves.goes o st).stands

pub returns-clause-distinct : goal.returns-clause-distinct
returns-clause-distinct g c = c.loop-line.invariant.ready.fit.distinct

pub returns-in_err-take_line-clause-distinct : goal.returns-in_err-take_line-clause-distinct
returns-in_err-take_line-clause-distinct g c = c.in_err-take_line.ensures.ready.fit.distinct
