use Rattle.std.proofs.Common.{◌+◌, ◌*◌, refl, ◌∙◌, arith}
use Rattle.lvdc_debug.proofs.Going.{moves_then, run_moves, run_ready, run_left}
use Rattle.lvdc_debug.proofs.Resting.{rested, still_going, going_before, went_to_rest, went_to_limit}
use Rattle.lvdc_debug.proofs.course.Course.go.Goals as goal

pub loop-self-preserved : goal.loop-self-preserved
loop-self-preserved g c =
    let before = c.loop-self.invariant in
    let moves = run_moves (λ b. (goal.PortDevice-dyn g (b.vtable, b.value)).device_of b.value) (λ b. (goal.PortDevice-dyn g (b.vtable, b.value)).spare b.value) (λ b. (goal.PortDevice-dyn g (b.vtable, b.value)).faults b.value)
    c.loop-self.self.asked 1 c.loop-self.machine c.run.new.self c.loop-self.devices.items c.run.new.devices.items c.run.result
    (record { mode = before.ready.mode; limit_is = refl; few = rw before.ready.limit_is before.ready.few; made = before.ready.made; fit = before.ready.fit })
    (omega (arith, c.loop-self-test.true, c.limit.ensures)) c.run.ensures.stands c.run.ensures.answers c.run.ensures.leaves in
    let ready = run_ready (λ b. (goal.PortDevice-dyn g (b.vtable, b.value)).device_of b.value) (λ b. (goal.PortDevice-dyn g (b.vtable, b.value)).spare b.value) (λ b. (goal.PortDevice-dyn g (b.vtable, b.value)).faults b.value)
    c.loop-self.self.asked 1 c.loop-self.machine c.run.new.self c.loop-self.devices.items c.run.new.devices.items c.run.result
    (record { mode = before.ready.mode; limit_is = refl; few = rw before.ready.limit_is before.ready.few; made = before.ready.made; fit = before.ready.fit })
    (omega (arith, c.loop-self-test.true, c.limit.ensures)) c.run.ensures.stands c.run.ensures.answers c.run.ensures.leaves in
    record {
      breaks = before.breaks;
      ready = record {
        mode = ready.mode;
        limit_is = ready.limit_is ∙ before.ready.limit_is;
        few = rw before.ready.limit_is at ready.few;
        made = ready.made;
        fit = ready.fit;
      };
      moves =
          moves_then (λ b. (goal.PortDevice-dyn g (b.vtable, b.value)).device_of b.value) (λ b. (goal.PortDevice-dyn g (b.vtable, b.value)).faults b.value)
          c.args.self.now.asked c.loop-self.self.asked (c.loop-self.self.asked + 1) c.args.machine.now c.loop-self.machine c.run.new.self
          c.args.devices.now.items c.loop-self.devices.items c.run.new.devices.items before.moves moves;
      going = λ o opens s.
          let goes = moves.goes o (before.moves.goes o s).stands in
          still_going o c.args.self.now.breaks c.args.self.now.asked c.loop-self.self.asked c.loop-self.machine c.run.new.self _ (before.going o opens s) goes
          (rested o (c.loop-self.self.asked + 1) c.run.new.self _ c.loop-self.self.breaks c.args.self.now.breaks c.rests.result (c.judges_alone.ensures o opens)
          ready.mode goes.stands before.breaks (c.rests.ensures o (3 * (c.loop-self.self.asked + 1)) _ goes.stands) ∙ c.if-rests.false);
    }

pub returns-then-rests-clause-went : goal.returns-then-rests-clause-went
returns-then-rests-clause-went g c = λ o s opens st is.
    let before = c.loop-self.invariant in
    let moves = run_moves (λ b. (goal.PortDevice-dyn g (b.vtable, b.value)).device_of b.value) (λ b. (goal.PortDevice-dyn g (b.vtable, b.value)).spare b.value) (λ b. (goal.PortDevice-dyn g (b.vtable, b.value)).faults b.value)
    c.loop-self.self.asked 1 c.loop-self.machine c.run.new.self c.loop-self.devices.items c.run.new.devices.items c.run.result
    (record { mode = before.ready.mode; limit_is = refl; few = rw before.ready.limit_is before.ready.few; made = before.ready.made; fit = before.ready.fit })
    (omega (arith, c.loop-self-test.true, c.limit.ensures)) c.run.ensures.stands c.run.ensures.answers c.run.ensures.leaves in
    let ready = run_ready (λ b. (goal.PortDevice-dyn g (b.vtable, b.value)).device_of b.value) (λ b. (goal.PortDevice-dyn g (b.vtable, b.value)).spare b.value) (λ b. (goal.PortDevice-dyn g (b.vtable, b.value)).faults b.value)
    c.loop-self.self.asked 1 c.loop-self.machine c.run.new.self c.loop-self.devices.items c.run.new.devices.items c.run.result
    (record { mode = before.ready.mode; limit_is = refl; few = rw before.ready.limit_is before.ready.few; made = before.ready.made; fit = before.ready.fit })
    (omega (arith, c.loop-self-test.true, c.limit.ensures)) c.run.ensures.stands c.run.ensures.answers c.run.ensures.leaves in
    let goes = moves.goes o (before.moves.goes o st).stands in
    let forward = before.moves.forward in
    let few = ready.few in
    let limit = ready.limit_is in
    went_to_rest o s c.args.self.now (record { asked = c.loop-self.self.asked + 1; breaks = c.loop-self.self.breaks }) c.run.new.self is
    (omega (arith, few, limit)) (omega (arith, forward)) before.breaks (omega (arith, forward))
    (rested o (c.loop-self.self.asked + 1) c.run.new.self _ c.loop-self.self.breaks c.args.self.now.breaks c.rests.result (c.judges_alone.ensures o opens)
    ready.mode goes.stands before.breaks (c.rests.ensures o (3 * (c.loop-self.self.asked + 1)) _ goes.stands) ∙ c.if-rests.true)
    (going_before o c.args.self.now.breaks c.args.self.now.asked c.loop-self.self.asked c.loop-self.machine c.run.new.self _ (before.going o opens st) goes)

pub returns-clause-went : goal.returns-clause-went
returns-clause-went g c = λ o s opens st is.
    let before = c.loop-self.invariant in
    let few = before.ready.few in
    let limit = before.ready.limit_is in
    let full = c.limit.ensures in
    went_to_limit o s c.args.self.now c.loop-self.self c.loop-self.machine is (omega (arith, few, limit)) before.moves.forward before.breaks
    (omega (arith, few, limit, full)) (before.going o opens st)

pub run-requires-clause-left : goal.run-requires-clause-left
run-requires-clause-left g c =
    let before = c.loop-self.invariant in
    run_left c.loop-self.self.asked 1 c.loop-self.machine.limit c.loop-self.machine.steps (rw before.ready.limit_is before.ready.few) before.ready.made
    (omega (arith, c.loop-self-test.true, c.limit.ensures))

pub run-requires-clause-fit : goal.run-requires-clause-fit
run-requires-clause-fit g c = c.loop-self.invariant.ready.fit

pub returns-then-rests-clause-moves : goal.returns-then-rests-clause-moves
returns-then-rests-clause-moves g c =
    let before = c.loop-self.invariant in
    let moves = run_moves (λ b. (goal.PortDevice-dyn g (b.vtable, b.value)).device_of b.value) (λ b. (goal.PortDevice-dyn g (b.vtable, b.value)).spare b.value) (λ b. (goal.PortDevice-dyn g (b.vtable, b.value)).faults b.value)
    c.loop-self.self.asked 1 c.loop-self.machine c.run.new.self c.loop-self.devices.items c.run.new.devices.items c.run.result
    (record { mode = before.ready.mode; limit_is = refl; few = rw before.ready.limit_is before.ready.few; made = before.ready.made; fit = before.ready.fit })
    (omega (arith, c.loop-self-test.true, c.limit.ensures)) c.run.ensures.stands c.run.ensures.answers c.run.ensures.leaves in
    moves_then (λ b. (goal.PortDevice-dyn g (b.vtable, b.value)).device_of b.value) (λ b. (goal.PortDevice-dyn g (b.vtable, b.value)).faults b.value)
    c.args.self.now.asked c.loop-self.self.asked (c.loop-self.self.asked + 1) c.args.machine.now c.loop-self.machine c.run.new.self
    c.args.devices.now.items c.loop-self.devices.items c.run.new.devices.items before.moves moves

pub returns-then-rests-clause-ready : goal.returns-then-rests-clause-ready
returns-then-rests-clause-ready g c =
    let before = c.loop-self.invariant in
    let ready = run_ready (λ b. (goal.PortDevice-dyn g (b.vtable, b.value)).device_of b.value) (λ b. (goal.PortDevice-dyn g (b.vtable, b.value)).spare b.value) (λ b. (goal.PortDevice-dyn g (b.vtable, b.value)).faults b.value)
    c.loop-self.self.asked 1 c.loop-self.machine c.run.new.self c.loop-self.devices.items c.run.new.devices.items c.run.result
    (record { mode = before.ready.mode; limit_is = refl; few = rw before.ready.limit_is before.ready.few; made = before.ready.made; fit = before.ready.fit })
    (omega (arith, c.loop-self-test.true, c.limit.ensures)) c.run.ensures.stands c.run.ensures.answers c.run.ensures.leaves in
    record {
      mode = ready.mode;
      limit_is = ready.limit_is ∙ before.ready.limit_is;
      few = rw before.ready.limit_is at ready.few;
      made = ready.made;
      fit = ready.fit;
    }
