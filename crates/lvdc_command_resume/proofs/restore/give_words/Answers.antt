use Rattle.std.proofs.Common.{map, refl}
use Rattle.std.proofs.lemmas.Option.{slice_get_read}
use Rattle.lvdc_command_resume.proofs.Taking.{states-more, since-both, refused-next, refused-given, next-room}
use Rattle.lvdc_command_resume.proofs.Told.{were-more, were-all}
use Rattle.lvdc_command_resume.proofs.restore.give_words.Goals as goal

pub returns-in-Err-clause-refused : goal.returns-in-Err-clause-refused
returns-in-Err-clause-refused g c =
    refused-given (λ b. (goal.PortDevice-dyn g (b.vtable, b.value)).device_of b.value) (λ b. (goal.PortDevice-dyn g (b.vtable, b.value)).faults b.value)
    c.args.saved.now.states c.items-states.result.now
    (map (λ b. (goal.PortDevice-dyn g (b.vtable, b.value)).device_of b.value) c.args.devices.now.items) c.in-Err.refused c.args.devices.now.items
    c.give_word.new.devices.items c.items-states.ensures
    (refused-next _ _ c.items-states.result.now _ c.loop-state.state-index c.state-item.result c.in-Err.refused _ _ _
    (slice_get_read c.items-states.result.now _ _ _ refl c.loop-state-test.true c.state-item.is)
    c.loop-state.invariant.taken c.loop-state.invariant.since c.in-Err.ensures.err c.in-Err.ensures.refused)

pub loop-state-preserved : goal.loop-state-preserved
loop-state-preserved g c = record {
  taken = states-more c.items-states.result.now c.loop-state.state-index c.state-item.result _ _ _ c.loop-state-test.true c.state-item.is c.in-Ok.ensures.ok c.loop-state.invariant.taken;
  since = since-both c.loop-state.invariant.since c.in-Ok.ensures.since;
  told = were-more _ _ c.args.time c.items-states.result.now c.loop-state.state-index c.state-item.result _ _ _ c.loop-state-test.true c.state-item.is c.in-Ok.ensures.ok c.loop-state.invariant.told c.in-Ok.ensures.told;
  room = c.in-Ok.ensures.spare _ (next-room (λ b. (goal.PortDevice-dyn g (b.vtable, b.value)).spare b.value) _ _ _ c.loop-state-test.true c.loop-state.invariant.room);
}

pub returns-clause-told : goal.returns-clause-told
returns-clause-told g c =
    were-all _ _ c.args.time c.args.saved.now.states c.items-states.result.now c.loop-state.state-index c.args.devices.now.items c.loop-state.devices.items
    c.items-states.ensures c.loop-state-test.false c.loop-state.invariant.told
