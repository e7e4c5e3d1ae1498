use Rattle.std.proofs.Common.{ℕ, map, refl, sym, subst, ◌∙◌}
use Rattle.std.proofs.lemmas.Result.{IfOk-weaker}
use Rattle.lvdc_reply.specs.Answer.{answer_with}
use Rattle.lvdc_reply.proofs.Statuses.{on_err, if_ok_both}
use Rattle.lvdc_command_save.specs.Replies.{IsStop}
use Rattle.lvdc_command_save.proofs.Halved.{saved_run, ended_run}
use Rattle.lvdc_command_save.proofs.Stops.{saved_from, reported_due, unwritten}
use Rattle.lvdc_command_save.proofs.reply.save_deck.Goals as goal

pub returns-in_err-machine-clause-unwritten : goal.returns-in_err-machine-clause-unwritten
returns-in_err-machine-clause-unwritten g c = on_err _ c.in_err-machine.ensures.unmade

pub returns-in-None-clause-unwritten : goal.returns-in-None-clause-unwritten
returns-in-None-clause-unwritten g c =
    let h = c.in_ok-machine.ensures.run in
    on_err c.reply_saved.result (unwritten (λ b. (goal.PortDevice-dyn g (b.vtable, b.value)).device_of b.value) (λ b. (goal.PortDevice-dyn g (b.vtable, b.value)).faults b.value)
    c.args.times c.args.deck c.args.devices.now.items c.run_times.new.devices.items c.in_ok-machine.field-0.machine h (c.judges_alone.ensures _ h.run.opening))

pub returns-clause-unwritten : goal.returns-clause-unwritten
returns-clause-unwritten g c =
    let h = c.in_ok-machine.ensures.run in
    on_err c.report_end.result (unwritten (λ b. (goal.PortDevice-dyn g (b.vtable, b.value)).device_of b.value) (λ b. (goal.PortDevice-dyn g (b.vtable, b.value)).faults b.value)
    c.args.times c.args.deck c.args.devices.now.items c.run_times.new.devices.items c.in_ok-machine.field-0.machine h (c.judges_alone.ensures _ h.run.opening))

pub returns-in-None-clause-stop : goal.returns-in-None-clause-stop
returns-in-None-clause-stop g c =
    let h = c.in_ok-machine.ensures.run in
    if_ok_both c.reply_saved.result _ _ _ (λ reply zero text.
    subst (λ (status : ℕ). IsStop (λ b. (goal.PortDevice-dyn g (b.vtable, b.value)).device_of b.value) (λ b. (goal.PortDevice-dyn g (b.vtable, b.value)).faults b.value) c.args.times c.args.deck c.args.devices.now.items c.run_times.new.devices.items
    (answer_with status reply.text (map (λ b. (goal.PortDevice-dyn g (b.vtable, b.value)).device_of b.value) c.run_times.new.devices.items))) (sym zero)
    (saved_from (λ b. (goal.PortDevice-dyn g (b.vtable, b.value)).device_of b.value) (λ b. (goal.PortDevice-dyn g (b.vtable, b.value)).faults b.value)
    c.args.times c.args.deck c.args.devices.now.items c.run_times.new.devices.items c.in_ok-machine.field-0.machine h (c.judges_alone.ensures _ h.run.opening)
    c.deref.result.now _ _ _ c.in_ok-machine.field-0.orders
    reply.text reply.text c.deref.ensures.value (sym c.ended.ensures ∙ c.in-None.is) c.in_ok-machine.ensures.limit
    h.run.stands.shows.unplugs h.run.stands.shows.script c.in_ok-machine.ensures.orders refl text))
    c.reply_saved.ensures.status c.reply_saved.ensures.text

pub returns-clause-stop : goal.returns-clause-stop
returns-clause-stop g c =
    let h = c.in_ok-machine.ensures.run in
    if_ok_both c.report_end.result _ _ _ (λ reply status text.
    reported_due (λ b. (goal.PortDevice-dyn g (b.vtable, b.value)).device_of b.value) (λ b. (goal.PortDevice-dyn g (b.vtable, b.value)).faults b.value)
    c.args.times c.args.deck c.args.devices.now.items c.run_times.new.devices.items c.in_ok-machine.field-0.machine h (c.judges_alone.ensures _ h.run.opening)
    c.in-Some._end (sym c.ended.ensures ∙ c.in-Some.is) reply.status reply.text
    (rw (sym c.ended.ensures ∙ c.in-Some.is) at status) (text _ _ _ _ h.run.stands))
    c.report_end.ensures.status c.report_end.ensures.text

pub returns-in-None-clause-saved : goal.returns-in-None-clause-saved
returns-in-None-clause-saved g c =
    let h = c.in_ok-machine.ensures.run in
    if_ok_both c.reply_saved.result _ _ _ (λ reply text taken zero.
    saved_run (λ b. (goal.PortDevice-dyn g (b.vtable, b.value)).device_of b.value) (λ b. (goal.PortDevice-dyn g (b.vtable, b.value)).faults b.value)
    c.args.times c.args.deck c.args.devices.now.items c.run_times.new.devices.items c.in_ok-machine.field-0.machine h (c.judges_alone.ensures _ h.run.opening)
    c.deref.result.now _ _ _ c.in_ok-machine.field-0.orders
    reply.text reply.text c.deref.ensures.value (sym c.ended.ensures ∙ c.in-None.is) c.in_ok-machine.ensures.limit
    h.run.stands.shows.unplugs h.run.stands.shows.script c.in_ok-machine.ensures.orders refl text taken)
    c.reply_saved.ensures.text c.reply_saved.ensures.taken

pub returns-clause-saved : goal.returns-clause-saved
returns-clause-saved g c =
    let h = c.in_ok-machine.ensures.run in
    IfOk-weaker c.report_end.result _ _ (λ reply status zero.
    ended_run (λ b. (goal.PortDevice-dyn g (b.vtable, b.value)).device_of b.value) (λ b. (goal.PortDevice-dyn g (b.vtable, b.value)).faults b.value)
    c.args.times c.args.deck c.args.devices.now.items c.run_times.new.devices.items c.in_ok-machine.field-0.machine h (c.judges_alone.ensures _ h.run.opening)
    c.in-Some._end (sym c.ended.ensures ∙ c.in-Some.is) reply.status
    (rw (sym c.ended.ensures ∙ c.in-Some.is) at status) reply.text zero)
    c.report_end.ensures.status
