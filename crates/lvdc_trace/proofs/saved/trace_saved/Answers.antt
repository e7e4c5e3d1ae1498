use Rattle.std.proofs.Common.{◌∙◌, map, ap}
use Rattle.lvdc_machine.specs.Steps.{run_of}
use Rattle.lvdc_command_run.specs.Accounts.{end_status}
use Rattle.lvdc_command_resume.specs.Runs.{trial_of, first_state, steps_left}
use Rattle.lvdc_reply.proofs.Statuses.{on_err, if_ok_both}
use Rattle.lvdc_trace.specs.Replies.{told}
use Rattle.lvdc_trace.specs.Traces.{window_after}
use Rattle.lvdc_trace.proofs.Resuming.{at-state, own-state, traces-on, failed-told, failed-untold, amid-saved}
use Rattle.lvdc_trace.proofs.Untelling.{untold, traced_is, traced-as, amid-as}
use Rattle.lvdc_trace.proofs.saved.trace_saved.Goals as goal

pub returns-in_err-text-in-Ok-clause-unsaved : goal.returns-in_err-text-in-Ok-clause-unsaved
returns-in_err-text-in-Ok-clause-unsaved g c =
    let s = c.args.saved in
    let ds = map (λ b. (goal.PortDevice-dyn g (b.vtable, b.value)).device_of b.value) c.args.devices.now.items in
    let own = own-state s ds (c.resumed_goes_on.ensures.meant s.snapshot _) in
    on_err _ (amid-saved (λ b. (goal.PortDevice-dyn g (b.vtable, b.value)).device_of b.value) (λ b. (goal.PortDevice-dyn g (b.vtable, b.value)).faults b.value)
    c.args.mode c.args.window s c.args.devices.now.items c.trace.new.devices.items
    (amid-as (λ b. (goal.PortDevice-dyn g (b.vtable, b.value)).device_of b.value) (λ b. (goal.PortDevice-dyn g (b.vtable, b.value)).faults b.value)
    c.args.mode (trial_of s ds) (first_state s ds) (steps_left s) c.args.devices.now.items c.trace.new.devices.items _ (window_after s.snapshot.steps c.args.window) c.after-window.ensures
    (untold (λ b. (goal.PortDevice-dyn g (b.vtable, b.value)).device_of b.value) (λ b. (goal.PortDevice-dyn g (b.vtable, b.value)).spare b.value) (λ b. (goal.PortDevice-dyn g (b.vtable, b.value)).faults b.value)
    c.args.mode c.after-window.result (trial_of s ds) (first_state s ds) (steps_left s) c.args.devices.now.items c.open_saved.new.devices.items
    c.in-Ok.ensures.since.counts c.in-Ok.opened.machine c.trace.new.machine c.trace.new.devices.items
    (at-state c.args.mode s ds _ c.in-Ok.opened.machine c.requires.guarded c.in-Ok.ensures.stands c.in-Ok.ensures.fresh _ _ own)
    c.in_err-text-in-Ok.ensures.part)))

pub returns-in_ok-text-in-Ok-clause-traced : goal.returns-in_ok-text-in-Ok-clause-traced
returns-in_ok-text-in-Ok-clause-traced g c =
    let s = c.args.saved in
    let ds = map (λ b. (goal.PortDevice-dyn g (b.vtable, b.value)).device_of b.value) c.args.devices.now.items in
    let own = own-state s ds (c.resumed_goes_on.ensures.meant s.snapshot _) in
    let at = at-state c.args.mode s ds _ c.in-Ok.opened.machine c.requires.guarded c.in-Ok.ensures.stands c.in-Ok.ensures.fresh (trial_of s ds) (first_state s ds) own in
    told _ (traced-as (λ b. (goal.PortDevice-dyn g (b.vtable, b.value)).device_of b.value) (λ b. (goal.PortDevice-dyn g (b.vtable, b.value)).faults b.value)
    c.args.mode (trial_of s ds) (first_state s ds) (steps_left s) c.args.devices.now.items c.trace.new.devices.items _ (window_after s.snapshot.steps c.args.window) c.after-window.ensures _
    (traced_is (λ b. (goal.PortDevice-dyn g (b.vtable, b.value)).device_of b.value) (λ b. (goal.PortDevice-dyn g (b.vtable, b.value)).spare b.value) (λ b. (goal.PortDevice-dyn g (b.vtable, b.value)).faults b.value)
    c.args.mode c.after-window.result (trial_of s ds) (first_state s ds) (steps_left s) c.args.devices.now.items c.open_saved.new.devices.items
    c.in-Ok.ensures.since.counts c.in-Ok.opened.machine c.trace.new.machine c.trace.new.devices.items at
    c.in_ok-text-in-Ok.ensures.goes c.end_status.result c.from_vec.result
    (c.end_status.ensures ∙ ap end_status c.outcome.ensures)
    (c.from_vec.ensures ∙ c.in_ok-text-in-Ok.ensures.text (trial_of s ds) (first_state s ds) at.stands)))

pub returns-in_ok-text-in-Ok-clause-goes_on : goal.returns-in_ok-text-in-Ok-clause-goes_on
returns-in_ok-text-in-Ok-clause-goes_on g c = λ o means later unfailed.
    let s = c.args.saved in
    let ds = map (λ b. (goal.PortDevice-dyn g (b.vtable, b.value)).device_of b.value) c.args.devices.now.items in
    let then = run_of c.args.mode o s.snapshot.steps in
    let at = at-state c.args.mode s ds _ c.in-Ok.opened.machine c.requires.guarded c.in-Ok.ensures.stands c.in-Ok.ensures.fresh o then means in
    traces-on (λ b. (goal.PortDevice-dyn g (b.vtable, b.value)).device_of b.value) (λ b. (goal.PortDevice-dyn g (b.vtable, b.value)).faults b.value) c.args.mode c.args.window s c.args.devices.now.items c.trace.new.devices.items o
    c.requires.runnable.steps later _ unfailed
    (traced-as (λ b. (goal.PortDevice-dyn g (b.vtable, b.value)).device_of b.value) (λ b. (goal.PortDevice-dyn g (b.vtable, b.value)).faults b.value)
    c.args.mode o then (steps_left s) c.args.devices.now.items c.trace.new.devices.items _ (window_after s.snapshot.steps c.args.window) c.after-window.ensures _
    (traced_is (λ b. (goal.PortDevice-dyn g (b.vtable, b.value)).device_of b.value) (λ b. (goal.PortDevice-dyn g (b.vtable, b.value)).spare b.value) (λ b. (goal.PortDevice-dyn g (b.vtable, b.value)).faults b.value)
    c.args.mode c.after-window.result o then (steps_left s) c.args.devices.now.items c.open_saved.new.devices.items
    c.in-Ok.ensures.since.counts c.in-Ok.opened.machine c.trace.new.machine c.trace.new.devices.items at
    c.in_ok-text-in-Ok.ensures.goes c.end_status.result c.from_vec.result
    (c.end_status.ensures ∙ ap end_status c.outcome.ensures)
    (c.from_vec.ensures ∙ c.in_ok-text-in-Ok.ensures.text o then at.stands)))

pub returns-in-Err-Failed-clause-traced : goal.returns-in-Err-Failed-clause-traced
returns-in-Err-Failed-clause-traced g c =
    if_ok_both c.refuse_device.result _ _ _
    (λ reply status text. failed-told (λ b. (goal.PortDevice-dyn g (b.vtable, b.value)).device_of b.value) (λ b. (goal.PortDevice-dyn g (b.vtable, b.value)).faults b.value) c.args.mode c.args.window c.args.saved c.args.devices.now.items c.open_saved.new.devices.items
    _ reply.status reply.text (rw c.in-Err-Failed.field-0-is at c.in-Err-Failed.ensures.refused) status text)
    c.refuse_device.ensures.status (rw c.in-Err-Failed.field-0-is at c.refuse_device.ensures.text)

pub returns-in-Err-Failed-clause-unsaved : goal.returns-in-Err-Failed-clause-unsaved
returns-in-Err-Failed-clause-unsaved g c =
    on_err _ (failed-untold (λ b. (goal.PortDevice-dyn g (b.vtable, b.value)).device_of b.value) (λ b. (goal.PortDevice-dyn g (b.vtable, b.value)).faults b.value) c.args.mode c.args.window c.args.saved c.args.devices.now.items c.open_saved.new.devices.items
    c.in-Err-Failed.port (rw c.in-Err-Failed.field-0-is at c.in-Err-Failed.ensures.refused))
