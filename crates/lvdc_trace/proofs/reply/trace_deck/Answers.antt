use Rattle.std.proofs.Common.{◌≤◌, ◌∙◌, ◌*◌, List, ℕ, length, map, ap, sym, subst}
use Rattle.lvdc_model.specs.Voted.{voted_start}
use Rattle.lvdc_command_run.specs.Accounts.{end_status}
use Rattle.lvdc_command_run.specs.Trials.{trial_of}
use Rattle.lvdc_reply.proofs.Statuses.{on_err}
use Rattle.lvdc_trace.proofs.Untelling.{at-start, unmade, amid-deck, untold, traced_is}
use Rattle.lvdc_trace.proofs.reply.trace_deck.Goals as goal

pub returns-in_err-machine-clause-untold : goal.returns-in_err-machine-clause-untold
returns-in_err-machine-clause-untold g c =
    on_err _ (unmade (λ b. (goal.PortDevice-dyn g (b.vtable, b.value)).device_of b.value) (λ b. (goal.PortDevice-dyn g (b.vtable, b.value)).faults b.value)
    c.args.mode c.args.window c.args.deck c.args.devices.now.items c.make_ready.new.devices.items c.in_err-machine.ensures.counts c.in_err-machine.ensures.part)

pub returns-in_err-text-clause-untold : goal.returns-in_err-text-clause-untold
returns-in_err-text-clause-untold g c =
    let o = trial_of (map (λ b. (goal.PortDevice-dyn g (b.vtable, b.value)).device_of b.value) c.args.devices.now.items) c.args.deck in
    on_err _ (amid-deck (λ b. (goal.PortDevice-dyn g (b.vtable, b.value)).device_of b.value) (λ b. (goal.PortDevice-dyn g (b.vtable, b.value)).faults b.value) c.args.mode c.args.window c.args.deck c.args.devices.now.items c.trace.new.devices.items
    (untold (λ b. (goal.PortDevice-dyn g (b.vtable, b.value)).device_of b.value) (λ b. (goal.PortDevice-dyn g (b.vtable, b.value)).spare b.value) (λ b. (goal.PortDevice-dyn g (b.vtable, b.value)).faults b.value)
    c.args.mode c.args.window o (voted_start o) (3 * c.args.deck.count) c.args.devices.now.items c.make_ready.new.devices.items (λ port has. c.in_ok-machine.ensures.counts port)
    _ c.trace.new.machine c.trace.new.devices.items (at-start o c.args.mode c.args.deck.count _ _ c.in_ok-machine.ensures.begins) c.in_err-text.ensures.part))

pub returns-clause-traced : goal.returns-clause-traced
returns-clause-traced g c =
    let o = trial_of (map (λ b. (goal.PortDevice-dyn g (b.vtable, b.value)).device_of b.value) c.args.devices.now.items) c.args.deck in
    traced_is (λ b. (goal.PortDevice-dyn g (b.vtable, b.value)).device_of b.value) (λ b. (goal.PortDevice-dyn g (b.vtable, b.value)).spare b.value) (λ b. (goal.PortDevice-dyn g (b.vtable, b.value)).faults b.value)
    c.args.mode c.args.window o (voted_start o) (3 * c.args.deck.count) c.args.devices.now.items c.make_ready.new.devices.items (λ port has. c.in_ok-machine.ensures.counts port)
    _ c.trace.new.machine c.trace.new.devices.items (at-start o c.args.mode c.args.deck.count _ _ c.in_ok-machine.ensures.begins) c.in_ok-text.ensures.goes
    c.end_status.result c.from_vec.result
    (c.end_status.ensures ∙ ap end_status c.outcome.ensures)
    (c.from_vec.ensures ∙ c.in_ok-text.ensures.text o (voted_start o) c.in_ok-machine.ensures.begins.stands)

pub returns-clause-room : goal.returns-clause-room
returns-clause-room g c = subst (λ (text : List ℕ). length text ≤ 134217728) (sym c.from_vec.ensures) c.in_ok-text.ensures.size

pub returns-clause-plain : goal.returns-clause-plain
returns-clause-plain g c = c.trace_is_plain.ensures _ c.in_ok-machine.ensures.begins.opening
