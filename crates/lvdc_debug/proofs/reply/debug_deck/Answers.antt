use Rattle.std.proofs.Common.{◌≤◌, ◌∙◌, ℕ, List, length, map, refl, sym, ap, subst}
use Rattle.lvdc_text.specs.declared.cutting.Line.{Line}
use Rattle.lvdc_plain.specs.Run.{IsOpening}
use Rattle.lvdc_model.specs.Trial.{Trial}
use Rattle.lvdc_command_run.specs.Accounts.{end_status}
use Rattle.lvdc_command_run.specs.Trials.{trial_of}
use Rattle.lvdc_debug.specs.Session.{session_text}
use Rattle.lvdc_debug.specs.Standing.{command_texts, subject_of, StandsAfter, StandsAmid, AreApart}
use Rattle.lvdc_debug.proofs.Endings.{GuardedLaws}
use Rattle.lvdc_debug.proofs.Making.{unmade, cause_before}
use Rattle.lvdc_reply.proofs.Statuses.{on_err}
use Rattle.lvdc_debug.proofs.Sessions.{session_is, session_amid}
use Rattle.lvdc_debug.proofs.reply.debug_deck.Goals as goal

pub returns-in_err-machine-clause-unwritten : goal.returns-in_err-machine-clause-unwritten
returns-in_err-machine-clause-unwritten g c =
    on_err _ (unmade (λ b. (goal.PortDevice-dyn g (b.vtable, b.value)).device_of b.value) (λ b. (goal.PortDevice-dyn g (b.vtable, b.value)).faults b.value)
    c.args.devices.now.items c.make_ready.new.devices.items c.in_err-machine.ensures.counts c.args.bytes.now c.args.deck c.in_err-machine.ensures.part)

pub returns-in_err-text-clause-unwritten : goal.returns-in_err-text-clause-unwritten
returns-in_err-text-clause-unwritten g c =
    let o : Trial = trial_of (map (λ b. (goal.PortDevice-dyn g (b.vtable, b.value)).device_of b.value) c.args.devices.now.items) c.args.deck in
    let opens : IsOpening o.opening = c.in_ok-machine.ensures.begins.opening in
    let same = c.items.ensures ∙ c.in_ok-machine.ensures.commands in
    let amid : StandsAmid o (command_texts c.args.bytes.now c.args.deck.commands) c.debug.new.machine (map (λ b. (goal.PortDevice-dyn g (b.vtable, b.value)).device_of b.value) c.debug.new.devices.items) =
    subst (λ (lines : List Line). StandsAmid o (command_texts c.args.bytes.now lines) c.debug.new.machine
    (map (λ b. (goal.PortDevice-dyn g (b.vtable, b.value)).device_of b.value) c.debug.new.devices.items)) same (c.in_err-text.ensures.amid o (record { opening = opens; stands = c.in_ok-machine.ensures.begins.stands })) in
    on_err _ (session_amid (λ b. (goal.PortDevice-dyn g (b.vtable, b.value)).device_of b.value) (λ b. (goal.PortDevice-dyn g (b.vtable, b.value)).faults b.value)
    c.args.bytes.now c.args.deck c.args.devices.now.items c.debug.new.devices.items c.debug.new.machine (c.in_err-text.ensures.limit ∙ c.limit-limit.ensures ∙ c.in_ok-machine.ensures.begins.fresh.limit_is)
    (cause_before (λ b. (goal.PortDevice-dyn g (b.vtable, b.value)).device_of b.value) (λ b. (goal.PortDevice-dyn g (b.vtable, b.value)).faults b.value)
    c.args.devices.now.items c.make_ready.new.devices.items c.in_ok-machine.ensures.counts c.debug.new.machine.end c.debug.new.devices.items c.in_err-text.ensures.cause)
    amid)

pub returns-clause-session : goal.returns-clause-session
returns-clause-session g c =
    let o : Trial = trial_of (map (λ b. (goal.PortDevice-dyn g (b.vtable, b.value)).device_of b.value) c.args.devices.now.items) c.args.deck in
    let opens : IsOpening o.opening = c.in_ok-machine.ensures.begins.opening in
    let same = c.items.ensures ∙ c.in_ok-machine.ensures.commands in
    let law : GuardedLaws o = record {
      same = c.judges_alone.ensures o opens;
      verdict = c.guarded_verdict.ensures.ends o opens;
      ends = c.guarded_ends.ensures.end o opens;
      exchanged = c.failed_exchange.ensures o opens;
      follows = λ n m ds mode s. c.guarded_follows.ensures o n m ds opens mode s;
    } in
    let after : StandsAfter o (command_texts c.args.bytes.now c.args.deck.commands) c.debug.new.machine (map (λ b. (goal.PortDevice-dyn g (b.vtable, b.value)).device_of b.value) c.debug.new.devices.items) =
    subst (λ (lines : List Line). StandsAfter o (command_texts c.args.bytes.now lines) c.debug.new.machine
    (map (λ b. (goal.PortDevice-dyn g (b.vtable, b.value)).device_of b.value) c.debug.new.devices.items)) same (c.in_ok-text.ensures.stands o (record { opening = opens; stands = c.in_ok-machine.ensures.begins.stands })) in
    session_is (λ b. (goal.PortDevice-dyn g (b.vtable, b.value)).device_of b.value) (λ b. (goal.PortDevice-dyn g (b.vtable, b.value)).faults b.value)
    c.args.bytes.now c.args.deck c.args.devices.now.items c.debug.new.devices.items c.debug.new.machine (c.in_ok-text.ensures.limit ∙ c.limit-limit.ensures ∙ c.in_ok-machine.ensures.begins.fresh.limit_is)
    (cause_before (λ b. (goal.PortDevice-dyn g (b.vtable, b.value)).device_of b.value) (λ b. (goal.PortDevice-dyn g (b.vtable, b.value)).faults b.value)
    c.args.devices.now.items c.make_ready.new.devices.items c.in_ok-machine.ensures.counts c.debug.new.machine.end c.debug.new.devices.items c.in_ok-text.ensures.cause)
    law c.in_ok-text.ensures.mode after c.end_status.result c.from_vec.result (c.end_status.ensures ∙ ap end_status c.outcome.ensures)
    (c.from_vec.ensures ∙ c.in_ok-text.ensures.text o (record { opening = opens; stands = c.in_ok-machine.ensures.begins.stands })
    ∙ ap (λ (lines : List Line). session_text (subject_of o c.debug.new.machine) (command_texts c.args.bytes.now lines)) same)

pub returns-clause-room : goal.returns-clause-room
returns-clause-room g c = λ apart small.
    let few = c.in_ok-text.ensures.size (subst AreApart (sym (c.items.ensures ∙ c.in_ok-machine.ensures.commands)) apart) small in
    subst (λ (text : List ℕ). length text ≤ 536870912) (sym c.from_vec.ensures) few

pub debug-requires-clause-fresh : goal.debug-requires-clause-fresh
debug-requires-clause-fresh g c =
    let fresh = c.in_ok-machine.ensures.begins.fresh in
    record { mode_is = fresh.mode_is; pace_is = refl; limit_is = sym c.limit-limit.ensures; steps_are = fresh.steps_are; end = fresh.end }
