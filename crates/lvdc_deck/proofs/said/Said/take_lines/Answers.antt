use Rattle.std.proofs.Common.{◌≡◌, ◌+◌, true, false, map, Ok, Err, sym, ap, ◌∙◌}
use Rattle.std.proofs.lemmas.List.{take_rest}
use Rattle.std.proofs.lemmas.Result.{IfOk-weaker, IfErr-weaker}
use Rattle.lvdc_deck.specs.Sections.{Sections, is_debug}
use Rattle.lvdc_deck.proofs.Steps.{no_line, told-more, told-commands, told-bad, told-done}
use Rattle.lvdc_deck.proofs.said.Said.take_lines.Goals as goal

pub returns-in-Err-clause-refusal : goal.returns-in-Err-clause-refusal
returns-in-Err-clause-refusal g c =
    λ known. told-bad (map (λ b. (goal.PortDevice-dyn g (b.vtable, b.value)).device_of b.value) c.args.devices.now.items) c.args.bytes.now c.loop-at.self c.args.lines.now c.loop-at.at no_line _ c.loop-at.invariant c.loop-at-test.true c.in-Err.fault ((rw c.part.ensures at c.in-Err.ensures) known)

pub returns-then-is_debug-clause-told : goal.returns-then-is_debug-clause-told
returns-then-is_debug-clause-told g c =
    let debug : true ≡ is_debug c.take_line.new.self.section = sym c.if-is_debug.true ∙ c.is_debug.ensures ∙ ap (λ (s : Sections). is_debug s.section) c.self.view_is in
    IfOk-weaker c.commands_in.result _ _
    (λ commands is. told-commands (map (λ b. (goal.PortDevice-dyn g (b.vtable, b.value)).device_of b.value) c.args.devices.now.items) c.args.bytes.now c.loop-at.self c.args.lines.now c.loop-at.at no_line _ c.loop-at.invariant c.loop-at-test.true c.take_line.new.self (rw c.part.ensures at c.in-Ok.ensures) debug _ (take_rest c.args.lines.now (c.loop-at.at + 1)) (Ok commands.items) is)
    c.commands_in.ensures.commands

pub returns-then-is_debug-clause-refusal : goal.returns-then-is_debug-clause-refusal
returns-then-is_debug-clause-refusal g c =
    let debug : true ≡ is_debug c.take_line.new.self.section = sym c.if-is_debug.true ∙ c.is_debug.ensures ∙ ap (λ (s : Sections). is_debug s.section) c.self.view_is in
    IfErr-weaker c.commands_in.result _ _
    (λ fault is known. told-commands (map (λ b. (goal.PortDevice-dyn g (b.vtable, b.value)).device_of b.value) c.args.devices.now.items) c.args.bytes.now c.loop-at.self c.args.lines.now c.loop-at.at no_line _ c.loop-at.invariant c.loop-at-test.true c.take_line.new.self (rw c.part.ensures at c.in-Ok.ensures) debug _ (take_rest c.args.lines.now (c.loop-at.at + 1)) (Err fault) (is known))
    c.commands_in.ensures.refusal

pub loop-at-preserved : goal.loop-at-preserved
loop-at-preserved g c =
    let other : false ≡ is_debug c.take_line.new.self.section = sym c.if-is_debug.false ∙ c.is_debug.ensures ∙ ap (λ (s : Sections). is_debug s.section) c.self.view_is in
    told-more (map (λ b. (goal.PortDevice-dyn g (b.vtable, b.value)).device_of b.value) c.args.devices.now.items) c.args.bytes.now c.loop-at.self c.args.lines.now c.loop-at.at no_line _ c.loop-at.invariant c.loop-at-test.true c.take_line.new.self (rw c.part.ensures at c.in-Ok.ensures) other

pub returns-clause-told : goal.returns-clause-told
returns-clause-told g c =
    told-done (map (λ b. (goal.PortDevice-dyn g (b.vtable, b.value)).device_of b.value) c.args.devices.now.items) c.args.bytes.now c.loop-at.self c.args.lines.now c.loop-at.at no_line _ c.loop-at.invariant c.loop-at-test.false c.new.result.items c.new.ensures.items
