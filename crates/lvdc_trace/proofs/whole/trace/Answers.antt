use Rattle.std.proofs.Common.{◌≡◌, ℕ, ◌+◌, ◌-◌, ◌*◌, ◌≤◌, ◌++◌, map, ap, subst, ◌∙◌, arith}
use Rattle.std.specs.Prelude.{nat_le}
use Rattle.lvdc_machine.specs.Resumed.{state_from, StandsFrom}
use Rattle.lvdc_machine.specs.declared.mode.Mode.{Mode}
use Rattle.lvdc_debug.proofs.Going.{on_err}
use Rattle.lvdc_trace.specs.Going.{count_by}
use Rattle.lvdc_trace.specs.Traces.{title_line, blocks, steps_asked}
use Rattle.lvdc_trace.proofs.Onward.{goes_then, goes_as, goes_whole, part_then}
use Rattle.lvdc_trace.proofs.Telling.{whole-text, failed-before}
use Rattle.lvdc_trace.proofs.whole.trace.Goals as goal

pub returns-clause-goes : goal.returns-clause-goes
returns-clause-goes g c =
    let asked : c.min-from.result + (c.min-asked.result - c.min-from.result) ≡ steps_asked c.args.window (3 * c.args.machine.now.limit - c.args.machine.now.steps) =
    omega (arith, c.min-asked.ensures, c.min-from.ensures, c.limit.ensures, c.steps.ensures) in
    goes_as (λ b. (goal.PortDevice-dyn g (b.vtable, b.value)).device_of b.value) (λ b. (goal.PortDevice-dyn g (b.vtable, b.value)).spare b.value) (λ b. (goal.PortDevice-dyn g (b.vtable, b.value)).faults b.value)
    (c.min-from.result + (c.min-asked.result - c.min-from.result)) (steps_asked c.args.window (3 * c.args.machine.now.limit - c.args.machine.now.steps)) c.args.machine.now c.put_steps.new.machine
    c.args.devices.now.items c.put_steps.new.devices.items asked
    (goes_then (λ b. (goal.PortDevice-dyn g (b.vtable, b.value)).device_of b.value) (λ b. (goal.PortDevice-dyn g (b.vtable, b.value)).spare b.value) (λ b. (goal.PortDevice-dyn g (b.vtable, b.value)).faults b.value)
    c.min-from.result (c.min-asked.result - c.min-from.result) c.args.machine.now c.make_steps.new.machine c.put_steps.new.machine c.args.devices.now.items
    c.make_steps.new.devices.items c.put_steps.new.devices.items c.make_steps.ensures c.in_ok-put_steps.ensures.goes)

pub returns-in_err-put_steps-clause-part : goal.returns-in_err-put_steps-clause-part
returns-in_err-put_steps-clause-part g c =
    let within : c.min-from.result + (c.min-asked.result - c.min-from.result) ≤ steps_asked c.args.window (3 * c.args.machine.now.limit - c.args.machine.now.steps) =
    omega (arith, c.min-asked.ensures, c.min-from.ensures, c.limit.ensures, c.steps.ensures) in
    on_err _ (part_then (λ b. (goal.PortDevice-dyn g (b.vtable, b.value)).device_of b.value) (λ b. (goal.PortDevice-dyn g (b.vtable, b.value)).spare b.value) (λ b. (goal.PortDevice-dyn g (b.vtable, b.value)).faults b.value)
    c.min-from.result (c.min-asked.result - c.min-from.result) (steps_asked c.args.window (3 * c.args.machine.now.limit - c.args.machine.now.steps)) c.args.machine.now c.make_steps.new.machine
    c.put_steps.new.machine c.args.devices.now.items c.make_steps.new.devices.items c.put_steps.new.devices.items within c.make_steps.ensures c.in_err-put_steps.ensures.part)

pub returns-in_err-put_last-clause-part : goal.returns-in_err-put_last-clause-part
returns-in_err-put_last-clause-part g c =
    let within : c.min-from.result + (c.min-asked.result - c.min-from.result) ≤ steps_asked c.args.window (3 * c.args.machine.now.limit - c.args.machine.now.steps) =
    omega (arith, c.min-asked.ensures, c.min-from.ensures, c.limit.ensures, c.steps.ensures) in
    on_err _ (goes_whole (λ b. (goal.PortDevice-dyn g (b.vtable, b.value)).device_of b.value) (λ b. (goal.PortDevice-dyn g (b.vtable, b.value)).spare b.value) (λ b. (goal.PortDevice-dyn g (b.vtable, b.value)).faults b.value)
    (c.min-from.result + (c.min-asked.result - c.min-from.result)) (steps_asked c.args.window (3 * c.args.machine.now.limit - c.args.machine.now.steps)) c.args.machine.now c.put_steps.new.machine
    c.args.devices.now.items c.put_steps.new.devices.items within
    (goes_then (λ b. (goal.PortDevice-dyn g (b.vtable, b.value)).device_of b.value) (λ b. (goal.PortDevice-dyn g (b.vtable, b.value)).spare b.value) (λ b. (goal.PortDevice-dyn g (b.vtable, b.value)).faults b.value)
    c.min-from.result (c.min-asked.result - c.min-from.result) c.args.machine.now c.make_steps.new.machine c.put_steps.new.machine c.args.devices.now.items
    c.make_steps.new.devices.items c.put_steps.new.devices.items c.make_steps.ensures c.in_ok-put_steps.ensures.goes))

pub returns-clause-text : goal.returns-clause-text
returns-clause-text g c = λ o begin s.
    let mode = c.args.machine.now.mode in
    let from = c.min-from.result in
    let asked = c.min-asked.result in
    let mid = c.make_steps.new.machine in
    let new = c.put_steps.new.machine in
    let first : 0 + from ≡ from = omega arith in
    let there : StandsFrom o begin from mid (map (λ b. (goal.PortDevice-dyn g (b.vtable, b.value)).device_of b.value) c.make_steps.new.devices.items) =
    subst (λ (k : ℕ). StandsFrom o begin k mid (map (λ b. (goal.PortDevice-dyn g (b.vtable, b.value)).device_of b.value) c.make_steps.new.devices.items)) first (c.make_steps.ensures.stands o begin 0 s) in
    let whole : from + (asked - from) ≡ asked = omega (arith, c.min-asked.ensures, c.min-from.ensures) in
    let last : StandsFrom o begin asked new (map (λ b. (goal.PortDevice-dyn g (b.vtable, b.value)).device_of b.value) c.put_steps.new.devices.items) =
    subst (λ (k : ℕ). StandsFrom o begin k new (map (λ b. (goal.PortDevice-dyn g (b.vtable, b.value)).device_of b.value) c.put_steps.new.devices.items)) whole (c.in_ok-put_steps.ensures.goes.stands o begin from there) in
    let one : mid.mode ≡ mode = c.make_steps.ensures.leaves.keeps.mode in
    let two : new.mode ≡ mode = c.in_ok-put_steps.ensures.goes.leaves.keeps.mode ∙ one in
    let ends : new.end ≡ (state_from new.end mode o begin asked).end = last.shows.end ∙ ap (λ (k : Mode). (state_from new.end k o begin asked).end) two in
    let title : c.extend_from_slice.new.self.items ≡ title_line mode =
    c.in_ok-extend_from_slice.ensures.items ∙ ap (λ t. t ++ c.title_line.result.now) c.new-out.ensures.items ∙ c.title_line.ensures ∙ ap title_line (c.mode.ensures ∙ one) in
    let body : c.put_steps.new.out.items ≡ title_line mode ++ blocks mode o begin from (count_by new.end begin.steps from (asked - from)) =
    c.in_ok-put_steps.ensures.text o begin from there ∙ ap (λ t. t ++ blocks mid.mode o begin from (count_by new.end begin.steps from (asked - from))) title
    ∙ ap (λ (k : Mode). title_line mode ++ blocks k o begin from (count_by new.end begin.steps from (asked - from))) one in
    let left : 3 * c.limit.result - c.steps.result ≡ 3 * c.args.machine.now.limit - c.args.machine.now.steps =
    (λ i. 3 * c.limit.ensures i - c.steps.ensures i) in
    whole-text mode o begin (3 * c.args.machine.now.limit - c.args.machine.now.steps) c.args.window from asked _ c.put_steps.new.out.items c.put_last.new.out.items
    (omega (arith, c.min-from.ensures, left))
    (omega (arith, c.min-asked.ensures, left))
    (ap (λ (k : ℕ). nat_le k (c.args.window.first + c.args.window.count)) left) new.end ends
    (failed-before o begin asked new _ last) body c.in_ok-put_last.ensures.line
