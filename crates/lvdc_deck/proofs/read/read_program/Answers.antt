use Rattle.std.proofs.Common.{map, sym, ◌∙◌}
use Rattle.std.proofs.lemmas.Result.{IfOk-weaker, IfErr-weaker}
use Rattle.lvdc_deck.proofs.Steps.{end-told}
use Rattle.lvdc_deck.proofs.read.read_program.Goals as goal

pub returns-in-Ok-clause-deck : goal.returns-in-Ok-clause-deck
returns-in-Ok-clause-deck g c =
    IfOk-weaker c.with_program.result _ _ (λ deck is. end-told c.args.kind (map (λ b. (goal.PortDevice-dyn g (b.vtable, b.value)).device_of b.value) c.args.devices.now.items) c.args.debugging c.args.bytes.now c.args.next c.args.number c.args.lines.now c.in-Some.at (sym c.requires.end ∙ c.in-Some.is) _ _ c.split_at.ensures.front c.split_at.ensures.back _ c.new-said.ensures _ c.in-Ok.ensures.told ∙ is) c.with_program.ensures.deck

pub returns-in-Ok-clause-refusal : goal.returns-in-Ok-clause-refusal
returns-in-Ok-clause-refusal g c =
    IfErr-weaker c.with_program.result _ _ (λ fault is known. end-told c.args.kind (map (λ b. (goal.PortDevice-dyn g (b.vtable, b.value)).device_of b.value) c.args.devices.now.items) c.args.debugging c.args.bytes.now c.args.next c.args.number c.args.lines.now c.in-Some.at (sym c.requires.end ∙ c.in-Some.is) _ _ c.split_at.ensures.front c.split_at.ensures.back _ c.new-said.ensures _ c.in-Ok.ensures.told ∙ is known) c.with_program.ensures.refusal

pub returns-in-Ok-clause-count : goal.returns-in-Ok-clause-count
returns-in-Ok-clause-count g c = c.with_program.ensures.count

pub returns-in-Ok-clause-rising : goal.returns-in-Ok-clause-rising
returns-in-Ok-clause-rising g c = c.with_program.ensures.rising

pub returns-in-Ok-clause-there : goal.returns-in-Ok-clause-there
returns-in-Ok-clause-there g c = c.with_program.ensures.there

pub returns-in-Ok-clause-few : goal.returns-in-Ok-clause-few
returns-in-Ok-clause-few g c = c.with_program.ensures.few

pub returns-in-Ok-clause-events : goal.returns-in-Ok-clause-events
returns-in-Ok-clause-events g c = c.with_program.ensures.events

pub returns-in-Ok-clause-within : goal.returns-in-Ok-clause-within
returns-in-Ok-clause-within g c =
    IfOk-weaker c.with_program.result _ _ (λ deck are. rw are c.in-Ok.ensures.within) c.with_program.ensures.commands

pub returns-in-Ok-clause-short : goal.returns-in-Ok-clause-short
returns-in-Ok-clause-short g c =
    IfOk-weaker c.with_program.result _ _ (λ deck are. rw are c.in-Ok.ensures.short) c.with_program.ensures.commands
