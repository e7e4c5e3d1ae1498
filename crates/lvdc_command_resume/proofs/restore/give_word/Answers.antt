use Rattle.std.proofs.Common.{Some, sym, ap, ◌∙◌}
use Rattle.std.proofs.lemmas.Result.{on_ok_weaker}
use Rattle.lvdc_command_resume.proofs.Told.{were-supplied}
use Rattle.lvdc_command_resume.proofs.restore.give_word.Goals as goal

pub returns-in-Some-Tape-clause-told : goal.returns-in-Some-Tape-clause-told
returns-in-Some-Tape-clause-told g c =
    on_ok_weaker c.supply_word.result
    (λ taken. were-supplied (λ b. (goal.PortDevice-dyn g (b.vtable, b.value)).device_of b.value) (λ b. (goal.PortDevice-dyn g (b.vtable, b.value)).told b.value)
    c.args.time c.args.state.now c.args.devices.now.items c.supply_word.new.devices.items
    (sym c.kind_at.ensures ∙ c.in-Some-Tape.is ∙ ap (λ k. Some k) c.in-Some-Tape.field-0-is) taken c.supply_word.ensures.told)
    c.supply_word.ensures.ok
