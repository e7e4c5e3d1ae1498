use Rattle.std.proofs.Common.{◌++◌, ◌∙◌, ap}
use Rattle.lvdc_machine.specs.declared.shown.Shown.{Shown}
use Rattle.lvdc_debug.specs.Session.{instruction_shown}
use Rattle.lvdc_debug.proofs.texts.put_instruction.Goals as goal

pub returns-clause-line : goal.returns-clause-line
returns-clause-line c = λ o t ds s.
    c.in_ok-put_instruction_line.ensures.line ∙ ap (λ (x : Shown). c.args.out.now.items ++ instruction_shown c.args.at c.args.syl x) (c.shown.ensures.told o _ t ds s)
