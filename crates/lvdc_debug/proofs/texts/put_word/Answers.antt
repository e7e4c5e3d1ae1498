use Rattle.std.proofs.Common.{◌++◌, ◌∙◌, ap, sym}
use Rattle.lvdc_machine.specs.declared.shown.Shown.{Shown}
use Rattle.lvdc_debug.specs.Session.{word_shown}
use Rattle.lvdc_debug.proofs.texts.put_word.Goals as goal

pub returns-in_ok-put_memory_line-in-Known-clause-line : goal.returns-in_ok-put_memory_line-in-Known-clause-line
returns-in_ok-put_memory_line-in-Known-clause-line c = λ o t ds s.
    c.in_ok-put_memory_line-in-Known.ensures.line
    ∙ ap (λ (x : Shown). c.args.out.now.items ++ word_shown c.args.at x) (sym c.in-Known.is ∙ c.shown.ensures.told o _ t ds s)

pub returns-in_ok-put_unknown_line-in-Unknown-clause-line : goal.returns-in_ok-put_unknown_line-in-Unknown-clause-line
returns-in_ok-put_unknown_line-in-Unknown-clause-line c = λ o t ds s.
    c.in_ok-put_unknown_line-in-Unknown.ensures.line
    ∙ ap (λ (x : Shown). c.args.out.now.items ++ word_shown c.args.at x) (sym c.in-Unknown.is ∙ c.shown.ensures.told o _ t ds s)
