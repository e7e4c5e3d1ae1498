use Rattle.std.proofs.Common.{◌∙◌, arith}
use Rattle.lvdc_text.proofs.FirstParts.{none_left}
use Rattle.lvdc_text.proofs.cutting.next_token.Goals as goal

pub returns-then-start-text-clause-none : goal.returns-then-start-text-clause-none
returns-then-start-text-clause-none c =
    c.skip_blanks-start.ensures.skipped ∙ none_left c.skip_blanks-start.result c.args.text.now (omega arith)
