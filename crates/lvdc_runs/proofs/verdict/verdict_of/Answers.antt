use Rattle.std.proofs.Common.{◌*◌, ap, ◌∙◌}
use Rattle.lvdc_runs.specs.Ran.{verdict_in}
use Rattle.lvdc_runs.proofs.Verdicts.{verdict-first}
use Rattle.lvdc_runs.proofs.verdict.verdict_of.Goals as goal

pub returns-clause-first : goal.returns-clause-first
returns-clause-first c = λ o times h.
    c.verdict_in.ensures ∙ ap verdict_in c.ended.ensures
    ∙ verdict-first o times _ c.args.machine.now.end h.unfailed (c.guarded_follows.ensures o (3 * times) c.args.machine.now h.left h.opening h.mode_is h.stands)
