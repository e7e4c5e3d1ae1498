use Rattle.std.proofs.Common.{◌≡◌, All, sym, subst}
use Rattle.std.proofs.lemmas.Result.{IfOk-weaker, IfErr-weaker}
use Rattle.lvdc_runs.specs.Scripts.{IsScript}
use Rattle.lvdc_command_run.specs.Trials.{trial_of}
use Rattle.lvdc_study.specs.Failures.{FailsInRuns}
use Rattle.lvdc_study.specs.Study.{opening_over, rows_of}
use Rattle.lvdc_command_study.specs.Answers.{rows_in}
use Rattle.lvdc_command_study.proofs.Runnable.{scripts-run, rows-alike, fails-alike}
use Rattle.lvdc_command_study.proofs.reply.make_rows.Goals as goal

pub study_scripts-requires-clause-scripts : goal.study_scripts-requires-clause-scripts
study_scripts-requires-clause-scripts g c = subst (All IsScript) (sym c.into_vec.ensures) (scripts-run c.args.study.scripts c.requires.run)

pub returns-clause-rows : goal.returns-clause-rows
returns-clause-rows g c =
    let devices = g.B.Bench.devices c.args.bench.now in
    let program = c.program_of-program in
    IfOk-weaker c.study_scripts.result
    (λ rows. rows.items ≡ rows_of (opening_over program.result devices) program.result.count c.into_vec.result.items)
    (λ rows. rows.items ≡ rows_in devices c.args.study)
    (λ rows is.
    rows-alike (opening_over program.result devices) (trial_of devices c.args.study.deck).opening program.result.count c.args.study.deck.count
    c.into_vec.result.items c.args.study.scripts (program.ensures.opening devices) program.ensures.count c.into_vec.ensures rows.items is)
    c.study_scripts.ensures.rows

pub returns-clause-failed : goal.returns-clause-failed
returns-clause-failed g c =
    let devices = g.B.Bench.devices c.args.bench.now in
    let program = c.program_of-program in
    IfErr-weaker c.study_scripts.result
    (λ e. FailsInRuns (opening_over program.result devices) program.result.count c.into_vec.result.items e)
    (λ e. FailsInRuns (trial_of devices c.args.study.deck).opening c.args.study.deck.count c.args.study.scripts e)
    (fails-alike (opening_over program.result devices) (trial_of devices c.args.study.deck).opening program.result.count c.args.study.deck.count
    c.into_vec.result.items c.args.study.scripts (program.ensures.opening devices) program.ensures.count c.into_vec.ensures)
    c.study_scripts.ensures.failed
