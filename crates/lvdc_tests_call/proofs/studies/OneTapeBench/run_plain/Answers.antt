use Rattle.std.proofs.Common.{List, IfOk, IfErr, subst}
use Rattle.lvdc_port.specs.Device.{Device}
use Rattle.lvdc_runs.specs.Ran.{HasRunPlainly}
use Rattle.lvdc_study.specs.Failures.{FailsPlainly}
use Rattle.lvdc_study.specs.Study.{opening_over}
use Rattle.lvdc_tests_call.proofs.studies.OneTapeBench.run_plain.Goals as goal

pub returns-clause-run : goal.returns-clause-run
returns-clause-run c =
    subst (λ (ds : List Device). IfOk c.run_plain.result (λ plain. HasRunPlainly (opening_over c.args.program.now ds) c.args.program.now.count plain))
    c.in_ok-devices.ensures.one c.run_plain.ensures.run

pub returns-clause-failed : goal.returns-clause-failed
returns-clause-failed c =
    subst (λ (ds : List Device). IfErr c.run_plain.result (λ e. FailsPlainly (opening_over c.args.program.now ds) c.args.program.now.count e))
    c.in_ok-devices.ensures.one c.run_plain.ensures.fails
