use Rattle.std.proofs.Common.{List, IfOk, IfErr, subst}
use Rattle.std.proofs.lemmas.Result.{IfErr-weaker}
use Rattle.lvdc_port.specs.Device.{Device}
use Rattle.lvdc_runs.specs.Ran.{HasRunPlainly}
use Rattle.lvdc_study.specs.Failures.{FailsPlainly}
use Rattle.lvdc_study.specs.Study.{opening_over}
use Rattle.lvdc_console.specs.Rack.{rack}
use Rattle.lvdc_console.proofs.Benched.{wants_memory}
use Rattle.lvdc_console.proofs.bench.RackBench.run_plain.Goals as goal

pub returns-clause-run : goal.returns-clause-run
returns-clause-run c =
    subst (λ (ds : List Device). IfOk c.run_plain.result (λ plain. HasRunPlainly (opening_over c.args.program.now ds) c.args.program.now.count plain))
    c.is_whole.ensures.rack c.run_plain.ensures.run

pub returns-clause-failed : goal.returns-clause-failed
returns-clause-failed c =
    subst (λ (ds : List Device). IfErr c.run_plain.result (λ e. FailsPlainly (opening_over c.args.program.now ds) c.args.program.now.count e))
    c.is_whole.ensures.rack c.run_plain.ensures.fails

pub returns-clause-unfailed : goal.returns-clause-unfailed
returns-clause-unfailed c =
    IfErr-weaker c.run_plain.result _ _ (λ e failed sound. wants_memory _ _ e _ _ rack c.is_whole.ensures.rack c.is_whole.ensures.never_fail failed) c.run_plain.ensures.failed
