use Rattle.std.proofs.Common.{◌%◌, subst, refl}
use Rattle.lvdc_machine.specs.Steps.{NamesPort}
use Rattle.lvdc_laws_runs.proofs.Exchanged.{is-exchanged}
use Rattle.lvdc_laws_runs.proofs.Following.{going-good}
use Rattle.lvdc_laws_runs.proofs.guarded.failed_exchange.Goals as goal

pub returns : goal.returns
returns c = λ o opens n port going named.
    let good = going-good o n (c.guarded_run.ensures o opens n) going in
    is-exchanged o n port (n % 3) refl (subst (λ w. NamesPort w port) (c.step_begun.ensures o opens n good going).wish named)
