use Rattle.std.proofs.lemmas.Result.{IfOk-weaker}
use Rattle.lvdc_runs.specs.Scripts.{trial_under}
use Rattle.lvdc_study.proofs.Making.{answer-since}
use Rattle.lvdc_study.proofs.onward.go_through.Goals as goal

pub returns-clause-rejoined : goal.returns-clause-rejoined
returns-clause-rejoined g c =
    IfOk-weaker c.go_on.result _ _
    (λ is h told p script count all ran events over guarded. h told p script count all ran events over (c.in-Ok.ensures.goes (trial_under p script) count guarded))
    c.go_on.ensures.rejoined

pub returns-clause-left : goal.returns-clause-left
returns-clause-left g c = λ port has. c.go_past.ensures.left port (c.go_on.ensures.left port has)

pub returns-clause-failed : goal.returns-clause-failed
returns-clause-failed g c =
    answer-since (λ b. (goal.PortDevice-dyn g (b.vtable, b.value)).device_of b.value) (λ b. (goal.PortDevice-dyn g (b.vtable, b.value)).faults b.value)
    c.args.devices.now.items c.go_past.new.devices.items c.go_on.new.devices.items c.in-Ok.ensures.since c.go_on.ensures.left c.go_on.result c.go_on.ensures.failed
