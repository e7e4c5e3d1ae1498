use Rattle.std.proofs.Common.{◌∙◌, sym}
use Rattle.lvdc_snapshot.proofs.snapshot.Snapshot.memory.Goals as goal

pub returns-clause-holds : goal.returns-clause-holds
returns-clause-holds c = λ o v script banks means.
    rw c.put_last_in_force.ensures.last
    (c.put_last_in_force.ensures.forced o v.twins v.intended (rw script c.in_ok-on_memory.ensures.events)
    (c.in_ok-memory.ensures.holds o v.twins v.intended banks (rw c.items.ensures means.cells) (means.selected ∙ sym c.items-2.ensures) (rw c.items-3.ensures means.words)))
