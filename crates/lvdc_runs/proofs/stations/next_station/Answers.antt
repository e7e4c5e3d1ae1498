use Rattle.std.proofs.Common.{◌∙◌}
use Rattle.lvdc_runs.proofs.Stationed.{none-told, steps-on, under_way-on, is-station}
use Rattle.lvdc_runs.proofs.stations.next_station.Goals as goal

pub returns-clause-under_way : goal.returns-clause-under_way
returns-clause-under_way g c = λ p h found.
    let end = none-told c.ended.result c.run.new.self.end c.is_some.result c.ended.ensures c.is_some.ensures c.if-is_some.false in
    under_way-on p c.args.more c.args.machine.now c.run.new.self _ _ h c.run.ensures.leaves.keeps end (c.run.ensures.stands _ _ c.args.machine.now.steps h.stands)

pub returns-clause-steps : goal.returns-clause-steps
returns-clause-steps g c = λ found.
    let end = none-told c.ended.result c.run.new.self.end c.is_some.result c.ended.ensures c.is_some.ensures c.if-is_some.false in
    let free = c.requires.fault_free in
    steps-on free.program c.args.more c.args.machine.now c.run.new.self _ _ free.under_way c.run.ensures.leaves.keeps end
    (c.run.ensures.stands _ _ c.args.machine.now.steps free.under_way.stands)

pub returns-clause-station : goal.returns-clause-station
returns-clause-station g c = λ p h.
    let end = none-told c.ended.result c.run.new.self.end c.is_some.result c.ended.ensures c.is_some.ensures c.if-is_some.false in
    let made = c.in_ok-station.ensures in
    is-station p c.args.more c.args.machine.now c.run.new.self _ _ h c.run.ensures.leaves.keeps end (c.run.ensures.stands _ _ c.args.machine.now.steps h.stands)
    c.in_ok-station.station c.requires.left made.means (made.whole (c.run.ensures.leaves.keeps.mode ∙ h.mode)) made.banks made.steps
