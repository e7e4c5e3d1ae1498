use Rattle.std.proofs.Common.{Bool, ◌&&◌, ◌∙◌, ap}
use Rattle.lvdc_forces.specs.InForce.{faults_at, mark_at}
use Rattle.lvdc_logic.specs.Harmed.{after_harms, latched_under}
use Rattle.lvdc_logic.specs.Latching.{copies_in, after_steps}
use Rattle.lvdc_logic.specs.declared.triples.Triples.{Triples}
use Rattle.lvdc_logic.proofs.Commits.{steps_are, steps_fresh}
use Rattle.lvdc_logic.proofs.Harmed.{harms_are, harms_fresh, hear-votes}
use Rattle.lvdc_logic.proofs.Under.{latched_is}
use Rattle.lvdc_logic.proofs.triples.Triples.step.Goals as goal

pub returns-then-hears_apart-clause-copies : goal.returns-then-hears_apart-clause-copies
returns-then-hears_apart-clause-copies c script step events in_force =
    let t = c.args.self.now in
    let force = c.args.force.now in
    let voted = c.args.bus.now in
    ap copies_in (c.settle.ensures.value ∙ ap (λ (t : Triples). after_steps t voted) c.latch_named.ensures.value)
    ∙ steps_are script step t (mark_at force.marks) c.args.order.now voted (λ n. latched_under (faults_at force.copies n) t voted n) c.requires.fresh
    (latched_is c.harm_suffices.ensures script step force t voted c.requires.sized events in_force)
    (λ n h e. c.latch_named.ensures.full.all n h)
    (λ n h off. in_force.others n h (ap (λ (any : Bool). any && mark_at force.marks n) c.requires.any ∙ off))

pub returns-then-hears_apart-clause-fresh : goal.returns-then-hears_apart-clause-fresh
returns-then-hears_apart-clause-fresh c = rw c.settle.ensures.value (steps_fresh c.latch_named.new.self c.args.bus.now)

pub returns-else-hears_apart-clause-copies : goal.returns-else-hears_apart-clause-copies
returns-else-hears_apart-clause-copies c script step events in_force =
    ap copies_in (c.renew_under.ensures.value ∙ ap (after_harms c.args.force.now c.args.self.now) c.renew.ensures)
    ∙ harms_are c.harm_suffices.ensures script step c.args.force.now c.args.self.now c.args.bus.now c.requires.sized events in_force
    (hear-votes script step c.args.force.now c.args.self.now c.args.bus.now in_force c.requires.votes (c.hears_apart.ensures c.if-hears_apart.false))

pub returns-else-hears_apart-clause-fresh : goal.returns-else-hears_apart-clause-fresh
returns-else-hears_apart-clause-fresh c = rw c.renew_under.ensures.value (harms_fresh c.args.force.now c.args.self.now c.renew.new.self)
