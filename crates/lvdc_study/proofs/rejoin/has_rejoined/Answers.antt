use Rattle.std.proofs.Common.{◌≡◌, sym, ap, ◌∙◌, subst, length, List, arith}
use Rattle.lvdc_plain.specs.Run.{run}
use Rattle.lvdc_plain.specs.declared.records.Exchange.{Exchange}
use Rattle.lvdc_runs.proofs.Stationed.{none-told}
use Rattle.lvdc_study.specs.Waypoints.{IsPrefix}
use Rattle.lvdc_study.proofs.Rejoined.{tells-rejoined}
use Rattle.lvdc_study.proofs.rejoin.has_rejoined.Goals as goal

pub returns : goal.returns
returns c = λ told p script count steps left at ran events over goes.
    let m = c.args.machine.now in
    let w = c.args.waypoint.now in
    let end = none-told c.ended.result m.end c.is_some.result c.ended.ensures c.is_some.ensures c.if-is_some.false in
    let made : m.steps ≡ w.snapshot.steps = omega (arith, c.if-steps-waypoint.false, c.steps.ensures) in
    let long : length m.log ≡ w.lines = ap length (sym c.log.ensures.log) ∙ c.if-log-waypoint.false in
    let found : IsPrefix c.log-else-log-waypoint-2.result.now c.log-else-log-waypoint.result.now = c.begins_with.ensures c.if-not-begins_with.false in
    let prefix : IsPrefix m.log (run p count).plain.log =
    subst (λ (log : List Exchange). IsPrefix log (run p count).plain.log) c.log-else-log-waypoint-2.ensures.log
    (subst (λ (log : List Exchange). IsPrefix c.log-else-log-waypoint-2.result.now log) (c.log-else-log-waypoint.ensures.log ∙ ran.shows.log) found) in
    tells-rejoined c.judges_alone.ensures c.no_faults_no_verdict.ensures c.guarded_times.ensures c.ports_match.ensures p script count steps w m left at over goes
    end made c.in_ok-now.now c.in_ok-now.ensures.means (c.are_alike.ensures.latches told) (c.are_alike.ensures.cells told) (c.are_alike.ensures.words told) long prefix
    c.rejoined_is_same.ensures.same c.rejoined_is_same.ensures.counts c.rejoined_is_same.ensures.repairs events
