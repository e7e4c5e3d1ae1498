use Rattle.std.proofs.Common.{◌∙◌, List, drop, ap, subst}
use Rattle.lvdc_plain.specs.Run.{run}
use Rattle.lvdc_plain.specs.declared.records.Exchange.{Exchange}
use Rattle.lvdc_runs.proofs.Stationed.{none-told}
use Rattle.lvdc_study.specs.Waypoints.{IsPrefix}
use Rattle.lvdc_study.proofs.Replayed.{has-replayed, all-steps}
use Rattle.lvdc_study.proofs.replay.goes_along.Goals as goal

pub returns-clause-replayed : goal.returns-clause-replayed
returns-clause-replayed g c = λ told p script count at within ran later good stands.
    let end = none-told c.ended.result c.run.new.self.end c.is_some.result c.ended.ensures c.is_some.ensures c.if-is_some.false in
    let found : IsPrefix c.log-2.result.now c.lines_from.result.now = c.begins_with.ensures told in
    let lines = c.lines_from.ensures ∙ ap (drop c.args.from.now.lines) (c.log.ensures.log ∙ ran.shows.log) in
    has-replayed p c.args.from.now script c.args.times c.machines_may_begin_late.ensures.runs c.no_faults_no_verdict.ensures c.judges_alone.ensures
    c.guarded_times.ensures c.ports_match.ensures count at c.requires.ahead within later good _ c.run.new.self _
    (c.run.ensures.stands _ _ 0 stands) end (c.run.ensures.leaves.keeps.mode ∙ c.requires.fresh.mode_is)
    (subst (λ (log : List Exchange). IsPrefix log (drop c.args.from.now.lines (run p count).plain.log)) c.log-2.ensures.log (subst (λ (log : List Exchange). IsPrefix c.log-2.result.now log) lines found))

pub returns-clause-steps : goal.returns-clause-steps
returns-clause-steps g c = λ told o v made stands.
    let end = none-told c.ended.result c.run.new.self.end c.is_some.result c.ended.ensures c.is_some.ensures c.if-is_some.false in
    all-steps c.args.from.now c.args.times o v c.run.new.self _ c.requires.whole c.requires.ahead made (c.run.ensures.stands o v 0 stands) end
