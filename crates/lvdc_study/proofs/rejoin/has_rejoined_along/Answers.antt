use Rattle.std.proofs.Common.{subst, List, drop}
use Rattle.lvdc_plain.specs.Run.{run}
use Rattle.lvdc_plain.specs.declared.records.Exchange.{Exchange}
use Rattle.lvdc_study.specs.Waypoints.{IsPrefix}
use Rattle.lvdc_study.proofs.Telling.{tells-misled}
use Rattle.lvdc_study.proofs.rejoin.has_rejoined_along.Goals as goal

pub returns : goal.returns
returns c = λ told p script count n said devices left at there ran events later over steps h.
    let m = c.args.machine.now in
    let prefix : IsPrefix m.log (drop c.args.from.now.lines (run p count).plain.log) =
    subst (λ (log : List Exchange). IsPrefix m.log (drop c.args.from.now.lines log)) ran.shows.log c.requires.prefix in
    tells-misled c.machines_may_begin_late.ensures.runs c.no_faults_no_verdict.ensures c.judges_alone.ensures c.guarded_times.ensures c.guarded_run.ensures
    c.through_is_guarded.ensures c.ports_match.ensures c.spared_memory_stores_words.ensures c.joined_runs_stay_joined.ensures
    c.rejoined_is_same.ensures.same c.rejoined_is_same.ensures.counts c.rejoined_is_same.ensures.repairs
    p script count c.args.from.now at later events c.args.waypoint.now there over devices n said m left h steps prefix c.requires.lines
    c.in_ok-now.now c.in_ok-now.ensures.means (c.are_alike.ensures.latches told) (c.are_alike.ensures.cells told) (c.are_alike.ensures.words told)
