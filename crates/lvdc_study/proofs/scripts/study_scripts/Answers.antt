use Rattle.std.proofs.Common.{rules, ◌≡◌, All, Contains, List, sym, subst}
use Rattle.std.proofs.lemmas.List.Elements.{All-head, All-tail, All-contains_itself}
use Rattle.lvdc_fault.specs.declared.named.Named.{Named}
use Rattle.lvdc_runs.specs.Scripts.{IsScript}
use Rattle.lvdc_study.specs.Study.{opening_over, row_of}
use Rattle.lvdc_study.specs.Waypoints.{IsWaypoint}
use Rattle.lvdc_study.specs.declared.waypoint.Waypoint.{Waypoint}
use Rattle.lvdc_study.proofs.Studying.{mapped-more, plain-fails, script-fails}
use Rattle.lvdc_study.proofs.scripts.study_scripts.Goals as goal

pub loop-named-init : goal.loop-named-init
loop-named-init g c =
    let all : c.into_iter-named-iterator.result.rest.items ≡ c.args.scripts.items = search rules in
    record {
      rows = search rules;
      left = search rules;
      known = subst (λ (rest : List Named). All (Contains c.args.scripts.items) rest) (sym all) (All-contains_itself c.args.scripts.items);
    }

pub loop-named-preserved : goal.loop-named-preserved
loop-named-preserved g c =
    let steps = c.in-Some.ensures.steps.0 in
    record {
      rows = mapped-more (row_of (opening_over c.args.program.now (g.B.Bench.devices c.args.bench.now)) c.args.program.now.count) c.loop-named.named-iterator.rest.items
          c.next.new.self.rest.items c.in-Some.named c.loop-named.rows.items c.push.new.self.items _ c.in-Ok-study_script.row steps c.in-Ok-study_script.ensures.row c.in_ok-push-in-Ok-study_script.ensures.items
          c.loop-named.invariant.rows;
      left = All-tail IsScript c.in-Some.named c.next.new.self.rest.items (subst (All IsScript) steps c.loop-named.invariant.left);
      known = All-tail (Contains c.args.scripts.items) c.in-Some.named c.next.new.self.rest.items
          (subst (All (Contains c.args.scripts.items)) steps c.loop-named.invariant.known);
    }

pub returns-in-Err-clause-failed : goal.returns-in-Err-clause-failed
returns-in-Err-clause-failed g c =
    plain-fails (opening_over c.args.program.now (g.B.Bench.devices c.args.bench.now)) c.args.program.now.count c.args.scripts.items
    c.in-Err.e c.in-Err.ensures.failed

pub returns-in-Err-study_script-clause-failed : goal.returns-in-Err-study_script-clause-failed
returns-in-Err-study_script-clause-failed g c =
    let steps = c.in-Some.ensures.steps.0 in
    script-fails (opening_over c.args.program.now (g.B.Bench.devices c.args.bench.now)) c.args.program.now.count c.args.scripts.items c.in-Some.named
    (All-head (Contains c.args.scripts.items) c.in-Some.named c.next.new.self.rest.items
    (subst (All (Contains c.args.scripts.items)) steps c.loop-named.invariant.known))
    c.in-Err-study_script.e c.in-Err-study_script.ensures.failed

pub study_script-requires-clause-waypoints : goal.study_script-requires-clause-waypoints
study_script-requires-clause-waypoints g c =
    subst (All (IsWaypoint (opening_over c.args.program.now (g.B.Bench.devices c.args.bench.now)) c.args.program.now.count))
    (sym {A = List Waypoint} c.deref-in-loop-named.ensures.value) c.in_ok-waypoints.ensures
