-- A run from a waypoint comes to what the run of its script comes to, where its log is that of the plain run.
use Rattle.std.proofs.Common.{◌≡◌, ℕ, zero, suc, ◌+◌, ◌-◌, ◌*◌, ◌/◌, ◌≤◌, List, [], ◌++◌, length, drop, refl, sym, ap, ◌∙◌, subst, add-zero, add-suc, zero-add, arith, le_refl}
use Rattle.std.proofs.lemmas.List.{drop_at, length-append}
use Rattle.std.specs.declared.option.Option.{Option}
use Rattle.std.specs.declared.option.Option.TheVariants.{None, Some}
use Rattle.lvdc_port.specs.Device.{Device}
use Rattle.lvdc_plain.specs.Run.{Opening, run, IsOpening}
use Rattle.lvdc_plain.specs.declared.records.Exchange.{Exchange}
use Rattle.lvdc_fault.specs.declared.event.Event.{Event}
use Rattle.lvdc_fault.specs.declared.verdict.Verdict.TheVariants.{Admissible}
use Rattle.lvdc_laws_runs.specs.Early.{AllBeginFrom, fault_free}
use Rattle.lvdc_laws_voted.specs.Ends.{ShowsTimes}
use Rattle.lvdc_laws_voted.specs.Laws.{PortLaw}
use Rattle.lvdc_model.specs.Judging.{first_bad, first_bad_below}
use Rattle.lvdc_model.specs.Runs.{alone, guarded}
use Rattle.lvdc_model.specs.declared.outcome.Outcome.{Outcome}
use Rattle.lvdc_model.specs.Trial.{Trial}
use Rattle.lvdc_model.specs.Voted.{Voted, voted_start}
use Rattle.lvdc_machine.specs.Resumed.{steps_after, state_from, EndsFrom, StandsFrom}
use Rattle.lvdc_machine.specs.Shows.{Shows}
use Rattle.lvdc_machine.specs.Steps.{step_of, run_from, run_of}
use Rattle.lvdc_machine.specs.View.{View}
use Rattle.lvdc_machine.specs.declared.mode.Mode.{Mode}
use Rattle.lvdc_machine.specs.declared.mode.Mode.TheVariants.{Guarded}
use Rattle.lvdc_snapshot.specs.Snapshot.{IsWhole, Means}
use Rattle.lvdc_runs.specs.Scripts.{trial_under}
use Rattle.lvdc_runs.specs.Stations.{fault_free_at, IsUnderWay}
use Rattle.lvdc_study.specs.Waypoints.{apart, IsPrefix, IsWaypoint, HasReplayed}
use Rattle.lvdc_study.specs.declared.waypoint.Waypoint.{Waypoint}
use Rattle.lvdc_study.proofs.Alongside.{run-by, Alongside, alongside}
use Rattle.lvdc_study.proofs.Prefixes.{log-begins}

-- a run that goes on from a state of a run is that run
run-on : (o : Trial) (v : Voted) (t n : ℕ) → run-by o (run-by o v t) n ≡ run-by o v (t + n)
run-on o v t zero = ap (run-by o v) (sym (add-zero t))
run-on o v t (suc n) = ap (step_of Guarded o) (run-on o v t n) ∙ ap (run-by o v) (sym (add-suc t n))

-- where no end has come, the machine shows the state of its run
shows-run : (o : Trial) (first : Voted) (n : ℕ) (m : View) (ds : List Device) (mode : Mode) (end : Option Outcome) → end ≡ None → mode ≡ Guarded
    → Shows o m ds (state_from end mode o first n) → Shows o m ds (run-by o first n)
shows-run o first n m ds mode None none judges h = subst (λ (k : Mode). Shows o m ds (run_from k o first n)) judges h
shows-run o first n m ds mode (Some e) none judges h = absurd (cc none)

-- and has made all steps
made-all : (o : Trial) (first : Voted) (n : ℕ) (mode : Mode) (steps : ℕ) (end : Option Outcome) → end ≡ None → EndsFrom end o first n mode steps
    → steps ≡ steps_after first.steps n
made-all o first n mode steps None none ends = ends
made-all o first n mode steps (Some e) none ends = absurd (cc none)

after-sum : (made n : ℕ) → steps_after made n ≡ made + n
after-sum zero n = sym (zero-add n)
after-sum (suc made) n = refl

-- a machine that goes on from a waypoint makes all steps up to a time
pub all-steps : (from : Waypoint) (times : ℕ) (o : Trial) (state : Voted) (m : View) (ds : List Device) → IsWhole from.snapshot → from.snapshot.steps ≤ 3 * times
    → state.steps ≡ from.snapshot.steps → StandsFrom o state (0 + 3 * (times - from.snapshot.steps / 3)) m ds → m.end ≡ None → m.steps ≡ 3 * times
all-steps from times o state m ds whole ahead made stands none =
    let n = 0 + 3 * (times - from.snapshot.steps / 3) in
    let times_is = whole.times in
    let steps : m.steps ≡ state.steps + n = made-all o state n m.mode m.steps m.end none stands.ends ∙ after-sum state.steps n in
    omega (arith, steps, made, times_is, ahead)

-- ---- a run from a waypoint

module _ (p : Opening) (from : Waypoint) (script : List Event) (times : ℕ) where
  abbrev s : ℕ
  s = from.snapshot.steps

  abbrev n : ℕ
  n = 3 * (times - s / 3)

  abbrev o : Trial
  o = trial_under p script

  module _ (runs : (mode : Mode) (o : Trial) (first : ℕ) → AllBeginFrom first o.script → (n : ℕ) → n ≤ first → run_of mode o n ≡ run_of mode (fault_free o) n)
      (unsaid : (o : Trial) → IsOpening o.opening → o.script ≡ [] → (n : ℕ) → first_bad_below o n ≡ Admissible)
      (judges : (o : Trial) → IsOpening o.opening → (n : ℕ) → alone o n ≡ guarded o n)
      (shows : (o : Trial) → IsOpening o.opening → (times : ℕ) → first_bad o times ≡ Admissible → ShowsTimes o times (guarded o (3 * times)))
      (ports : PortLaw) where
    module _ (count : ℕ) (at : IsWaypoint p count from) (ahead : s ≤ 3 * times) (within : times ≤ count) (later : AllBeginFrom s script)
        (good : first_bad o times ≡ Admissible) (devices : List Device) (m : View) (ds : List Device)
        (stands : StandsFrom o (record at.state { devices = devices }) (0 + n) m ds) (none : m.end ≡ None) (mode : m.mode ≡ Guarded)
        (prefix : IsPrefix m.log (drop from.lines (run p count).plain.log)) where
      abbrev v : Voted
      v = run_of Guarded o s

      abbrev w : Voted
      w = record at.state { devices = devices }

      abbrev early : List Exchange
      early = (run p (s / 3)).plain.log

      free : v ≡ fault_free_at p s
      free = runs Guarded o s later s (le_refl s)

      whole : 3 * (s / 3) ≡ s
      whole = let times_is = at.whole.times in omega (arith, times_is)

      same : apart v ≡ apart w
      same = ap apart free ∙ sym at.same

      -- the true run comes to the guarded run
      comes : run-by o v n ≡ guarded o (3 * times)
      comes =
          let all : s + n ≡ 3 * times = omega (arith, whole, ahead) in
          run-on o (voted_start o) s n ∙ ap (alone o) all ∙ judges o at.opening (3 * times)

      true-log : (run-by o v n).log ≡ (run p times).plain.log
      true-log = ap (λ (r : Voted). r.log) comes ∙ (shows o at.opening times good).log

      first-log : v.log ≡ early
      first-log =
          let q = trial_under p [] in
          ap (λ (r : Voted). r.log) free ∙ ap (λ (k : ℕ). (fault_free_at p k).log) (sym whole)
          ∙ ap (λ (r : Voted). r.log) (judges q at.opening (3 * (s / 3)))
          ∙ (shows q at.opening (s / 3) (unsaid q at.opening refl (3 * (s / 3)))).log

      rest : IsPrefix early (run p count).plain.log
      rest = log-begins ports p (s / 3) count (let within_is = at.within in omega (arith, within_is))

      behind : IsPrefix (run p times).plain.log (run p count).plain.log
      behind = log-begins ports p times count within

      left : drop from.lines (run p count).plain.log ≡ rest.rest
      left = ap (drop from.lines) (sym rest.is) ∙ drop_at early rest.rest from.lines (sym at.lines)

      bare : w.log ≡ []
      bare = at.means.log ∙ at.log

      shown : Shows o m ds (run-by o w n)
      shown = subst (λ (k : ℕ). Shows o m ds (run-by o w k)) (zero-add n) (shows-run o w (0 + n) m ds m.mode m.end none mode stands.shows)

      ran : Alongside o n v w
      ran =
          alongside o n v w rest.rest behind.rest prefix.rest same
          (ap (λ (log : List Exchange). log ++ behind.rest) true-log ∙ behind.is ∙ sym rest.is ∙ ap (λ (log : List Exchange). log ++ rest.rest) (sym first-log))
          (ap (λ (log : List Exchange). log ++ prefix.rest) (sym shown.log) ∙ prefix.is ∙ left ∙ ap (λ (log : List Exchange). log ++ rest.rest) (sym bare))

      pub has-replayed : HasReplayed o times from.lines m
      has-replayed = record {
        devices = ds;
        state = run-by o w n;
        shows = shown;
        same = sym ran.same ∙ ap apart comes;
        lines_are =
            let made : m.log ≡ ran.lines = shown.log ∙ ran.other ∙ ap (λ (log : List Exchange). log ++ ran.lines) bare in
            ap length (sym true-log ∙ ran.one) ∙ length-append v.log ran.lines
            ∙ (λ i. length (first-log i) + length (sym made i)) ∙ ap (λ (k : ℕ). k + length m.log) (sym at.lines);
        mode = mode;
      }

-- ---- waypoints

module _ (p : Opening) (count : ℕ) (w : Waypoint) (m : View)
    (means : (o : Trial) (v : Voted) (ds : List Device) → Shows o m ds v → Means w.snapshot (record v { log = [] }))
    (whole : IsWhole w.snapshot) (banks : w.snapshot.banks ≡ m.banks) (steps : w.snapshot.steps ≡ m.steps) (log : w.snapshot.log ≡ []) where
  -- the machine shows a state that is the fault-free run's but for devices and log
  is-waypoint : (times : ℕ) (state : Voted) (ds : List Device) → IsOpening p → times ≤ count → m.steps ≡ 3 * times → Shows (trial_under p []) m ds state
      → apart state ≡ apart (fault_free_at p (3 * times)) → w.lines ≡ length (run p times).plain.log → IsWaypoint p count w
  is-waypoint times state ds opens within made shows same lines =
      let all : w.snapshot.steps ≡ 3 * times = steps ∙ made in
      let third : w.snapshot.steps / 3 ≡ times = omega (arith, all) in
      record {
        opening = opens;
        whole = whole;
        within = omega (arith, all, within);
        banks = banks ∙ shows.banks;
        log = log;
        state = record state { log = [] };
        means = means (trial_under p []) state ds shows;
        same = same ∙ ap (λ (k : ℕ). apart (fault_free_at p k)) (sym all);
        lines = lines ∙ ap (λ (k : ℕ). length (run p k).plain.log) (sym third);
      }

  -- that of a machine that went on from a waypoint
  pub next-waypoint : (judges : (o : Trial) → IsOpening o.opening → (n : ℕ) → alone o n ≡ guarded o n) (times lines : ℕ) → IsOpening p → times ≤ count
      → m.steps ≡ 3 * times → HasReplayed (trial_under p []) times lines m → w.lines ≡ lines + length m.log → IsWaypoint p count w
  next-waypoint judges times lines opens within made h are =
      is-waypoint times h.state h.devices opens within made h.shows (h.same ∙ ap apart (sym (judges (trial_under p []) opens (3 * times)))) (are ∙ sym h.lines_are)

  -- that of a machine before its first step
  pub start-waypoint : (ds : List Device) → IsUnderWay p m ds → m.steps ≡ 0 → w.lines ≡ 0 → IsWaypoint p count w
  start-waypoint ds h none lines =
      let o = trial_under p [] in
      let stands = subst (λ (k : ℕ). StandsFrom o (voted_start o) k m ds) none h.stands in
      is-waypoint 0 (run_of Guarded o 0) ds h.opening (omega arith) none (shows-run o (voted_start o) 0 m ds m.mode m.end h.end h.mode stands.shows) refl lines
