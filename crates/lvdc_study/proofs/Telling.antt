-- What a machine that began at a waypoint tells, where its run has rejoined the plain run at a later one.
use Rattle.std.proofs.Common.{◌≡◌, ℕ, ◌+◌, ◌*◌, ◌/◌, ◌≤◌, true, List, [], ◌++◌, All, length, drop, sym, ap, ◌∙◌, arith}
use Rattle.std.proofs.lemmas.List.{length-append}
use Rattle.lvdc_port.specs.Device.{Device}
use Rattle.lvdc_plain.specs.Run.{Opening, run, IsOpening}
use Rattle.lvdc_plain.specs.declared.records.Exchange.{Exchange}
use Rattle.lvdc_fault.specs.Events.{IsEvent}
use Rattle.lvdc_fault.specs.declared.event.Event.{Event}
use Rattle.lvdc_fault.specs.declared.verdict.Verdict.{Verdict}
use Rattle.lvdc_fault.specs.declared.verdict.Verdict.TheVariants.{Admissible}
use Rattle.lvdc_laws_phases.specs.Standing.{Standing}
use Rattle.lvdc_laws_runs.specs.Early.{AllBeginFrom, fault_free}
use Rattle.lvdc_laws_runs.specs.Joined.{AllEndBefore, AllSpareMemory, StoresWords, HasJoined, StaysJoined}
use Rattle.lvdc_laws_runs.specs.Rejoined.{HasRejoined}
use Rattle.lvdc_laws_voted.specs.Ends.{ShowsTimes, Comes}
use Rattle.lvdc_laws_voted.specs.Laws.{PortLaw}
use Rattle.lvdc_model.specs.Judging.{first_bad, first_bad_below}
use Rattle.lvdc_model.specs.Runs.{through, guarded, alone}
use Rattle.lvdc_model.specs.Trial.{Trial}
use Rattle.lvdc_model.specs.Voted.{Voted}
use Rattle.lvdc_machine.specs.Shows.{Shows}
use Rattle.lvdc_machine.specs.Steps.{run_of}
use Rattle.lvdc_machine.specs.View.{View}
use Rattle.lvdc_machine.specs.declared.mode.Mode.{Mode}
use Rattle.lvdc_snapshot.specs.Snapshot.{Means}
use Rattle.lvdc_snapshot.specs.declared.snapshot.Snapshot.{Snapshot}
use Rattle.lvdc_runs.specs.Same.{is_same}
use Rattle.lvdc_runs.specs.Scripts.{trial_under}
use Rattle.lvdc_study.specs.Rejoins.{Replays, TellsMisled}
use Rattle.lvdc_study.specs.Waypoints.{apart, IsPrefix, IsWaypoint}
use Rattle.lvdc_study.specs.declared.waypoint.Waypoint.{Waypoint}
use Rattle.lvdc_study.proofs.Joining.{stays-admissible}
use Rattle.lvdc_study.proofs.Beside.{shown, true-same, true-prefix, begins-all, verdict-is}
use Rattle.lvdc_study.proofs.Prefixes.{log-begins}
use Rattle.lvdc_study.proofs.Rejoined.{prefix-same, rejoined, tells}
use Rattle.lvdc_study.proofs.Truly.{through-from}

module _ (runs : (mode : Mode) (o : Trial) (first : ℕ) → AllBeginFrom first o.script → (n : ℕ) → n ≤ first → run_of mode o n ≡ run_of mode (fault_free o) n)
    (unsaid : (o : Trial) → IsOpening o.opening → o.script ≡ [] → (n : ℕ) → first_bad_below o n ≡ Admissible)
    (judges : (o : Trial) → IsOpening o.opening → (n : ℕ) → alone o n ≡ guarded o n)
    (shows : (o : Trial) → IsOpening o.opening → (times : ℕ) → first_bad o times ≡ Admissible → ShowsTimes o times (guarded o (3 * times)))
    (comes : (o : Trial) → IsOpening o.opening → (n : ℕ) → Comes Standing o n)
    (goes : (o : Trial) (n : ℕ) → IsOpening o.opening → first_bad_below o n ≡ Admissible → through o n ≡ guarded o n)
    (ports : PortLaw)
    (spared : (o : Trial) → AllSpareMemory o.script → (step : ℕ) → StoresWords o step)
    (stays : (o : Trial) (step : ℕ) → IsOpening o.opening → HasJoined o step → (later : ℕ) → step ≤ later → StaysJoined o step later)
    (same_on : (o : Trial) (times count : ℕ) → IsOpening o.opening → All IsEvent o.script → HasRejoined o times → times ≤ count → is_same o count ≡ true)
    (counts : (o : Trial) (times count : ℕ) → IsOpening o.opening → All IsEvent o.script → HasRejoined o times → times ≤ count
    → (through o (3 * count)).counts ≡ (through o (3 * times)).counts)
    (repairs : (o : Trial) (times count : ℕ) → IsOpening o.opening → All IsEvent o.script → HasRejoined o times → times ≤ count
    → (through o (3 * count)).repairs ≡ (through o (3 * times)).repairs) where
  module _ (p : Opening) (script : List Event) (count : ℕ) (from : Waypoint) (at : IsWaypoint p count from) (later : AllBeginFrom from.snapshot.steps script)
      (events : All IsEvent script) (to : Waypoint) (there : IsWaypoint p count to) (over : AllEndBefore to.snapshot.steps script)
      (devices : List Device) (n : ℕ) (said : Verdict) (m : View) (ds : List Device)
      (h : Replays (trial_under p script) (record at.state { devices = devices }) n said m ds) (steps : from.snapshot.steps + n ≡ to.snapshot.steps)
      (prefix : IsPrefix m.log (drop from.lines (run p count).plain.log)) (lines : from.lines + length m.log ≡ to.lines)
      (now : Snapshot) (means : (o : Trial) (v : Voted) (ds : List Device) → Shows o m ds v → Means now v)
      (latches : now.latches ≡ to.snapshot.latches) (cells : now.cells ≡ to.snapshot.cells) (words : now.words ≡ to.snapshot.words) where
    abbrev o : Trial
    o = trial_under p script

    abbrev t : ℕ
    t = to.snapshot.steps / 3

    abbrev x : Voted
    x = through-from o (record at.state { devices = devices }) n

    abbrev early : List Exchange
    early = (run p (from.snapshot.steps / 3)).plain.log

    all : from.snapshot.steps + n ≡ 3 * t
    all = let times = there.whole.times in omega (arith, times, steps)

    within : t ≤ count
    within = let few = there.within in omega (arith, few)

    same : apart x ≡ apart (through o (3 * t))
    same = true-same runs unsaid judges shows comes goes ports p script count from at later devices n said m ds h prefix ∙ ap (λ (k : ℕ). apart (through o k)) all

    log : (through o (3 * t)).log ≡ (run p t).plain.log
    log =
        let long : length (early ++ m.log) ≡ length (run p t).plain.log =
        length-append early m.log ∙ ap (λ (k : ℕ). k + length m.log) (sym at.lines) ∙ lines ∙ there.lines in
        ap (λ (k : ℕ). (through o k).log) (sym all)
        ∙ true-prefix runs unsaid judges shows comes goes ports p script count from at later devices n said m ds h prefix
        ∙ prefix-same (early ++ m.log) (run p t).plain.log (run p count).plain.log
        (begins-all runs unsaid judges shows comes goes ports p script count from at later devices n said m ds h prefix) (log-begins ports p t count within) long

    it : Shows o m ds x
    it = shown runs unsaid judges shows comes goes ports p script count from at later devices n said m ds h prefix

    has-rejoined : HasRejoined o t
    has-rejoined = rejoined judges unsaid shows p script count to m ds there over h.going now means latches cells words x it same log

    pub tells-misled : TellsMisled o count said m
    tells-misled = record {
      rejoined = tells judges unsaid shows p script count to m ds there over h.going now means latches cells words x it same log same_on counts repairs events;
      verdict =
          verdict-is runs unsaid judges shows comes goes ports p script count from at later devices n said m ds h prefix
          (let few = there.within in omega (arith, few, steps))
          (λ none. stays-admissible comes goes ports spared stays p script at.opening events t has-rejoined (ap (λ (k : ℕ). (guarded o k).end) (sym all) ∙ none) count within);
    }
