-- A run from a waypoint over devices that answer what the plain run read: also one that has gone through a step that something was said
-- against comes to what the run of its script comes to.
use Rattle.std.proofs.Common.{◌≡◌, ◌≢◌, ℕ, zero, suc, ◌+◌, ◌-◌, ◌*◌, ◌/◌, ◌≤◌, cond, List, [], ◌++◌, drop, refl, sym, ap, ◌∙◌, subst, append_assoc, add-zero, add-suc, le_refl, arith}
use Rattle.std.proofs.lemmas.List.{append-nil, drop_at}
use Rattle.std.specs.declared.option.Option.{Option}
use Rattle.std.specs.declared.option.Option.TheVariants.{None, Some}
use Rattle.lvdc_port.specs.Device.{Device}
use Rattle.lvdc_plain.specs.Run.{Opening, run, IsOpening}
use Rattle.lvdc_plain.specs.declared.records.Exchange.{Exchange}
use Rattle.lvdc_fault.specs.declared.event.Event.{Event}
use Rattle.lvdc_fault.specs.declared.verdict.Verdict.{Verdict}
use Rattle.lvdc_fault.specs.declared.verdict.Verdict.TheVariants.{Admissible, Logic, Memory}
use Rattle.lvdc_laws_phases.specs.Standing.{Standing}
use Rattle.lvdc_laws_runs.specs.Early.{AllBeginFrom, fault_free}
use Rattle.lvdc_laws_voted.specs.Ends.{ShowsTimes, Comes, Good, Bad}
use Rattle.lvdc_laws_voted.specs.Laws.{PortLaw}
use Rattle.lvdc_laws_voted.specs.Relation.{Goes, Halts}
use Rattle.lvdc_model.specs.declared.outcome.Outcome.{Outcome}
use Rattle.lvdc_model.specs.declared.outcome.Outcome.TheVariants.{Inadmissible}
use Rattle.lvdc_model.specs.Judging.{is_begun, judged, or_else, first_bad, first_bad_below}
use Rattle.lvdc_model.specs.Runs.{through, guarded, alone}
use Rattle.lvdc_model.specs.Trial.{Trial, plain_in}
use Rattle.lvdc_model.specs.Voted.{Voted, voted_start}
use Rattle.lvdc_machine.specs.Resumed.{state_from}
use Rattle.lvdc_machine.specs.Shows.{Shows}
use Rattle.lvdc_machine.specs.Steps.{run_from, run_of}
use Rattle.lvdc_machine.specs.View.{View}
use Rattle.lvdc_machine.specs.declared.mode.Mode.{Mode}
use Rattle.lvdc_machine.specs.declared.mode.Mode.TheVariants.{Guarded, Through}
use Rattle.lvdc_machine.proofs.Refused as refused
use Rattle.lvdc_machine.proofs.Standing.{run-on}
use Rattle.lvdc_runs.specs.Scripts.{trial_under}
use Rattle.lvdc_study.specs.Rejoins.{HasSaid, Replays}
use Rattle.lvdc_study.specs.Waypoints.{apart, IsPrefix, IsWaypoint}
use Rattle.lvdc_study.specs.declared.waypoint.Waypoint.{Waypoint}
use Rattle.lvdc_study.proofs.Alongside.{run-by, alongside}
use Rattle.lvdc_study.proofs.Answering.{AllFollow, start, Begun, plainly}
use Rattle.lvdc_study.proofs.Prefixes.{log-begins}
use Rattle.lvdc_study.proofs.Truly.{through-from, noted-line, noted-log, Truly, truly}

-- ---- what was said

-- a run without a verdict has not stopped where it has not ended
runs-on : (o : Trial) (n : ℕ) → Comes Standing o n → (guarded o n).end ≡ None → first_bad_below o n ≡ Admissible → (plain_in o n).stop ≡ None
runs-on o n (Good good (Goes steps kept)) none admissible = kept.running
runs-on o n (Good good (Halts steps halted)) none admissible = let ended = halted.ended in absurd (cc (ended, none))
runs-on o n (Bad m less first same ends) none admissible = absurd (ends.bad (sym first ∙ admissible))

-- where the run that judges has ended with a verdict, that is the first one
record IsFirst (o : Trial) (n : ℕ) (verdict : Verdict) : Type 0 where
  is : first_bad_below o n ≡ verdict
  bad : verdict ≢ Admissible

said-first : (o : Trial) (n : ℕ) (verdict : Verdict) → Comes Standing o n → (guarded o n).end ≡ Some (Inadmissible verdict) → IsFirst o n verdict
said-first o n verdict (Good good (Goes steps kept)) is = let going = kept.going in absurd (cc (going, is))
said-first o n verdict (Good good (Halts steps halted)) is = let ended = halted.ended in absurd (cc (ended, is))
said-first o n verdict (Bad m less first same ends) is =
    let bad = ap (λ (v : Voted). v.end) same ∙ ap (λ (v : Voted). v.end) ends.ends in
    let told : first_bad_below o (suc m) ≡ verdict = cc (bad, is) in
    record { is = first ∙ told; bad = subst (λ (x : Verdict). x ≢ Admissible) told ends.bad }

-- it stays the first one
or_else-kept : (a b : Verdict) → a ≢ Admissible → or_else a b ≡ a
or_else-kept Admissible b bad = absurd (bad refl)
or_else-kept (Logic step m) b bad = refl
or_else-kept (Memory step at) b bad = refl

first-kept : (o : Trial) (n more : ℕ) (verdict : Verdict) → IsFirst o n verdict → first_bad_below o (n + more) ≡ verdict
first-kept o n zero verdict h = ap (first_bad_below o) (add-zero n) ∙ h.is
first-kept o n (suc more) verdict h =
    let before = first-kept o n more verdict h in
    let later = cond (is_begun o (n + more)) (judged o (n + more)) Admissible in
    ap (first_bad_below o) (add-suc n more) ∙ ap (λ (x : Verdict). or_else x later) before ∙ or_else-kept verdict later h.bad

-- where it has not ended nothing was said
pub none-first : (o : Trial) (n : ℕ) → Comes Standing o n → (guarded o n).end ≡ None → first_bad_below o n ≡ Admissible
none-first o n (Good good follows) none = good
none-first o n (Bad m less first same ends) none =
    let bad = ap (λ (v : Voted). v.end) same ∙ ap (λ (v : Voted). v.end) ends.ends in absurd (cc (bad, none))

-- ---- the run that judges beside the run through every fault

-- a log with lines behind it
record Behind (early late : List Exchange) : Type 0 where
  lines : List Exchange
  is : early ++ lines ≡ late

through-grows : (o : Trial) (x : Voted) (n more : ℕ) → Behind (through-from o x n).log (through-from o x (n + more)).log
through-grows o x n zero =
    let same : (through-from o x n).log ≡ (through-from o x (n + zero)).log = ap (λ (k : ℕ). (through-from o x k).log) (sym (add-zero n)) in
    record { lines = []; is = append-nil (through-from o x n).log ∙ same }
through-grows o x n (suc more) =
    let before = through-grows o x n more in
    let r = through-from o x (n + more) in
    record {
      lines = before.lines ++ noted-line r.end o r;
      is =
          sym (append_assoc (through-from o x n).log before.lines (noted-line r.end o r))
          ∙ ap (λ (l : List Exchange). l ++ noted-line r.end o r) before.is ∙ sym (noted-log r.end o r)
          ∙ ap (λ (k : ℕ). (through-from o x k).log) (sym (add-suc n more));
    }

-- the log of the run that judges is the beginning of that of the other
alone-behind : (o : Trial) (x : Voted) (n : ℕ) → refused.Comes o x n → Behind (run-by o x n).log (through-from o x n).log
alone-behind o x n (refused.Same same free steps) =
    record { lines = []; is = append-nil (run-by o x n).log ∙ ap (λ (v : Voted). v.log) (sym same) }
alone-behind o x n (refused.Refused at said less going steps state) =
    let grows = through-grows o x at (n - at) in
    let all : at + (n - at) ≡ n = omega (arith, less) in
    record {
      lines = grows.lines;
      is = ap (λ (v : Voted). v.log ++ grows.lines) state ∙ grows.is ∙ ap (λ (k : ℕ). (through-from o x k).log) all;
    }

-- as long as the one has not ended it is the other
alone-is : (o : Trial) (x : Voted) (n : ℕ) → refused.Comes o x n → (run-by o x n).end ≡ None → run-by o x n ≡ through-from o x n
alone-is o x n (refused.Same same free steps) none = sym same
alone-is o x n (refused.Refused at said less going steps state) none = let end = ap (λ (v : Voted). v.end) state in absurd (cc (end, none))

-- a machine that has not ended shows the run through every fault, also if it judges
shows-through : (o : Trial) (first : Voted) (n : ℕ) (m : View) (ds : List Device) (mode : Mode) (end : Option Outcome) → first.end ≡ None → end ≡ None → m.end ≡ None
    → Shows o m ds (state_from end mode o first n) → Shows o m ds (through-from o first n)
shows-through o first n m ds Through None begins none going h = h
shows-through o first n m ds Guarded None begins none going h =
    subst (λ (v : Voted). Shows o m ds v) (alone-is o first n (refused.comes o first n begins) (sym h.end ∙ going)) h
shows-through o first n m ds mode (Some e) begins none going h = absurd (cc (none))

-- and of one that judges the run that judges has not ended
judging-goes : (o : Trial) (first : Voted) (n : ℕ) (m : View) (ds : List Device) (mode : Mode) (end : Option Outcome) → mode ≡ Guarded → end ≡ None → m.end ≡ None
    → Shows o m ds (state_from end mode o first n) → (run_from Guarded o first n).end ≡ None
judging-goes o first n m ds Guarded None judges none going h = sym h.end ∙ going
judging-goes o first n m ds Through None judges none going h = absurd (cc (judges))
judging-goes o first n m ds mode (Some e) judges none going h = absurd (cc (none))

-- ---- a run from a waypoint

module _ (runs : (mode : Mode) (o : Trial) (first : ℕ) → AllBeginFrom first o.script → (n : ℕ) → n ≤ first → run_of mode o n ≡ run_of mode (fault_free o) n)
    (unsaid : (o : Trial) → IsOpening o.opening → o.script ≡ [] → (n : ℕ) → first_bad_below o n ≡ Admissible)
    (judges : (o : Trial) → IsOpening o.opening → (n : ℕ) → alone o n ≡ guarded o n)
    (shows : (o : Trial) → IsOpening o.opening → (times : ℕ) → first_bad o times ≡ Admissible → ShowsTimes o times (guarded o (3 * times)))
    (comes : (o : Trial) → IsOpening o.opening → (n : ℕ) → Comes Standing o n)
    (goes : (o : Trial) (n : ℕ) → IsOpening o.opening → first_bad_below o n ≡ Admissible → through o n ≡ guarded o n)
    (ports : PortLaw) (p : Opening) (script : List Event) (count : ℕ) (from : Waypoint) (at : IsWaypoint p count from)
    (later : AllBeginFrom from.snapshot.steps script) where
  abbrev s : ℕ
  s = from.snapshot.steps

  abbrev t : ℕ
  t = s / 3

  abbrev pub o : Trial
  o = trial_under p script

  abbrev q : Trial
  q = trial_under p []

  abbrev v : Voted
  v = run_of Through o s

  abbrev early : List Exchange
  early = (run p t).plain.log

  abbrev whole-log : List Exchange
  whole-log = (run p count).plain.log

  whole : 3 * t ≡ s
  whole = let times_is = at.whole.times in omega (arith, times_is)

  good : (n : ℕ) → first_bad_below q n ≡ Admissible
  good n = unsaid q at.opening refl n

  free : v ≡ guarded q s
  free = runs Through o s later s (le_refl s) ∙ goes q s at.opening (good s)

  judging : run_of Guarded o s ≡ guarded q s
  judging = runs Guarded o s later s (le_refl s) ∙ judges q at.opening s

  same-first : apart v ≡ apart at.state
  same-first = ap apart (free ∙ sym (judges q at.opening s)) ∙ sym at.same

  shown-first : ShowsTimes q t (guarded q s)
  shown-first = subst (λ (n : ℕ). ShowsTimes q t (guarded q n)) whole (shows q at.opening t (good (3 * t)))

  first-log : v.log ≡ early
  first-log = ap (λ (r : Voted). r.log) free ∙ shown-first.log

  first-end : v.end ≡ None
  first-end = ap (λ (r : Voted). r.end) same-first ∙ at.means.end

  bare : at.state.log ≡ []
  bare = at.means.log ∙ at.log

  running : (run p t).plain.stop ≡ None
  running = runs-on q s (comes q at.opening s) (ap (λ (r : Voted). r.end) (sym free) ∙ first-end) (good s)

  truly-first : (devices : List Device) → Truly o early v (record at.state { devices = devices })
  truly-first devices =
      let steps : v.steps ≡ s = ap (λ (r : Voted). r.steps) same-first ∙ at.means.steps in
      let times : t ≡ (v.steps + 2) / 3 = omega (arith, steps, whole) in
      record {
        same = same-first;
        log = first-log ∙ sym (append-nil early) ∙ ap (λ (l : List Exchange). early ++ l) (sym bare);
        here =
            subst (λ (n : ℕ). Begun p.unplugs p.devices n v.log v.devices) times
            (subst (λ (l : List Exchange). Begun p.unplugs p.devices t l v.devices) (sym first-log)
            (subst (Begun p.unplugs p.devices t early) (sym (ap (λ (r : Voted). r.devices) free ∙ shown-first.devices))
            ((plainly ports p t).begun running)));
      }

  module _ (devices : List Device) (n : ℕ) (verdict : Verdict) (m : View) (ds : List Device)
      (h : Replays o (record at.state { devices = devices }) n verdict m ds) (prefix : IsPrefix m.log (drop from.lines whole-log)) where
    abbrev w : Voted
    w = record at.state { devices = devices }

    pub shown : Shows o m ds (through-from o w n)
    shown = shows-through o w n m ds m.mode m.end h.begins h.going h.going h.stands.shows

    rest : IsPrefix early whole-log
    rest = log-begins ports p t count (let within = at.within in omega (arith, within))

    left : drop from.lines whole-log ≡ rest.rest
    left = ap (drop from.lines) (sym rest.is) ∙ drop_at early rest.rest from.lines (sym at.lines)

    all-lines : early ++ (m.log ++ prefix.rest) ≡ whole-log
    all-lines = ap (λ (l : List Exchange). early ++ l) (prefix.is ∙ left) ∙ rest.is

    true-run : Truly o early (through-from o v n) (through-from o w n)
    true-run =
        truly o early v w (truly-first devices) n (sym shown.end ∙ h.going) prefix.rest
        (subst (AllFollow p.unplugs (start p.unplugs p.devices)) (sym all-lines ∙ ap (λ (l : List Exchange). early ++ (l ++ prefix.rest)) shown.log) (plainly ports p count).follow)

    comes-to : through-from o v n ≡ through o (s + n)
    comes-to = run-on Through o (voted_start o) s n

    -- but for devices and log it shows what the run of the script comes to
    pub true-same : apart (through-from o w n) ≡ apart (through o (s + n))
    true-same = sym true-run.same ∙ ap apart comes-to

    -- and the log of that is the plain run's
    pub true-prefix : (through o (s + n)).log ≡ early ++ m.log
    true-prefix = ap (λ (r : Voted). r.log) (sym comes-to) ∙ true-run.log ∙ ap (λ (l : List Exchange). early ++ l) (sym shown.log)

    pub begins-all : IsPrefix (early ++ m.log) whole-log
    begins-all = record { rest = prefix.rest; is = append_assoc early m.log prefix.rest ∙ all-lines }

    -- the run that judges has ended as that of the machine
    pub judged-end : (guarded o (s + n)).end ≡ (run_from Guarded o w n).end
    judged-end =
        let mine = alone-behind o v n (refused.comes o v n first-end) in
        let its = alone-behind o w n (refused.comes o w n h.begins) in
        let both =
        alongside o n v w m.log mine.lines its.lines same-first
        (mine.is ∙ true-run.log ∙ (λ i. sym first-log i ++ sym shown.log i)) (its.is ∙ sym shown.log ∙ ap (λ (l : List Exchange). l ++ m.log) (sym bare)) in
        let state : run-by o v n ≡ guarded o (s + n) =
        ap (λ (r : Voted). run-by o r n) (free ∙ sym judging) ∙ run-on Guarded o (voted_start o) s n ∙ judges o at.opening (s + n) in
        ap (λ (r : Voted). r.end) (sym state) ∙ ap (λ (r : Voted). r.end) both.same

    -- what was said is the first verdict, if it is Admissible only where no step is inadmissible behind
    pub verdict-is : s + n ≤ 3 * count → ((guarded o (s + n)).end ≡ None → first_bad o count ≡ Admissible) → verdict ≡ first_bad o count
    verdict-is within admissible = by_mode m.mode refl h.said
      where
        by_mode : (mode : Mode) → m.mode ≡ mode → HasSaid mode verdict (run_from Guarded o w n).end → verdict ≡ first_bad o count
        by_mode Guarded is said = said ∙ sym (admissible (judged-end ∙ judging-goes o w n m ds m.mode m.end is h.going h.going h.stands.shows))
        by_mode Through is said =
            let all : (s + n) + (3 * count - (s + n)) ≡ 3 * count = omega (arith, within) in
            sym (ap (first_bad_below o) (sym all) ∙ first-kept o (s + n) (3 * count - (s + n)) verdict (said-first o (s + n) verdict (comes o at.opening (s + n)) (judged-end ∙ said)))
