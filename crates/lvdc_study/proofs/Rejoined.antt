-- Where a machine that goes through every fault has what a waypoint has, its run has rejoined the plain run.
use Rattle.std.proofs.Common.{◌≡◌, ℕ, ◌*◌, ◌/◌, ◌≤◌, true, List, [], All, length, take, refl, sym, ap, ◌∙◌, subst, arith}
use Rattle.std.proofs.lemmas.List.{take_at}
use Rattle.std.proofs.lemmas.List.Elements.{All-weaker}
use Rattle.std.specs.declared.option.Option.{Option}
use Rattle.std.specs.declared.option.Option.TheVariants.{None, Some}
use Rattle.lvdc_map.specs.Memory.{word_at, memory_of}
use Rattle.lvdc_twin.specs.Cells.{cells_of}
use Rattle.lvdc_port.specs.Device.{Device}
use Rattle.lvdc_plain.specs.Run.{Opening, run, IsOpening}
use Rattle.lvdc_plain.specs.declared.records.Exchange.{Exchange}
use Rattle.lvdc_fault.specs.Events.{IsEvent}
use Rattle.lvdc_fault.specs.declared.event.Event.{Event}
use Rattle.lvdc_fault.specs.declared.verdict.Verdict.TheVariants.{Admissible}
use Rattle.lvdc_laws_voted.specs.Ends.{ShowsTimes}
use Rattle.lvdc_laws_voted.specs.Laws.{PortLaw}
use Rattle.lvdc_laws_runs.specs.Joined.{EndsBefore, AllEndBefore}
use Rattle.lvdc_laws_runs.specs.Rejoined.{fault_free_after, HasRejoined}
use Rattle.lvdc_model.specs.Judging.{first_bad, first_bad_below}
use Rattle.lvdc_model.specs.Listing.{copies_of}
use Rattle.lvdc_model.specs.Runs.{through, guarded, alone}
use Rattle.lvdc_model.specs.Trial.{Trial}
use Rattle.lvdc_model.specs.Voted.{Voted, voted_start}
use Rattle.lvdc_model.specs.declared.outcome.Outcome.{Outcome}
use Rattle.lvdc_machine.specs.Resumed.{state_from, EndsFrom}
use Rattle.lvdc_machine.specs.Shows.{Shows}
use Rattle.lvdc_machine.specs.Stands.{Stands}
use Rattle.lvdc_machine.specs.View.{View}
use Rattle.lvdc_machine.specs.declared.mode.Mode.{Mode}
use Rattle.lvdc_machine.specs.declared.mode.Mode.TheVariants.{Through}
use Rattle.lvdc_snapshot.specs.Snapshot.{Means}
use Rattle.lvdc_snapshot.specs.declared.snapshot.Snapshot.{Snapshot}
use Rattle.lvdc_runs.specs.Ran.{HasRun}
use Rattle.lvdc_runs.specs.Scripts.{trial_under}
use Rattle.lvdc_runs.specs.Same.{is_same}
use Rattle.lvdc_runs.specs.Stations.{fault_free_at}
use Rattle.lvdc_study.specs.Rejoins.{GoesOn, TellsRejoined}
use Rattle.lvdc_study.specs.Waypoints.{apart, IsPrefix, IsWaypoint}
use Rattle.lvdc_study.specs.declared.waypoint.Waypoint.{Waypoint}
use Rattle.lvdc_study.proofs.Agree.{none-is, none-same}
use Rattle.lvdc_study.proofs.Prefixes.{log-begins}

-- two beginnings of a log that are as long as each other are the same
pub prefix-same : (one other log : List Exchange) → IsPrefix one log → IsPrefix other log → length one ≡ length other → one ≡ other
prefix-same one other log a b long =
    sym (take_at one a.rest (length one) refl) ∙ ap (take (length one)) (a.is ∙ sym b.is) ∙ take_at other b.rest (length one) (sym long)

-- where no end has come, a machine that goes through every fault shows the state of its run, and has made all steps
shows-through : (o : Trial) (n : ℕ) (m : View) (ds : List Device) (mode : Mode) (end : Option Outcome) → end ≡ None → mode ≡ Through
    → Shows o m ds (state_from end mode o (voted_start o) n) → EndsFrom end o (voted_start o) n mode m.steps
    → (m.steps ≡ n) × Shows o m ds (through o n)
shows-through o n m ds mode None none goes h ends = (ends, subst (λ (k : Mode). Shows o m ds (state_from None k o (voted_start o) n)) goes h)
shows-through o n m ds mode (Some e) none goes h ends = absurd (cc none)

-- a machine that has made all times has run
pub has-run : (o : Trial) (steps times : ℕ) (m : View) (left : List Device) → GoesOn o steps times m left → steps ≡ 3 * times → HasRun Through o times m
has-run o steps times m left h all = record {
  opening = h.opening;
  banks = h.stands.shows.banks;
  script = h.stands.shows.script;
  mode_is = h.mode_is;
  left = left;
  stands = subst (λ (n : ℕ). Stands o n m left) all h.stands;
  unfailed = h.unfailed;
}

-- events that have ended before a step have ended before a later one
pub end-later : (early late : ℕ) (script : List Event) → early ≤ late → AllEndBefore early script → AllEndBefore late script
end-later early late script le all = All-weaker (EndsBefore early) (EndsBefore late) (λ e over. omega (arith, le, over)) script all

module _ (judges : (o : Trial) → IsOpening o.opening → (n : ℕ) → alone o n ≡ guarded o n)
    (unsaid : (o : Trial) → IsOpening o.opening → o.script ≡ [] → (n : ℕ) → first_bad_below o n ≡ Admissible)
    (plainly : (o : Trial) → IsOpening o.opening → (times : ℕ) → first_bad o times ≡ Admissible → ShowsTimes o times (guarded o (3 * times)))
    (p : Opening) (script : List Event) (count : ℕ) (w : Waypoint) (m : View) (left : List Device)
    (at : IsWaypoint p count w) (over : AllEndBefore w.snapshot.steps script)
    (end : m.end ≡ None) (now : Snapshot) (means : (o : Trial) (v : Voted) (ds : List Device) → Shows o m ds v → Means now v)
    (latches : now.latches ≡ w.snapshot.latches) (cells : now.cells ≡ w.snapshot.cells) (words : now.words ≡ w.snapshot.words) where
  abbrev pub o : Trial
  o = trial_under p script

  abbrev s : ℕ
  s = w.snapshot.steps

  abbrev pub t : ℕ
  t = s / 3

  abbrev pub v : Voted
  v = through o (3 * t)

  abbrev free : Voted
  free = fault_free_after o t

  pub all : 3 * t ≡ s
  all = let times = at.whole.times in omega (arith, times)

  free-is : fault_free_at p s ≡ free
  free-is = judges (trial_under p []) at.opening s ∙ ap (guarded (trial_under p [])) (sym all)

  pub within : t ≤ count
  within = let few = at.within in omega (arith, few)

  free-log : free.log ≡ (run p t).plain.log
  free-log = (plainly (trial_under p []) at.opening t (unsaid (trial_under p []) at.opening refl (3 * t))).log

  -- the machine shows a state that is alike but for devices and log, and the log of its run is that of the plain run
  module _ (x : Voted) (shows : Shows o m left x) (same : apart x ≡ apart v) (log : v.log ≡ (run p t).plain.log) where
    meant : Means now x
    meant = means o x left shows

    pub rejoined : HasRejoined o t
    rejoined = record {
      over = subst (λ (n : ℕ). AllEndBefore n script) (sym all) over;
      going = ap (λ (y : Voted). y.end) (sym same) ∙ sym shows.end ∙ end;
      running = ap (λ (x : Voted). x.end) (sym free-is) ∙ ap (λ (x : Voted). x.end) (sym at.same) ∙ at.means.end;
      copies =
          ap (λ (y : Voted). y.copies) (sym same) ∙ meant.copies ∙ ap copies_of latches ∙ sym at.means.copies ∙ ap (λ (x : Voted). x.copies) at.same
          ∙ ap (λ (x : Voted). x.copies) free-is;
      cells = λ twin small place is.
          ap (λ (y : Voted). word_at (y.twins.cells twin) place) (sym same) ∙ meant.cells twin small place is
          ∙ ap (λ held. word_at (cells_of held twin) place) cells ∙ sym (at.means.cells twin small place is)
          ∙ ap (λ (x : Voted). word_at (x.twins.cells twin) place) at.same ∙ ap (λ (x : Voted). word_at (x.twins.cells twin) place) free-is;
      intended = λ spot is.
          ap (λ (y : Voted). word_at y.intended spot) (sym same) ∙ meant.words spot is
          ∙ ap (λ placed. word_at (memory_of placed) spot) words ∙ sym (at.means.words spot is)
          ∙ ap (λ (x : Voted). word_at x.intended spot) at.same ∙ ap (λ (x : Voted). word_at x.intended spot) free-is;
      log = log ∙ sym free-log;
    }

    module _ (is_same_on : (o : Trial) (times count : ℕ) → IsOpening o.opening → All IsEvent o.script → HasRejoined o times → times ≤ count → is_same o count ≡ true)
        (counts : (o : Trial) (times count : ℕ) → IsOpening o.opening → All IsEvent o.script → HasRejoined o times → times ≤ count
        → (through o (3 * count)).counts ≡ (through o (3 * times)).counts)
        (repairs : (o : Trial) (times count : ℕ) → IsOpening o.opening → All IsEvent o.script → HasRejoined o times → times ≤ count
        → (through o (3 * count)).repairs ≡ (through o (3 * times)).repairs)
        (events : All IsEvent script) where
      pub tells : TellsRejoined o count m
      tells = record {
        difference = none-is _ (none-same o count ∙ is_same_on o t count at.opening events rejoined within);
        counts = shows.counts ∙ ap (λ (y : Voted). y.counts) same ∙ sym (counts o t count at.opening events rejoined within);
        repairs = shows.repairs ∙ ap (λ (y : Voted). y.repairs) same ∙ sym (repairs o t count at.opening events rejoined within);
      }

  -- a machine that goes through every fault shows the state of its run
  module _ (ports : PortLaw) (steps : ℕ) (goes : GoesOn (trial_under p script) steps count m left) (made : m.steps ≡ w.snapshot.steps)
      (long : length m.log ≡ w.lines) (prefix : IsPrefix m.log (run p count).plain.log) where
    shown : (m.steps ≡ steps) × Shows o m left (through o steps)
    shown = shows-through o steps m left m.mode m.end end goes.mode_is goes.stands.shows goes.stands.ends

    pub shows-it : Shows o m left v
    shows-it = subst (λ (n : ℕ). Shows o m left (through o n)) (sym shown.0 ∙ made ∙ sym all) shown.1

    pub log-is : v.log ≡ (run p t).plain.log
    log-is = sym shows-it.log ∙ prefix-same m.log (run p t).plain.log (run p count).plain.log prefix (log-begins ports p t count within) (long ∙ at.lines)

pub tells-rejoined : ((o : Trial) → IsOpening o.opening → (n : ℕ) → alone o n ≡ guarded o n)
    → ((o : Trial) → IsOpening o.opening → o.script ≡ [] → (n : ℕ) → first_bad_below o n ≡ Admissible)
    → ((o : Trial) → IsOpening o.opening → (times : ℕ) → first_bad o times ≡ Admissible → ShowsTimes o times (guarded o (3 * times)))
    → PortLaw → (p : Opening) (script : List Event) (count steps : ℕ) (w : Waypoint) (m : View) (left : List Device)
    → IsWaypoint p count w → AllEndBefore w.snapshot.steps script → GoesOn (trial_under p script) steps count m left
    → m.end ≡ None → m.steps ≡ w.snapshot.steps → (now : Snapshot) → ((o : Trial) (v : Voted) (ds : List Device) → Shows o m ds v → Means now v)
    → now.latches ≡ w.snapshot.latches → now.cells ≡ w.snapshot.cells → now.words ≡ w.snapshot.words
    → length m.log ≡ w.lines → IsPrefix m.log (run p count).plain.log
    → ((o : Trial) (times count : ℕ) → IsOpening o.opening → All IsEvent o.script → HasRejoined o times → times ≤ count → is_same o count ≡ true)
    → ((o : Trial) (times count : ℕ) → IsOpening o.opening → All IsEvent o.script → HasRejoined o times → times ≤ count
    → (through o (3 * count)).counts ≡ (through o (3 * times)).counts)
    → ((o : Trial) (times count : ℕ) → IsOpening o.opening → All IsEvent o.script → HasRejoined o times → times ≤ count
    → (through o (3 * count)).repairs ≡ (through o (3 * times)).repairs)
    → All IsEvent script → TellsRejoined (trial_under p script) count m
tells-rejoined judges unsaid plainly ports p script count steps w m left at over goes end made now means latches cells words long prefix same counts repairs events =
    let shows = shows-it judges unsaid plainly p script count w m left at over end now means latches cells words ports steps goes made long prefix in
    tells judges unsaid plainly p script count w m left at over end now means latches cells words (through (trial_under p script) (3 * (w.snapshot.steps / 3))) shows refl
    (log-is judges unsaid plainly p script count w m left at over end now means latches cells words ports steps goes made long prefix) same counts repairs events
