-- Machines that go on from a station of the fault-free run.
use Rattle.std.proofs.Common.{◌≡◌, ℕ, ◌+◌, ◌-◌, ◌*◌, ◌/◌, ◌%◌, ◌≤◌, Bool, List, [], false, is_some, refl, sym, subst, ap, ◌∙◌, true≢false, arith, le_refl, IfSome, IsSomeAnd, slice_get}
use Rattle.std.proofs.lemmas.List.Elements.{All-weaker}
use Rattle.std.specs.declared.option.Option.{Option}
use Rattle.std.specs.declared.option.Option.TheVariants.{None, Some}
use Rattle.lvdc_port.specs.Device as device
use Rattle.lvdc_port.specs.Devices.{AreDistinct}
use Rattle.lvdc_plain.specs.Run.{Opening, run, IsOpening}
use Rattle.lvdc_plain.specs.declared.records.Unplug.{Unplug}
use Rattle.lvdc_fault.specs.declared.event.Event.{Event}
use Rattle.lvdc_fault.specs.declared.verdict.Verdict.TheVariants.{Admissible}
use Rattle.lvdc_laws_runs.specs.Early.{BeginsFrom, AllBeginFrom, fault_free}
use Rattle.lvdc_laws_voted.specs.Ends.{ShowsTimes}
use Rattle.lvdc_model.specs.Judging.{first_bad, first_bad_below}
use Rattle.lvdc_model.specs.Runs.{alone, guarded}
use Rattle.lvdc_model.specs.declared.outcome.Outcome.{Outcome}
use Rattle.lvdc_model.specs.Trial.{Trial}
use Rattle.lvdc_model.specs.Voted.{Voted, voted_start}
use Rattle.lvdc_machine.specs.Calls.{IsFresh}
use Rattle.lvdc_machine.specs.Resumed.{state_from, EndsFrom, StandsFrom}
use Rattle.lvdc_machine.specs.Shows.{Shows}
use Rattle.lvdc_snapshot.specs.Snapshot.{IsWhole, Means}
use Rattle.lvdc_machine.specs.Stands.{Stands}
use Rattle.lvdc_machine.specs.Steps.{run_of, Keeps}
use Rattle.lvdc_machine.specs.View.{View}
use Rattle.lvdc_machine.specs.declared.mode.Mode.{Mode}
use Rattle.lvdc_machine.specs.declared.mode.Mode.TheVariants.{Guarded}
use Rattle.lvdc_machine.specs.declared.mode.Pace.{Pace}
use Rattle.lvdc_snapshot.specs.declared.snapshot.Snapshot.{Snapshot}
use Rattle.lvdc_runs.specs.Scripts.{trial_under}
use Rattle.lvdc_runs.specs.Ran.{HasRunWithin, NoneFailed}
use Rattle.lvdc_runs.specs.Stations.{fault_free_at, IsUnderWay, IsStation}

-- ---- the fault-free run

-- no end has come where none is told
pub none-told : (told end : Option Outcome) (is : Bool) → told ≡ end → is ≡ is_some told → is ≡ false → end ≡ None
none-told None end is same tells none = sym same
none-told (Some e) end is same tells none = absurd (true≢false (sym tells ∙ none))

-- where no end has come, as many steps are made as were asked for, and the machine shows the state of its run
shows-run : (o : Trial) (n : ℕ) (m : View) (ds : List device.Device) (mode : Mode) (end : Option Outcome) → end ≡ None → mode ≡ Guarded
    → Shows o m ds (state_from end mode o (voted_start o) n) → EndsFrom end o (voted_start o) n mode m.steps
    → (m.steps ≡ n) × Shows o m ds (run_of Guarded o n)
shows-run o n m ds mode None none judges h ends = (ends, subst (λ (k : Mode). Shows o m ds (run_of k o n)) judges h)
shows-run o n m ds mode (Some e) none judges h ends = absurd (cc none)

-- a machine before its first step is under way
pub under_way-start : (p : Opening) (pace : Pace) (count : ℕ) (m : View) (ds : List device.Device) → IsOpening p → IsFresh Guarded pace count 0 m
    → Stands (trial_under p []) 0 m ds → IsUnderWay p m ds
under_way-start p pace count m ds opens fresh stands =
    record {
      opening = opens;
      mode = fresh.mode_is;
      end = fresh.end;
      times = ap (λ (n : ℕ). n % 3) fresh.steps_are;
      stands = subst (λ (n : ℕ). Stands (trial_under p []) n m ds) (sym fresh.steps_are) stands;
    }

module _ (p : Opening) where
  abbrev o : Trial
  o = trial_under p []

  module _ (more : ℕ) (before after : View) (old new : List device.Device) (h : IsUnderWay p before old) (keeps : Keeps before after) (end : after.end ≡ None)
      (stands : Stands o (before.steps + 3 * more) after new) where
    shown : (after.steps ≡ before.steps + 3 * more) × Shows o after new (run_of Guarded o (before.steps + 3 * more))
    shown = shows-run o (before.steps + 3 * more) after new after.mode after.end end (keeps.mode ∙ h.mode) stands.shows stands.ends

    -- so many steps more are made
    pub steps-on : after.steps ≡ before.steps + 3 * more
    steps-on = shown.0

    -- what goes on without an end is under way
    pub under_way-on : IsUnderWay p after new
    under_way-on =
        let made = steps-on in
        let times = h.times in
        record {
          opening = h.opening;
          mode = keeps.mode ∙ h.mode;
          end = end;
          times = omega (arith, made, times);
          stands = subst (λ (n : ℕ). Stands o n after new) (sym made) stands;
        }

    -- its snapshot is a station
    pub is-station : (s : Snapshot) → before.steps + 3 * more ≤ 3 * before.limit
        → ((o : Trial) (v : Voted) (ds : List device.Device) → Shows o after ds v → Means s v) → IsWhole s → s.banks ≡ after.banks → s.steps ≡ after.steps
        → IsStation p before.limit s
    is-station s early means whole banks steps =
        let made : s.steps ≡ before.steps + 3 * more = steps ∙ shown.0 in
        let shows : Shows o after new (fault_free_at p s.steps) = subst (λ (n : ℕ). Shows o after new (run_of Guarded o n)) (sym made) shown.1 in
        record {
          opening = h.opening;
          whole = whole;
          within = omega (arith, made, early);
          banks = banks ∙ shows.banks;
          means = means o (fault_free_at p s.steps) new shows;
        }

-- after whole times the fault-free run has the devices of the plain run
pub plain-devices : ((o : Trial) → IsOpening o.opening → o.script ≡ [] → (n : ℕ) → first_bad_below o n ≡ Admissible)
    → ((o : Trial) → IsOpening o.opening → (n : ℕ) → alone o n ≡ guarded o n)
    → ((o : Trial) → IsOpening o.opening → (times : ℕ) → first_bad o times ≡ Admissible → ShowsTimes o times (guarded o (3 * times)))
    → (p : Opening) (times : ℕ) → IsOpening p → (fault_free_at p (3 * times)).devices ≡ (run p times).devices
plain-devices good same shows p times opens =
    let o = trial_under p [] in
    ap (λ (v : Voted). v.devices) (same o opens (3 * times)) ∙ (shows o opens times (good o opens refl (3 * times))).devices

-- where nothing went over a port before a station, the plain run leaves the devices there as they were
pub quiet-station : ((o : Opening) → o.unplugs ≡ [] → (n : ℕ) → (run o n).plain.log ≡ [] → (run o n).devices ≡ o.devices)
    → ((o : Trial) → IsOpening o.opening → o.script ≡ [] → (n : ℕ) → first_bad_below o n ≡ Admissible)
    → ((o : Trial) → IsOpening o.opening → (n : ℕ) → alone o n ≡ guarded o n)
    → ((o : Trial) → IsOpening o.opening → (times : ℕ) → first_bad o times ≡ Admissible → ShowsTimes o times (guarded o (3 * times)))
    → (p : Opening) (count : ℕ) (s : Snapshot) → IsStation p count s → p.unplugs ≡ [] → s.log ≡ [] → (run p (s.steps / 3)).devices ≡ p.devices
quiet-station quiet good same shows p count s at none empty =
    let o = trial_under p [] in
    let times = s.steps / 3 in
    let whole = at.whole.times in
    let steps : 3 * times ≡ s.steps = omega (arith, whole) in
    let log : (fault_free_at p (3 * times)).log ≡ (run p times).plain.log =
    ap (λ (v : Voted). v.log) (same o at.opening (3 * times)) ∙ (shows o at.opening times (good o at.opening refl (3 * times))).log in
    quiet p none times (sym log ∙ ap (λ (n : ℕ). (fault_free_at p n).log) steps ∙ at.means.log ∙ empty)

-- ---- from a station on

module _ (p : Opening) (count : ℕ) (s : Snapshot) (script : List Event) where
  -- a machine made from a station, over the devices of the plain run, stands in the run of its script
  pub stands-late : (m : View) (old new : List device.Device) (unplugs : List Unplug)
      → ((o : Trial) (first : ℕ) → AllBeginFrom first o.script → (n : ℕ) → n ≤ first → (m : View) (ds : List device.Device) → m.end ≡ None
      → StandsFrom o (run_of m.mode (fault_free o) n) 0 m ds → Stands o n m ds)
      → ((p : Opening) (times : ℕ) → IsOpening p → (fault_free_at p (3 * times)).devices ≡ (run p times).devices)
      → IsStation p count s → AllBeginFrom s.steps script → (pace : Pace) → IsFresh Guarded pace count s.steps m
      → ((o : Trial) (v : Voted) → o.script ≡ script → o.opening.unplugs ≡ unplugs → o.opening.banks ≡ s.banks → Means s v → v.devices ≡ old
      → StandsFrom o v 0 m new)
      → p.unplugs ≡ unplugs → old ≡ (run p (s.steps / 3)).devices → Stands (trial_under p script) s.steps m new
  stands-late m old new unplugs law plain h later pace fresh made lines there =
      let o = trial_under p script in
      let times = h.whole.times in
      let whole : 3 * (s.steps / 3) ≡ s.steps = omega (arith, times) in
      let devices : (fault_free_at p s.steps).devices ≡ old =
      ap (λ (n : ℕ). (fault_free_at p n).devices) (sym whole) ∙ plain p (s.steps / 3) h.opening ∙ sym there in
      let begins = made o (fault_free_at p s.steps) refl lines (sym h.banks) h.means devices in
      law o s.steps later s.steps (le_refl s.steps) m new fresh.end
      (subst (λ (k : Mode). StandsFrom o (run_of k (fault_free o) s.steps) 0 m new) (sym fresh.mode_is) begins)

  module _ (times : ℕ) (ahead : s.steps ≤ 3 * times) where
    -- the times that are left end with the last
    pub all-left : IsStation p count s → s.steps + 3 * (times - s.steps / 3) ≡ 3 * times
    all-left h = let whole = h.whole.times in omega (arith, ahead, whole)

    -- and after them it has run
    pub has_run-late : (before after : View) (left : List device.Device) → IsStation p count s → (pace : Pace) → IsFresh Guarded pace count s.steps before → Keeps before after
        → NoneFailed after.end → AreDistinct left → Stands (trial_under p script) (s.steps + 3 * (times - s.steps / 3)) after left
        → HasRunWithin (trial_under p script) times count after left
    has_run-late before after left h pace fresh keeps unfailed distinct stands =
        let o = trial_under p script in
        let whole : Stands o (3 * times) after left = subst (λ (n : ℕ). Stands o n after left) (all-left h) stands in
        record {
          run = record {
            opening = h.opening;
            banks = whole.shows.banks;
            script = whole.shows.script;
            mode_is = keeps.mode ∙ fresh.mode_is;
            left = left;
            stands = whole;
            unfailed = unfailed;
          };
          stands = whole;
          distinct = distinct;
          limit = keeps.limit ∙ fresh.limit_is;
        }

-- ---- a station for a script

-- a script begins at no earlier step
pub begins-later : (least step : ℕ) (script : List Event) → least ≤ step → AllBeginFrom step script → AllBeginFrom least script
begins-later least step script less later = All-weaker (BeginsFrom step) (BeginsFrom least) (λ e from. omega (arith, less, from)) script later

some-weaker : (P Q : Snapshot → Type 0) → ((s : Snapshot) → P s → Q s) → (found : Option Snapshot) → IsSomeAnd found P → IsSomeAnd found Q
some-weaker P Q weaker None h = h
some-weaker P Q weaker (Some s) h = weaker s h

found-weaker : (P Q : Snapshot → Type 0) → ((s : Snapshot) → P s → Q s) → (found : Option ℕ) (stations : List Snapshot)
    → IfSome found (λ at. IsSomeAnd (slice_get stations at) P) → IfSome found (λ at. IsSomeAnd (slice_get stations at) Q)
found-weaker P Q weaker None stations h = tt
found-weaker P Q weaker (Some at) stations h = some-weaker P Q weaker (slice_get stations at) h

module _ (found : Option ℕ) (stations : List Snapshot) (step : ℕ) (h : IfSome found (λ at. IsSomeAnd (slice_get stations at) (λ s. s.steps ≤ step))) where
  -- the station that is found lies before a script
  pub found-before : (first : ℕ) (script : List Event) → step ≤ first → AllBeginFrom first script
      → IfSome found (λ at. IsSomeAnd (slice_get stations at) (λ s. AllBeginFrom s.steps script))
  found-before first script least later =
      found-weaker (λ s. s.steps ≤ step) (λ s. AllBeginFrom s.steps script)
      (λ s early. begins-later s.steps first script (omega (arith, early, least)) later) found stations h

  -- and at no later step
  pub found-ahead : (last : ℕ) → step ≤ last → IfSome found (λ at. IsSomeAnd (slice_get stations at) (λ s. s.steps ≤ last))
  found-ahead last least = found-weaker (λ s. s.steps ≤ step) (λ s. s.steps ≤ last) (λ s early. omega (arith, early, least)) found stations h
