-- A guarded machine without events is the plain run, and what it tells of a word is the plain run's.
use Rattle.std.proofs.Common.{◌≡◌, ℕ, ◌*◌, refl, sym, ap, ◌∙◌}
use Rattle.std.specs.declared.option.Option.{Option}
use Rattle.std.specs.declared.option.Option.TheVariants.{None, Some}
use Rattle.lvdc_map.specs.Address.{Spot}
use Rattle.lvdc_map.specs.Memory.{word_at}
use Rattle.lvdc_fault.specs.declared.verdict.Verdict.TheVariants.{Admissible}
use Rattle.lvdc_laws_phases.specs.Standing.{Standing}
use Rattle.lvdc_model.specs.declared.outcome.Outcome.{Outcome}
use Rattle.lvdc_model.specs.declared.outcome.Outcome.TheVariants.{Done, Stopped, Inadmissible, Device}
use Rattle.lvdc_model.specs.Exchanges.{begin_step, with_end}
use Rattle.lvdc_model.specs.Judging.{is_recoverable, is_recoverable_after, first_bad_below}
use Rattle.lvdc_model.specs.Known.{last_begun, is_known}
use Rattle.lvdc_model.specs.Runs.{guarded, alone}
use Rattle.lvdc_model.specs.Trial.{Trial, plain_at, plain_in}
use Rattle.lvdc_model.specs.Voted.{Voted}
use Rattle.lvdc_laws_voted.specs.Ends.{stop_end, IsBegun, Comes, Good, Bad}
use Rattle.lvdc_laws_voted.specs.Relation.{Goes, Halts}
use Rattle.lvdc_machine.specs.declared.mode.Mode.{Mode}
use Rattle.lvdc_machine.specs.declared.mode.Mode.TheVariants.{Guarded}
use Rattle.lvdc_laws_runs.specs.Guarded.{IsPlain, GuardedBy, IsUnhurt, UnhurtBy, is_recoverable_by}
use Rattle.lvdc_machine.specs.Stands.{state_by, shown_by, shown_of}
use Rattle.lvdc_machine.specs.Steps.{run_of}

-- the run of a guarded machine
run-guarded : (mode : Mode) (o : Trial) (n : ℕ) → alone o n ≡ guarded o n → mode ≡ Guarded → run_of mode o n ≡ guarded o n
run-guarded mode o n same guards = ap (λ (k : Mode). run_of k o n) guards ∙ same

-- ---- without events

-- what is true of a guarded machine by its end, where no step is inadmissible
pub unhurt : (o : Trial) (times : ℕ) (end : Option Outcome) (mode : Mode) → GuardedBy end o (3 * times) (state_by end mode o (3 * times))
    → alone o (3 * times) ≡ guarded o (3 * times) → (guarded o (3 * times)).end ≡ stop_end (plain_at o times).stop (plain_at o times).times
    → first_bad_below o (3 * times) ≡ Admissible → mode ≡ Guarded → UnhurtBy end o times (state_by end mode o (3 * times))
unhurt o times end mode h same ends good guards = by_end end h
  where
    state : run_of mode o (3 * times) ≡ guarded o (3 * times)
    state = run-guarded mode o (3 * times) same guards

    plain : IsPlain o (3 * times) (run_of mode o (3 * times)) → IsUnhurt o times (run_of mode o (3 * times))
    plain p = record { shows = p.times times refl; end = ap (λ (v : Voted). v.end) state ∙ ends }

    by_end : (end : Option Outcome) → GuardedBy end o (3 * times) (state_by end mode o (3 * times)) → UnhurtBy end o times (state_by end mode o (3 * times))
    by_end None p = plain p
    by_end (Some Done) p = absurd p
    by_end (Some (Stopped step stop)) p = plain p.0
    by_end (Some (Inadmissible verdict)) p = absurd (p.bad (p.first ∙ good))
    by_end (Some (Device step port)) p = tt

-- ---- what is told of a word

-- after the steps made the intended words are those of the plain run
made-words : (o : Trial) (n : ℕ) → Comes Standing o n → first_bad_below o n ≡ Admissible → (guarded o n).intended ≡ (plain_in o (guarded o n).steps).memory
made-words o n (Good good (Goes e k)) h = k.matches.intended ∙ sym (ap (λ (i : ℕ). (plain_in o i).memory) e)
made-words o n (Good good (Halts le d)) h = d.matches.intended
made-words o n (Bad m less first same ends) h = absurd (ends.bad (sym first ∙ h))

-- what is told of a word is the plain run's, by the end
pub told : (o : Trial) (t : ℕ) (at : Spot) (end : Option Outcome) (mode : Mode) (steps : ℕ) → GuardedBy end o t (state_by end mode o t)
    → steps ≡ (state_by end mode o t).steps → Comes Standing o t → alone o t ≡ guarded o t
    → (first_bad_below o t ≡ Admissible → is_known o (guarded o t) at ≡ is_recoverable_after o (guarded o t).steps at)
    → ((n : ℕ) (v : Voted) (e : Outcome) → IsBegun o n v → last_begun (Some e) n ≡ Some n → is_known o (with_end v e) at ≡ is_recoverable o n at)
    → mode ≡ Guarded
    → shown_of o (state_by end mode o t) at ≡ shown_by (is_recoverable_by end o steps at) (word_at (plain_in o steps).memory at)
told o t at end mode steps h count comes same made begun guards = by_end end h count
  where
    state : run_of mode o t ≡ guarded o t
    state = run-guarded mode o t same guards

    whole : first_bad_below o t ≡ Admissible → steps ≡ (run_of mode o t).steps
        → shown_of o (run_of mode o t) at ≡ shown_by (is_recoverable_after o steps at) (word_at (plain_in o steps).memory at)
    whole good is =
        let there : (guarded o t).steps ≡ steps = sym (is ∙ ap (λ (v : Voted). v.steps) state) in
        let known = ap (λ (v : Voted). is_known o v at) state ∙ made good ∙ ap (λ (i : ℕ). is_recoverable_after o i at) there in
        let words = ap (λ (v : Voted). v.intended) state ∙ made-words o t comes good ∙ ap (λ (i : ℕ). (plain_in o i).memory) there in
        λ i. shown_by (known i) (word_at (words i) at)

    early : (v : Voted) (step : ℕ) (e : Outcome) → v ≡ with_end (begin_step o (guarded o step)) e → IsBegun o step (begin_step o (guarded o step))
        → last_begun (Some e) step ≡ Some step → steps ≡ v.steps
        → shown_of o v at ≡ shown_by (is_recoverable o steps at) (word_at (plain_in o steps).memory at)
    early v step e is b last counted =
        let there : step ≡ steps = sym (counted ∙ ap (λ (u : Voted). u.steps) is ∙ b.steps) in
        let known = ap (λ (u : Voted). is_known o u at) is ∙ begun step (begin_step o (guarded o step)) e b last ∙ ap (λ (i : ℕ). is_recoverable o i at) there in
        let words = ap (λ (u : Voted). u.intended) is ∙ b.intended ∙ ap (λ (i : ℕ). (plain_in o i).memory) there in
        λ i. shown_by (known i) (word_at (words i) at)

    by_end : (end : Option Outcome) → GuardedBy end o t (state_by end mode o t) → steps ≡ (state_by end mode o t).steps
        → shown_of o (state_by end mode o t) at ≡ shown_by (is_recoverable_by end o steps at) (word_at (plain_in o steps).memory at)
    by_end None p is = whole p.admissible is
    by_end (Some Done) p is = absurd p
    by_end (Some (Stopped step stop)) p is = whole p.0.admissible is
    by_end (Some (Inadmissible verdict)) p is = early _ p.step (Inadmissible verdict) p.state p.begun refl is
    by_end (Some (Device step port)) p is = early _ step (Device step port) p.state p.begun refl is
