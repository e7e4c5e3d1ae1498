-- What is asked of an adversary, and what then holds.
use Rattle.std.specs.Prelude.{◌≡◌, ◌≤◌, ◌<◌, ℕ, ◌*◌, true, false, map}
use Rattle.std.specs.declared.option.Option.TheVariants.{None}
use Rattle.lvdc_map.specs.Address.{Spot}
use Rattle.lvdc_map.specs.Banks.{HasBank}
use Rattle.lvdc_fault.specs.Script.{are_two}
use Rattle.lvdc_model.specs.Trial.{Trial, plain_at}
use Rattle.lvdc_model.specs.Known.{is_known}
use Rattle.lvdc_model.specs.Voted as voted
use Rattle.lvdc_model.specs.Voted.{Voted}
use Rattle.lvdc_model.specs.Runs.{guarded, through}
use Rattle.lvdc_laws_voted.specs.Ends.{ShowsTimes, stop_end}
use Rattle.lvdc_laws_failures.specs.Listeners.{Listener, told_by_three, all_heard}
use Rattle.lvdc_laws_failures.specs.Split.{Adversary}
use Rattle.lvdc_laws_failures.specs.Steps.{split_run, copies_after, voted_after}

-- in each step that is made of the first so many at most one copy of each module fails; it may be another in each step
abbrev pub OneOfEach : Trial → Adversary → ℕ → Type 0
OneOfEach o a n =
    (step : ℕ) → step < n → (voted_after o a step).end ≡ None → (m : ℕ) → 1 ≤ m → m ≤ 7
    → are_two (a.fails (split_run o a step) m) ≡ false

-- the same voted machine, but for what its copies hold and how often they were counted
pub record IsSame (v w : Voted) : Type 0 where
  pub twins : v.twins ≡ w.twins
  pub intended : v.intended ≡ w.intended
  pub devices : v.devices ≡ w.devices
  pub log : v.log ≡ w.log
  pub repairs : v.repairs ≡ w.repairs
  pub steps : v.steps ≡ w.steps
  pub end : v.end ≡ w.end

-- after n steps every listener hears the votes of the guarded voted machine, the exchange among them, and all that is outside of the
-- copies is that machine's
pub record IsMasked (o : Trial) (a : Adversary) (n : ℕ) : Type 0 where
  pub hears : (listener : Listener) → all_heard listener (copies_after o a n) ≡ voted.votes (guarded o n)
  pub votes : voted.votes (voted_after o a n) ≡ voted.votes (guarded o n)
  pub same : IsSame (voted_after o a n) (guarded o n)

-- after so many times the run shows what the plain run shows, has ended where that has stopped, and each word can be told
pub record IsPlainRun (o : Trial) (a : Adversary) (count : ℕ) : Type 0 where
  pub shows : ShowsTimes o count (voted_after o a (3 * count))
  pub end : (voted_after o a (3 * count)).end ≡ stop_end (plain_at o count).stop (plain_at o count).times
  pub made : (voted_after o a (3 * count)).steps ≡ 3 * (plain_at o count).times
  pub known : (at : Spot) → HasBank o.opening.banks at → is_known o (voted_after o a (3 * count)) at ≡ true

-- after n steps each copy tells every listener what it holds in the voted machine that goes through every fault, and the exchange
-- hears that machine
pub record IsScripted (o : Trial) (a : Adversary) (n : ℕ) : Type 0 where
  pub tells : (listener : Listener) → map (told_by_three listener) (copies_after o a n) ≡ (through o n).copies
  pub voted : voted_after o a n ≡ through o n
