-- What the run of a job comes to: where a device may fail, the first inadmissible step, a stop.
use Rattle.std.specs.Prelude.{◌≡◌, ◌≢◌, ℕ, suc, ◌*◌, ◌<◌, false, List, IsSome, Ok}
use Rattle.std.specs.declared.option.Option.{Option}
use Rattle.std.specs.declared.option.Option.TheVariants.{None, Some}
use Rattle.lvdc_port.specs.Device as device
use Rattle.lvdc_fault.specs.declared.verdict.Verdict.TheVariants.{Admissible}
use Rattle.lvdc_model.specs.declared.outcome.Outcome.{Outcome}
use Rattle.lvdc_model.specs.declared.outcome.Outcome.TheVariants.{Done, Stopped, Inadmissible, Device}
use Rattle.lvdc_model.specs.Judging.{first_bad, first_bad_below}
use Rattle.lvdc_model.specs.Runs.{through}
use Rattle.lvdc_model.specs.Trial.{Trial, plain_at}
use Rattle.lvdc_laws_runs.specs.Guarded.{IsExchanged}
use Rattle.lvdc_machine.specs.Stands.{HasFailed}
use Rattle.lvdc_machine.specs.declared.mode.Mode.TheVariants as modes
use Rattle.lvdc_deck.specs.Deck.{deck_of}
use Rattle.lvdc_soak_deck.specs.Soak.{soak_of}
use Rattle.lvdc_deck.specs.declared.deck.Deck.{Deck}
use Rattle.lvdc_command_run.specs.declared.job.Engine.TheVariants.{Guarded, Through, Plain}
use Rattle.lvdc_command_run.specs.declared.job.Job.{Job}
use Rattle.lvdc_command_run.specs.declared.job.Job.TheVariants as job
use Rattle.lvdc_command_run.specs.Trials.{trial_of}

-- the deck of a job: that which the bytes mean, or that which its number draws
abbrev pub Means : Job → List ℕ → List device.Device → Deck → Type 0
Means (job.Deck engine) bytes devices deck = deck_of bytes devices false ≡ Ok deck
Means (job.Soak number) bytes devices deck = deck ≡ soak_of number

-- ---- devices that may fail

-- in a step of the run of so many times the plain run makes an exchange with this port
pub record ExchangesPlainly (o : Trial) (n step port : ℕ) : Type 0 where
  pub early : step < 3 * n
  pub exchanged : IsExchanged o step port

-- the same, and neither the step nor one before it is inadmissible
pub record ExchangesAdmitted (o : Trial) (n step port : ℕ) : Type 0 where
  pub plainly : ExchangesPlainly o n step port
  pub admissible : first_bad_below o (suc step) ≡ Admissible

-- the run of a job makes an exchange with this port in this step; through every fault it is the votes' exchange
abbrev pub Exchanges : Job → Trial → ℕ → ℕ → ℕ → Type 0
Exchanges (job.Deck Guarded) o n step port = ExchangesAdmitted o n step port
Exchanges (job.Deck Through) o n step port = HasFailed o (3 * n) modes.Through step port
Exchanges (job.Deck Plain) o n step port = ExchangesPlainly o n step port
Exchanges (job.Soak number) o n step port = ExchangesAdmitted o n step port

-- ---- inadmissible steps and stops

-- the job judges the script, and finds a step of so many times that isn't admissible
abbrev pub Judges : Job → Trial → ℕ → Type 0
Judges (job.Deck Guarded) o n = first_bad o n ≢ Admissible
Judges (job.Deck Through) o n = ⊥
Judges (job.Deck Plain) o n = ⊥
Judges (job.Soak number) o n = first_bad o n ≢ Admissible

-- the end is a stop
abbrev pub IsStop : Option Outcome → Type 0
IsStop None = ⊥
IsStop (Some Done) = ⊥
IsStop (Some (Stopped step stop)) = Unit {0}
IsStop (Some (Inadmissible verdict)) = ⊥
IsStop (Some (Device step port)) = ⊥

-- no step is inadmissible, and the plain run stops
pub record StopsAdmitted (o : Trial) (n : ℕ) : Type 0 where
  pub admissible : first_bad o n ≡ Admissible
  pub stops : IsSome (plain_at o n).stop

-- the run of the job stops in so many times
abbrev pub Stops : Job → Trial → ℕ → Type 0
Stops (job.Deck Guarded) o n = StopsAdmitted o n
Stops (job.Deck Through) o n = IsStop (through o (3 * n)).end
Stops (job.Deck Plain) o n = IsSome (plain_at o n).stop
Stops (job.Soak number) o n = StopsAdmitted o n

-- over these bytes and devices the job has a deck whose run is so
pub record HasRunThat (P : Job → Trial → ℕ → Type 0) (j : Job) (bytes : List ℕ) (devices : List device.Device) : Type 0 where
  pub deck : Deck
  pub means : Means j bytes devices deck
  pub comes : P j (trial_of devices deck) deck.count
