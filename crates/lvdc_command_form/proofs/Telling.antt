-- From the runs of a deck to the answers to its bytes.
use Rattle.std.proofs.Common.{◌≡◌, ℕ, false, List, Ok}
use Rattle.lvdc_port.specs.Device.{Device}
use Rattle.lvdc_deck.specs.Deck.{deck_of}
use Rattle.lvdc_deck.specs.declared.deck.Deck.{Deck}
use Rattle.lvdc_command_run.specs.Answers.{run_answer}
use Rattle.lvdc_command_run.specs.Trials.{trial_of}
use Rattle.lvdc_command_run.specs.declared.job.Engine.TheVariants as engines
use Rattle.lvdc_command_run.specs.declared.job.Job.TheVariants as jobs
use Rattle.lvdc_command_form.specs.Plainly.{IsAsPlain, RunsAsPlain}

-- the answers of a deck's runs are those of the bytes that mean the deck
pub runs-plainly : (bytes : List ℕ) (devices : List Device) (deck : Deck) → deck_of bytes devices false ≡ Ok deck
    → IsAsPlain (run_answer (jobs.Deck engines.Guarded) (trial_of devices deck) deck.count) (run_answer (jobs.Deck engines.Plain) (trial_of devices deck) deck.count)
    → RunsAsPlain bytes devices
runs-plainly bytes devices deck means h = rw means h
