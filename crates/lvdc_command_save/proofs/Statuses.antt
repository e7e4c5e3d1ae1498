-- What the statuses 5 and 6 of a save come from.
use Rattle.std.proofs.Common.{◌≡◌, ℕ, List, Result, Ok, Err, refl, sym, ap, ◌∙◌, inl, inr, ◌⊎◌, arith}
use Rattle.lvdc_port.specs.Device as device
use Rattle.lvdc_model.specs.declared.outcome.Outcome.{Outcome}
use Rattle.lvdc_model.specs.declared.outcome.Outcome.TheVariants.{Done, Stopped, Inadmissible, Device}
use Rattle.lvdc_model.specs.Trial.{Trial}
use Rattle.lvdc_deck.specs.declared.deck.Deck.{Deck}
use Rattle.lvdc_deck.specs.declared.fault.DeckFault.{DeckFault}
use Rattle.lvdc_deck.specs.declared.fault.DeckFault.TheVariants.{NoMemory, BadSection, BadLine, NoProgram, NoDevice, TooManyEvents, CountTooLarge, Image, Asm}
use Rattle.lvdc_command_run.specs.Accounts.{account, end_status}
use Rattle.lvdc_command_run.specs.Answers.{run_answer}
use Rattle.lvdc_command_run.specs.Refusals.{refusal_status}
use Rattle.lvdc_command_run.specs.Trials.{trial_of}
use Rattle.lvdc_command_run.specs.declared.job.Engine.TheVariants.{Guarded}
use Rattle.lvdc_command_run.specs.declared.job.Job.TheVariants as job
use Rattle.lvdc_command_save.specs.Answers.{answer_by_end, stop_answer, deck_for, answer_by_deck, save_answer}
use Rattle.lvdc_command_save.specs.Statuses.{HasSaveThat}

-- a refusal's status is none of a run
refusal-low : (fault : DeckFault) → (refusal_status fault ≡ 2) ⊎ (refusal_status fault ≡ 3) ⊎ (refusal_status fault ≡ 4)
refusal-low NoMemory = inl refl
refusal-low (BadSection line) = inl refl
refusal-low (BadLine line) = inl refl
refusal-low (NoProgram line) = inl refl
refusal-low (NoDevice line) = inl refl
refusal-low (TooManyEvents line) = inl refl
refusal-low (CountTooLarge line) = inl refl
refusal-low (Image fault) = inr (inr refl)
refusal-low (Asm fault) = inr (inl refl)

-- the status is that of `run` over these times
by-end : (end : Outcome) (devices : List device.Device) (deck : Deck) (n : ℕ) → (account (trial_of devices deck) n).end ≡ end
    → (answer_by_end end devices deck n).status ≡ (run_answer (job.Deck Guarded) (trial_of devices deck) n).status
by-end Done devices deck n is = sym (ap end_status is)
by-end (Stopped step stop) devices deck n is = refl
by-end (Inadmissible verdict) devices deck n is = refl
by-end (Device step port) devices deck n is = refl

stop-status : (devices : List device.Device) (deck : Deck) (n : ℕ)
    → (stop_answer devices deck n).status ≡ (run_answer (job.Deck Guarded) (trial_of devices deck) n).status
stop-status devices deck n = by-end (account (trial_of devices deck) n).end devices deck n refl

-- a status of runs says what these times come to
pub save_has : (P : Trial → ℕ → Type 0) (k : ℕ) → (k ≡ 5) ⊎ (k ≡ 6) → ((o : Trial) (n : ℕ) → (run_answer (job.Deck Guarded) o n).status ≡ k → P o n)
    → (n : ℕ) (bytes : List ℕ) (devices : List device.Device) → (save_answer n bytes devices).status ≡ k → HasSaveThat P n bytes devices
save_has P k which law n bytes devices e = by (deck_for n bytes devices) refl e
  where
    by : (r : Result Deck DeckFault) → deck_for n bytes devices ≡ r → (answer_by_deck n devices r).status ≡ k → HasSaveThat P n bytes devices
    by (Ok deck) means e = record { deck = deck; means = means; comes = law (trial_of devices deck) n (sym (stop-status devices deck n) ∙ e) }
    by (Err fault) means e = absurd (omega (arith, which, e, refusal-low fault))

-- and the other way round
pub save_with : (P : Trial → ℕ → Type 0) (k : ℕ) → ((o : Trial) (n : ℕ) → P o n → (run_answer (job.Deck Guarded) o n).status ≡ k)
    → (n : ℕ) (bytes : List ℕ) (devices : List device.Device) → HasSaveThat P n bytes devices → (save_answer n bytes devices).status ≡ k
save_with P k law n bytes devices h =
    ap (λ (r : Result Deck DeckFault). (answer_by_deck n devices r).status) h.means
    ∙ stop-status devices h.deck n ∙ law (trial_of devices h.deck) n h.comes
