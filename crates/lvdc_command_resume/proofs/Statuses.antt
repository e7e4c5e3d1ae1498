-- What the statuses 5 and 6 of a resumed run come from.
use Rattle.std.proofs.Common.{◌≡◌, ℕ, List, Result, Ok, Err, None, Some, refl, ap, ◌∙◌, ◌⊎◌, arith}
use Rattle.std.specs.declared.option.Option.{Option}
use Rattle.lvdc_port.specs.Device as device
use Rattle.lvdc_model.specs.declared.outcome.Outcome.{Outcome}
use Rattle.lvdc_model.specs.declared.outcome.Outcome.TheVariants.{Done, Stopped, Inadmissible, Device}
use Rattle.lvdc_machine.specs.View.{answer_of_end}
use Rattle.lvdc_save.specs.Reading.{saved_of}
use Rattle.lvdc_save.specs.declared.fault.SaveFault.{SaveFault}
use Rattle.lvdc_save.specs.declared.saved.Saved.{Saved}
use Rattle.lvdc_command_run.specs.Accounts.{end_status}
use Rattle.lvdc_command_run.specs.Runs.{IsStop}
use Rattle.lvdc_command_resume.specs.Answers.{saved_answer, resume_answer}
use Rattle.lvdc_command_resume.specs.Runs.{last_state}
use Rattle.lvdc_command_resume.specs.Statuses.{IsInadmissible, HasResumeThat}

-- ---- of ends

pub bad-end : (end : Option Outcome) → end_status (answer_of_end end) ≡ 5 → IsInadmissible end
bad-end None e = absurd (omega (arith, e))
bad-end (Some Done) e = absurd (omega (arith, e))
bad-end (Some (Stopped step stop)) e = absurd (omega (arith, e))
bad-end (Some (Inadmissible verdict)) e = tt
bad-end (Some (Device step port)) e = absurd (omega (arith, e))

pub end-bad : (end : Option Outcome) → IsInadmissible end → end_status (answer_of_end end) ≡ 5
end-bad None h = absurd h
end-bad (Some Done) h = absurd h
end-bad (Some (Stopped step stop)) h = absurd h
end-bad (Some (Inadmissible verdict)) h = refl
end-bad (Some (Device step port)) h = absurd h

pub stop-of-end : (end : Option Outcome) → end_status (answer_of_end end) ≡ 6 → IsStop end
stop-of-end None e = absurd (omega (arith, e))
stop-of-end (Some Done) e = absurd (omega (arith, e))
stop-of-end (Some (Stopped step stop)) e = tt
stop-of-end (Some (Inadmissible verdict)) e = absurd (omega (arith, e))
stop-of-end (Some (Device step port)) e = absurd (omega (arith, e))

pub end-of-stop : (end : Option Outcome) → IsStop end → end_status (answer_of_end end) ≡ 6
end-of-stop None h = absurd h
end-of-stop (Some Done) h = absurd h
end-of-stop (Some (Stopped step stop)) h = refl
end-of-stop (Some (Inadmissible verdict)) h = absurd h
end-of-stop (Some (Device step port)) h = absurd h

-- ---- of the bytes

-- a status that no refusal has says what the run comes to
pub resume_has : (Q : Option Outcome → Type 0) (n : ℕ) → (n ≡ 5) ⊎ (n ≡ 6) → ((end : Option Outcome) → end_status (answer_of_end end) ≡ n → Q end)
    → (bytes : List ℕ) (devices : List device.Device) → (resume_answer bytes devices).status ≡ n → HasResumeThat Q bytes devices
resume_has Q n which law bytes devices e = by (saved_of devices bytes) refl e
  where
    by : (r : Result Saved SaveFault) → saved_of devices bytes ≡ r → (saved_answer devices r).status ≡ n → HasResumeThat Q bytes devices
    by (Ok s) means e = record { saved = s; means = means; comes = law (last_state s devices).end e }
    by (Err fault) means e = absurd (omega (arith, which, e))

-- and the other way round
pub resume_with : (Q : Option Outcome → Type 0) (n : ℕ) → ((end : Option Outcome) → Q end → end_status (answer_of_end end) ≡ n)
    → (bytes : List ℕ) (devices : List device.Device) → HasResumeThat Q bytes devices → (resume_answer bytes devices).status ≡ n
resume_with Q n law bytes devices h =
    ap (λ (r : Result Saved SaveFault). (saved_answer devices r).status) h.means ∙ law (last_state h.saved devices).end h.comes
