-- What the statuses of a session come from.
use Rattle.std.proofs.Common.{◌≡◌, ◌≢◌, ℕ, true, List, IsSome, Result, Ok, Err, None, Some, refl, ap, subst, ◌∙◌, inl, inr, arith}
use Rattle.std.specs.declared.option.Option.{Option}
use Rattle.lvdc_port.specs.Device.{Device}
use Rattle.lvdc_plain.specs.declared.records.Stop.{Stop}
use Rattle.lvdc_fault.specs.declared.verdict.Verdict.{Verdict}
use Rattle.lvdc_fault.specs.declared.verdict.Verdict.TheVariants.{Admissible, Logic, Memory}
use Rattle.lvdc_model.specs.Judging.{first_bad}
use Rattle.lvdc_model.specs.Trial.{Trial, plain_at}
use Rattle.lvdc_deck.specs.Deck.{deck_of}
use Rattle.lvdc_deck.specs.declared.deck.Deck.{Deck}
use Rattle.lvdc_deck.specs.declared.fault.DeckFault.{DeckFault}
use Rattle.lvdc_reply.specs.Replies.{IsRefused}
use Rattle.lvdc_reply.proofs.Statuses.{IsMadeStatus}
use Rattle.lvdc_command_run.proofs.Statuses.{refusal_is}
use Rattle.lvdc_command_run.specs.Trials.{trial_of}
use Rattle.lvdc_debug.specs.Answers.{status_by, status_after, asked_in, deck_session, session_answer, HasSessionThat}
use Rattle.lvdc_command_run.specs.Runs.{StopsAdmitted}

-- the status of a session in which no device failed
made-by : (w : Verdict) (stop : Option Stop) → IsMadeStatus (status_by w stop)
made-by Admissible None = record { is = inl refl }
made-by Admissible (Some stop) = record { is = inr (inr refl) }
made-by (Logic step number) stop = record { is = inr (inl refl) }
made-by (Memory step at) stop = record { is = inr (inl refl) }

pub made-status : (o : Trial) (times : ℕ) → IsMadeStatus (status_after o times)
made-status o times = made-by (first_bad o times) (plain_at o times).stop

-- ---- 5

bad-by : (w : Verdict) (stop : Option Stop) → status_by w stop ≡ 5 → w ≢ Admissible
bad-by Admissible None e = absurd (omega (arith, e))
bad-by Admissible (Some stop) e = absurd (omega (arith, e))
bad-by (Logic step number) stop e = λ x. absurd (cc)
bad-by (Memory step at) stop e = λ x. absurd (cc)

by-bad : (w : Verdict) (stop : Option Stop) → w ≢ Admissible → status_by w stop ≡ 5
by-bad Admissible stop bad = absurd (bad refl)
by-bad (Logic step number) stop bad = refl
by-bad (Memory step at) stop bad = refl

pub status-judged : (o : Trial) (times : ℕ) → status_after o times ≡ 5 → first_bad o times ≢ Admissible
status-judged o times e = bad-by (first_bad o times) (plain_at o times).stop e

pub judged-status : (o : Trial) (times : ℕ) → first_bad o times ≢ Admissible → status_after o times ≡ 5
judged-status o times bad = by-bad (first_bad o times) (plain_at o times).stop bad

-- ---- 6

stop-by : (w : Verdict) (stop : Option Stop) → status_by w stop ≡ 6 → (w ≡ Admissible) × IsSome stop
stop-by Admissible None e = absurd (omega (arith, e))
stop-by Admissible (Some stop) e = (refl, refl)
stop-by (Logic step number) stop e = absurd (omega (arith, e))
stop-by (Memory step at) stop e = absurd (omega (arith, e))

by-stop : (w : Verdict) (stop : Option Stop) → w ≡ Admissible → IsSome stop → status_by w stop ≡ 6
by-stop Admissible None e s = absurd (cc)
by-stop Admissible (Some stop) e s = refl
by-stop (Logic step number) stop e s = absurd (cc)
by-stop (Memory step at) stop e s = absurd (cc)

pub status-stopped : (o : Trial) (times : ℕ) → status_after o times ≡ 6 → StopsAdmitted o times
status-stopped o times e =
    let both = stop-by (first_bad o times) (plain_at o times).stop e in record { admissible = both.0; stops = both.1 }

pub stopped-status : (o : Trial) (times : ℕ) → StopsAdmitted o times → status_after o times ≡ 6
stopped-status o times h = by-stop (first_bad o times) (plain_at o times).stop h.admissible h.stops

-- ---- of the bytes

-- a status that no refusal has says what the times asked for come to
pub session_has : (P : Trial → ℕ → Type 0) (n : ℕ) → (IsRefused n → ⊥) → ((o : Trial) (times : ℕ) → status_after o times ≡ n → P o times)
    → (bytes : List ℕ) (devices : List Device) → (session_answer bytes devices).status ≡ n → HasSessionThat P bytes devices
session_has P n kept law bytes devices e = by (deck_of bytes devices true) refl e
  where
    by : (r : Result Deck DeckFault) → deck_of bytes devices true ≡ r → (deck_session bytes devices r).status ≡ n → HasSessionThat P bytes devices
    by (Ok deck) means e = record { deck = deck; means = means; comes = law (trial_of devices deck) (asked_in None bytes devices deck) e }
    by (Err fault) means e = absurd (kept (subst IsRefused e (refusal_is fault)))

-- and the other way round
pub session_with : (P : Trial → ℕ → Type 0) (n : ℕ) → ((o : Trial) (times : ℕ) → P o times → status_after o times ≡ n)
    → (bytes : List ℕ) (devices : List Device) → HasSessionThat P bytes devices → (session_answer bytes devices).status ≡ n
session_with P n law bytes devices h =
    ap (λ (r : Result Deck DeckFault). (deck_session bytes devices r).status) h.means
    ∙ law (trial_of devices h.deck) (asked_in None bytes devices h.deck) h.comes
