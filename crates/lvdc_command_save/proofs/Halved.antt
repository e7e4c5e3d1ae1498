-- What is known of a text that was saved, from where its machine stood.
use Rattle.std.proofs.Common.{◌≡◌, ℕ, ◌*◌, List, map, Result, Ok, Err, OnOk, IfOk, None, Some, sym, ap, subst, ◌∙◌, arith}
use Rattle.std.specs.declared.option.Option.{Option}
use Rattle.lvdc_port.specs.Device as device
use Rattle.lvdc_fault.specs.declared.event.Event.{Event}
use Rattle.lvdc_plain.specs.declared.records.Unplug.{Unplug}
use Rattle.lvdc_model.specs.Runs.{alone, guarded}
use Rattle.lvdc_model.specs.Trial.{Trial}
use Rattle.lvdc_model.specs.Voted.{Voted, voted_start}
use Rattle.lvdc_model.specs.declared.outcome.Outcome.{Outcome}
use Rattle.lvdc_model.specs.declared.outcome.Outcome.TheVariants.{Done, Stopped, Inadmissible, Device}
use Rattle.lvdc_machine.specs.Resumed.{EndsFrom}
use Rattle.lvdc_machine.specs.Shows.{Shows}
use Rattle.lvdc_machine.specs.View.{View}
use Rattle.lvdc_deck.specs.declared.deck.Deck.{Deck}
use Rattle.lvdc_deck.specs.declared.fault.DeckFault.{DeckFault}
use Rattle.lvdc_save.specs.Saved.{saved_text}
use Rattle.lvdc_save.specs.declared.saved.Saved.{Saved}
use Rattle.lvdc_reply.specs.Replies.{IsRefused}
use Rattle.lvdc_command_run.specs.Accounts.{end_status}
use Rattle.lvdc_command_run.specs.Finished.{HasJudged}
use Rattle.lvdc_command_run.specs.Refusals.{refusal_status}
use Rattle.lvdc_command_run.specs.Trials.{trial_of}
use Rattle.lvdc_command_run.proofs.Statuses.{refusal_is}
use Rattle.lvdc_command_save.specs.Answers.{saved_by, saved_in}
use Rattle.lvdc_command_save.specs.Halves.{IsTaken, IsSavedRun}
use Rattle.lvdc_command_save.proofs.Stops.{saved_same, shows_as}

module _ {B : Type 0} (device_of : B → device.Device) (faults : B → ℕ) (n : ℕ) (deck : Deck) (old new : List B) (m : View)
    (h : HasJudged device_of faults (trial_of (map device_of old) deck) n old new m)
    (same : (k : ℕ) → alone (trial_of (map device_of old) deck) k ≡ guarded (trial_of (map device_of old) deck) k) where
  abbrev o : Trial
  o = trial_of (map device_of old) deck

  -- without an end
  pub saved_run : (read : List B) (count : ℕ) (unplugs : List Unplug) (script : List Event) (orders : List (List ℕ)) (text written : List ℕ) → read ≡ new
      → m.end ≡ None → count ≡ deck.count → unplugs ≡ deck.unplugs → script ≡ deck.script → orders ≡ deck.orders → written ≡ text
      → ((p : Trial) (v : Voted) → Shows p m (map device_of read) v → text ≡ saved_text (saved_by p.opening.banks v count unplugs script orders))
      → ((p : Trial) (v : Voted) → Shows p m (map device_of read) v → IsTaken (saved_by p.opening.banks v count unplugs script orders) v)
      → IsSavedRun n deck (map device_of old) written
  saved_run read count unplugs script orders text written r none c u s x w is taken =
      let v = alone o (3 * n) in
      let shows = subst (λ (bs : List B). Shows o m (map device_of bs) v) (sym r) (shows_as device_of faults n deck old new m h same None none) in
      let saved = saved_same deck v count unplugs script orders c u s x in
      let state = same (3 * n) in
      record {
        opening = h.run.opening;
        going = ap (λ (w : Voted). w.end) (sym state) ∙ sym shows.end ∙ none;
        taken = subst (λ (w : Voted). IsTaken (saved_in deck w) w) state (subst (λ (t : Saved). IsTaken t v) saved (taken o v shows));
        is = w ∙ is o v shows ∙ ap saved_text saved ∙ ap (λ (w : Voted). saved_text (saved_in deck w)) state;
      }

  -- with one the status is another than 0
  status_by : {P : Type 0} (end : Outcome) → m.end ≡ Some end → end_status end ≡ 0 → P
  status_by Done is zero = absurd (subst (λ (k : Option Outcome). EndsFrom k o (voted_start o) (3 * n) m.mode m.steps) is h.run.stands.ends)
  status_by (Stopped step stop) is zero = absurd (omega (arith, zero))
  status_by (Inadmissible verdict) is zero = absurd (omega (arith, zero))
  status_by (Device step port) is zero = absurd (omega (arith, zero))

  pub ended_run : (end : Outcome) → m.end ≡ Some end → (status : ℕ) → status ≡ end_status end → (written : List ℕ) → status ≡ 0
      → IsSavedRun n deck (map device_of old) written
  ended_run end is status st written zero = status_by end is (sym st ∙ zero)

-- nor has a refusal this status
pub refused_run : {P : Type 0} (fault : DeckFault) (status : ℕ) → status ≡ refusal_status fault → status ≡ 0 → P
refused_run fault status st zero = by_status (refusal_is fault)
  where
    by_status : {P : Type 0} → IsRefused (refusal_status fault) → P
    by_status r = absurd (omega (arith, r, st, zero))

-- what follows from a fact of every success
pub if_ok_given : {A E : Type 0} (result : Result A E) (P : Type 0) (Q : A → Type 0) → ((a : A) → P → Q a) → OnOk result P → IfOk result Q
if_ok_given (Ok a) P Q f fact = f a fact
if_ok_given (Err e) P Q f fact = tt
