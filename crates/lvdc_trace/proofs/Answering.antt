-- How a trace is answered, by its deck or its saved state.
use Rattle.std.proofs.Common.{◌≡◌, ℕ, ◌*◌, Bool, true, false, List, map, Ok, Err, refl, sym, ap, subst, ◌∙◌, inl, inr, if◌then◌else◌}
use Rattle.lvdc_port.specs.Device.{Device}
use Rattle.lvdc_model.specs.Voted.{voted_start}
use Rattle.lvdc_machine.specs.declared.mode.Mode.{Mode}
use Rattle.lvdc_deck.specs.Deck.{deck_of}
use Rattle.lvdc_deck.specs.Faults.{name_of, line_of}
use Rattle.lvdc_deck.specs.declared.deck.Deck.{Deck}
use Rattle.lvdc_deck.specs.declared.fault.DeckFault.{DeckFault}
use Rattle.lvdc_reply.specs.Answer.{Answer, answer_with, refusal_text}
use Rattle.lvdc_reply.specs.Replies as reply
use Rattle.lvdc_reply.specs.Replies.{Quiet, IsRefused, IsUnfailed, IsReply}
use Rattle.lvdc_reply.proofs.Statuses.{made-unfailed, made-kept, refused-unfailed, kept_quiet}
use Rattle.lvdc_command_run.specs.Refusals.{refusal_status, refused_answer}
use Rattle.lvdc_command_run.specs.Trials.{trial_of}
use Rattle.lvdc_command_run.proofs.Endings.{run-status}
use Rattle.lvdc_command_run.proofs.Statuses.{refusal_is}
use Rattle.lvdc_save.specs.Faults as saves
use Rattle.lvdc_save.specs.Reading.{saved_of}
use Rattle.lvdc_save.specs.declared.fault.SaveFault.{SaveFault}
use Rattle.lvdc_save.specs.declared.saved.Saved.{Saved}
use Rattle.lvdc_command_resume.specs.Runs as resumed
use Rattle.lvdc_command_resume.specs.Runs.{first_state, steps_left}
use Rattle.lvdc_trace.specs.declared.window.Window.{Window}
use Rattle.lvdc_trace.specs.Traces.{window_after, steps_asked}
use Rattle.lvdc_trace.specs.Answers.{whole_trace, failed_trace, deck_trace, resumed_trace, broken_trace, saved_trace, takes_saved, trace_answer}
use Rattle.lvdc_trace.specs.Replies.{IsTraced, made, failed, IsDeckTraced, IsSavedTraced, told, unrestored, FailsInTrace, running, resuming, restoring, IsTraceReply}

-- the answer by whether the bytes are a saved text
abbrev answer_by : Bool → Mode → Window → List ℕ → List Device → Answer
answer_by saved mode w bytes devices =
    if saved then saved_trace mode w devices (saved_of devices bytes) else deck_trace mode w devices (deck_of bytes devices false)

module _ {B : Type 0} (device_of : B → Device) (faults : B → ℕ) (mode : Mode) (w : Window) (bytes : List ℕ) (old new : List B) where
  by_answer : (due : Answer) → due ≡ trace_answer mode w bytes (map device_of old) → IsUnfailed due.status → (IsRefused due.status → new ≡ old)
      → Quiet device_of faults old new → IsTraceReply device_of faults mode w bytes old new due
  by_answer due is unfailed kept quiet =
      subst (λ (a : Answer). IsReply device_of faults a (FailsInTrace mode w bytes (map device_of old)) old new due) is (reply.answered unfailed kept quiet)

  -- ---- a deck

  module _ (no_save : takes_saved mode bytes ≡ false) where
    -- the answer of the definition
    deck_is : deck_trace mode w (map device_of old) (deck_of bytes (map device_of old) false) ≡ trace_answer mode w bytes (map device_of old)
    deck_is = sym (ap (λ (saved : Bool). answer_by saved mode w bytes (map device_of old)) no_save)

    pub deck_reply : (deck : Deck) (due : Answer) → deck_of bytes (map device_of old) false ≡ Ok deck → IsDeckTraced device_of faults mode w deck old new due
        → IsTraceReply device_of faults mode w bytes old new due
    deck_reply deck due means (made quiet) =
        let o = trial_of (map device_of old) deck in
        let due = whole_trace mode o deck.count w in
        let status = run-status mode o (voted_start o) (steps_asked w (3 * deck.count)) refl in
        by_answer due (sym (ap (deck_trace mode w (map device_of old)) means) ∙ deck_is) (made-unfailed due.status status) (made-kept due.status status) quiet
    deck_reply deck due means (failed step port x rose others) =
        reply.failed step port (failed_trace mode (trial_of (map device_of old) deck) w step port) (running deck no_save means x refl) refl rose others

    pub deck_refused : (fault : DeckFault) (status : ℕ) (text : List ℕ) → new ≡ old → deck_of bytes (map device_of old) false ≡ Err fault
        → status ≡ refusal_status fault → text ≡ refusal_text (name_of fault) (line_of fault)
        → IsTraceReply device_of faults mode w bytes old new (answer_with status text (map device_of old))
    deck_refused fault status text same means s t =
        let due : refused_answer (map device_of old) fault ≡ answer_with status text (map device_of old) = λ i. answer_with (sym s i) (sym t i) (map device_of old) in
        subst (λ (a : Answer). IsTraceReply device_of faults mode w bytes old new a) due
        (by_answer (refused_answer (map device_of old) fault) (sym (ap (deck_trace mode w (map device_of old)) means) ∙ deck_is)
        (refused-unfailed (refusal_status fault) (refusal_is fault)) (λ r. same) (kept_quiet device_of faults old new same))

  -- ---- a saved text

  module _ (save : takes_saved mode bytes ≡ true) where
    saved_is : saved_trace mode w (map device_of old) (saved_of (map device_of old) bytes) ≡ trace_answer mode w bytes (map device_of old)
    saved_is = sym (ap (λ (saved : Bool). answer_by saved mode w bytes (map device_of old)) save)

    by_run : (s : Saved) (due : Answer) → saved_of (map device_of old) bytes ≡ Ok s
        → IsTraced device_of faults mode (window_after s.snapshot.steps w) (resumed.trial_of s (map device_of old)) (first_state s (map device_of old)) (steps_left s) old new due
        → IsTraceReply device_of faults mode w bytes old new due
    by_run s due means (made quiet) =
        let a = resumed_trace mode w s (map device_of old) in
        let status = run-status mode (resumed.trial_of s (map device_of old)) (first_state s (map device_of old)) (steps_asked (window_after s.snapshot.steps w) (steps_left s)) refl in
        by_answer a (sym (ap (saved_trace mode w (map device_of old)) means) ∙ saved_is) (made-unfailed a.status status) (made-kept a.status status) quiet
    by_run s due means (failed step port x rose others) =
        reply.failed step port (broken_trace mode w s (map device_of old) step port) (resuming s save means x refl) refl rose others

    pub saved_reply : (s : Saved) (due : Answer) → saved_of (map device_of old) bytes ≡ Ok s → IsSavedTraced device_of faults mode w s old new due
        → IsTraceReply device_of faults mode w bytes old new due
    saved_reply s due means (told a is) = by_run s a means is
    saved_reply s due means (unrestored port a f rose others) =
        reply.failed s.snapshot.steps port a (restoring s save means refl f) (ap (λ (x : Answer). x.status) f.is) rose others

    pub saved_refused : (fault : SaveFault) (status : ℕ) (text : List ℕ) → new ≡ old → saved_of (map device_of old) bytes ≡ Err fault
        → status ≡ 2 → text ≡ refusal_text (saves.name_of fault) (saves.line_of fault)
        → IsTraceReply device_of faults mode w bytes old new (answer_with status text (map device_of old))
    saved_refused fault status text same means s t =
        let due : saved_trace mode w (map device_of old) (Err fault) ≡ answer_with status text (map device_of old) = λ i. answer_with (sym s i) (sym t i) (map device_of old) in
        subst (λ (a : Answer). IsTraceReply device_of faults mode w bytes old new a) due
        (by_answer (saved_trace mode w (map device_of old) (Err fault)) (sym (ap (saved_trace mode w (map device_of old)) means) ∙ saved_is)
        (inr (inl refl)) (λ r. same) (kept_quiet device_of faults old new same))
