-- How a session is answered, by its deck.
use Rattle.std.proofs.Common.{◌≡◌, ℕ, true, List, map, Ok, Err, None, refl, sym, ap, subst}
use Rattle.lvdc_port.specs.Device.{Device}
use Rattle.lvdc_deck.specs.Deck.{deck_of}
use Rattle.lvdc_deck.specs.Faults.{name_of, line_of}
use Rattle.lvdc_deck.specs.declared.deck.Deck.{Deck}
use Rattle.lvdc_deck.specs.declared.fault.DeckFault.{DeckFault}
use Rattle.lvdc_reply.specs.Answer.{Answer, answer_with, refusal_text}
use Rattle.lvdc_reply.specs.Replies as reply
use Rattle.lvdc_reply.specs.Replies.{Quiet, IsRefused, IsUnfailed, IsReply}
use Rattle.lvdc_command_run.specs.Refusals.{refusal_status, refused_answer}
use Rattle.lvdc_command_run.specs.Trials.{trial_of}
use Rattle.lvdc_debug.specs.Answers.{status_after, asked_in, whole_session, failed_session, deck_session, session_answer}
use Rattle.lvdc_debug.specs.Replies.{IsSession, made, failed, IsAnswered, refused, debugged, FailsInSession, IsSessionReply}
use Rattle.lvdc_reply.proofs.Statuses.{made-unfailed, made-kept, refused-unfailed, kept_quiet}
use Rattle.lvdc_command_run.proofs.Statuses.{refusal_is}
use Rattle.lvdc_debug.proofs.Statuses.{made-status}

module _ {B : Type 0} (device_of : B → Device) (faults : B → ℕ) (bytes : List ℕ) (old new : List B) where
  by_answer : (due : Answer) → due ≡ session_answer bytes (map device_of old) → IsUnfailed due.status → (IsRefused due.status → new ≡ old)
      → Quiet device_of faults old new → IsSessionReply device_of faults bytes old new due
  by_answer due is unfailed kept quiet =
      subst (λ (a : Answer). IsReply device_of faults a (FailsInSession bytes (map device_of old)) old new due) is (reply.answered unfailed kept quiet)

  by_session : (deck : Deck) (due : Answer) → deck_of bytes (map device_of old) true ≡ Ok deck → IsSession device_of faults bytes deck old new due
      → IsSessionReply device_of faults bytes old new due
  by_session deck due means (made quiet) =
      let o = trial_of (map device_of old) deck in
      let k = asked_in None bytes (map device_of old) deck in
      let status = made-status o k in
      by_answer (whole_session bytes (map device_of old) deck) (sym (ap (deck_session bytes (map device_of old)) means))
      (made-unfailed (status_after o k) status) (made-kept (status_after o k) status) quiet
  by_session deck due means (failed f x rose others) =
      reply.failed f.step f.port (failed_session bytes (map device_of old) deck f) (record { deck = deck; means = means; exchanges = x; is = refl }) refl rose others

  pub session_reply : (due : Answer) → IsAnswered device_of faults bytes old new due → IsSessionReply device_of faults bytes old new due
  session_reply due (refused fault means same) =
      by_answer (refused_answer (map device_of old) fault) (sym (ap (deck_session bytes (map device_of old)) means))
      (refused-unfailed (refusal_status fault) (refusal_is fault)) (λ r. same) (kept_quiet device_of faults old new same)
  session_reply due (debugged deck answer means is) = by_session deck answer means is

-- the reply to a refused deck, by its parts
pub refused_by : {B : Type 0} (device_of : B → Device) (faults : B → ℕ) (bytes : List ℕ) (old : List B) (fault : DeckFault) (status : ℕ) (text : List ℕ)
    → deck_of bytes (map device_of old) true ≡ Err fault → status ≡ refusal_status fault → text ≡ refusal_text (name_of fault) (line_of fault)
    → IsAnswered device_of faults bytes old old (answer_with status text (map device_of old))
refused_by device_of faults bytes old fault status text means s t =
    let same : refused_answer (map device_of old) fault ≡ answer_with status text (map device_of old) = λ i. answer_with (sym s i) (sym t i) (map device_of old) in
    subst (λ (a : Answer). IsAnswered device_of faults bytes old old a) same (refused fault means refl)
