-- A machine that stands after a session gives the answer that is due.
use Rattle.std.proofs.Common.{◌≡◌, ℕ, ◌*◌, List, take, map, None, Some, refl, sym, ap, subst, ◌∙◌}
use Rattle.std.specs.declared.option.Option.{Option}
use Rattle.lvdc_port.specs.Device as device
use Rattle.lvdc_port.specs.Devices.{count_at}
use Rattle.lvdc_model.specs.Runs.{guarded}
use Rattle.lvdc_model.specs.Trial.{Trial}
use Rattle.lvdc_model.specs.declared.outcome.Outcome.{Outcome}
use Rattle.lvdc_model.specs.declared.outcome.Outcome.TheVariants.{Done, Stopped, Inadmissible, Device}
use Rattle.lvdc_machine.specs.Stands.{Stands, EndsAs}
use Rattle.lvdc_machine.specs.View.{View, answer_of_end}
use Rattle.lvdc_machine.specs.declared.mode.Mode.TheVariants.{Guarded}
use Rattle.lvdc_deck.specs.declared.deck.Deck.{Deck}
use Rattle.lvdc_reply.specs.Answer.{Answer, answer_with}
use Rattle.lvdc_reply.specs.Replies.{Quiet, RoseAt, OthersQuiet}
use Rattle.lvdc_command_run.specs.Accounts.{end_status}
use Rattle.lvdc_command_run.specs.Trials.{trial_of}
use Rattle.lvdc_debug.specs.Session.{Failure, Subject, state_after, session_text, times_asked}
use Rattle.lvdc_debug.specs.Standing as standing
use Rattle.lvdc_debug.specs.Standing.{command_texts, failure_of, CausedSince, StandsAfter, StandsAmid}
use Rattle.lvdc_debug.specs.Answers.{subject_of, asked_in, devices_after, whole_session, failed_session}
use Rattle.lvdc_debug.specs.Replies.{IsSession, made, failed, FailsBy, IsUnwritten, amid}
use Rattle.lvdc_debug.proofs.Endings.{GuardedLaws, guarded-status, exchange-failed}

module _ {B : Type 0} (device_of : B → device.Device) (faults : B → ℕ) (bytes : List ℕ) (deck : Deck) (old new : List B) (m : View)
    (limit : m.limit ≡ deck.count) (cause : CausedSince device_of faults (λ port. count_at device_of faults port old) m.end new) where
  abbrev o : Trial
  o = trial_of (map device_of old) deck

  abbrev texts : List (List ℕ)
  texts = command_texts bytes deck.commands

  -- the subject of the session is that of the machine
  same-subject : (failure : Option Failure) → failure_of m.end ≡ failure → standing.subject_of o m ≡ subject_of failure (map device_of old) deck
  same-subject failure is = λ i. record { trial = o; state = state_after (is i) o; limit = limit i }

  -- ---- all is written

  module _ (law : GuardedLaws o) (mode : m.mode ≡ Guarded) (after : StandsAfter o texts m (map device_of new)) (status : ℕ) (text : List ℕ)
      (s : status ≡ end_status (answer_of_end m.end)) (t : text ≡ session_text (standing.subject_of o m) texts) where
    by_whole : failure_of m.end ≡ None → Quiet device_of faults old new → IsSession device_of faults bytes deck old new (answer_with status text (map device_of new))
    by_whole is quiet =
        let same = same-subject None is in
        let times : times_asked (standing.subject_of o m) texts ≡ asked_in None bytes (map device_of old) deck = ap (λ (x : Subject). times_asked x texts) same in
        let k = asked_in None bytes (map device_of old) deck in
        let state : state_after (failure_of m.end) o (times_asked (standing.subject_of o m) texts) ≡ guarded o (3 * k) = λ i. state_after (is i) o (times i) in
        let due : whole_session bytes (map device_of old) deck ≡ answer_with status text (map device_of new) =
        λ i. answer_with
        (sym (s ∙ ap (λ (e : Option Outcome). end_status (answer_of_end e)) (after.end ∙ ap (λ v. v.end) state) ∙ guarded-status o k law) i)
        (sym (t ∙ ap (λ (x : Subject). session_text x texts) same) i) (sym (after.left ∙ ap (λ v. v.devices) state) i) in
        subst (λ (a : Answer). IsSession device_of faults bytes deck old new a) due (made quiet)

    by_failed : (step port : ℕ) → m.end ≡ Some (Device step port) → RoseAt device_of faults port old new → OthersQuiet device_of faults port old new
        → IsSession device_of faults bytes deck old new (answer_with status text (map device_of new))
    by_failed step port is rose others =
        let f : Failure = record { step = step; port = port } in
        let fails : failure_of m.end ≡ Some f = ap failure_of is in
        let same = same-subject (Some f) fails in
        let times : times_asked (standing.subject_of o m) texts ≡ asked_in (Some f) bytes (map device_of old) deck = ap (λ (x : Subject). times_asked x texts) same in
        let k = asked_in (Some f) bytes (map device_of old) deck in
        let state : state_after (failure_of m.end) o (times_asked (standing.subject_of o m) texts) ≡ state_after (Some f) o k = λ i. state_after (fails i) o (times i) in
        let stands : Stands o (3 * k) m (map device_of new) = subst (λ (n : ℕ). Stands o (3 * n) m (map device_of new)) times after.stands in
        let due : failed_session bytes (map device_of old) deck f ≡ answer_with status text (map device_of new) =
        λ i. answer_with (sym (s ∙ ap (λ (e : Option Outcome). end_status (answer_of_end e)) is) i)
        (sym (t ∙ ap (λ (x : Subject). session_text x texts) same) i) (sym (after.left ∙ ap (λ v. v.devices) state) i) in
        subst (λ (a : Answer). IsSession device_of faults bytes deck old new a) due
        (failed f (exchange-failed o k step port m (map device_of new) law mode stands is) rose others)

    by_end : (end : Option Outcome) → m.end ≡ end → CausedSince device_of faults (λ port. count_at device_of faults port old) end new
        → EndsAs end o (3 * times_asked (standing.subject_of o m) texts) m.mode m.steps
        → IsSession device_of faults bytes deck old new (answer_with status text (map device_of new))
    by_end None is c ends = by_whole (ap failure_of is) c
    by_end (Some Done) is c ends = absurd ends
    by_end (Some (Stopped step stop)) is c ends = by_whole (ap failure_of is) c
    by_end (Some (Inadmissible verdict)) is c ends = by_whole (ap failure_of is) c
    by_end (Some (Device step port)) is c ends = by_failed step port is c.rose c.others

    pub session_is : IsSession device_of faults bytes deck old new (answer_with status text (map device_of new))
    session_is = by_end m.end refl cause after.stands.ends

  -- ---- a want of memory

  fails_by : (end : Option Outcome) → CausedSince device_of faults (λ port. count_at device_of faults port old) end new
      → FailsBy device_of faults (failure_of end) old new
  fails_by None c = c
  fails_by (Some Done) c = c
  fails_by (Some (Stopped step stop)) c = c
  fails_by (Some (Inadmissible verdict)) c = c
  fails_by (Some (Device step port)) c = (c.rose, c.others)

  pub session_amid : StandsAmid o texts m (map device_of new) → IsUnwritten device_of faults bytes deck old new
  session_amid h =
      let same = same-subject (failure_of m.end) refl in
      let left : map device_of new ≡ devices_after (failure_of m.end) (map device_of old) deck
      (times_asked (subject_of (failure_of m.end) (map device_of old) deck) (take h.count texts)) =
      h.after.left ∙ ap (λ (x : Subject). (state_after (failure_of m.end) o (times_asked x (take h.count texts))).devices) same in
      amid (failure_of m.end) h.count h.within left (fails_by m.end cause)
