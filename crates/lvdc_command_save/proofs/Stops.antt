-- Where a machine stands after so many times its deck's answer is due.
use Rattle.std.proofs.Common.{◌≡◌, ℕ, ◌*◌, List, map, None, Some, refl, sym, ap, subst, ◌∙◌}
use Rattle.std.specs.declared.option.Option.{Option}
use Rattle.lvdc_port.specs.Device as device
use Rattle.lvdc_fault.specs.declared.event.Event.{Event}
use Rattle.lvdc_plain.specs.declared.records.Unplug.{Unplug}
use Rattle.lvdc_model.specs.Runs.{alone, guarded}
use Rattle.lvdc_model.specs.Trial.{Trial}
use Rattle.lvdc_model.specs.Voted.{Voted}
use Rattle.lvdc_model.specs.declared.outcome.Outcome.{Outcome}
use Rattle.lvdc_model.specs.declared.outcome.Outcome.TheVariants.{Done, Stopped, Inadmissible, Device}
use Rattle.lvdc_machine.specs.Causes.{EndHasCause}
use Rattle.lvdc_machine.specs.Shows.{Shows}
use Rattle.lvdc_machine.specs.Stands.{state_by, EndsAs}
use Rattle.lvdc_machine.specs.View.{View, answer_of_end}
use Rattle.lvdc_machine.specs.declared.mode.Mode.{Mode}
use Rattle.lvdc_machine.specs.declared.mode.Mode.TheVariants as modes
use Rattle.lvdc_deck.specs.declared.deck.Deck.{Deck}
use Rattle.lvdc_report.specs.Voted.{title_of, voted_text}
use Rattle.lvdc_report.specs.declared.title.Title.TheVariants as title
use Rattle.lvdc_save.specs.Saved.{saved_text}
use Rattle.lvdc_reply.specs.Answer.{Answer, answer_with}
use Rattle.lvdc_command_run.specs.Accounts.{Account, account, begun_account, end_status}
use Rattle.lvdc_command_run.specs.Answers.{account_answer, failed_answer}
use Rattle.lvdc_command_run.specs.Finished.{Tells, TellsBy, HasJudged}
use Rattle.lvdc_command_run.specs.Trials.{trial_of}
use Rattle.lvdc_command_run.specs.declared.job.Engine.TheVariants as engine
use Rattle.lvdc_command_run.specs.declared.job.Job.TheVariants as job
use Rattle.lvdc_command_run.proofs.Told.{told}
use Rattle.lvdc_command_save.specs.Answers.{saved_by, saved_in, answer_by_end, stop_answer}
use Rattle.lvdc_command_save.specs.Replies.{IsStop, made, failed, IsUnwritten, writing}

-- what is saved of a state, from the parts of the deck
pub saved_same : (deck : Deck) (v : Voted) (count : ℕ) (unplugs : List Unplug) (script : List Event) (orders : List (List ℕ))
    → count ≡ deck.count → unplugs ≡ deck.unplugs → script ≡ deck.script → orders ≡ deck.orders
    → saved_by deck.banks v count unplugs script orders ≡ saved_in deck v
saved_same deck v count unplugs script orders c u s r =
    λ i. saved_by deck.banks v (c i) (u i) (s i) (r i)

-- a report is an account's answer, where its state tells the account
told_answer : (o : Trial) (a : Account) (v w : Voted) (end : Outcome) (status : ℕ) (text : List ℕ) (left : List device.Device) → Tells o a v w
    → end ≡ answer_of_end v.end → status ≡ end_status end → text ≡ voted_text title.Run o v → left ≡ v.devices
    → answer_with status text left ≡ account_answer o a w
told_answer o a v w end status text left t e s x d =
    let same_status = s ∙ ap end_status (e ∙ t.end) in
    let same_text = x ∙ told o a v w t in
    let same_devices = d ∙ t.devices in
    λ i. answer_with (same_status i) (same_text i) (same_devices i)

module _ {B : Type 0} (device_of : B → device.Device) (faults : B → ℕ) (n : ℕ) (deck : Deck) (old new : List B) where
  abbrev o : Trial
  o = trial_of (map device_of old) deck

  -- the answer that is due, by the end that was kept
  abbrev pub due_by : Option Outcome → Answer
  due_by (Some (Device step port)) = failed_answer (job.Deck engine.Guarded) o step port
  due_by kept = stop_answer (map device_of old) deck n

  stop_by : (kept : Option Outcome) (v : Voted) → TellsBy kept o n v → EndHasCause device_of faults (answer_of_end kept) old new
      → IsStop device_of faults n deck old new (due_by kept)
  stop_by None v t quiet = made quiet
  stop_by (Some Done) v t quiet = made quiet
  stop_by (Some (Stopped step stop)) v t quiet = made quiet
  stop_by (Some (Inadmissible verdict)) v t quiet = made quiet
  stop_by (Some (Device step port)) v (exchanges, t) alone = failed step port exchanges alone.rose alone.others

  module _ (m : View) (h : HasJudged device_of faults o n old new m) (same : (k : ℕ) → alone o k ≡ guarded o k) where
    pub is_stop : IsStop device_of faults n deck old new (due_by m.end)
    is_stop = stop_by m.end (state_by m.end modes.Guarded o (3 * n)) h.tells h.run.cause

    as_mode : state_by m.end m.mode o (3 * n) ≡ state_by m.end modes.Guarded o (3 * n)
    as_mode = ap (λ (k : Mode). state_by m.end k o (3 * n)) h.run.mode_is

    -- the state that it shows, by its end
    pub shows_as : (kept : Option Outcome) → m.end ≡ kept → Shows o m (map device_of new) (state_by kept modes.Guarded o (3 * n))
    shows_as kept is =
        subst (λ (k : Option Outcome). Shows o m (map device_of new) (state_by k modes.Guarded o (3 * n))) is
        (subst (λ (v : Voted). Shows o m (map device_of new) v) as_mode h.run.stands.shows)

    tells_as : (kept : Option Outcome) → m.end ≡ kept → TellsBy kept o n (state_by kept modes.Guarded o (3 * n))
    tells_as kept is = subst (λ (k : Option Outcome). TellsBy k o n (state_by k modes.Guarded o (3 * n))) is h.tells

    -- where no device failed the account that is told has the end of the machine
    due_as : (kept : Option Outcome) → Shows o m (map device_of new) (alone o (3 * n)) → m.end ≡ kept → Tells o (account o n) (alone o (3 * n)) (guarded o (3 * n))
        → stop_answer (map device_of old) deck n ≡ answer_by_end (answer_of_end kept) (map device_of old) deck n
    due_as kept shows is t =
        let e : (account o n).end ≡ answer_of_end kept = sym t.end ∙ ap answer_of_end (sym shows.end ∙ is) in
        ap (λ (end : Outcome). answer_by_end end (map device_of old) deck n) e

    -- no end is kept that says that all is done
    not_done : {X : Type 0} → m.end ≡ Some Done → X
    not_done is = absurd (subst (λ (k : Option Outcome). EndsAs k o (3 * n) m.mode m.steps) is h.run.stands.ends)

    -- ---- without an end

    pub saved_due : (text : List ℕ) → m.end ≡ None → text ≡ saved_text (saved_in deck (alone o (3 * n)))
        → IsStop device_of faults n deck old new (answer_with 0 text (map device_of new))
    saved_due text none t =
        let shows = shows_as None none in
        let state = same (3 * n) in
        let same_text = t ∙ ap (λ (v : Voted). saved_text (saved_in deck v)) state in
        let same_devices = shows.left ∙ ap (λ (v : Voted). v.devices) state in
        let due : due_by m.end ≡ answer_with 0 text (map device_of new) =
        ap due_by none ∙ due_as None shows none (tells_as None none) ∙ sym (λ i. answer_with 0 (same_text i) (same_devices i)) in
        subst (λ (a : Answer). IsStop device_of faults n deck old new a) due is_stop

    -- the text is that of what a machine with these devices shows
    pub saved_from : (read : List B) (count : ℕ) (unplugs : List Unplug) (script : List Event) (orders : List (List ℕ)) (text written : List ℕ) → read ≡ new
        → m.end ≡ None → count ≡ deck.count → unplugs ≡ deck.unplugs → script ≡ deck.script → orders ≡ deck.orders → written ≡ text
        → ((p : Trial) (v : Voted) → Shows p m (map device_of read) v → text ≡ saved_text (saved_by p.opening.banks v count unplugs script orders))
        → IsStop device_of faults n deck old new (answer_with 0 written (map device_of new))
    saved_from read count unplugs script orders text written r none c u s x w is =
        let v = alone o (3 * n) in
        let shows = subst (λ (bs : List B). Shows o m (map device_of bs) v) (sym r) (shows_as None none) in
        saved_due written none (w ∙ is o v shows ∙ ap saved_text (saved_same deck v count unplugs script orders c u s x))

    -- ---- with an end

    reported_by : (kept : Option Outcome) → m.end ≡ kept → (end : Outcome) → kept ≡ Some end → (status : ℕ) (text : List ℕ)
        → status ≡ end_status end → text ≡ voted_text title.Run o (state_by kept modes.Guarded o (3 * n))
        → answer_with status text (map device_of new) ≡ due_by kept
    reported_by None is end e status text s t = absurd (cc)
    reported_by (Some Done) is end e status text s t = not_done is
    reported_by (Some (Stopped step stop)) is end e status text s t =
        let shows = shows_as (Some (Stopped step stop)) is in
        let kept : end ≡ answer_of_end (alone o (3 * n)).end = ap answer_of_end (sym e ∙ sym is ∙ shows.end) in
        told_answer o (account o n) (alone o (3 * n)) (guarded o (3 * n)) end status text (map device_of new) (tells_as (Some (Stopped step stop)) is) kept s t shows.left
        ∙ sym (due_as (Some (Stopped step stop)) shows is (tells_as (Some (Stopped step stop)) is))
    reported_by (Some (Inadmissible verdict)) is end e status text s t =
        let shows = shows_as (Some (Inadmissible verdict)) is in
        let kept : end ≡ answer_of_end (alone o (3 * n)).end = ap answer_of_end (sym e ∙ sym is ∙ shows.end) in
        told_answer o (account o n) (alone o (3 * n)) (guarded o (3 * n)) end status text (map device_of new) (tells_as (Some (Inadmissible verdict)) is) kept s t shows.left
        ∙ sym (due_as (Some (Inadmissible verdict)) shows is (tells_as (Some (Inadmissible verdict)) is))
    reported_by (Some (Device step port)) is end e status text s t =
        let shows = shows_as (Some (Device step port)) is in
        let v = state_by (Some (Device step port)) modes.Guarded o (3 * n) in
        let kept : end ≡ answer_of_end v.end = ap answer_of_end (sym e ∙ sym is ∙ shows.end) in
        told_answer o (begun_account o step (Device step port)) v (guarded o step) end status text (map device_of new) (tells_as (Some (Device step port)) is).1 kept s t shows.left

    pub reported_due : (end : Outcome) → m.end ≡ Some end → (status : ℕ) (text : List ℕ) → status ≡ end_status end
        → text ≡ voted_text (title_of m.mode) o (state_by m.end m.mode o (3 * n))
        → IsStop device_of faults n deck old new (answer_with status text (map device_of new))
    reported_due end is status text s t =
        let due = reported_by m.end refl end is status text s
        (t ∙ ap (λ (k : Mode). voted_text (title_of k) o (state_by m.end m.mode o (3 * n))) h.run.mode_is ∙ ap (λ (v : Voted). voted_text title.Run o v) as_mode) in
        subst (λ (a : Answer). IsStop device_of faults n deck old new a) (sym due) is_stop

    -- ---- want of memory for the text

    left_by : (kept : Option Outcome) → m.end ≡ kept → map device_of new ≡ (due_by kept).devices
    left_by None is =
        let shows = shows_as None is in
        shows.left ∙ ap (λ (v : Voted). v.devices) (same (3 * n)) ∙ ap (λ (a : Answer). a.devices) (sym (due_as None shows is (tells_as None is)))
    left_by (Some Done) is = not_done is
    left_by (Some (Stopped step stop)) is =
        let shows = shows_as (Some (Stopped step stop)) is in
        shows.left ∙ (tells_as (Some (Stopped step stop)) is).devices ∙ ap (λ (a : Answer). a.devices) (sym (due_as (Some (Stopped step stop)) shows is (tells_as (Some (Stopped step stop)) is)))
    left_by (Some (Inadmissible verdict)) is =
        let shows = shows_as (Some (Inadmissible verdict)) is in
        shows.left ∙ (tells_as (Some (Inadmissible verdict)) is).devices ∙ ap (λ (a : Answer). a.devices) (sym (due_as (Some (Inadmissible verdict)) shows is (tells_as (Some (Inadmissible verdict)) is)))
    left_by (Some (Device step port)) is =
        let shows = shows_as (Some (Device step port)) is in
        shows.left ∙ (tells_as (Some (Device step port)) is).1.devices

    pub unwritten : IsUnwritten device_of faults n deck old new
    unwritten = writing (due_by m.end) is_stop (left_by m.end refl)
