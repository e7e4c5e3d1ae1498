-- The answer of a run of the voted machine, from where the machine and its devices stand after it.
use Rattle.std.proofs.Common.{◌≡◌, ℕ, ◌*◌, List, map, None, Some, refl, sym, ap, subst, ◌∙◌}
use Rattle.std.specs.declared.option.Option.{Option}
use Rattle.lvdc_port.specs.Device as device
use Rattle.lvdc_model.specs.Trial.{Trial}
use Rattle.lvdc_model.specs.Voted.{Voted}
use Rattle.lvdc_model.specs.declared.outcome.Outcome.{Outcome}
use Rattle.lvdc_model.specs.declared.outcome.Outcome.TheVariants.{Done, Stopped, Inadmissible, Device}
use Rattle.lvdc_model.specs.Runs.{guarded}
use Rattle.lvdc_machine.specs.Stands.{EndsAs, state_by}
use Rattle.lvdc_machine.specs.View.{View, answer_of_end}
use Rattle.lvdc_machine.specs.declared.mode.Mode.{Mode}
use Rattle.lvdc_machine.specs.declared.mode.Mode.TheVariants as modes
use Rattle.lvdc_report.specs.Voted.{title_of, voted_text, soak_text}
use Rattle.lvdc_report.specs.declared.title.Title.TheVariants as title
use Rattle.lvdc_deck.specs.declared.deck.Deck.{Deck}
use Rattle.lvdc_command_run.specs.declared.job.Job.{Job}
use Rattle.lvdc_command_run.specs.declared.job.Job.TheVariants as job
use Rattle.lvdc_command_run.specs.declared.job.Engine.TheVariants as engine
use Rattle.lvdc_command_run.specs.Accounts.{Account, account, begun_account, end_status}
use Rattle.lvdc_reply.specs.Answer.{Answer, answer_with}
use Rattle.lvdc_command_run.specs.Trials.{trial_of}
use Rattle.lvdc_command_run.specs.Answers.{account_answer, soak_answer, run_answer, failed_answer}
use Rattle.lvdc_machine.specs.Causes.{EndHasCause}
use Rattle.lvdc_command_run.specs.Finished.{HasRun, Tells, TellsBy, HasJudged}
use Rattle.lvdc_command_run.specs.Runs.{Exchanges}
use Rattle.lvdc_command_run.specs.Replies.{IsRun, made, failed, IsRunOf, IsUnreported, reporting}
use Rattle.lvdc_command_run.proofs.Told.{told, soak-told}

-- the answer of a run that has come to this state, whose text is one of the state's
abbrev pub state_answer : (Voted → List ℕ) → Voted → Answer
state_answer text v = answer_with (end_status (answer_of_end v.end)) (text v) v.devices

-- an answer with these parts
state_parts : (text : Voted → List ℕ) (v : Voted) (status : ℕ) (written : List ℕ) (devices : List device.Device) (end : Outcome)
    → status ≡ end_status end → end ≡ answer_of_end v.end → written ≡ text v → devices ≡ v.devices
    → state_answer text v ≡ answer_with status written devices
state_parts text v status written devices end s e t d =
    let st : end_status (answer_of_end v.end) ≡ status = ap end_status (sym e) ∙ sym s in
    λ i. answer_with (st i) (sym t i) (sym d i)

-- an answer is that of a job's run, by the end that was kept
abbrev pub AnswersBy : Option Outcome → Job → Trial → ℕ → Answer → Type 0
AnswersBy (Some (Device step port)) j o n a = Exchanges j o n step port × (a ≡ failed_answer j o step port)
AnswersBy kept j o n a = a ≡ run_answer j o n

-- so with its devices the run of a machine is the job's run
module _ {B : Type 0} (device_of : B → device.Device) (faults : B → ℕ) (j : Job) (o : Trial) (n : ℕ) (old new : List B) where
  by_kept : (kept : Option Outcome) (a : Answer) → AnswersBy kept j o n a
      → EndHasCause device_of faults (answer_of_end kept) old new
      → IsRun device_of faults j o n old new a
  by_kept None a is quiet = subst (λ (x : Answer). IsRun device_of faults j o n old new x) (sym is) (made quiet)
  by_kept (Some Done) a is quiet = subst (λ (x : Answer). IsRun device_of faults j o n old new x) (sym is) (made quiet)
  by_kept (Some (Stopped step stop)) a is quiet = subst (λ (x : Answer). IsRun device_of faults j o n old new x) (sym is) (made quiet)
  by_kept (Some (Inadmissible verdict)) a is quiet = subst (λ (x : Answer). IsRun device_of faults j o n old new x) (sym is) (made quiet)
  by_kept (Some (Device step port)) a (exchanges, is) alone =
      subst (λ (x : Answer). IsRun device_of faults j o n old new x) (sym is) (failed step port exchanges alone.rose alone.others)

  module _ (mode : Mode) (text : Voted → List ℕ) (m : View) (h : HasRun device_of faults mode o n old new m)
      (answers : AnswersBy m.end j o n (state_answer text (state_by m.end mode o (3 * n)))) where
    abbrev came_to : Voted
    came_to = state_by m.end mode o (3 * n)

    as_mode : state_by m.end m.mode o (3 * n) ≡ came_to
    as_mode = ap (λ (k : Mode). state_by m.end k o (3 * n)) h.mode_is

    -- its answer is due, and it leaves these devices
    due_is : IsRun device_of faults j o n old new (state_answer text came_to)
    due_is = by_kept m.end (state_answer text came_to) answers h.cause

    leaves : map device_of new ≡ came_to.devices
    leaves = h.stands.shows.left ∙ ap (λ (v : Voted). v.devices) as_mode

    -- it is what was told
    ran_by : (end : Outcome) (status : ℕ) (written : List ℕ) → end ≡ answer_of_end m.end → status ≡ end_status end
        → written ≡ text (state_by m.end m.mode o (3 * n))
        → IsRun device_of faults j o n old new (answer_with status written (map device_of new))
    ran_by end status written is s t =
        let e : end ≡ answer_of_end came_to.end = is ∙ ap answer_of_end h.stands.shows.end ∙ ap (λ (v : Voted). answer_of_end v.end) as_mode in
        subst (λ (a : Answer). IsRun device_of faults j o n old new a)
        (state_parts text came_to status written (map device_of new) end s e (t ∙ ap text as_mode) leaves) due_is

-- the same of a deck's run that isn't reported
unreported_by : {B : Type 0} (device_of : B → device.Device) (faults : B → ℕ) (j : Job) (deck : Deck) (old new : List B) (mode : Mode)
    (text : Voted → List ℕ) (m : View) → HasRun device_of faults mode (trial_of (map device_of old) deck) deck.count old new m
    → AnswersBy m.end j (trial_of (map device_of old) deck) deck.count
    (state_answer text (state_by m.end mode (trial_of (map device_of old) deck) (3 * deck.count)))
    → IsUnreported device_of faults j deck old new
unreported_by device_of faults j deck old new mode text m h answers =
    let o = trial_of (map device_of old) deck in
    reporting (state_answer text (state_by m.end mode o (3 * deck.count)))
    (due_is device_of faults j o deck.count old new mode text m h answers)
    (leaves device_of faults j o deck.count old new mode text m h answers)

-- ---- through every fault

through-answers : (o : Trial) (n steps : ℕ) (kept : Option Outcome) → EndsAs kept o (3 * n) modes.Through steps
    → AnswersBy kept (job.Deck engine.Through) o n (state_answer (λ v. voted_text title.Through o v) (state_by kept modes.Through o (3 * n)))
through-answers o n steps None ends = refl
through-answers o n steps (Some Done) ends = refl
through-answers o n steps (Some (Stopped step stop)) ends = refl
through-answers o n steps (Some (Inadmissible verdict)) ends = refl
through-answers o n steps (Some (Device step port)) ends = (ends, refl)

through-ends : {B : Type 0} (device_of : B → device.Device) (faults : B → ℕ) (o : Trial) (n : ℕ) (old new : List B) (m : View)
    → HasRun device_of faults modes.Through o n old new m → EndsAs m.end o (3 * n) modes.Through m.steps
through-ends device_of faults o n old new m h = subst (λ (k : Mode). EndsAs m.end o (3 * n) k m.steps) h.mode_is h.stands.ends

pub ran_through : {B : Type 0} (device_of : B → device.Device) (faults : B → ℕ) (o : Trial) (n : ℕ) (old new : List B) (m : View) (end : Outcome)
    (status : ℕ) (written : List ℕ) → HasRun device_of faults modes.Through o n old new m → end ≡ answer_of_end m.end → status ≡ end_status end
    → written ≡ voted_text (title_of m.mode) o (state_by m.end m.mode o (3 * n))
    → IsRun device_of faults (job.Deck engine.Through) o n old new (answer_with status written (map device_of new))
ran_through device_of faults o n old new m end status written h is s t =
    ran_by device_of faults (job.Deck engine.Through) o n old new modes.Through (λ v. voted_text title.Through o v) m h
    (through-answers o n m.steps m.end (through-ends device_of faults o n old new m h)) end status written is s
    (t ∙ ap (λ (k : Mode). voted_text (title_of k) o (state_by m.end m.mode o (3 * n))) h.mode_is)

pub through_unreported : {B : Type 0} (device_of : B → device.Device) (faults : B → ℕ) (deck : Deck) (old new : List B) (m : View)
    → HasRun device_of faults modes.Through (trial_of (map device_of old) deck) deck.count old new m
    → IsUnreported device_of faults (job.Deck engine.Through) deck old new
through_unreported device_of faults deck old new m h =
    let o = trial_of (map device_of old) deck in
    unreported_by device_of faults (job.Deck engine.Through) deck old new modes.Through (λ v. voted_text title.Through o v) m h
    (through-answers o deck.count m.steps m.end (through-ends device_of faults o deck.count old new m h))

-- ---- up to the first inadmissible step

-- an account's answer is that of the state that tells it
pub answer_told : (o : Trial) (a : Account) (v w : Voted) → Tells o a v w → state_answer (λ x. voted_text title.Run o x) v ≡ account_answer o a w
answer_told o a v w t =
    let e = t.end in
    let d = t.devices in
    let x = told o a v w t in
    λ i. answer_with (end_status (e i)) (x i) (d i)

guarded-answers : (o : Trial) (n : ℕ) (v : Voted) (kept : Option Outcome) → TellsBy kept o n v
    → AnswersBy kept (job.Deck engine.Guarded) o n (state_answer (λ x. voted_text title.Run o x) v)
guarded-answers o n v None t = answer_told o (account o n) v (guarded o (3 * n)) t
guarded-answers o n v (Some Done) t = answer_told o (account o n) v (guarded o (3 * n)) t
guarded-answers o n v (Some (Stopped step stop)) t = answer_told o (account o n) v (guarded o (3 * n)) t
guarded-answers o n v (Some (Inadmissible verdict)) t = answer_told o (account o n) v (guarded o (3 * n)) t
guarded-answers o n v (Some (Device step port)) (exchanges, t) =
    (exchanges, answer_told o (begun_account o step (Device step port)) v (guarded o step) t)

pub ran_guarded : {B : Type 0} (device_of : B → device.Device) (faults : B → ℕ) (o : Trial) (n : ℕ) (old new : List B) (m : View) (end : Outcome)
    (status : ℕ) (written : List ℕ) → HasJudged device_of faults o n old new m → end ≡ answer_of_end m.end
    → status ≡ end_status end → written ≡ voted_text (title_of m.mode) o (state_by m.end m.mode o (3 * n))
    → IsRun device_of faults (job.Deck engine.Guarded) o n old new (answer_with status written (map device_of new))
ran_guarded device_of faults o n old new m end status written h is s t =
    ran_by device_of faults (job.Deck engine.Guarded) o n old new modes.Guarded (λ v. voted_text title.Run o v) m h.run
    (guarded-answers o n (state_by m.end modes.Guarded o (3 * n)) m.end h.tells) end status written is s
    (t ∙ ap (λ (k : Mode). voted_text (title_of k) o (state_by m.end m.mode o (3 * n))) h.run.mode_is)

pub guarded_unreported : {B : Type 0} (device_of : B → device.Device) (faults : B → ℕ) (deck : Deck) (old new : List B) (m : View)
    → HasJudged device_of faults (trial_of (map device_of old) deck) deck.count old new m
    → IsUnreported device_of faults (job.Deck engine.Guarded) deck old new
guarded_unreported device_of faults deck old new m h =
    let o = trial_of (map device_of old) deck in
    unreported_by device_of faults (job.Deck engine.Guarded) deck old new modes.Guarded (λ v. voted_text title.Run o v) m h.run
    (guarded-answers o deck.count (state_by m.end modes.Guarded o (3 * deck.count)) m.end h.tells)

-- ---- soak runs

soak_told : (o : Trial) (a : Account) (v w : Voted) (number : ℕ) → Tells o a v w → state_answer (λ x. soak_text number x) v ≡ soak_answer number a w
soak_told o a v w number t =
    let e = t.end in
    let d = t.devices in
    let x = soak-told o a v w number t in
    λ i. answer_with (end_status (e i)) (x i) (d i)

soak-answers : (o : Trial) (n number : ℕ) (v : Voted) (kept : Option Outcome) → TellsBy kept o n v
    → AnswersBy kept (job.Soak number) o n (state_answer (λ x. soak_text number x) v)
soak-answers o n number v None t = soak_told o (account o n) v (guarded o (3 * n)) number t
soak-answers o n number v (Some Done) t = soak_told o (account o n) v (guarded o (3 * n)) number t
soak-answers o n number v (Some (Stopped step stop)) t = soak_told o (account o n) v (guarded o (3 * n)) number t
soak-answers o n number v (Some (Inadmissible verdict)) t = soak_told o (account o n) v (guarded o (3 * n)) number t
soak-answers o n number v (Some (Device step port)) (exchanges, t) =
    (exchanges, soak_told o (begun_account o step (Device step port)) v (guarded o step) number t)

pub ran_soak : {B : Type 0} (device_of : B → device.Device) (faults : B → ℕ) (deck : Deck) (old new : List B) (m : View) (end : Outcome)
    (number status : ℕ) (written : List ℕ) → HasJudged device_of faults (trial_of (map device_of old) deck) deck.count old new m
    → end ≡ answer_of_end m.end → status ≡ end_status end
    → written ≡ soak_text number (state_by m.end m.mode (trial_of (map device_of old) deck) (3 * deck.count))
    → IsRunOf device_of faults (job.Soak number) deck old new (answer_with status written (map device_of new))
ran_soak device_of faults deck old new m end number status written h is s t =
    let o = trial_of (map device_of old) deck in
    ran_by device_of faults (job.Soak number) o deck.count old new modes.Guarded (λ v. soak_text number v) m h.run
    (soak-answers o deck.count number (state_by m.end modes.Guarded o (3 * deck.count)) m.end h.tells) end status written is s t

pub soak_unreported : {B : Type 0} (device_of : B → device.Device) (faults : B → ℕ) (deck : Deck) (old new : List B) (m : View) (number : ℕ)
    → HasJudged device_of faults (trial_of (map device_of old) deck) deck.count old new m
    → IsUnreported device_of faults (job.Soak number) deck old new
soak_unreported device_of faults deck old new m number h =
    let o = trial_of (map device_of old) deck in
    unreported_by device_of faults (job.Soak number) deck old new modes.Guarded (λ v. soak_text number v) m h.run
    (soak-answers o deck.count number (state_by m.end modes.Guarded o (3 * deck.count)) m.end h.tells)
