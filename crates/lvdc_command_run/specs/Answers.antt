-- The answer to a job over bytes and devices: a status, the text that is written, and what the devices are then.
use Rattle.std.specs.Prelude.{ℕ, ◌-◌, ◌*◌, false, List, ◌++◌, codes, length, Result, Ok, Err}
use Rattle.std.specs.declared.option.Option.{Option}
use Rattle.std.specs.declared.option.Option.TheVariants.{None, Some}
use Rattle.lvdc_port.specs.Device as device
use Rattle.lvdc_plain.specs.Plain.{World}
use Rattle.lvdc_plain.specs.Run.{run}
use Rattle.lvdc_plain.specs.declared.records.PlainEnd.{PlainEnd}
use Rattle.lvdc_plain.specs.declared.records.PlainEnd.TheVariants as plain
use Rattle.lvdc_plain.specs.declared.records.Stop.{Stop}
use Rattle.lvdc_model.specs.declared.outcome.Outcome.TheVariants.{Device}
use Rattle.lvdc_model.specs.Exchanges.{begin_step, with_end}
use Rattle.lvdc_model.specs.Runs.{guarded, through}
use Rattle.lvdc_model.specs.Trial.{Trial, plain_in, plugged_in}
use Rattle.lvdc_model.specs.Voted.{Voted}
use Rattle.lvdc_machine.specs.View.{answer_of_end}
use Rattle.lvdc_deck.specs.Deck.{deck_of}
use Rattle.lvdc_soak_deck.specs.Soak.{soak_of}
use Rattle.lvdc_deck.specs.declared.deck.Deck.{Deck}
use Rattle.lvdc_deck.specs.declared.fault.DeckFault.{DeckFault}
use Rattle.lvdc_report.specs.Report.{report_text, outcome_of, end_text, times_line, word_line}
use Rattle.lvdc_lines.specs.Noted.{repairs_text}
use Rattle.lvdc_report.specs.Voted.{voted_text, wrong_text, number_line, all_counts}
use Rattle.lvdc_report.specs.declared.title.Title.TheVariants as title
use Rattle.lvdc_reply.specs.Answer.{Answer, answer_with}
use Rattle.lvdc_command_run.specs.declared.job.Engine.{Engine}
use Rattle.lvdc_command_run.specs.declared.job.Engine.TheVariants.{Guarded, Through, Plain}
use Rattle.lvdc_command_run.specs.declared.job.Job.{Job}
use Rattle.lvdc_command_run.specs.declared.job.Job.TheVariants as job
use Rattle.lvdc_command_run.specs.Trials.{trial_of}
use Rattle.lvdc_command_run.specs.Accounts.{Account, begun_account, account, end_status}
use Rattle.lvdc_command_run.specs.Headline.{account_front}
use Rattle.lvdc_command_run.specs.Refusals.{refused_answer}

-- ---- answers of runs

-- the report of `run`: the account, and last what the voted machine did for it, copy by copy and repair by repair
abbrev pub account_text : Trial → Account → Voted → List ℕ
account_text o told v = account_front o told ++ wrong_text v.counts ++ repairs_text v.repairs

-- the answer of `run`: the status of the account's end, its report, and the devices that are left
abbrev pub account_answer : Trial → Account → Voted → Answer
account_answer o told v = answer_with (end_status told.end) (account_text o told v) told.devices

-- the same by the voted machine's own state
abbrev pub guarded_answer : Trial → Voted → Answer
guarded_answer o v = answer_with (end_status (answer_of_end v.end)) (voted_text title.Run o v) v.devices

-- the answer of `run --through`, by the voted machine's own state
abbrev pub through_answer : Trial → Voted → Answer
through_answer o v = answer_with (end_status (answer_of_end v.end)) (voted_text title.Through o v) v.devices

-- the end of a plain run: a stop falls into the last step of the last time made
abbrev pub plain_end_by : Option Stop → ℕ → PlainEnd
plain_end_by None times = plain.Done
plain_end_by (Some stop) times = plain.Stopped (3 * times - 1) stop

-- the answer of `run --plain`
abbrev pub plain_answer : PlainEnd → World → Answer
plain_answer end w = answer_with (end_status (outcome_of end)) (report_text title.Plain end w.plain) w.devices

-- the text of a soak run: of the account its end, its times and A, and how much the voted machine did for it
abbrev pub soak_account_text : ℕ → Account → Voted → List ℕ
soak_account_text number told v =
    number_line (codes "LVDC SOAK") number ++ end_text told.end ++ times_line told.plain.times ++ word_line (codes "A") told.plain.a
    ++ number_line (codes "WRONG") (all_counts v.counts) ++ number_line (codes "REPAIRS") (length v.repairs)

-- the answer of a soak run, by its account
abbrev pub soak_answer : ℕ → Account → Voted → Answer
soak_answer number told v = answer_with (end_status told.end) (soak_account_text number told v) told.devices

-- the answer of a run of so many times in which no device fails
abbrev pub run_answer : Job → Trial → ℕ → Answer
run_answer (job.Deck Guarded) o n = account_answer o (account o n) (guarded o (3 * n))
run_answer (job.Deck Through) o n = through_answer o (through o (3 * n))
run_answer (job.Deck Plain) o n = plain_answer (plain_end_by (run o.opening n).plain.stop (run o.opening n).plain.times) (run o.opening n)
run_answer (job.Soak number) o n = soak_answer number (account o n) (guarded o (3 * n))

-- the plain run in a step that was begun: its state after the whole times before, and the devices that are left
abbrev pub begun_world : Trial → ℕ → World
begun_world o step = record { plain = plain_in o step; devices = plugged_in o step }

-- the answer of a run in which the device at this port fails in this step: it is of the run so far
abbrev pub failed_answer : Job → Trial → ℕ → ℕ → Answer
failed_answer (job.Deck Guarded) o step port = account_answer o (begun_account o step (Device step port)) (guarded o step)
failed_answer (job.Deck Through) o step port = through_answer o (with_end (begin_step o (through o step)) (Device step port))
failed_answer (job.Deck Plain) o step port = plain_answer (plain.Device step port) (begun_world o step)
failed_answer (job.Soak number) o step port = soak_answer number (begun_account o step (Device step port)) (guarded o step)

-- ---- the whole

-- the answer to a deck, or to its refusal
abbrev pub deck_answer : Engine → List device.Device → Result Deck DeckFault → Answer
deck_answer engine devices (Ok deck) = run_answer (job.Deck engine) (trial_of devices deck) deck.count
deck_answer engine devices (Err fault) = refused_answer devices fault

-- the answer to a job over these bytes and devices, where no device fails
abbrev pub job_answer : Job → List ℕ → List device.Device → Answer
job_answer (job.Deck engine) bytes devices = deck_answer engine devices (deck_of bytes devices false)
job_answer (job.Soak number) bytes devices = run_answer (job.Soak number) (trial_of devices (soak_of number)) (soak_of number).count
