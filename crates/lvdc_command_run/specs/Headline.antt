-- The headline. For every deck that `run` accepts, in whatever order the copies latch, as long as the fault script stays
-- admissible the ports, registers and recoverable memory words of the report and the states of the devices are those of the
-- fault-free instruction table on the deck's image; the first inadmissible step ends the run, and the report names that step and
-- its cause after that same run so far.
use Rattle.std.specs.Prelude.{◌≡◌, ℕ, List, ◌++◌}
use Rattle.lvdc_port.specs.Device.{Device}
use Rattle.lvdc_model.specs.Trial.{Trial}
use Rattle.lvdc_model.specs.declared.repair.Repair.{Repair}
use Rattle.lvdc_lines.specs.Noted.{log_text, repairs_text}
use Rattle.lvdc_report.specs.Report.{title_line, end_text, registers_text, visible_in, memory_text}
use Rattle.lvdc_report.specs.Voted.{wrong_text}
use Rattle.lvdc_report.specs.declared.title.Title.TheVariants.{Run}
use Rattle.lvdc_reply.specs.Answer.{Answer}
use Rattle.lvdc_command_run.specs.Accounts.{Account, account, end_status}

-- the report of an account: its end, its registers, its port exchanges, and the words that aren't 0, or that they can't be recovered
abbrev pub account_front : Trial → Account → List ℕ
account_front o told =
    title_line Run ++ end_text told.end ++ registers_text (visible_in told.plain) ++ log_text told.plain.log
    ++ memory_text o.opening.banks told.plain.memory told.recoverable

-- status, text and devices are those of the account; behind its report stand counts and repairs, of which the clause `answer` speaks
pub record Headline (o : Trial) (n status : ℕ) (text : List ℕ) (devices : List Device) : Type 0 where
  pub is_status : status ≡ end_status (account o n).end
  pub counts : List (List ℕ)
  pub repairs : List Repair
  pub report : text ≡ account_front o (account o n) ++ wrong_text counts ++ repairs_text repairs
  pub left : devices ≡ (account o n).devices

-- the headline of an answer
abbrev pub HeadlineFor : Trial → ℕ → Answer → Type 0
HeadlineFor o n answer = Headline o n answer.status answer.text answer.devices
