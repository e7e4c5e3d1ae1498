-- When a run tells what the plain run tells.
use Rattle.std.specs.Prelude.{◌≡◌, ℕ, List, ◌++◌}
use Rattle.lvdc_model.specs.Voted.{Voted}
use Rattle.lvdc_report.specs.Report.{title_line}
use Rattle.lvdc_lines.specs.Noted.{repairs_text}
use Rattle.lvdc_report.specs.Voted.{wrong_text}
use Rattle.lvdc_report.specs.declared.title.Title.TheVariants.{Run, Plain}
use Rattle.lvdc_reply.specs.Answer.{Answer}

-- the answer of `run` has the status and the devices of that of `run --plain`, and its text but for the first line, and behind it stand
-- the lines of how often each copy of this machine differed and of what it repaired, and no others
pub record TellsPlain (v : Voted) (run plain : Answer) : Type 0 where
  pub lines : List ℕ
  pub text : run.text ≡ title_line Run ++ lines ++ wrong_text v.counts ++ repairs_text v.repairs
  pub plain_text : plain.text ≡ title_line Plain ++ lines
  pub status : run.status ≡ plain.status
  pub devices : run.devices ≡ plain.devices
