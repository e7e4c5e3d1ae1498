use Rattle.std.proofs.Common.{◌+◌, ◌<◌, ◌≤◌, ℕ, List, length, sym, ap, subst, ◌∙◌, arith}
use Rattle.lvdc_model.specs.Voted.{voted_start}
use Rattle.lvdc_lines.specs.Noted.{noted_size}
use Rattle.lvdc_report.specs.declared.report.TheConstants.{LONGEST_REPORT}
use Rattle.lvdc_report.proofs.Noted.{start_below}
use Rattle.lvdc_lines.proofs.LineSizes.{none-noted}
use Rattle.lvdc_command_run.specs.Accounts.{end_status}
use Rattle.lvdc_command_run.proofs.runs.report_end.Goals as goal

pub returns-clause-status : goal.returns-clause-status
returns-clause-status c = c.end_status.ensures ∙ ap end_status c.outcome.ensures

pub returns-clause-text : goal.returns-clause-text
returns-clause-text c = λ o first n ds stands. c.from_vec.ensures ∙ c.in_ok-text.ensures.text o first n ds stands

pub returns-clause-room : goal.returns-clause-room
returns-clause-room c = λ o t ds stands.
    subst (λ (text : List ℕ). length text ≤ LONGEST_REPORT) (sym c.from_vec.ensures)
    (omega (arith, c.in_ok-text.ensures.size o (voted_start o) t ds stands (start_below o), none-noted))

pub returns-clause-short : goal.returns-clause-short
returns-clause-short c = λ o first n ds stands below.
    subst (λ (text : List ℕ). length text < LONGEST_REPORT + noted_size first.log first.repairs) (sym c.from_vec.ensures)
    (c.in_ok-text.ensures.size o first n ds stands below)
