-- The report of a machine is that of the state that it shows.
use Rattle.std.proofs.Common.{◌≡◌, List, ◌++◌, refl}
use Rattle.lvdc_port.specs.Device.{Device}
use Rattle.lvdc_model.specs.Known.{is_known}
use Rattle.lvdc_model.specs.Trial.{Trial}
use Rattle.lvdc_model.specs.Voted.{Voted}
use Rattle.lvdc_machine.specs.Shows.{Shows}
use Rattle.lvdc_machine.specs.View as view
use Rattle.lvdc_machine.specs.View.{answer_of_end}
use Rattle.lvdc_plain.specs.Plain.{PlainState}
use Rattle.lvdc_plain.specs.Stands as plain
use Rattle.lvdc_plain.specs.View as plain_view
use Rattle.lvdc_plain.specs.declared.records.PlainEnd.{PlainEnd}
use Rattle.lvdc_lines.specs.Noted.{log_text, repairs_text}
use Rattle.lvdc_report.specs.Report.{title_line, end_text, outcome_of, registers_text, memory_text, all_known, report_text}
use Rattle.lvdc_report.specs.Voted.{wrong_text, voted_text}
use Rattle.lvdc_report.specs.declared.title.Title.{Title}

pub voted_text_shown : (title : Title) (o : Trial) (m : view.View) (ds : List Device) (v : Voted) → Shows o m ds v
    → title_line title ++ end_text (answer_of_end m.end) ++ registers_text (view.visible_of m) ++ log_text m.log
    ++ memory_text m.banks v.intended (λ at. is_known o v at) ++ wrong_text m.counts ++ repairs_text m.repairs
    ≡ voted_text title o v
voted_text_shown title o m ds v s = rw (s.banks, s.copies, s.log, s.repairs, s.counts, s.steps, s.end) refl

-- the same of a plain machine
pub plain_text_shown : (title : Title) (end : PlainEnd) (m : plain_view.View) (p : PlainState) → plain.Shows m p
    → title_line title ++ end_text (outcome_of end) ++ registers_text (plain_view.visible_of m) ++ log_text m.log
    ++ memory_text m.banks p.memory all_known ≡ report_text title end p
plain_text_shown title end m p s = rw (s.banks, s.place, s.a, s.pq, s.saver, s.log, s.times) refl
