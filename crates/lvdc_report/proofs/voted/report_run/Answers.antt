use Rattle.std.proofs.Common.{ℕ, ◌++◌, All, ap, ◌∙◌, subst, length, [], arith, length-append}
use Rattle.lvdc_plain.specs.declared.records.Visible.{Visible}
use Rattle.lvdc_model.specs.Known.{is_known}
use Rattle.lvdc_machine.specs.Resumed.{state_from}
use Rattle.lvdc_machine.specs.View.{answer_of_end, visible_of}
use Rattle.lvdc_lines.specs.Noted.{log_text, repairs_text}
use Rattle.lvdc_report.specs.Report.{title_line, end_text, registers_text, memory_text}
use Rattle.lvdc_report.specs.Voted.{title_of, wrong_text}
use Rattle.lvdc_lines.proofs.LineLists.{onward}
use Rattle.lvdc_report.proofs.Behind.{state_from_behind}
use Rattle.lvdc_report.proofs.Noted.{state_from_noted}
use Rattle.lvdc_report.proofs.NotedLines.{IsShortExchange, IsShortRepair, noted-short}
use Rattle.lvdc_report.proofs.Shown.{voted_text_shown}
use Rattle.lvdc_report.proofs.Sizes.{length-title_line}
use Rattle.lvdc_report.proofs.voted.report_run.Goals as goal

pub returns-clause-text : goal.returns-clause-text
returns-clause-text c = λ o first n ds s.
    let m = c.args.machine.now in
    let v = state_from m.end m.mode o first n in
    let title = title_line (title_of m.mode) in
    let end = title ++ end_text (answer_of_end m.end) in
    let registers = end ++ registers_text (visible_of m) in
    let log = registers ++ log_text m.log in
    let memory = log ++ memory_text m.banks v.intended (λ at. is_known o v at) in
    let wrong = memory ++ wrong_text m.counts in
    onward [] wrong (repairs_text m.repairs) _ _
    (onward [] memory (wrong_text m.counts) _ _
    (onward [] log (memory_text m.banks v.intended (λ at. is_known o v at)) _ _
    (onward [] registers (log_text m.log) _ _
    (onward [] end (registers_text (visible_of m)) _ _
    (onward [] title (end_text (answer_of_end m.end)) _ _
    (c.in_ok-extend_from_slice.ensures.items ∙ ap (λ t. t ++ c.title_line.result.now) c.new-out.ensures.items
    ∙ c.title_line.ensures ∙ ap title_line (c.title_of.ensures ∙ ap title_of c.mode.ensures))
    (c.in_ok-put_end.ensures.text ∙ ap (λ e. c.extend_from_slice.new.self.items ++ end_text e) c.outcome.ensures))
    (c.in_ok-put_registers.ensures.text ∙ ap (λ r. c.put_end.new.out.items ++ registers_text r) c.visible.ensures.registers))
    (c.in_ok-put_log.ensures.log ∙ ap (λ l. c.put_registers.new.out.items ++ log_text l) c.log.ensures.log))
    (c.in_ok-put_shown_memory.ensures.lines o first n ds s))
    c.in_ok-put_wrong.ensures.lines)
    (c.in_ok-put_repairs.ensures.lines ∙ ap (λ r. c.put_wrong.new.out.items ++ repairs_text r) c.repairs.ensures.repairs)
    ∙ voted_text_shown (title_of m.mode) o m ds v s.shows

pub returns-clause-size : goal.returns-clause-size
returns-clause-size c = λ o first n ds s below.
    let m = c.args.machine.now in
    let v = state_from m.end m.mode o first n in
    let times = ap (λ (r : Visible). r.times) c.visible.ensures.registers in
    let log = c.log.ensures.log ∙ s.shows.log in
    let repairs = c.repairs.ensures.repairs ∙ s.shows.repairs in
    let noted = noted-short first v (state_from_behind m.end m.mode o first n) (state_from_noted first below m.end m.mode o n)
    (omega (arith, times, c.visible.ensures.few, s.shows.steps)) (subst (All IsShortExchange) log c.in_ok-put_log.ensures.short)
    (subst (All IsShortRepair) repairs c.in_ok-put_repairs.ensures.short) in
    omega (
      arith,
      times,
      c.visible.ensures.few,
      s.shows.steps,
      noted,
      length-append {A = ℕ},
      ap length c.new-out.ensures.items,
      ap length c.in_ok-extend_from_slice.ensures.items,
      ap length c.title_line.ensures,
      length-title_line c.title_of.result,
      c.in_ok-put_end.ensures.short,
      c.in_ok-put_registers.ensures.short,
      ap length (c.in_ok-put_log.ensures.log ∙ ap (λ l. c.put_registers.new.out.items ++ log_text l) log),
      c.in_ok-put_shown_memory.ensures.short,
      c.in_ok-put_wrong.ensures.short,
      ap length (c.in_ok-put_repairs.ensures.lines ∙ ap (λ r. c.put_wrong.new.out.items ++ repairs_text r) repairs),
    )
