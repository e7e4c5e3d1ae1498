use Rattle.std.proofs.Common.{ℕ, ◌++◌, ap, ◌∙◌, [], length, arith, length-append}
use Rattle.lvdc_plain.specs.View.{visible_of}
use Rattle.lvdc_lines.specs.Noted.{exchange_line, log_text}
use Rattle.lvdc_report.specs.Report.{title_line, end_text, outcome_of, registers_text, memory_text, all_known}
use Rattle.lvdc_report.specs.declared.title.Title.TheVariants.{Plain}
use Rattle.lvdc_lines.proofs.LineLists.{onward}
use Rattle.lvdc_lines.proofs.LineSizes.{length-lines}
use Rattle.lvdc_report.proofs.Shown.{plain_text_shown}
use Rattle.lvdc_report.proofs.report.report_plain.Goals as goal

pub returns-clause-text : goal.returns-clause-text
returns-clause-text c = λ p s.
    let m = c.args.plain.now in
    let title = title_line Plain in
    let end = title ++ end_text (outcome_of c.args.end) in
    let registers = end ++ registers_text (visible_of m) in
    let log = registers ++ log_text m.log in
    onward [] log (memory_text m.banks p.memory all_known) _ _
    (onward [] registers (log_text m.log) _ _
    (onward [] end (registers_text (visible_of m)) _ _
    (onward [] title (end_text (outcome_of c.args.end)) _ _
    (c.in_ok-extend_from_slice.ensures.items ∙ ap (λ t. t ++ c.title_line.result.now) c.new-out.ensures.items ∙ c.title_line.ensures)
    (c.in_ok-put_end.ensures.text ∙ ap (λ e. c.extend_from_slice.new.self.items ++ end_text e) c.outcome_of.ensures))
    (c.in_ok-put_registers.ensures.text ∙ ap (λ r. c.put_end.new.out.items ++ registers_text r) c.visible.ensures))
    (c.in_ok-put_log.ensures.log ∙ ap (λ l. c.put_registers.new.out.items ++ log_text l) c.log.ensures.log))
    (c.in_ok-put_memory.ensures.lines p.memory s.memory)
    ∙ plain_text_shown Plain c.args.end m p s

pub returns-clause-size : goal.returns-clause-size
returns-clause-size c =
    omega (
      arith,
      length-append {A = ℕ},
      ap length c.new-out.ensures.items,
      ap length c.in_ok-extend_from_slice.ensures.items,
      ap length c.title_line.ensures,
      c.in_ok-put_end.ensures.short,
      c.in_ok-put_registers.ensures.short,
      ap length c.in_ok-put_log.ensures.log,
      length-lines exchange_line 39 c.log.result.now c.in_ok-put_log.ensures.short,
      c.log.ensures.few,
      c.in_ok-put_memory.ensures.short,
    )
