use Rattle.std.proofs.Common.{◌*◌, ◌∙◌, sym, arith}
use Rattle.lvdc_machine.specs.Stands.{state_by}
use Rattle.lvdc_debug.proofs.Entries.{entry_is}
use Rattle.lvdc_debug.proofs.Showing.{state_shown}
use Rattle.lvdc_debug.proofs.Spread.{answer-short}
use Rattle.lvdc_debug.proofs.course.Course.take_line.Goals as goal

pub returns-in_ok-put_answer-in-Ok-clause-text : goal.returns-in_ok-put_answer-in-Ok-clause-text
returns-in_ok-put_answer-in-Ok-clause-text g c = λ o s opens st is.
    let m = c.carry_out-all.new.machine in
    let d = c.carry_out-all.new.self in
    let stands = (c.carry_out-all.ensures.moves.goes o st).stands in
    entry_is o s c.args.self.now d c.args.text.now c.in-Ok.command c.carry_out-all.result (state_by m.end m.mode o (3 * d.asked)) c.args.out.now.items
    c.put_echo.new.out.items c.put_answer.new.out.items c.in-Ok.ensures.command (c.carry_out-all.ensures.went o s opens st is) is.trial
    (is.state d.asked (omega arith) ∙ sym (state_shown o d.asked m _ (c.judges_alone.ensures o opens) c.carry_out-all.ensures.ready.mode stands))
    c.in_ok-put_echo-in-Ok.ensures.line (c.in_ok-put_answer-in-Ok.ensures.text o (3 * d.asked) _ stands)

pub returns-in_ok-put_answer-in-Ok-clause-short : goal.returns-in_ok-put_answer-in-Ok-clause-short
returns-in_ok-put_answer-in-Ok-clause-short g c =
    let few = answer-short c.args.text.now c.in-Ok.command c.in-Ok.ensures.command c.in-Ok.ensures.ranges in
    omega (arith, few, c.in_ok-put_echo-in-Ok.ensures.short, c.in_ok-put_answer-in-Ok.ensures.short)
