use Rattle.std.proofs.Common.{◌≡◌, ◌++◌, ◌∙◌, ap, arith}
use Rattle.lvdc_machine.specs.Stands.{state_by, shown_of}
use Rattle.lvdc_debug.specs.Session.{further, instruction_shown, dis_text}
use Rattle.lvdc_debug.proofs.Lines.{below_none, below_more}
use Rattle.lvdc_debug.proofs.texts.put_dis.Goals as goal

pub loop-more-init : goal.loop-more-init
loop-more-init c = record {
  lines = λ o t ds s. below_none _ c.args.out.now.items;
  short = omega arith;
}

pub loop-more-preserved : goal.loop-more-preserved
loop-more-preserved c = record {
  lines = λ o t ds s.
      let v = state_by c.args.machine.now.end c.args.machine.now.mode o t in
      below_more (λ more. instruction_shown (further c.args.at more) c.args.syl (shown_of o v (further c.args.at more))) c.loop-more.more c.args.out.now.items c.loop-more.out.items
      c.put_instruction.new.out.items (c.loop-more.invariant.lines o t ds s) (rw c.further.ensures at (c.in_ok-put_instruction.ensures.line o t ds s));
  short = omega (arith, c.in_ok-put_instruction.ensures.short);
}

pub returns-clause-lines : goal.returns-clause-lines
returns-clause-lines c = λ o t ds s.
    let v = state_by c.args.machine.now.end c.args.machine.now.mode o t in
    let all : c.loop-more.more ≡ c.args.count = omega arith in
    c.loop-more.invariant.lines o t ds s ∙ ap (λ n. c.args.out.now.items ++ dis_text o v c.args.at c.args.syl n) all
