use Rattle.std.proofs.Common.{◌+◌}
use Rattle.lvdc_lines.proofs.LineLists.{lines_below_none, lines_below_more}
use Rattle.lvdc_trace.specs.Steps.{told_copies}
use Rattle.lvdc_trace.proofs.copies.put_copies.Goals as goal

pub loop-before-init : goal.loop-before-init
loop-before-init c = lines_below_none (λ modules. told_copies c.args.machine.now.copies (modules + 1)) c.args.out.now.items

pub loop-before-preserved : goal.loop-before-preserved
loop-before-preserved c =
    lines_below_more (λ modules. told_copies c.args.machine.now.copies (modules + 1)) c.loop-before.before c.args.out.now.items c.loop-before.out.items
    c.put_module_copies.new.out.items c.loop-before.invariant c.in_ok-put_module_copies.ensures
