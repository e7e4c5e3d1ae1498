use Rattle.std.proofs.Common.{◌<◌, Result, map, drop}
use Rattle.lvdc_text.specs.Lines.{part_of}
use Rattle.lvdc_macro.specs.declared.fault.MacroFault.{MacroFault}
use Rattle.lvdc_macro.specs.Making.{Out, progress_of, macros_of, Meets}
use Rattle.lvdc_macro.specs.Substitution.{substituted}
use Rattle.lvdc_macro.specs.Expansion.{called}
use Rattle.lvdc_macro.proofs.Calling.{body_from}
use Rattle.lvdc_macro.proofs.source.+call.Given as goal

abbrev pub decreases-call : goal.decreases-call
decreases-call l = l.left

-- what meets the lines that are left meets the call
abbrev pub invariant-loop-line : goal.invariant-loop-line
invariant-loop-line l = record {
  number : l.number < 1000;
  some : 0 < l.left;
  rest : (result : Result (Unit {0}) MacroFault) (new : Out) →
      Meets result (body_from l.left (macros_of l.bytes l.macros) l.calling.origin (progress_of l.out) (map (substituted l.number (map (λ a. a.now) l.entered.arguments.items)) (map (part_of l.bytes) (drop l.line-index l.calling.body.now)))) l.out new →
      Meets result (called l.left (macros_of l.bytes l.macros) l.calling.origin (progress_of l.fn.out) l.calling.labelled l.calling.operand.now (map (part_of l.bytes) l.calling.body.now)) l.fn.out new;
}
