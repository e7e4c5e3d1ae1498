use Rattle.std.proofs.Common.{List, map, sym, ap, ◌∙◌}
use Rattle.lvdc_console.specs.Commands.{command_of}
use Rattle.lvdc_service.specs.declared.parts.Part.{Part}
use Rattle.lvdc_service.specs.Parts.{part_of}
use Rattle.lvdc_service.proofs.frame.answer_frame.Goals as goal

pub answer_others-requires-clause-others : goal.answer_others-requires-clause-others
answer_others-requires-clause-others g c =
    ap (λ (parts : List Part). command_of (map (part_of c.args.line.now) parts)) (sym c.as_slice.ensures.value)
    ∙ sym c.command_of.ensures ∙ c.in-None.is
