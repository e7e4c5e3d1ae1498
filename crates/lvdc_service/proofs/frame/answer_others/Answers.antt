use Rattle.std.proofs.Common.{List, map, sym, ap, ◌∙◌}
use Rattle.lvdc_console.specs.Words.{inquiry_of}
use Rattle.lvdc_service.specs.declared.parts.Part.{Part}
use Rattle.lvdc_service.specs.Parts.{part_of}
use Rattle.lvdc_service.specs.Served.{usage}
use Rattle.lvdc_service.proofs.frame.answer_others.Goals as goal

pub returns-in-None : goal.returns-in-None
returns-in-None g c =
    let other = ap (λ (parts : List Part). inquiry_of (map (part_of c.args.line.now) parts)) (sym c.as_slice.ensures.value) in
    c.pass.ensures _ (λ input size. usage c.requires.others (other ∙ sym c.inquiry_of.ensures.value ∙ c.in-None.is))
