use Rattle.std.proofs.Common.{map, ap, ◌∙◌}
use Rattle.lvdc_text.specs.Lines.{part_of}
use Rattle.lvdc_trace.specs.Answers.{begins_saved}
use Rattle.lvdc_trace.proofs.saved.is_saved.Goals as goal

pub returns : goal.returns
returns c =
    c.begins_with_title.ensures ∙ ap (λ lines. begins_saved (map (part_of c.args.bytes.now) lines)) c.deref.ensures.value ∙ ap begins_saved c.in_ok-found.ensures.texts
