use Rattle.std.proofs.Common.{◌+◌}
use Rattle.std.proofs.lemmas.List.{take_rest}
use Rattle.std.proofs.lemmas.List.Elements.{All-drop, All-take}
use Rattle.lvdc_text.specs.Lines.{IsWithin}
use Rattle.lvdc_uplink.proofs.input.parts_after.Goals as goal

pub from_heading-requires-clause-within : goal.from_heading-requires-clause-within
from_heading-requires-clause-within c = rw c.split_at.ensures.back (All-drop (IsWithin c.args.bytes.now) (c.in-Some.at + 1) c.args.lines.now c.requires.within)

pub returns-in-Ok-clause-image : goal.returns-in-Ok-clause-image
returns-in-Ok-clause-image c = rw c.split_at.ensures.front (All-take (IsWithin c.args.bytes.now) (c.in-Some.at + 1) c.args.lines.now c.requires.within)

pub returns-in-Ok-clause-messages : goal.returns-in-Ok-clause-messages
returns-in-Ok-clause-messages c = rw take_rest (All-drop (IsWithin c.args.bytes.now) 1 c.in-Ok.found.now c.in-Ok.ensures.within)
