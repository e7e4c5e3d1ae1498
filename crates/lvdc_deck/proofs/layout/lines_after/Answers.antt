use Rattle.std.proofs.Common.{◌+◌}
use Rattle.std.proofs.lemmas.List.{take_rest}
use Rattle.std.proofs.lemmas.List.Elements.{All-drop}
use Rattle.lvdc_text.specs.Lines.{IsWithin}
use Rattle.lvdc_deck.proofs.layout.lines_after.Goals as goal

pub returns-in-Some-clause-within : goal.returns-in-Some-clause-within
returns-in-Some-clause-within c = λ bytes all. rw take_rest (All-drop (IsWithin bytes) (c.in-Some.at + 1) c.args.lines.now all)
