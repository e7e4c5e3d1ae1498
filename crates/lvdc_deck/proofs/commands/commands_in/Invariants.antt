use Rattle.std.proofs.Common.{◌≡◌, ◌≤◌, drop, length, All}
use Rattle.lvdc_text.specs.Lines.{IsWithin, part_of}
use Rattle.lvdc_text.specs.declared.cutting.Line.{Line}
use Rattle.lvdc_deck.specs.Deck.{commands_from}
use Rattle.lvdc_text.specs.declared.comment.TheConstants.{LONGEST_LINE}
use Rattle.lvdc_deck.proofs.Steps.{and_commands}
use Rattle.lvdc_deck.proofs.commands.commands_in.Given as goal

abbrev pub invariant-loop-line : goal.invariant-loop-line
invariant-loop-line l = record {
  so_far : and_commands l.commands.items (commands_from l.bytes (drop l.line-index l.lines)) ≡ commands_from l.bytes l.lines;
  within : All (IsWithin l.bytes) l.commands.items;
  short : All (λ (line : Line). length (part_of l.bytes line) ≤ LONGEST_LINE) l.commands.items;
}
