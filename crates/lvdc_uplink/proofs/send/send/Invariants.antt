use Rattle.std.proofs.Common.{◌≡◌, ◌+◌, ◌*◌, ◌≤◌, ◌++◌, length, map, drop}
use Rattle.lvdc_text.specs.Lines.{part_of}
use Rattle.lvdc_uplink.specs.History.{answers_from, link_after}
use Rattle.lvdc_uplink.specs.Answers.{answers_text}
use Rattle.lvdc_uplink.proofs.send.send.Given as goal

abbrev pub invariant-loop-line : goal.invariant-loop-line
invariant-loop-line l = record {
  link : link_after l.uplink (map (part_of l.bytes) (drop l.line-index l.lines)) ≡ link_after l.initial.uplink (map (part_of l.bytes) l.lines);
  text : l.out.items ++ answers_text (answers_from l.uplink (map (part_of l.bytes) (drop l.line-index l.lines)))
      ≡ l.initial.out.items ++ answers_text (answers_from l.initial.uplink (map (part_of l.bytes) l.lines));
  short : length l.out.items ≤ length l.initial.out.items + 32 * l.line-index;
}
