use Rattle.std.proofs.Common.{◌≡◌, ◌+◌, ◌-◌, ◌≤◌, ◌++◌, length, drop, map, All}
use Rattle.std.specs.List.{slice_split}
use Rattle.lvdc_service.specs.Frames.{is_space}
use Rattle.lvdc_service.specs.Parts.{part_of, LiesIn}
use Rattle.lvdc_service.proofs.parts.parts.Given as goal

-- the parts so far, and those of what is left
abbrev pub invariant-loop-parts : goal.invariant-loop-parts
invariant-loop-parts g l = record {
  within : l.start ≤ length l.line;
  each : All (LiesIn l.line) l.parts.items;
  split : map (part_of l.line) l.parts.items ++ slice_split is_space (drop l.start l.line) ≡ slice_split is_space l.line;
}

abbrev pub decreases-loop-parts : goal.decreases-loop-parts
decreases-loop-parts g l = length l.line + 1 - l.start
