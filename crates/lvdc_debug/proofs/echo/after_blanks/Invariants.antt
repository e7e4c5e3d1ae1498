use Rattle.std.proofs.Common.{◌≡◌, ◌≤◌, ◌+◌, ◌-◌, length, drop}
use Rattle.std.specs.List.{prefix_len}
use Rattle.lvdc_text.specs.Lines.{is_blank}
use Rattle.lvdc_debug.proofs.echo.after_blanks.Given as goal

-- all bytes so far are blanks
abbrev pub invariant-loop-start : goal.invariant-loop-start
invariant-loop-start l = record {
  within : l.start ≤ length l.text;
  blanks : prefix_len is_blank l.text ≡ l.start + prefix_len is_blank (drop l.start l.text);
}

abbrev pub decreases-loop-start : goal.decreases-loop-start
decreases-loop-start l = length l.text - l.start
