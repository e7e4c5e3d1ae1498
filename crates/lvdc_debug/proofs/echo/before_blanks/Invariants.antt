use Rattle.std.proofs.Common.{◌≡◌, ◌≤◌, ◌+◌, ◌-◌, length, take}
use Rattle.std.specs.List.{suffix_len}
use Rattle.lvdc_text.specs.Lines.{is_blank}
use Rattle.lvdc_debug.proofs.echo.before_blanks.Given as goal

-- all bytes from the end on are blanks
abbrev pub invariant-loop-end : goal.invariant-loop-end
invariant-loop-end l = record {
  within : l.end ≤ length l.text;
  blanks : suffix_len is_blank l.text ≡ length l.text - l.end + suffix_len is_blank (take l.end l.text);
}

abbrev pub decreases-loop-end : goal.decreases-loop-end
decreases-loop-end l = l.end
