use Rattle.std.proofs.Common.{◌≡◌, ◌++◌, length, drop}
use Rattle.lvdc_text.specs.Numbers.{octal_text}
use Rattle.lvdc_text.proofs.numbers.fill_octal.Given as goal

-- the last digits are written, and the rest has the first ones
abbrev pub invariant-loop-at : goal.invariant-loop-at
invariant-loop-at l = record {
  size : length l.digits ≡ length l.initial.digits;
  split : octal_text l.at l.rest ++ drop l.at l.digits ≡ octal_text (length l.initial.digits) l.value;
}
