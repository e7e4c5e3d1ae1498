use Rattle.std.proofs.Common.{◌≡◌, ◌-◌, ◌≤◌, ◌++◌, length}
use Rattle.lvdc_text.specs.Lines.{tokens_left, tokens_of}
use Rattle.lvdc_text.proofs.cutting.cut_few_tokens.Given as goal

-- the tokens so far, and what is left
abbrev pub invariant-loop-token : goal.invariant-loop-token
invariant-loop-token g l = record {
  within : l.start ≤ length l.text;
  split : l.tokens.items ++ tokens_left l.start l.text ≡ tokens_of l.text;
}

abbrev pub decreases-loop-token : goal.decreases-loop-token
decreases-loop-token g l = length l.text - l.start
