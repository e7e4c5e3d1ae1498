use Rattle.std.proofs.Common.{◌≡◌, ℕ, ◌<◌, ◌^◌, ◌++◌, All, drop, take}
use Rattle.lvdc_lines.specs.Noted.{lines_of}
use Rattle.lvdc_save.specs.Lines.{word_after}
use Rattle.lvdc_save.proofs.parts.put_words.Given as goal

abbrev pub invariant-loop-word : goal.invariant-loop-word
invariant-loop-word l = record {
  line : l.out.items ++ lines_of word_after (drop l.word-index l.words) ≡ l.initial.out.items ++ lines_of word_after l.words;
  words : All (λ (word : ℕ). word < 2 ^ 26) (take l.word-index l.words);
}
