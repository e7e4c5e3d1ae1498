use Rattle.std.proofs.Common.{ℕ, ◌<◌, ◌^◌, All, subst}
use Rattle.std.proofs.lemmas.List.{take_all}
use Rattle.std.proofs.lemmas.List.Elements.{All-more}
use Rattle.lvdc_save.specs.Lines.{word_after}
use Rattle.lvdc_lines.proofs.LineLists.{lines_of_more, lines_of_done}
use Rattle.lvdc_save.proofs.parts.put_words.Goals as goal

pub loop-word-preserved : goal.loop-word-preserved
loop-word-preserved c = record {
  line = lines_of_more word_after c.loop-word.word-index c.args.words.now c.word-item.result c.loop-word.out.items c.put_word.new.out.items _
      c.loop-word-test.true c.word-item.is c.in_ok-put_word.ensures.line c.loop-word.invariant.line;
  words = All-more (λ (word : ℕ). word < 2 ^ 26) c.args.words.now c.loop-word.word-index c.word-item.result c.loop-word-test.true c.loop-word.invariant.words
      (subst (λ (word : ℕ). word < 2 ^ 26) c.word-item.is c.in_ok-put_word.ensures.word);
}

pub returns-clause-line : goal.returns-clause-line
returns-clause-line c = lines_of_done word_after c.loop-word.word-index c.args.words.now c.loop-word.out.items _ c.loop-word-test.false c.loop-word.invariant.line

pub returns-clause-words : goal.returns-clause-words
returns-clause-words c = subst (All (λ (word : ℕ). word < 2 ^ 26)) (take_all c.loop-word.word-index c.args.words.now c.loop-word-test.false) c.loop-word.invariant.words
