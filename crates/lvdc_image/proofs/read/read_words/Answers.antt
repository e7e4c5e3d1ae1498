use Rattle.std.proofs.Common.{◌≡◌, ◌+◌, ◌++◌, ◌∷◌, [], ℕ, List, Err, drop, get_or, is_ok, ap, sym, ◌∙◌, arith}
use Rattle.std.proofs.ResultArms.{chosen}
use Rattle.lvdc_map.specs.declared.placed.Placed.{Placed}
use Rattle.lvdc_text.specs.declared.cutting.Line.{Line}
use Rattle.lvdc_image.specs.declared.fault.ImageFault.TheVariants.{BadImageLine}
use Rattle.lvdc_text.specs.Lines.{numbered}
use Rattle.lvdc_image.specs.Reading.{words_from}
use Rattle.lvdc_image.proofs.WordLines.{with_words, at_end, at_line_after_end, at_word, at_fault, at_missing_end}
use Rattle.lvdc_image.proofs.read.read_words.Goals as goal

-- what an index past the end reads
abbrev no_line : Line
no_line = record { number = 0; start = 0; end = 0 }

pub returns-in-None-clause-words : goal.returns-in-None-clause-words
returns-in-None-clause-words c =
    at_end c.args.bytes.now c.loop-index.words.items c.args.banks c.loop-index.least c.loop-index.next c.loop-index.index c.args.lines.now no_line c.part-text.result.now c.is_end.result
    _ c.loop-index-test.true c.part-text.ensures c.is_end.ensures c.loop-index.invariant c.if-is_end.true c.in-None.ensures.lookup.3

pub returns-in-Some-clause-refusal : goal.returns-in-Some-clause-refusal
returns-in-Some-clause-refusal c = λ _.
    at_line_after_end c.args.bytes.now c.loop-index.words.items c.args.banks c.loop-index.least c.loop-index.next c.loop-index.index c.args.lines.now no_line c.part-text.result.now c.is_end.result
    _ c.loop-index-test.true c.part-text.ensures c.is_end.ensures c.loop-index.invariant c.if-is_end.true c.in-Some.ensures.lookup.3.0
    ∙ ap (λ (line : Line). Err (BadImageLine line.number)) (sym (c.in-Some.ensures.lookup.4 (omega arith) no_line))

pub returns-in-Err-clause-refusal : goal.returns-in-Err-clause-refusal
returns-in-Err-clause-refusal c = λ _.
    at_fault c.args.bytes.now c.loop-index.words.items c.args.banks c.loop-index.least c.loop-index.next c.loop-index.index c.args.lines.now no_line c.part-text.result.now c.is_end.result
    _ c.loop-index-test.true c.part-text.ensures c.is_end.ensures c.loop-index.invariant c.in-Err.fault c.if-is_end.false c.in-Err.ensures

pub loop-index-preserved : goal.loop-index-preserved
loop-index-preserved c =
    let pushed : c.push.new.self.items ≡ c.loop-index.words.items ++ c.in-Ok.placed ∷ [] = chosen _ _ _ _ c.push.ensures.items (ap is_ok c.in_ok-push.was) in
    ap (λ (ws : List Placed). with_words ws (words_from c.args.banks (c.number-least.result + 1) ((get_or c.args.lines.now c.loop-index.index no_line).number + 1) (numbered c.args.bytes.now (drop (c.loop-index.index + 1) c.args.lines.now)))) pushed
    ∙ ap (λ (place : ℕ). with_words (c.loop-index.words.items ++ c.in-Ok.placed ∷ []) (words_from c.args.banks (place + 1) ((get_or c.args.lines.now c.loop-index.index no_line).number + 1) (numbered c.args.bytes.now (drop (c.loop-index.index + 1) c.args.lines.now)))) c.number-least.ensures.value
    ∙ at_word c.args.bytes.now c.loop-index.words.items c.args.banks c.loop-index.least c.loop-index.next c.loop-index.index c.args.lines.now no_line c.part-text.result.now c.is_end.result
    _ c.loop-index-test.true c.part-text.ensures c.is_end.ensures c.loop-index.invariant c.in-Ok.placed c.if-is_end.false c.in-Ok.ensures

pub returns-clause-refusal : goal.returns-clause-refusal
returns-clause-refusal c = λ _.
    at_missing_end c.args.bytes.now c.loop-index.words.items c.args.banks c.loop-index.least c.loop-index.next c.loop-index.index c.args.lines.now _ c.loop-index-test.false c.loop-index.invariant
