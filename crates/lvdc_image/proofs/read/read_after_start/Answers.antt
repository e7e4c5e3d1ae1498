use Rattle.std.proofs.Common.{◌≡◌, ℕ, ◌<◌, ◌≢◌, List, length, get_or, drop, None, Some, Result, Ok, Err, All, sym, ap, ◌∙◌, subst, arith}
use Rattle.std.specs.Result.{IfOk, IfErr}
use Rattle.std.specs.declared.option.Option.{Option}
use Rattle.std.proofs.lemmas.List.{drop_more, take_rest}
use Rattle.std.proofs.lemmas.List.Elements.{All-drop}
use Rattle.lvdc_map.specs.Hop.{HopConstant}
use Rattle.lvdc_text.specs.declared.cutting.Line.{Line}
use Rattle.lvdc_text.specs.Lines.{IsWithin, part_of, numbered_line, numbered}
use Rattle.lvdc_image.specs.Image.{Contents}
use Rattle.lvdc_image.specs.declared.fault.ImageFault.{ImageFault}
use Rattle.lvdc_image.specs.declared.fault.ImageFault.TheVariants.{NoMemory as WantsMemory}
use Rattle.lvdc_image.specs.Reading.{image_with, words_from, banks_in, by_banks, after_start}
use Rattle.lvdc_image.proofs.read.read_after_start.Goals as goal

-- what an index past the end reads
abbrev no_line : Line
no_line = record { number = 0; start = 0; end = 0 }

-- the first line tells the simplex pairs, or is a word's
by_first : (bytes : List ℕ) (lines : List Line) (start : HopConstant) (next : ℕ) (text : List ℕ) (read : Option ℕ) → 0 < length lines
    → text ≡ part_of bytes (get_or lines 0 no_line) → read ≡ banks_in text
    → by_banks start next (numbered_line bytes (get_or lines 0 no_line)) (numbered bytes (drop 1 lines)) read ≡ after_start start next (numbered bytes lines)
by_first bytes lines start next text read some reads told =
    ap (by_banks start next (numbered_line bytes (get_or lines 0 no_line)) (numbered bytes (drop 1 lines))) (told ∙ ap banks_in reads)
    ∙ sym (ap (λ (ls : List Line). after_start start next (numbered bytes ls)) (drop_more lines 0 no_line some))

by_words : (bytes : List ℕ) (lines : List Line) (start : HopConstant) (next : ℕ) (text : List ℕ) → 0 < length lines
    → text ≡ part_of bytes (get_or lines 0 no_line) → None ≡ banks_in text
    → image_with (Some start) 0 (words_from 0 0 next (numbered bytes lines)) ≡ after_start start next (numbered bytes lines)
by_words bytes lines start next text some reads told =
    ap (λ (ls : List Line). image_with (Some start) 0 (words_from 0 0 next (numbered bytes ls))) (drop_more lines 0 no_line some)
    ∙ by_first bytes lines start next text None some reads told

pub part-requires : goal.part-requires
part-requires c = c.requires.within 0 no_line (omega arith)

pub read_rest-requires-clause-size : goal.read_rest-requires-clause-size
read_rest-requires-clause-size c = c.requires.size

pub read_rest-requires-clause-within : goal.read_rest-requires-clause-within
read_rest-requires-clause-within c =
    subst (All (IsWithin c.args.bytes.now)) (sym (take_rest c.args.lines.now 1)) (All-drop (IsWithin c.args.bytes.now) 1 c.args.lines.now c.requires.within)

pub overflow_add-line : goal.overflow_add-line
overflow_add-line c =
    let line = c.requires.within 0 no_line (omega arith) in
    omega arith

pub returns-in-Some-clause-image : goal.returns-in-Some-clause-image
returns-in-Some-clause-image c =
    subst (λ (told : Result Contents ImageFault). IfOk c.read_rest.result (λ (image : Contents). told ≡ Ok image))
    (by_first c.args.bytes.now c.args.lines.now c.args.start c.args.next c.part.result.now (Some c.in-Some.banks) (omega arith) c.part.ensures c.in-Some.ensures)
    (rw (take_rest c.args.lines.now 1) at c.read_rest.ensures.image)

pub returns-in-Some-clause-refusal : goal.returns-in-Some-clause-refusal
returns-in-Some-clause-refusal c =
    subst (λ (told : Result Contents ImageFault). IfErr c.read_rest.result (λ (fault : ImageFault). fault ≢ WantsMemory → told ≡ Err fault))
    (by_first c.args.bytes.now c.args.lines.now c.args.start c.args.next c.part.result.now (Some c.in-Some.banks) (omega arith) c.part.ensures c.in-Some.ensures)
    (rw (take_rest c.args.lines.now 1) at c.read_rest.ensures.refusal)

pub returns-in-None-clause-image : goal.returns-in-None-clause-image
returns-in-None-clause-image c =
    subst (λ (told : Result Contents ImageFault). IfOk c.read_rest-in-None.result (λ (image : Contents). told ≡ Ok image))
    (by_words c.args.bytes.now c.args.lines.now c.args.start c.args.next c.part.result.now (omega arith) c.part.ensures c.in-None.ensures)
    c.read_rest-in-None.ensures.image

pub returns-in-None-clause-refusal : goal.returns-in-None-clause-refusal
returns-in-None-clause-refusal c =
    subst (λ (told : Result Contents ImageFault). IfErr c.read_rest-in-None.result (λ (fault : ImageFault). fault ≢ WantsMemory → told ≡ Err fault))
    (by_words c.args.bytes.now c.args.lines.now c.args.start c.args.next c.part.result.now (omega arith) c.part.ensures c.in-None.ensures)
    c.read_rest-in-None.ensures.refusal
