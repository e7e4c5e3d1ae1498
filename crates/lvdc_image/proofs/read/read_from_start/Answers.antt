use Rattle.std.proofs.Common.{◌≡◌, ℕ, ◌<◌, ◌≢◌, List, length, get_or, drop, Result, Ok, Err, All, sym, ap, ◌∙◌, subst, arith}
use Rattle.std.specs.Result.{IfOk, IfErr}
use Rattle.std.proofs.lemmas.List.{drop_more, take_rest}
use Rattle.std.proofs.lemmas.List.Elements.{All-drop}
use Rattle.lvdc_map.specs.Hop.{HopConstant}
use Rattle.lvdc_text.specs.declared.cutting.Line.{Line}
use Rattle.lvdc_text.specs.Lines.{IsWithin, part_of, numbered}
use Rattle.lvdc_image.specs.Image.{Contents}
use Rattle.lvdc_image.specs.declared.fault.ImageFault.{ImageFault}
use Rattle.lvdc_image.specs.declared.fault.ImageFault.TheVariants.{NoMemory as WantsMemory}
use Rattle.lvdc_image.specs.Reading.{start_number, start_of, by_start, from_start}
use Rattle.lvdc_image.proofs.read.read_from_start.Goals as goal

-- what an index past the end reads
abbrev no_line : Line
no_line = record { number = 0; start = 0; end = 0 }

-- the first line tells the start constant, and the others what comes after it
by_first : (bytes : List ℕ) (lines : List Line) (next : ℕ) (text : List ℕ) (read : Result HopConstant ImageFault) → 0 < length lines
    → text ≡ part_of bytes (get_or lines 0 no_line) → read ≡ start_of (get_or lines 0 no_line).number (start_number text)
    → by_start read (get_or lines 0 no_line).number (numbered bytes (drop 1 lines)) ≡ from_start next (numbered bytes lines)
by_first bytes lines next text read some reads told =
    ap (λ (start : Result HopConstant ImageFault). by_start start (get_or lines 0 no_line).number (numbered bytes (drop 1 lines)))
    (told ∙ ap (λ (t : List ℕ). start_of (get_or lines 0 no_line).number (start_number t)) reads)
    ∙ sym (ap (λ (ls : List Line). from_start next (numbered bytes ls)) (drop_more lines 0 no_line some))

pub part-requires : goal.part-requires
part-requires c = c.requires.within 0 no_line (omega arith)

pub read_after_start-requires-clause-size : goal.read_after_start-requires-clause-size
read_after_start-requires-clause-size c = c.requires.size

pub read_after_start-requires-clause-within : goal.read_after_start-requires-clause-within
read_after_start-requires-clause-within c =
    subst (All (IsWithin c.args.bytes.now)) (sym (take_rest c.args.lines.now 1)) (All-drop (IsWithin c.args.bytes.now) 1 c.args.lines.now c.requires.within)

pub overflow_add-line : goal.overflow_add-line
overflow_add-line c =
    let line = c.requires.within 0 no_line (omega arith) in
    omega arith

pub returns-in-Ok-clause-image : goal.returns-in-Ok-clause-image
returns-in-Ok-clause-image c =
    subst (λ (told : Result Contents ImageFault). IfOk c.read_after_start.result (λ (image : Contents). told ≡ Ok image))
    (by_first c.args.bytes.now c.args.lines.now c.args.next c.part.result.now (Ok c.in-Ok.start) (omega arith) c.part.ensures c.in-Ok.ensures)
    (rw (take_rest c.args.lines.now 1) at c.read_after_start.ensures.image)

pub returns-in-Ok-clause-refusal : goal.returns-in-Ok-clause-refusal
returns-in-Ok-clause-refusal c =
    subst (λ (told : Result Contents ImageFault). IfErr c.read_after_start.result (λ (fault : ImageFault). fault ≢ WantsMemory → told ≡ Err fault))
    (by_first c.args.bytes.now c.args.lines.now c.args.next c.part.result.now (Ok c.in-Ok.start) (omega arith) c.part.ensures c.in-Ok.ensures)
    (rw (take_rest c.args.lines.now 1) at c.read_after_start.ensures.refusal)

pub returns-in-Err-clause-refusal : goal.returns-in-Err-clause-refusal
returns-in-Err-clause-refusal c = λ _.
    sym (by_first c.args.bytes.now c.args.lines.now c.args.next c.part.result.now (Err c.in-Err.fault) (omega arith) c.part.ensures c.in-Err.ensures)
