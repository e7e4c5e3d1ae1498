use Rattle.std.proofs.Common.{◌≡◌, ℕ, ◌+◌, ◌<◌, ◌≢◌, Bool, true, false, List, length, get_or, drop, ◌∷◌, codes, None, Result, Ok, Err, All, sym, ap, ◌∙◌, subst, arith}
use Rattle.std.specs.Str.{bytes_eq}
use Rattle.std.specs.Result.{IfOk, IfErr}
use Rattle.std.proofs.lemmas.List.{drop_more, take_rest}
use Rattle.std.proofs.lemmas.List.Elements.{All-drop}
use Rattle.lvdc_text.specs.declared.cutting.Line.{Line}
use Rattle.lvdc_text.specs.Lines.{IsWithin, part_of, numbered}
use Rattle.lvdc_image.specs.Image.{Contents}
use Rattle.lvdc_image.specs.declared.fault.ImageFault.{ImageFault}
use Rattle.lvdc_image.specs.declared.fault.ImageFault.TheVariants.{NoMemory as WantsMemory, BadImageLine}
use Rattle.lvdc_image.specs.Reading.{image_with, words_from, from_start, image_of}
use Rattle.lvdc_image.proofs.read.read_by_version.Goals as goal

-- what an index past the end reads
abbrev no_line : Line
no_line = record { number = 0; start = 0; end = 0 }

of_first_version : (bytes : List ℕ) (line : Line) (lines : List Line) → bytes_eq (part_of bytes line) (codes "LVDC 1") ≡ true
    → image_of (numbered bytes (line ∷ lines)) ≡ image_with None 0 (words_from 0 0 (line.number + 1) (numbered bytes lines))
unfolding image_of
of_first_version bytes line lines first = rw first

of_second_version : (bytes : List ℕ) (line : Line) (lines : List Line) → bytes_eq (part_of bytes line) (codes "LVDC 1") ≡ false → bytes_eq (part_of bytes line) (codes "LVDC 2") ≡ true
    → image_of (numbered bytes (line ∷ lines)) ≡ from_start (line.number + 1) (numbered bytes lines)
unfolding image_of
of_second_version bytes line lines first second = rw (first, second)

of_no_version : (bytes : List ℕ) (line : Line) (lines : List Line) → bytes_eq (part_of bytes line) (codes "LVDC 1") ≡ false → bytes_eq (part_of bytes line) (codes "LVDC 2") ≡ false
    → image_of (numbered bytes (line ∷ lines)) ≡ Err (BadImageLine line.number)
unfolding image_of
of_no_version bytes line lines first second = rw (first, second)

-- the line has this name, or it has not
has_name : (line text written name : List ℕ) (same is : Bool) → text ≡ line → written ≡ name → same ≡ bytes_eq text written → same ≡ is → bytes_eq line name ≡ is
has_name line text written name same is reads writes tests e =
    ap (λ (t : List ℕ). bytes_eq t name) (sym reads) ∙ ap (λ (n : List ℕ). bytes_eq text n) (sym writes) ∙ sym tests ∙ e

by_first : (bytes : List ℕ) (lines : List Line) → 0 < length lines → image_of (numbered bytes lines) ≡ image_of (numbered bytes (get_or lines 0 no_line ∷ drop 1 lines))
by_first bytes lines some = ap (λ (ls : List Line). image_of (numbered bytes ls)) (drop_more lines 0 no_line some)

pub part-text-requires : goal.part-text-requires
part-text-requires c = c.requires.within 0 no_line (omega arith)

pub read_rest-requires-clause-size : goal.read_rest-requires-clause-size
read_rest-requires-clause-size c = c.requires.size

pub read_rest-requires-clause-within : goal.read_rest-requires-clause-within
read_rest-requires-clause-within c =
    subst (All (IsWithin c.args.bytes.now)) (sym (take_rest c.args.lines.now 1)) (All-drop (IsWithin c.args.bytes.now) 1 c.args.lines.now c.requires.within)

pub read_from_start-requires-clause-size : goal.read_from_start-requires-clause-size
read_from_start-requires-clause-size c = c.requires.size

pub read_from_start-requires-clause-within : goal.read_from_start-requires-clause-within
read_from_start-requires-clause-within c =
    subst (All (IsWithin c.args.bytes.now)) (sym (take_rest c.args.lines.now 1)) (All-drop (IsWithin c.args.bytes.now) 1 c.args.lines.now c.requires.within)

pub overflow_add-line : goal.overflow_add-line
overflow_add-line c =
    let line = c.requires.within 0 no_line (omega arith) in
    omega arith

pub overflow_add-line-then-eq-2 : goal.overflow_add-line-then-eq-2
overflow_add-line-then-eq-2 c =
    let line = c.requires.within 0 no_line (omega arith) in
    omega arith

pub returns-then-eq-clause-image : goal.returns-then-eq-clause-image
returns-then-eq-clause-image c =
    let first = has_name _ _ _ (codes "LVDC 1") _ _ c.part-text.ensures c.as_slice.ensures c.eq.ensures c.if-eq.true in
    subst (λ (told : Result Contents ImageFault). IfOk c.read_rest.result (λ (image : Contents). told ≡ Ok image))
    (sym (by_first c.args.bytes.now c.args.lines.now (omega arith) ∙ of_first_version c.args.bytes.now _ _ first))
    (rw (take_rest c.args.lines.now 1) at c.read_rest.ensures.image)

pub returns-then-eq-clause-refusal : goal.returns-then-eq-clause-refusal
returns-then-eq-clause-refusal c =
    let first = has_name _ _ _ (codes "LVDC 1") _ _ c.part-text.ensures c.as_slice.ensures c.eq.ensures c.if-eq.true in
    subst (λ (told : Result Contents ImageFault). IfErr c.read_rest.result (λ (fault : ImageFault). fault ≢ WantsMemory → told ≡ Err fault))
    (sym (by_first c.args.bytes.now c.args.lines.now (omega arith) ∙ of_first_version c.args.bytes.now _ _ first))
    (rw (take_rest c.args.lines.now 1) at c.read_rest.ensures.refusal)

pub returns-then-eq-2-clause-image : goal.returns-then-eq-2-clause-image
returns-then-eq-2-clause-image c =
    let first = has_name _ _ _ (codes "LVDC 1") _ _ c.part-text.ensures c.as_slice.ensures c.eq.ensures c.if-eq.false in
    let second = has_name _ _ _ (codes "LVDC 2") _ _ c.part-text.ensures c.as_slice-else-eq.ensures c.eq-else-eq.ensures c.if-eq-2.true in
    subst (λ (told : Result Contents ImageFault). IfOk c.read_from_start.result (λ (image : Contents). told ≡ Ok image))
    (sym (by_first c.args.bytes.now c.args.lines.now (omega arith) ∙ of_second_version c.args.bytes.now _ _ first second))
    (rw (take_rest c.args.lines.now 1) at c.read_from_start.ensures.image)

pub returns-then-eq-2-clause-refusal : goal.returns-then-eq-2-clause-refusal
returns-then-eq-2-clause-refusal c =
    let first = has_name _ _ _ (codes "LVDC 1") _ _ c.part-text.ensures c.as_slice.ensures c.eq.ensures c.if-eq.false in
    let second = has_name _ _ _ (codes "LVDC 2") _ _ c.part-text.ensures c.as_slice-else-eq.ensures c.eq-else-eq.ensures c.if-eq-2.true in
    subst (λ (told : Result Contents ImageFault). IfErr c.read_from_start.result (λ (fault : ImageFault). fault ≢ WantsMemory → told ≡ Err fault))
    (sym (by_first c.args.bytes.now c.args.lines.now (omega arith) ∙ of_second_version c.args.bytes.now _ _ first second))
    (rw (take_rest c.args.lines.now 1) at c.read_from_start.ensures.refusal)

pub returns-else-eq-2-clause-refusal : goal.returns-else-eq-2-clause-refusal
returns-else-eq-2-clause-refusal c = λ _.
    let first = has_name _ _ _ (codes "LVDC 1") _ _ c.part-text.ensures c.as_slice.ensures c.eq.ensures c.if-eq.false in
    let second = has_name _ _ _ (codes "LVDC 2") _ _ c.part-text.ensures c.as_slice-else-eq.ensures c.eq-else-eq.ensures c.if-eq-2.false in
    by_first c.args.bytes.now c.args.lines.now (omega arith) ∙ of_no_version c.args.bytes.now _ _ first second
