use Rattle.std.proofs.Common.{map, sym, ap, ◌∙◌}
use Rattle.std.specs.Prelude.{codes}
use Rattle.std.specs.Str.{bytes_eq}
use Rattle.lvdc_service.specs.Parts.{part_of}
use Rattle.lvdc_service.specs.Frames.{input_count}
use Rattle.lvdc_service.proofs.Heads.{parts_unnamed, parts_no_words, said, uncounted}
use Rattle.lvdc_service.proofs.header.header_by.Goals as goal

pub returns-then-not-is_first-clause-none : goal.returns-then-not-is_first-clause-none
returns-then-not-is_first-clause-none c =
    parts_unnamed (part_of c.args.line.now c.args.first.now) (part_of c.args.line.now c.args.digits.now) _
    (ap (λ text. bytes_eq text (codes "REQUEST")) (sym c.bytes_of.ensures) ∙ sym c.is_first.ensures ∙ c.if-not-is_first.true)

pub returns-then-not-are_words-clause-none : goal.returns-then-not-are_words-clause-none
returns-then-not-are_words-clause-none c =
    parts_no_words (part_of c.args.line.now c.args.first.now) (part_of c.args.line.now c.args.digits.now) _ (sym c.are_words.ensures ∙ c.if-not-are_words.true)

pub returns-in-Some-clause-some : goal.returns-in-Some-clause-some
returns-in-Some-clause-some c =
    said (part_of c.args.line.now c.args.first.now) (part_of c.args.line.now c.args.digits.now) _ _ c.in-Some.count
    (ap (λ text. bytes_eq text (codes "REQUEST")) (sym c.bytes_of.ensures) ∙ sym c.is_first.ensures ∙ c.if-not-is_first.false)
    (sym c.are_words.ensures ∙ c.if-not-are_words.false)
    (ap input_count (sym c.bytes_of-2.ensures) ∙ sym c.input_count.ensures ∙ c.in-Some.is)
    (ap (map (part_of c.args.line.now)) (sym c.kept.ensures))

pub returns-in-None-clause-none : goal.returns-in-None-clause-none
returns-in-None-clause-none c =
    uncounted (part_of c.args.line.now c.args.first.now) (part_of c.args.line.now c.args.digits.now) _
    (ap (λ text. bytes_eq text (codes "REQUEST")) (sym c.bytes_of.ensures) ∙ sym c.is_first.ensures ∙ c.if-not-is_first.false)
    (sym c.are_words.ensures ∙ c.if-not-are_words.false)
    (ap input_count (sym c.bytes_of-2.ensures) ∙ sym c.input_count.ensures ∙ c.in-None.is)
