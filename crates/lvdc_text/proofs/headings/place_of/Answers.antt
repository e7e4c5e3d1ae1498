use Rattle.std.proofs.Common.{sym, ap, ◌∙◌, arith}
use Rattle.lvdc_text.specs.Headings.{is_alone}
use Rattle.lvdc_text.specs.Lines.{part_of}
use Rattle.lvdc_text.specs.declared.cutting.Line.{Line}
use Rattle.lvdc_text.proofs.Found.{place-here, place-none}
use Rattle.lvdc_text.proofs.headings.place_of.Invariants.{no_line}
use Rattle.lvdc_text.proofs.headings.place_of.Goals as goal

pub returns-then-is_alone : goal.returns-then-is_alone
returns-then-is_alone c =
    sym (place-here (λ (line : Line). is_alone c.args.word.now (part_of c.args.bytes.now line)) c.args.lines.now c.loop-at.at no_line c.loop-at-test.true c.loop-at.invariant.before
    (ap (is_alone c.args.word.now) (sym c.part.ensures) ∙ sym c.is_alone.ensures ∙ c.if-is_alone.true))

pub returns : goal.returns
returns c =
    sym (place-none (λ (line : Line). is_alone c.args.word.now (part_of c.args.bytes.now line)) c.args.lines.now c.loop-at.at no_line (omega arith) c.loop-at.invariant.before)
