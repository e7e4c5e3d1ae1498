use Rattle.std.proofs.Common.{◌∙◌, ap, Ok, Bool, get_or}
use Rattle.lvdc_text.specs.declared.cutting.Line.{Line}
use Rattle.lvdc_text.specs.Lines.{part_of}
use Rattle.lvdc_macro.specs.Macros.{meaning_of}
use Rattle.lvdc_macro.specs.Making.{macros_of, ends_by}
use Rattle.lvdc_macro.proofs.Stepping.{definition_ends, definition_goes_on, bodies-more, any_default}
use Rattle.lvdc_macro.proofs.source.after_line.Goals as goal

pub returns-then-branch-clause-brings : goal.returns-then-branch-clause-brings
returns-then-branch-clause-brings c = λ d.
    definition_ends c.args.bytes.now c.args.macros.now c.args.out.now c.args.lines.now c.args.index c.args.pending c.in-Some.begun (get_or c.args.lines.now c.args.index d) c.in-Some.is c.define.new.self
    (ap (λ (line : Line). ends_by line.number (meaning_of (macros_of c.args.bytes.now c.args.macros.now) (part_of c.args.bytes.now line)))
    (any_default c.args.lines.now c.args.index d (record { number = 0; start = 0; end = 0 }) c.requires.index)
    ∙ c.in_ok-ends-in-Some.ensures.ends ∙ ap (λ (b : Bool). Ok b) c.if-branch.true)
    c.in_ok-define-in-Some.ensures.added

pub returns-then-branch-clause-bodies : goal.returns-then-branch-clause-bodies
returns-then-branch-clause-bodies c =
    bodies-more c.args.bytes.now c.args.macros.now c.define.new.self c.in-Some.begun.name.now c.args.lines.now c.in-Some.begun.first c.args.index c.requires.bodies c.requires.within c.in_ok-define-in-Some.ensures.added

pub returns-else-branch-clause-brings : goal.returns-else-branch-clause-brings
returns-else-branch-clause-brings c = λ d.
    definition_goes_on c.args.bytes.now c.args.macros.now c.args.out.now c.args.lines.now c.args.index c.args.pending c.in-Some.begun (get_or c.args.lines.now c.args.index d) c.in-Some.is
    (rw c.in-Some.is at c.requires.begun).0 c.requires.index (any_default c.args.lines.now c.args.index _ d c.requires.index)
    (ap (λ (line : Line). ends_by line.number (meaning_of (macros_of c.args.bytes.now c.args.macros.now) (part_of c.args.bytes.now line)))
    (any_default c.args.lines.now c.args.index d (record { number = 0; start = 0; end = 0 }) c.requires.index)
    ∙ c.in_ok-ends-in-Some.ensures.ends ∙ ap (λ (b : Bool). Ok b) c.if-branch.false)
