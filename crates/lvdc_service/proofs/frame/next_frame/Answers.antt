use Rattle.std.proofs.Common.{◌≡◌, ℕ, List, [], ◌∷◌, ◌++◌, Some, sym, subst}
use Rattle.lvdc_service.specs.Frames.{cut_line, longest_line}
use Rattle.lvdc_service.specs.Turns.{stream, Used}
use Rattle.lvdc_service.proofs.Inputs.{frame_of_input, misread, opened}
use Rattle.lvdc_service.proofs.frame.next_frame.Goals as goal

pub returns-in-Some : goal.returns-in-Some
returns-in-Some g c =
    let at = λ (held : List ℕ) (source : _). stream held (g.S.Source.state source) in
    let before = at c.args.reader.now c.args.source.now in
    let middle = at c.line.new.self c.line.new.source in
    let ended = rw c.in-Ok-Ended.field-0-is at c.in-Ok-Ended.ensures.line in
    let whole = subst (λ (text : List ℕ). Used before middle (text ++ 10 ∷ []) × ((more : List ℕ) → cut_line longest_line (text ++ 10 ∷ more) ≡ Some (record { front = text; rest = more })))
    (sym c.as_slice-text.ensures.value) ended in
    frame_of_input c.as_slice-text.result.now _ _ before middle (at c.answer_frame.new.reader c.answer_frame.new.source) c.answer_frame.result
    whole.0 whole.1 c.in-Some.ensures.some c.in-Ok-Ended.ensures.cause.quiet c.answer_frame.ensures

pub returns-in-None : goal.returns-in-None
returns-in-None g c =
    let at = λ (held : List ℕ) (source : _). stream held (g.S.Source.state source) in
    let before = at c.args.reader.now c.args.source.now in
    let after = at c.line.new.self c.line.new.source in
    let ended = rw c.in-Ok-Ended.field-0-is at c.in-Ok-Ended.ensures.line in
    let whole = subst (λ (text : List ℕ). Used before after (text ++ 10 ∷ []) × ((more : List ℕ) → cut_line longest_line (text ++ 10 ∷ more) ≡ Some (record { front = text; rest = more })))
    (sym c.as_slice-text.ensures.value) ended in
    misread c.as_slice-text.result.now before after whole.0 whole.1 c.in-None.ensures.none c.in-Ok-Ended.ensures.cause.quiet

pub returns-in-Ok-Open : goal.returns-in-Ok-Open
returns-in-Ok-Open g c =
    let at = λ (held : List ℕ) (source : _). stream held (g.S.Source.state source) in
    opened (at c.args.reader.now c.args.source.now) (at c.line.new.self c.line.new.source)
    (rw c.in-Ok-Open.field-0-is at c.in-Ok-Open.ensures.line) c.in-Ok-Open.ensures.cause.quiet
