-- No copy of any module differs from its vote.
use Rattle.std.proofs.Common.{◌&&◌, sym, ◌∙◌}
use Rattle.std.proofs.lemmas.Bool.{and_parts}
use Rattle.lvdc_logic.proofs.Unanimous.{are-alike}
use Rattle.lvdc_logic.proofs.triples.Triples.are_alike.Goals as goal

pub returns : goal.returns
returns c all =
    let one = c.is_unanimous.result in
    let two = one && c.is_unanimous-2.result in
    let three = two && c.is_unanimous-3.result in
    let four = three && c.is_unanimous-4.result in
    let five = four && c.is_unanimous-5.result in
    let six = five && c.is_unanimous-6.result in
    let g = and_parts six c.is_unanimous-7.result all in
    let f = and_parts five c.is_unanimous-6.result g.0 in
    let e = and_parts four c.is_unanimous-5.result f.0 in
    let d = and_parts three c.is_unanimous-4.result e.0 in
    let b = and_parts two c.is_unanimous-3.result d.0 in
    let a = and_parts one c.is_unanimous-2.result b.0 in
    are-alike c.args.self.now (sym c.is_unanimous.ensures ∙ a.0) (sym c.is_unanimous-2.ensures ∙ a.1) (sym c.is_unanimous-3.ensures ∙ b.1)
    (sym c.is_unanimous-4.ensures ∙ d.1) (sym c.is_unanimous-5.ensures ∙ e.1) (sym c.is_unanimous-6.ensures ∙ f.1) (sym c.is_unanimous-7.ensures ∙ g.1)
