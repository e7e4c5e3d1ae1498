use Rattle.std.proofs.Common.{◌≡◌, ◌++◌, ◌∷◌, [], refl, sym, ◌∙◌}
use Rattle.lvdc_withstands.proofs.Gathered.{gathered-more, gathered-same}
use Rattle.lvdc_withstands.proofs.lines.lines_in.Goals as goal
use Rattle.lvdc_withstands.proofs.lines.lines_in.Goals.{then-begins_in+in_ok-push, else-begins_in}

pub loop-at-preserved : goal.loop-at-preserved
loop-at-preserved c =
    let x = c.event-line.result.now in
    elim c.if-begins_in.branch [
      | then-begins_in+in_ok-push w ↦ (
          let new : c.if-begins_in.lines.items ≡ c.loop-at.lines.items ++ x ∷ [] = rw w.lines-is w.in_ok-push.ensures.items in
          gathered-more c.args.count c.args.script.now c.loop-at.at x c.loop-at.lines.items c.if-begins_in.lines.items c.event-line.ensures c.loop-at.invariant (sym c.begins_in.ensures ∙ w.if-begins_in.true) new
          )
      | else-begins_in w ↦ (
          let new : c.if-begins_in.lines.items ≡ c.loop-at.lines.items = rw w.lines-is refl in
          gathered-same c.args.count c.args.script.now c.loop-at.at x c.loop-at.lines.items c.if-begins_in.lines.items c.event-line.ensures c.loop-at.invariant (sym c.begins_in.ensures ∙ w.if-begins_in.false) new
          )
    ]
