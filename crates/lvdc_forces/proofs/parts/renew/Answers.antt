use Rattle.std.proofs.Common.{subst, sym, arith}
use Rattle.lvdc_forces.specs.Parts.{events_of_part, IsRightUntil}
use Rattle.lvdc_forces.proofs.parts.renew.Goals as goal
use Rattle.lvdc_forces.proofs.parts.renew.Goals.{then-is_due, else-is_due}

pub returns-clause-right : goal.returns-clause-right
returns-clause-right c before =
    let es = events_of_part c.args.script.now c.args.number in
    elim c.if-is_due.branch [
      | then-is_due w ↦ subst (IsRightUntil es c.args.step) (sym w.part-is) w.work_out.ensures.right
      | else-is_due w ↦
          subst (IsRightUntil es c.args.step) (sym w.part-is)
          (λ n t h low high. before n t h (omega (arith, low, c.is_due.ensures.at w.if-is_due.false)) high)
    ]
