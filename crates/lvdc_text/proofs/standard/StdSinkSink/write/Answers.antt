use Rattle.std.proofs.Common.{◌≡◌, ◌<◌, refl, ap, inl, inr, arith, rules, Ok, Err, length}
use Rattle.lvdc_text.proofs.standard.StdSinkSink.write.Goals as goal
use Rattle.lvdc_text.proofs.standard.StdSinkSink.write.Goals.{in_default-via-in-Ok+else-is_empty, then-count-gt0, else-count-gt0, in_default-via-in_default}

pub returns-in-Ok-clause-told : goal.returns-in-Ok-clause-told
returns-in-Ok-clause-told g c = (Ok c.in-Ok.count, c.in-Ok.ensures.tried, refl)

pub returns-in_default-clause-told : goal.returns-in_default-clause-told
returns-in_default-clause-told g c =
    elim c.in_default.branch [
      | in_default-via-in-Ok+else-is_empty w ↦
          elim w.if-count-gt0.branch [
            | then-count-gt0 v ↦ search rules
            | else-count-gt0 v ↦
                let none : w.in-Ok.count ≡ 0 = omega arith in
                let some : 0 < length c.args.piece.now = search rules in
                (Ok w.in-Ok.count, w.in-Ok.ensures.tried, inr (ap Ok none, some))
          ]
      | in_default-via-in_default w ↦ (Err w.in_default.field-0, w.in_default.ensures.tried, inl refl)
    ]
