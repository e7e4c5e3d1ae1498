use Rattle.std.proofs.Common.{ap, ◌≡◌, ◌≤◌, ◌+◌, ◌++◌, ◌∷◌, [], length, ◌∙◌, refl, arith}
use Rattle.lvdc_macro.proofs.Writing.{written, Writes-same}
use Rattle.lvdc_macro.proofs.expansion.Writer.write.Goals as goal

pub returns : goal.returns
returns c =
    let bytes : c.push.new.self.items ≡ (c.self.inside.bytes.items ++ c.args.text.now) ++ 10 ∷ [] = c.in_ok-push.ensures.items ∙ ap (λ w. w ++ 10 ∷ []) c.in_ok-extend_from_slice.ensures.items in
    let fits : length c.self.inside.bytes.items + length c.args.text.now + 1 ≤ 1048576 = omega arith in
    Writes-same c.args.origin _ _ _ c.args.text.now c.self.view_is
    (written c.args.origin (record { bytes = c.self.inside.bytes.items; origins = c.self.inside.origins.items; calls = c.self.inside.calls })
    (record { bytes = c.push.new.self.items; origins = c.push-2.new.self.items; calls = c.self.inside.calls }) c.args.text.now fits bytes c.in_ok-push-2.ensures.items refl)
