use Rattle.std.proofs.Common.{◌-◌, length, drop, arith, length-take, length-drop}
use Rattle.std.proofs.lemmas.List.{take_rest}
use Rattle.std.proofs.lemmas.List.Elements.{All-drop}
use Rattle.std.proofs.lemmas.Result.{IfOk-weaker}
use Rattle.lvdc_text.specs.Lines.{IsWithin}
use Rattle.lvdc_uplink.proofs.input.parts_of.Goals as goal

pub returns-in-Ok-len1-up-clause-few : goal.returns-in-Ok-len1-up-clause-few
returns-in-Ok-len1-up-clause-few c =
    IfOk-weaker c.parts_after.result _ _
    (λ parts few. omega (arith, few, c.in-Ok-len1-up.ensures.few, length-take (length c.in-Ok-len1-up.field-0.now - 1) (drop 1 c.in-Ok-len1-up.field-0.now), length-drop 1 c.in-Ok-len1-up.field-0.now)) c.parts_after.ensures.few

pub parts_after-requires-clause-within : goal.parts_after-requires-clause-within
parts_after-requires-clause-within c = rw take_rest (All-drop (IsWithin c.args.bytes.now) 1 c.in-Ok-len1-up.field-0.now c.in-Ok-len1-up.ensures.within)
