use Rattle.std.proofs.Common.{◌≡◌, ℕ, ◌%◌, ◌==◌, w32, ap, ◌∙◌, rules}
use mir.Val.{to_z, of_z}
use Rattle.std.specs.Prelude.{◌+ℤ◌, ◌*ℤ◌, bit_and}
use Rattle.std.proofs.lemmas.Int.{to_z-of_z}
use Rattle.std.proofs.lemmas.Nat.{and_mask}
use Rattle.lvdc_word.specs.Word.{signed, word_of}
use Rattle.lvdc_mul.specs.declared.control.Control.{Control}
use Rattle.lvdc_mul.specs.Latches.{Latches}
use Rattle.lvdc_mul.specs.Unit.{count, digit}
use Rattle.lvdc_mul.proofs.multiply.sum.Goals as goal

pub returns : goal.returns
returns c =
    let u = c.args.unit in
    let h : c.unit.inside.h ≡ u.h = ap (λ (v : Latches). v.h) c.unit.view_is in
    let m : c.unit.inside.m ≡ u.m = ap (λ (v : Latches). v.m) c.unit.view_is in
    let q : c.value.result ≡ u.q = c.value.ensures.value ∙ ap (λ (v : Latches). v.q) c.unit.view_is in
    let left : c.args.control.count ≡ count u = ap (λ (k : Control). k.count) c.requires.fields in
    let low : bit_and c.value.result 3 ≡ u.q % 4 = and_mask c.value.result 2 ∙ ap (λ (n : ℕ). n % 4) q in
    let d : to_z w32 (of_z w32 c.digit-digit.result) ≡ digit (count u == 1) (u.q % 4) =
    to_z-of_z w32 c.digit-digit.result (search rules) ∙ c.digit-digit.ensures.value ∙ (λ i. digit (left i == 1) (low i)) in
    c.with_multiple.ensures ∙ (λ i. word_of (signed (h i) +ℤ (d i *ℤ signed (m i))))
