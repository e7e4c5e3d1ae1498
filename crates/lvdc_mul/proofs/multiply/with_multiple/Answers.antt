use Rattle.std.proofs.Common.{◌≡◌, w32, w64, to_z, of_z, ap, ◌∙◌, arith}
use Rattle.std.specs.Prelude.{◌+ℤ◌, ◌*ℤ◌}
use Rattle.std.proofs.lemmas.Int.{to_z-of_z}
use Rattle.lvdc_word.specs.Word.{signed, word_of}
use Rattle.lvdc_mul.proofs.Multiples.{multiple_fits, sum_fits}
use Rattle.lvdc_mul.proofs.multiply.with_multiple.Goals as goal

pub returns : goal.returns
returns c =
    let d = c.args.digit in
    let h : to_z w32 (of_z w32 c.signed.result) ≡ signed c.args.h = to_z-of_z w32 c.signed.result (record { sfits = c.signed.type_inv }) ∙ c.signed.ensures in
    let m : to_z w32 (of_z w32 c.signed-2.result) ≡ signed c.args.m = to_z-of_z w32 c.signed-2.result (record { sfits = c.signed-2.type_inv }) ∙ c.signed-2.ensures in
    let by : to_z w32 (of_z w32 d) ≡ d = to_z-of_z w32 d c.ranges.digit in
    let product : to_z w32 (of_z w32 (to_z w32 (of_z w32 d) *ℤ to_z w32 (of_z w32 c.signed-2.result))) ≡ d *ℤ signed c.args.m =
    (λ i. to_z w32 (of_z w32 (by i *ℤ m i))) ∙ to_z-of_z w32 (d *ℤ signed c.args.m) (multiple_fits d c.args.m c.requires.least c.requires.greatest (omega arith)) in
    c.modulo.ensures
    ∙ ap word_of (
    to_z-of_z w64 c.from.result (record { sfits = c.from.type_inv }) ∙ c.from.ensures
    ∙ (λ i. to_z w32 (of_z w32 (h i +ℤ product i)))
    ∙ to_z-of_z w32 (signed c.args.h +ℤ (d *ℤ signed c.args.m)) (sum_fits d c.args.m c.requires.least c.requires.greatest (omega arith) c.args.h (omega arith))
    )
