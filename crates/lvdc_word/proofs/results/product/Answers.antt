use Rattle.std.proofs.Common.{pos, ◌*ℤ◌, w64, ap, ◌∙◌, arith}
use Rattle.std.proofs.lemmas.Int.{to_z-of_z}
use Rattle.std.specs.Int.{int_div_euclid}
use Rattle.lvdc_word.specs.Word.{word_of}
use Rattle.lvdc_word.proofs.Fractions.{product_fits, product_held}
use Rattle.lvdc_word.proofs.results.product.Goals as goal

pub overflow_mul-product : goal.overflow_mul-product
overflow_mul-product c =
    let a = c.fraction.ensures in
    let m = c.fraction-2.ensures in
    product_fits c.fraction.result c.fraction-2.result a.low a.high m.low m.high

pub div_euclid-requires-clause-no_overflow : goal.div_euclid-requires-clause-no_overflow
div_euclid-requires-clause-no_overflow c = λ one least. absurd (omega arith)

pub returns : goal.returns
returns c =
    let a = c.fraction.ensures in
    let m = c.fraction-2.ensures in
    c.modulo.ensures ∙ ap word_of (
    to_z-of_z w64 c.div_euclid.result (record { sfits = c.div_euclid.type_inv }) ∙ c.div_euclid.ensures
    ∙ ap (λ z. int_div_euclid z (pos 2097152)) (product_held c.fraction.result c.fraction-2.result a.low a.high m.low m.high ∙ (λ i. a.value i *ℤ m.value i))
    )
