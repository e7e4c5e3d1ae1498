use Rattle.std.proofs.Common.{◌≡◌, ℕ, ◌+◌, ◌^◌, ◌<◌, ◌≤◌, List, ◌++◌, length, decimal, ap, arith, length-append}
use Rattle.std.proofs.lemmas.Fmt.{length-decimal-le}
use Rattle.lvdc_text.specs.Numbers.{octal_text}
use Rattle.lvdc_text.proofs.ReadBack.{length-octal_text}
use Rattle.lvdc_text.proofs.pieces.put_piece.Goals as goal

decimal_grown : (old new : List ℕ) (n most : ℕ) → 0 < most → n < 10 ^ most → n < 2 ^ 64 → new ≡ old ++ decimal n → length new ≤ length old + most
decimal_grown old new n most some small fits e = omega (arith, ap length e, length-append old (decimal n), length-decimal-le most n some small fits)

octal_grown : (old new : List ℕ) (n digits : ℕ) → new ≡ old ++ octal_text digits n → length new ≤ length old + digits
octal_grown old new n digits e = omega (arith, ap length e, length-append old (octal_text digits n), length-octal_text digits n)

pub returns-in_ok-put_decimal-in-Decimal-clause-short : goal.returns-in_ok-put_decimal-in-Decimal-clause-short
returns-in_ok-put_decimal-in-Decimal-clause-short c =
    rw c.in-Decimal.is (decimal_grown _ _ c.in-Decimal.value 20 (omega arith) (omega arith) (omega arith) c.in_ok-put_decimal-in-Decimal.ensures.ok)

pub returns-in_ok-put_decimal-in-Small-clause-short : goal.returns-in_ok-put_decimal-in-Small-clause-short
returns-in_ok-put_decimal-in-Small-clause-short c =
    rw c.in-Small.is (decimal_grown _ _ c.from.result 3 (omega arith) (omega (arith, c.from.ensures)) (omega arith) c.in_ok-put_decimal-in-Small.ensures.ok)

pub returns-in_ok-put_octal-in-Octal-clause-short : goal.returns-in_ok-put_octal-in-Octal-clause-short
returns-in_ok-put_octal-in-Octal-clause-short c =
    rw c.in-Octal.is (octal_grown _ _ c.in-Octal.value c.in-Octal.digits c.in_ok-put_octal-in-Octal.ensures.ok)
