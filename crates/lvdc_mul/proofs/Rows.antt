-- Worked values of the definitions.
use Rattle.std.proofs.Common.{◌≡◌, refl, false, true}
use Rattle.std.specs.declared.option.Option.TheVariants.{None, Some}
use Rattle.lvdc_mul.specs.Latches.{Latches}
use Rattle.lvdc_mul.specs.Unit.{issued_multiply, issued_divide, phase_of, after_phases, lands_of}

multiply_control : (issued_multiply 0 0 false).control ≡ 0o61
multiply_control = refl

high_control : (issued_multiply 0 0 true).control ≡ 0o62
high_control = refl

divide_control : (issued_divide 0 0).control ≡ 0o143
divide_control = refl

half_times_half : lands_of (after_phases 11 (issued_multiply 0o100000000 0o100000000 false)) ≡ Some 0o040000000
half_times_half = refl

the_only_product_that_wraps : lands_of (after_phases 11 (issued_multiply 0o200000000 0o200000000 true)) ≡ Some 0o200000000
the_only_product_that_wraps = refl

quarter_by_half : lands_of (after_phases 23 (issued_divide 0o040000000 0o100000000)) ≡ Some 0o100000000
quarter_by_half = refl

minus_quarter_by_half : lands_of (after_phases 23 (issued_divide 0o340000000 0o100000000)) ≡ Some 0o300000000
minus_quarter_by_half = refl

minus_one_by_the_least : lands_of (after_phases 23 (issued_divide 0o200000000 4)) ≡ Some 0o200000000
minus_one_by_the_least = refl

equal_magnitudes : lands_of (after_phases 23 (issued_divide 0o300000000 0o300000000)) ≡ Some 0o177777774
equal_magnitudes = refl

zero_by_zero : lands_of (after_phases 23 (issued_divide 0 0)) ≡ Some 0o177777774
zero_by_zero = refl

-- a kind without a phase left keeps all; bits without a name are kept
rests : phase_of (record { control = 0o377777603; m = 1; h = 2; q = 3 }) ≡ record { control = 0o377777603; m = 1; h = 2; q = 3 }
rests = refl

-- the first phase of this divide notes NEG, and not SAT
notes : phase_of (record { control = 0o377777143; m = 0o377777776; h = 1; q = 3 }) ≡ record { control = 0o377777337; m = 2; h = 1; q = 3 }
notes = refl

-- a pattern that no issue makes
abbrev thirty_one : Latches
thirty_one = record { control = 0o175; m = 0; h = 0o377777777; q = 0 }

thirty_one_phases : (lands_of (after_phases 29 thirty_one) ≡ None) × (lands_of (after_phases 30 thirty_one) ≡ Some 0o377777777)
thirty_one_phases = (refl, refl)
