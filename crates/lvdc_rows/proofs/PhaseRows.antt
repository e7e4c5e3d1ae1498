-- Worked phases of the arithmetic unit alone: the last digit of a multiply, the signs and the bits of a divide.
use Rattle.std.proofs.Common.{◌≡◌, ◌+◌, ◌^◌, refl}
use Rattle.lvdc_mul.specs.Unit.{phase_of}

-- ---- multiplies: kind 1 with 2 phases left is 11, with 1 phase 5, and with none 1

-- Q ends in 2: 20 and 2 times 4 is 30, of which H keeps 6 and Q nothing
not_the_last_digit : phase_of (record { control = 0o11; m = 4; h = 0o20; q = 2 }) ≡ record { control = 0o5; m = 4; h = 6; q = 0 }
not_the_last_digit = refl

-- as the last digit it is -2: 20 less 10 is 10
the_last_digit : phase_of (record { control = 0o5; m = 4; h = 0o20; q = 2 }) ≡ record { control = 1; m = 4; h = 2; q = 0 }
the_last_digit = refl

-- Q is 24 bits of its latch, and its low end comes from the sum: 3 is 0 in H and 3 at the top of Q
bits_above_q : phase_of (record { control = 0o11; m = 0; h = 3; q = 2 ^ 24 + 4 }) ≡ record { control = 0o5; m = 0; h = 0; q = 0o60000001 }
bits_above_q = refl

-- a count without a kind
no_work : phase_of (record { control = 0o4; m = 4; h = 0o20; q = 2 }) ≡ record { control = 0o4; m = 4; h = 0o20; q = 2 }
no_work = refl

-- ---- divides: kind 3; NEG is bit 7 and SAT bit 8

-- 24 phases are left, and then 23: 0137, with SAT 0537, with NEG 0337
as_large_as_the_divisor : phase_of (record { control = 0o143; m = 5; h = 5; q = 0 }) ≡ record { control = 0o537; m = 5; h = 5; q = 0 }
as_large_as_the_divisor = refl

below_a_negative_divisor : phase_of (record { control = 0o143; m = 0o377777773; h = 4; q = 0 }) ≡ record { control = 0o337; m = 5; h = 4; q = 0 }
below_a_negative_divisor = refl

negative_and_below : phase_of (record { control = 0o143; m = 5; h = 0o377777774; q = 0 }) ≡ record { control = 0o337; m = 5; h = 4; q = 0 }
negative_and_below = refl

-- twice 4 less 6 is 2, and Q 5 becomes 13
a_bit_of_1 : phase_of (record { control = 0o27; m = 6; h = 4; q = 5 }) ≡ record { control = 0o23; m = 6; h = 2; q = 0o13 }
a_bit_of_1 = refl

-- twice 3 is 6
a_bit_without_remainder : phase_of (record { control = 0o27; m = 6; h = 3; q = 5 }) ≡ record { control = 0o23; m = 6; h = 0; q = 0o13 }
a_bit_without_remainder = refl

-- twice 2 is below 6
a_bit_of_0 : phase_of (record { control = 0o27; m = 6; h = 2; q = 5 }) ≡ record { control = 0o23; m = 6; h = 4; q = 0o12 }
a_bit_of_0 = refl

-- Q has 26 bits in its latch
the_highest_bit_goes : phase_of (record { control = 0o27; m = 6; h = 4; q = 2 ^ 25 + 3 }) ≡ record { control = 0o23; m = 6; h = 2; q = 7 }
the_highest_bit_goes = refl

the_same_with_a_0 : phase_of (record { control = 0o27; m = 6; h = 2; q = 2 ^ 25 + 3 }) ≡ record { control = 0o23; m = 6; h = 4; q = 6 }
the_same_with_a_0 = refl

the_bit_below_stays : phase_of (record { control = 0o27; m = 6; h = 4; q = 2 ^ 24 + 1 }) ≡ record { control = 0o23; m = 6; h = 2; q = 2 ^ 25 + 3 }
the_bit_below_stays = refl

the_same_before_a_0 : phase_of (record { control = 0o27; m = 6; h = 2; q = 2 ^ 24 + 1 }) ≡ record { control = 0o23; m = 6; h = 4; q = 2 ^ 25 + 2 }
the_same_before_a_0 = refl
