-- The arithmetic unit: what it begins with, what one phase makes of any latches, and the result that it lands.
use Rattle.std.specs.Prelude.{ℕ, zero, suc, ◌+◌, ◌-◌, ◌*◌, ◌/◌, ◌%◌, ◌^◌, Bool, not, ◌==◌, ◌&&◌, nat_lt, nat_le, if◌then◌else◌, ℤ, pos, ◌+ℤ◌, ◌-ℤ◌, ◌*ℤ◌, neg_ℤ, unsigned_abs}
use Rattle.std.specs.Int.{is_negative}
use Rattle.std.specs.declared.option.Option.{Option}
use Rattle.std.specs.declared.option.Option.TheVariants.{None, Some}
use Rattle.lvdc_word.specs.Word.{signed, word_of, shifted_left, shifted_right}
use Rattle.lvdc_word.specs.Results.{saturated}
use Rattle.lvdc_mul.specs.declared.control.Kind.{Kind}
use Rattle.lvdc_mul.specs.declared.control.Kind.TheVariants.{Idle, Multiply, MultiplyHigh, Divide}
use Rattle.lvdc_mul.specs.declared.control.Control.{Control}
use Rattle.lvdc_mul.specs.Latches.{Latches}
use Rattle.lvdc_mul.specs.Control.{control_of, control_word, begun, counted_down, is_last}

-- what the unit works on
abbrev pub kind : Latches → Kind
kind u = (control_of u.control).kind

-- the phases that are left
abbrev pub count : Latches → ℕ
count u = (control_of u.control).count

-- ---- what is issued

-- a high multiply is for the accumulator too
abbrev pub multiply_kind : Bool → Kind
multiply_kind high = if high then MultiplyHigh else Multiply

-- a multiply has 12 phases: M and Q are the upper 24 bits of the words, M with its sign
abbrev pub issued_multiply : ℕ → ℕ → Bool → Latches
issued_multiply a m high =
    record { control = control_word (begun (multiply_kind high) 12); m = shifted_right m 2; h = 0; q = a / 4 }

-- a divide has 24 phases: M and H are the upper 24 bits of the words with their signs
abbrev pub issued_divide : ℕ → ℕ → Latches
issued_divide a m =
    record { control = control_word (begun Divide 24); m = shifted_right m 2; h = shifted_right a 2; q = 0 }

-- no work: CONTROL is 0, and the other latches stay
abbrev pub cancelled : Latches → Latches
cancelled u = record u { control = 0 }

-- ---- one phase of a multiply

-- the multiplier's digit, the low two bits of Q: in the last phase 2 and 3 count as -2 and -1
abbrev pub digit : Bool → ℕ → ℤ
digit last d = if last && nat_le 2 d then pos d -ℤ pos 4 else pos d

-- H and the digit's multiple of M, as a word
abbrev pub multiply_sum : Latches → ℕ
multiply_sum u = word_of (signed u.h +ℤ (digit (count u == 1) (u.q % 4) *ℤ signed u.m))

-- H and Q, of 24 bits, are the sum and the old Q shifted right by two places
abbrev pub multiply_phase : Latches → Latches
multiply_phase u =
    record {
      control = control_word (counted_down (control_of u.control));
      m = u.m;
      h = shifted_right (multiply_sum u) 2;
      q = u.q % 2 ^ 24 / 4 + multiply_sum u % 4 * 2 ^ 22;
    }

-- ---- one phase of a divide

-- CONTROL with the signs noted: NEG where exactly one of H and M is negative, SAT where H is not below M in magnitude
abbrev pub signs_noted : Latches → Control
signs_noted u =
    record (counted_down (control_of u.control)) {
      negative = if is_negative (signed u.h) then not (is_negative (signed u.m)) else is_negative (signed u.m);
      saturated = not (nat_lt (unsigned_abs (signed u.h)) (unsigned_abs (signed u.m)));
    }

-- the phase of the signs leaves the magnitudes
abbrev pub sign_phase : Latches → Latches
sign_phase u =
    record {
      control = control_word (signs_noted u);
      m = unsigned_abs (signed u.m);
      h = unsigned_abs (signed u.h);
      q = u.q;
    }

-- twice the remainder
abbrev pub twice : Latches → ℕ
twice u = shifted_left u.h 1

-- a phase of a bit shifts a bit of the quotient into Q: a 1 where M goes into twice the remainder
abbrev pub bit_phase : Latches → Latches
bit_phase u =
    record {
      control = control_word (counted_down (control_of u.control));
      m = u.m;
      h = if nat_le u.m (twice u) then twice u - u.m else twice u;
      q = if nat_le u.m (twice u) then (2 * u.q + 1) % 2 ^ 26 else 2 * u.q % 2 ^ 26;
    }

-- the first of 24 phases is that of the signs, each other one that of a bit
abbrev pub divide_phase : Latches → Latches
divide_phase u = if count u == 24 then sign_phase u else bit_phase u

-- ---- any phase

-- a phase of work of this kind
abbrev pub phase_by : Kind → Latches → Latches
phase_by Idle u = u
phase_by Multiply u = multiply_phase u
phase_by MultiplyHigh u = multiply_phase u
phase_by Divide u = divide_phase u

-- one phase; where none is left all latches stay
abbrev pub phase_of : Latches → Latches
phase_of u = if count u == 0 then u else phase_by (kind u) u

-- so many phases
abbrev pub after_phases : ℕ → Latches → Latches
after_phases zero u = u
after_phases (suc n) u = phase_of (after_phases n u)

-- ---- the result

-- of a multiply: H over Q, without the lowest 21 bits
abbrev pub multiply_result : ℕ → ℕ → ℕ
multiply_result h q = (8 * h + q / 2 ^ 21) % 2 ^ 26

-- of a divide: the greatest word of its sign where H was not below M, else four times Q with its sign
abbrev pub divide_result : Control → ℕ → ℕ
divide_result c q =
    if c.saturated then saturated c.negative
    else (if c.negative then word_of (neg_ℤ (pos (4 * q))) else shifted_left q 2)

-- of work of this kind
abbrev pub result_by : Kind → Latches → ℕ
result_by Divide u = divide_result (control_of u.control) u.q
result_by _ u = multiply_result u.h u.q

-- the result that stands in the latches after the last phase
abbrev pub result_of : Latches → ℕ
result_of u = result_by (kind u) u

-- the result that the next phase lands, where it is the last one
abbrev pub lands_of : Latches → Option ℕ
lands_of u = if is_last (control_of u.control) then Some (result_of (phase_of u)) else None
