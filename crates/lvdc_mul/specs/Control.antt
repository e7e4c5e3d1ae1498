-- CONTROL, the latch that counts the phases of a multiply or a divide: its fields, and the word of them.
use Rattle.std.specs.Prelude.{ℕ, ◌+◌, ◌-◌, ◌*◌, ◌/◌, ◌%◌, ◌^◌, Bool, true, false, not, ◌==◌, ◌&&◌, if◌then◌else◌}
use Rattle.lvdc_word.specs.Word.{bit_of}
use Rattle.lvdc_mul.specs.declared.control.Kind.{Kind}
use Rattle.lvdc_mul.specs.declared.control.Kind.TheVariants.{Idle, Multiply, MultiplyHigh, Divide}
use Rattle.lvdc_mul.specs.declared.control.Control.{Control}

-- the kind of work with this code
abbrev pub kind_of : ℕ → Kind
kind_of code =
    if code == 0 then Idle
    else (if code == 1 then Multiply
    else (if code == 2 then MultiplyHigh else Divide))

-- the code of a kind of work
abbrev pub kind_code : Kind → ℕ
kind_code Idle = 0
kind_code Multiply = 1
kind_code MultiplyHigh = 2
kind_code Divide = 3

-- the fields of a word: the kind in bits 1 and 0, the phases left in bits 6 to 2, NEG in bit 7, SAT in bit 8, the others without a name
abbrev pub control_of : ℕ → Control
control_of w =
    record {
      kind = kind_of (w % 4);
      count = w / 2 ^ 2 % 2 ^ 5;
      negative = w / 2 ^ 7 % 2 == 1;
      saturated = w / 2 ^ 8 % 2 == 1;
      unnamed = w / 2 ^ 9;
    }

-- the word of these fields
abbrev pub control_word : Control → ℕ
control_word c =
    c.unnamed * 2 ^ 9 + bit_of c.saturated * 2 ^ 8 + bit_of c.negative * 2 ^ 7 + c.count * 2 ^ 2 + kind_code c.kind

-- work that has so many phases before it, and no sign noted
abbrev pub begun : Kind → ℕ → Control
begun kind count = record { kind = kind; count = count; negative = false; saturated = false; unnamed = 0 }

-- one phase fewer is left
abbrev pub counted_down : Control → Control
counted_down c = record c { count = c.count - 1 }

-- is there nothing to do?
abbrev pub is_idle : Kind → Bool
is_idle Idle = true
is_idle _ = false

-- the next phase is the last one
abbrev pub is_last : Control → Bool
is_last c = not (is_idle c.kind) && c.count == 1
