-- Results that are on their way: what the unit works on, and its latches after so many phases.
use Rattle.std.specs.Prelude.{◌≡◌, ℕ, ◌+◌, ◌*◌, ◌^◌, ◌<◌, Bool, true, false}
use Rattle.std.specs.declared.option.Option.{Option}
use Rattle.std.specs.declared.option.Option.TheVariants.{None, Some}
use Rattle.lvdc_word.specs.Results.{product, quotient}
use Rattle.lvdc_mul.specs.Latches.{Latches}
use Rattle.lvdc_mul.specs.Unit.{kind, issued_multiply, issued_divide, after_phases}
use Rattle.lvdc_mul.specs.Landing.{LandsOnlyIn}
use Rattle.lvdc_mul.specs.declared.control.Kind.{Kind}
use Rattle.lvdc_mul.specs.declared.control.Kind.TheVariants as kinds
use Rattle.lvdc_plain.specs.declared.records.Pending.{Pending}

-- what was issued: by MPY, by MPH and by DIV
pub data Issue : Type 0 where
  Multiply : Issue
  MultiplyHigh : Issue
  Divide : Issue

-- the working latches at the issue
abbrev pub issued : Issue → ℕ → ℕ → Latches
issued Multiply a m = issued_multiply a m false
issued MultiplyHigh a m = issued_multiply a m true
issued Divide a m = issued_divide a m

-- the phases that the work takes
abbrev pub phases_of : Issue → ℕ
phases_of Multiply = 12
phases_of MultiplyHigh = 12
phases_of Divide = 24

-- its result, by the formulas
abbrev pub answer_of : Issue → ℕ → ℕ → ℕ
answer_of Multiply a m = product a m
answer_of MultiplyHigh a m = product a m
answer_of Divide a m = quotient a m

-- the accumulator takes the result too
abbrev pub is_high : Issue → Bool
is_high Multiply = false
is_high MultiplyHigh = true
is_high Divide = false

-- the unit's kind for it
abbrev pub kind_of : Issue → Kind
kind_of Multiply = kinds.Multiply
kind_of MultiplyHigh = kinds.MultiplyHigh
kind_of Divide = kinds.Divide

-- the unit lands what the formulas say, in the last phase of its work and in no other, and its kind stays
pub record UnitIsRight : Type 0 where
  pub lands : (k : Issue) (a m : ℕ) → a < 2 ^ 26 → m < 2 ^ 26 → LandsOnlyIn (phases_of k) (answer_of k a m) (issued k a m)
  pub kind_stays : (k : Issue) (a m n : ℕ) → kind (after_phases n (issued k a m)) ≡ kind_of k

-- in this phase of an instruction time these latches are work on this result: those of its operands after the phases that
-- were made since the issue, three for each whole time
pub record IsWorkOn (r : Pending) (phase : ℕ) (u : Latches) : Type 0 where
  pub issue : Issue
  pub a : ℕ
  pub m : ℕ
  pub made : ℕ
  pub result : r.result ≡ answer_of issue a m
  pub to_a : r.to_a ≡ is_high issue
  pub latches : u ≡ after_phases made (issued issue a m)
  pub left : made + 3 * r.left ≡ phases_of issue + phase
  pub some : 0 < r.left
  pub a_word : a < 2 ^ 26
  pub m_word : m < 2 ^ 26

-- the working latches are those of what is pending, and idle where nothing is
abbrev pub IsWork : Option Pending → ℕ → Latches → Type 0
IsWork None phase u = u.control ≡ 0
IsWork (Some r) phase u = IsWorkOn r phase u

-- a result for the accumulator has as many times left as the hold
abbrev pub IsHeld : Option Pending → ℕ → Type 0
IsHeld None hold = Unit {0}
IsHeld (Some r) hold = r.to_a ≡ true → r.left ≡ hold
