-- What the worker is asked beside the commands of `lvdc`: which words it is, and how large its input may be.
use Rattle.std.specs.Prelude.{ℕ, ◌≤◌, ◌==◌, List, [], ◌∷◌, codes, if◌then◌else◌}
use Rattle.std.specs.declared.option.Option.{Option}
use Rattle.std.specs.declared.option.Option.TheVariants.{None, Some}
use Rattle.lvdc_text.specs.Numbers.{plain_number_of, below}
use Rattle.lvdc_text.specs.Words.{is}
use Rattle.lvdc_machine.specs.declared.mode.Mode.{Mode}
use Rattle.lvdc_machine.specs.declared.mode.Mode.TheVariants.{Guarded, Through}
use Rattle.lvdc_console.specs.declared.words.Inquiry.{Inquiry}
use Rattle.lvdc_console.specs.declared.words.Inquiry.TheVariants.{Trace, Form, Study}

-- ---- words

-- the first step of a trace: a decimal number without a needless zero, at most 3,000,000
unfoldable pub first_of : List ℕ → Option ℕ
first_of word = below 3000001 (plain_number_of 7 word)

-- a number, where it isn't 0
abbrev pub some_of : Option ℕ → Option ℕ
some_of None = None
some_of (Some n) = if n == 0 then None else Some n

-- how many steps a trace tells: such a number from 1 to 100,000
unfoldable pub count_of : List ℕ → Option ℕ
count_of word = some_of (below 100001 (plain_number_of 6 word))

-- a trace of so many steps from the first on, where both are numbers
abbrev pub traced : Mode → Option ℕ → Option ℕ → Option Inquiry
traced mode None count = None
traced mode (Some first) None = None
traced mode (Some first) (Some count) = Some (Trace mode (record { first = first; count = count }))

-- what two words ask for behind the name of an inquiry
abbrev pub of_three : List ℕ → List ℕ → List ℕ → Option Inquiry
of_three name first count = if is (codes "trace") name then traced Guarded (first_of first) (count_of count) else None

-- and with a flag before them
abbrev pub of_four : List ℕ → List ℕ → List ℕ → List ℕ → Option Inquiry
of_four name flag first count =
    if is (codes "trace") name then (if is (codes "--through") flag then traced Through (first_of first) (count_of count) else None) else None

-- what is asked by a name alone
abbrev pub of_one : List ℕ → Option Inquiry
of_one name = if is (codes "form") name then Some Form else (if is (codes "study") name then Some Study else None)

-- `form`, `study`, `trace` with two numbers, and `trace --through` with two
abbrev pub inquiry_of : List (List ℕ) → Option Inquiry
inquiry_of (name ∷ []) = of_one name
inquiry_of (name ∷ first ∷ count ∷ []) = of_three name first count
inquiry_of (name ∷ flag ∷ first ∷ count ∷ []) = of_four name flag first count
inquiry_of words = None

-- ---- limits

-- the most bytes that are read for an inquiry: 1 MiB
abbrev pub most_bytes : Inquiry → ℕ
most_bytes (Trace mode window) = 1048576
most_bytes Form = 1048576
most_bytes Study = 1048576

-- the numbers of an inquiry are in their ranges
abbrev pub IsInquiry : Inquiry → Type 0
IsInquiry (Trace mode window) = (window.first ≤ 3000000) × (window.count ≤ 100000)
IsInquiry Form = Unit {0}
IsInquiry Study = Unit {0}
