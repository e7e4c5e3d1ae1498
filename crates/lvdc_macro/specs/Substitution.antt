-- What a body's line becomes in a call.
use Rattle.std.specs.Prelude.{ℕ, ◌+◌, ◌-◌, ◌/◌, ◌%◌, ◌==◌, ◌&&◌, List, [], ◌∷◌, ◌++◌, if◌then◌else◌, slice_index_or}
use Rattle.std.specs.List.{slice_split}
use Rattle.lvdc_text.specs.Lines.{has_bytes}
use Rattle.lvdc_text.specs.Numbers.{is_digit}
use Rattle.lvdc_source.specs.Numbers.{is_comma}

-- the arguments of a call, by its operand: the texts between commas, and none where there is no operand
abbrev pub arguments_of : List ℕ → List (List ℕ)
arguments_of operand = if has_bytes operand then slice_split is_comma operand else []

-- a number in three decimal digits
abbrev pub three_digits : ℕ → List ℕ
three_digits n = (48 + n / 100 % 10) ∷ (48 + n / 10 % 10) ∷ (48 + n % 10) ∷ []

-- what `&` and this digit stand for in the call of this number: the number for 0, else the argument, or nothing where there is none
abbrev pub stands_for : ℕ → List (List ℕ) → ℕ → List ℕ
stands_for call arguments digit = if digit == 48 then three_digits call else slice_index_or arguments (digit - 49) []

-- the line in which each `&` with a digit after it is replaced; what replaces it isn't looked at again
unfoldable pub substituted : ℕ → List (List ℕ) → List ℕ → List ℕ
substituted call arguments [] = []
substituted call arguments (b ∷ []) = b ∷ []
substituted call arguments (b ∷ d ∷ rest) =
    if b == 38 && is_digit 10 d then stands_for call arguments d ++ substituted call arguments rest
    else b ∷ substituted call arguments (d ∷ rest)
