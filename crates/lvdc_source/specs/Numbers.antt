-- Signed decimals, and octal numbers between commas.
use Rattle.std.specs.Prelude.{ℕ, ℤ, pos, neg_ℤ, Bool, ◌==◌, List, [], ◌∷◌, if◌then◌else◌, Option, None, Some}
use Rattle.std.specs.List.{slice_split, after_first, list_any}
use Rattle.std.specs.Option.{option_map}
use Rattle.lvdc_text.specs.Numbers.{number_of}

-- a number, counted up from zero
abbrev pub above_zero : Option ℕ → Option ℤ
above_zero number = option_map (λ n. pos n) number

-- a number, counted down from zero
abbrev pub below_zero : Option ℕ → Option ℤ
below_zero number = option_map (λ n. neg_ℤ (pos n)) number

-- a decimal number of one to nine digits, after a sign or without one
unfoldable pub signed_of : List ℕ → Option ℤ
signed_of [] = None
signed_of (b ∷ bs) =
    if b == 43 then above_zero (number_of 10 9 bs)
    else (if b == 45 then below_zero (number_of 10 9 bs) else above_zero (number_of 10 9 (b ∷ bs)))

-- what stands after the first byte that passes the test, where one does
abbrev pub after_any : (ℕ → Bool) → List ℕ → Option (List ℕ)
after_any test text = if list_any test text then Some (after_first test text) else None

-- the comma, which parts fields
abbrev pub is_comma : ℕ → Bool
is_comma b = b == 44

-- a number before others, where all were found
abbrev pub with_number : Option ℕ → Option (List ℕ) → Option (List ℕ)
with_number (Some n) (Some ns) = Some (n ∷ ns)
with_number (Some n) None = None
with_number None ns = None

-- the octal numbers of one to nine digits that the fields are
abbrev pub octals_in : List (List ℕ) → Option (List ℕ)
octals_in [] = Some []
octals_in (field ∷ fields) = with_number (number_of 8 9 field) (octals_in fields)

-- the octal numbers between single commas
unfoldable pub octals_of : List ℕ → Option (List ℕ)
octals_of text = octals_in (slice_split is_comma text)
