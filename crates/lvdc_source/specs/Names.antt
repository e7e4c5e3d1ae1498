-- Names.
use Rattle.std.specs.Prelude.{ℕ, nat_le, Bool, false, ◌&&◌, ◌||◌, List, [], ◌∷◌, length, if◌then◌else◌, Option, None, Some}
use Rattle.std.specs.List.{list_all}
use Rattle.lvdc_text.specs.Numbers.{is_digit}

-- a capital letter
abbrev pub is_capital : ℕ → Bool
is_capital b = nat_le 65 b && nat_le b 90

-- a capital letter or a decimal digit
abbrev pub is_of_name : ℕ → Bool
is_of_name b = is_capital b || is_digit 10 b

-- a name: a capital letter, then up to seven capital letters and digits
unfoldable pub is_name : List ℕ → Bool
is_name [] = false
is_name (b ∷ bs) = is_capital b && nat_le (length bs) 7 && list_all is_of_name bs

-- the name that a text is
abbrev pub name_of : List ℕ → Option (List ℕ)
name_of text = if is_name text then Some text else None
