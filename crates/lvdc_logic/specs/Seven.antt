-- One of seven things by a number.
use Rattle.std.specs.Prelude.{ℕ, ◌==◌, if◌then◌else◌}

-- that of seven which the number 0 to 6 names
abbrev pub of_seven : {A : Type 0} → A → A → A → A → A → A → A → ℕ → A
of_seven a b c d e f g number =
    if number == 0 then a else (if number == 1 then b else (if number == 2 then c else (if number == 3 then d else
    (if number == 4 then e else (if number == 5 then f else g)))))
