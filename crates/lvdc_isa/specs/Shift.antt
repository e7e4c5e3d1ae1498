-- What a shift makes of a word.
use Rattle.std.specs.Prelude.{ℕ, ◌==◌, if◌then◌else◌}
use Rattle.lvdc_word.specs.Word.{shifted_right, shifted_left}

-- a word shifted by a pattern: 1 and 2 places right, 1 and 2 places left; every other pattern leaves 0
abbrev pub shifted : ℕ → ℕ → ℕ
shifted w pattern =
    if pattern == 0o1 then shifted_right w 1 else (if pattern == 0o2 then shifted_right w 2
    else (if pattern == 0o20 then shifted_left w 1 else (if pattern == 0o40 then shifted_left w 2 else 0)))
