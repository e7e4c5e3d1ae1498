-- How many bytes a session has so far, by the lines that were taken.
use Rattle.std.proofs.Common.{◌≡◌, ℕ, zero, suc, ◌+◌, ◌-◌, ◌*◌, ◌<◌, ◌≤◌, List, get_or, drop, length, ap, arith, length-take, add-one}
use Rattle.lvdc_text.specs.Lines.{IsWithin, part_of}
use Rattle.lvdc_text.specs.declared.cutting.Line.{Line}
use Rattle.lvdc_debug.specs.Standing.{AreApart}

-- no line
abbrev pub no_line : Line
no_line = record { number = 0; start = 0; end = 0 }

-- the place after the end of the line before this one
abbrev pub reach : List Line → ℕ → ℕ
reach lines zero = 0
reach lines (suc index) = (get_or lines index no_line).end + 1

-- a line begins no earlier
reach_before : (lines : List Line) (index : ℕ) → AreApart lines → index < length lines → reach lines index ≤ (get_or lines index no_line).start
reach_before lines zero apart within = omega arith
reach_before lines (suc index) apart within = let h = apart index (suc index) no_line (omega arith) within in omega (arith, h)

-- a line more
pub spent_more : (bytes : List ℕ) (lines : List Line) (index : ℕ) (text : List ℕ) (before after : ℕ) → AreApart lines → index < length lines
    → IsWithin bytes (get_or lines index no_line) → text ≡ part_of bytes (get_or lines index no_line) → before ≤ 11 + 500 * reach lines index
    → after ≤ before + 500 * (length text + 1) → after ≤ 11 + 500 * reach lines (index + 1)
spent_more bytes lines index text before after apart within is part so_far more =
    let line = get_or lines index no_line in
    let first = reach_before lines index apart within in
    let order = is.in_order in
    let size : length text ≤ line.end - line.start = omega (arith, ap length part, length-take (line.end - line.start) (drop line.start bytes)) in
    rw add-one (omega (arith, first, size, order, so_far, more))
