-- Words of 26 bits as whole numbers: their signed values, halves, sums, differences and shifts.
use Rattle.std.specs.Prelude.{ℕ, ◌+◌, ◌-◌, ◌*◌, ◌/◌, ◌%◌, ◌^◌, nat_lt, Bool, if◌then◌else◌, ℤ, pos, ◌-ℤ◌, unsigned_abs}
use Rattle.std.specs.Int.{int_div_euclid, int_rem_euclid}

-- a word as a signed number: itself, less 2 ^ 26 from 2 ^ 25 on
abbrev pub signed : ℕ → ℤ
signed w = if nat_lt w (2 ^ 25) then pos w else (pos w -ℤ pos (2 ^ 26))

-- the word that a whole number leaves modulo 2 ^ 26
abbrev pub word_of : ℤ → ℕ
word_of z = unsigned_abs (int_rem_euclid z (pos (2 ^ 26)))

-- the number of a bit
abbrev pub bit_of : Bool → ℕ
bit_of b = if b then 1 else 0

-- the sum modulo 2 ^ 26
abbrev pub sum : ℕ → ℕ → ℕ
sum a b = (a + b) % 2 ^ 26

-- the difference modulo 2 ^ 26
abbrev pub difference : ℕ → ℕ → ℕ
difference a b = (a + (2 ^ 26 - b)) % 2 ^ 26

-- the signed value divided by 2 ^ places, rounded down, as a word
abbrev pub shifted_right : ℕ → ℕ → ℕ
shifted_right w places = word_of (int_div_euclid (signed w) (pos (2 ^ places)))

-- the word times 2 ^ places, modulo 2 ^ 26
abbrev pub shifted_left : ℕ → ℕ → ℕ
shifted_left w places = w * 2 ^ places % 2 ^ 26

-- syllable 1 of a word, its upper half
abbrev pub upper : ℕ → ℕ
upper w = w / 2 ^ 13

-- syllable 0 of a word, its lower half
abbrev pub lower : ℕ → ℕ
lower w = w % 2 ^ 13

-- the word of syllable 1 and syllable 0
abbrev pub joined : ℕ → ℕ → ℕ
joined high low = high * 2 ^ 13 + low
