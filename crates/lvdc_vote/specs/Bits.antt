-- Words of bits: the majority of three, bits turned over and bits set.
use Rattle.std.specs.Prelude.{◌≡◌, ℕ, bit_and, bit_xor, ◌⊎◌}

-- at least two of three facts hold
abbrev pub AtLeastTwo : Type 0 → Type 0 → Type 0 → Type 0
AtLeastTwo P Q R = (P × Q) ⊎ ((P × R) ⊎ (Q × R))

-- at least two of three values are this one
abbrev pub TwoAre : {A : Type 0} → A → A → A → A → Type 0
TwoAre x y z value = AtLeastTwo (x ≡ value) (y ≡ value) (z ≡ value)

-- the word each of whose bits is the value that at least two of the three words have there
unfoldable pub majority : ℕ → ℕ → ℕ → ℕ
majority a b c = bit_xor (bit_xor (bit_and a b) (bit_and a c)) (bit_and b c)

-- the word with the bits under the mask turned over
unfoldable pub flipped : ℕ → ℕ → ℕ
flipped w mask = bit_xor w mask

-- the word whose bits under the mask are those of the value, and whose other bits stay
unfoldable pub forced : ℕ → ℕ → ℕ → ℕ
forced w mask value = bit_xor w (bit_and (bit_xor w value) mask)
