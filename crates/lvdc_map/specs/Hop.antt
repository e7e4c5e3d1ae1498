-- HOP constants: the fields of a word that says where to go on.
use Rattle.std.specs.Prelude.{ℕ, ◌+◌, ◌*◌, ◌/◌, ◌%◌, ◌^◌, ◌<◌, Bool, ◌==◌, if◌then◌else◌}
use Rattle.lvdc_word.specs.Word.{bit_of, upper, lower}
use Rattle.lvdc_map.specs.Address.{Spot}
use Rattle.lvdc_map.specs.Banks.{bank_of}

-- the fields: instruction module, sector, syllable and location, data module and sector, and two DUP bits, which are kept and change nothing
pub record HopConstant : Type 0 where
  pub imod : ℕ
  pub isec : ℕ
  pub syl : ℕ
  pub loc : ℕ
  pub dmod : ℕ
  pub dsec : ℕ
  pub dupin : Bool
  pub dupdn : Bool

-- each field is in its range
pub record IsHopConstant (h : HopConstant) : Type 0 where
  pub imod : h.imod < 8
  pub isec : h.isec < 16
  pub syl : h.syl < 2
  pub loc : h.loc < 256
  pub dmod : h.dmod < 8
  pub dsec : h.dsec < 16

-- bit k of a word
abbrev pub bit : ℕ → ℕ → Bool
bit w k = w / 2 ^ k % 2 == 1

-- so many bits of a word, the lowest of them bit k
abbrev pub bits : ℕ → ℕ → ℕ → ℕ
bits w k many = w / 2 ^ k % 2 ^ many

-- the fields of a word; its lowest bit is spare
abbrev pub hop_of : ℕ → HopConstant
hop_of w =
    record { imod = bits w 23 3; isec = bits w 19 4; syl = bits w 18 1; loc = bits w 10 8; dmod = bits w 7 3; dsec = bits w 3 4; dupin = bit w 2; dupdn = bit w 1 }

-- the word with these fields and spare bit 0
abbrev pub word_of_hop : HopConstant → ℕ
word_of_hop h =
    h.imod * 2 ^ 23 + h.isec * 2 ^ 19 + h.syl * 2 ^ 18 + h.loc * 2 ^ 10
    + h.dmod * 2 ^ 7 + h.dsec * 2 ^ 3 + bit_of h.dupin * 2 ^ 2 + bit_of h.dupdn * 2 ^ 1

-- the constant of the next location of the same sector
abbrev pub after : HopConstant → HopConstant
after h = record h { loc = (h.loc + 1) % 256 }

-- the address from which the instruction is fetched
abbrev pub fetch_of : ℕ → HopConstant → Spot
fetch_of banks h = record { pair = bank_of banks h.imod; sector = h.isec; loc = h.loc }

-- the syllable of the word fetched that is the instruction
abbrev pub syllable_at : HopConstant → ℕ → ℕ
syllable_at h w = if h.syl == 1 then upper w else lower w
