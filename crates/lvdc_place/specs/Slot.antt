-- Slots: the two syllables of each word of the memory of four pairs.
use Rattle.std.specs.Prelude.{ℕ, ◌+◌, ◌*◌, ◌/◌, ◌%◌, ◌<◌, Bool, ◌==◌, ◌&&◌, nat_lt}
use Rattle.lvdc_map.specs.Address.{Spot}

-- a syllable of a word; slots are ordered by these numbers, from the first on
pub record Slot : Type 0 where
  pub pair : ℕ
  pub sector : ℕ
  pub syl : ℕ
  pub loc : ℕ

-- the numbers are in their ranges
pub record IsSlot (slot : Slot) : Type 0 where
  pub pair : slot.pair < 4
  pub sector : slot.sector < 16
  pub syl : slot.syl < 2
  pub loc : slot.loc < 256

-- whether they are
abbrev pub is_slot : Slot → Bool
is_slot slot = nat_lt slot.pair 4 && nat_lt slot.sector 16 && nat_lt slot.syl 2 && nat_lt slot.loc 256

-- two slots are the same where their four numbers are
abbrev pub is_same : Slot → Slot → Bool
is_same a b = a.pair == b.pair && a.sector == b.sector && a.syl == b.syl && a.loc == b.loc

-- the place of a slot in the order of all
abbrev pub number_of : Slot → ℕ
number_of slot = slot.pair * 8192 + slot.sector * 512 + slot.syl * 256 + slot.loc

-- the slot at a place in the order of all
abbrev pub slot_at : ℕ → Slot
slot_at number = record { pair = number / 8192; sector = number / 512 % 16; syl = number / 256 % 2; loc = number % 256 }

-- the slot so many locations further on
abbrev pub slot_after : Slot → ℕ → Slot
slot_after slot count = record slot { loc = slot.loc + count }

-- the slot of this syllable in the same word
abbrev pub with_syllable : Slot → ℕ → Slot
with_syllable slot syl = record slot { syl = syl }

-- the first slot of a sector
abbrev pub sector_start : ℕ → ℕ → Slot
sector_start pair sector = record { pair = pair; sector = sector; syl = 0; loc = 0 }

-- the word that a slot belongs to
abbrev pub address_of : Slot → Spot
address_of slot = record { pair = slot.pair; sector = slot.sector; loc = slot.loc }

-- the slot of this syllable in a word
abbrev pub slot_of : Spot → ℕ → Slot
slot_of at syl = record { pair = at.pair; sector = at.sector; syl = syl; loc = at.loc }
