-- What the nine address bits of an instruction name: a place of a word, a place to go to, and data fields.
use Rattle.std.specs.Prelude.{◌≡◌, ℕ, ◌/◌, ◌%◌, ◌^◌, Bool, true, ◌==◌, ◌||◌, if◌then◌else◌}
use Rattle.lvdc_map.specs.Address.{Spot}
use Rattle.lvdc_map.specs.Banks.{bank_of, is_there}
use Rattle.lvdc_map.specs.Hop.{HopConstant, bit}
use Rattle.lvdc_map.specs.declared.operand.OperandKind.{OperandKind}
use Rattle.lvdc_map.specs.declared.operand.OperandKind.TheVariants as kinds
use Rattle.lvdc_map.specs.declared.place.Place.{Place}
use Rattle.lvdc_map.specs.declared.place.Place.TheVariants.{Memory, Pq, Saver}

-- A9, bit 8 of an operand address and the highest of its nine
abbrev pub a9 : ℕ → Bool
a9 address = bit address 8

-- the low eight bits of an operand address: a location, and of PIO the port
abbrev pub low_bits : ℕ → ℕ
low_bits address = address % 2 ^ 8

-- the address in the data bank that an operand address means: in the residual sector where A9 is 1, in the data sector where it is 0
abbrev pub data_spot : ℕ → HopConstant → ℕ → Spot
data_spot banks h address = record { pair = bank_of banks h.dmod; sector = if a9 address then 15 else h.dsec; loc = low_bits address }

-- the place that an operand address names: 775 is PQ, 776 and 777 are the saver's words, all else is memory
abbrev pub place_of : ℕ → HopConstant → ℕ → Place
place_of banks h address =
    if address == 0o775 then Pq
    else (if address == 0o776 || address == 0o777 then Saver (data_spot banks h address) else Memory (data_spot banks h address))

-- the constant after a transfer to an address: its highest bit is the syllable, the others are the location
abbrev pub jumped : HopConstant → ℕ → HopConstant
jumped h address = record h { syl = if a9 address then 1 else 0; loc = low_bits address }

-- the constant with the data fields of an address: module in bits 6 to 4, sector in bits 3 to 0, DUPDN in bit 8
abbrev pub with_data : HopConstant → ℕ → HopConstant
with_data h address = record h { dmod = address / 2 ^ 4 % 8; dsec = address % 16; dupdn = a9 address }

-- the sector in which an operand address stands, as `data_spot` has it
abbrev pub data_sector : HopConstant → ℕ → ℕ
data_sector h address = if a9 address then 15 else h.dsec

-- which kind of place an operand address names, whatever the data place is
abbrev pub operand_kind : ℕ → OperandKind
operand_kind address =
    if address == 0o775 then kinds.Pq
    else (if address == 0o776 || address == 0o777 then kinds.Saver else kinds.Memory)

-- the bank of a place in memory is there
abbrev pub IsThereIn : ℕ → Place → Type 0
IsThereIn banks (Memory at) = is_there banks at ≡ true
IsThereIn banks Pq = Unit {0}
IsThereIn banks (Saver at) = is_there banks at ≡ true
