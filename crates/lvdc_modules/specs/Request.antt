-- REQUEST: what an instruction asks of memory or a port in phase C, and the word that says so.
use Rattle.std.specs.Prelude.{ℕ, ◌+◌, ◌*◌, ◌/◌, ◌%◌, ◌^◌, ◌<◌, ◌==◌, if◌then◌else◌}
use Rattle.lvdc_map.specs.Address.{Spot}
use Rattle.lvdc_map.specs.Banks.{bank_of}
use Rattle.lvdc_map.specs.Hop.{HopConstant}
use Rattle.lvdc_map.specs.Place.{data_sector, low_bits}
use Rattle.lvdc_modules.specs.declared.request.Destination.{Destination}
use Rattle.lvdc_modules.specs.declared.request.Request.{Request}
use Rattle.lvdc_modules.specs.declared.request.Request.TheVariants.{Nothing, StoreA, StoreSaver, PortWrite, PortRead}

-- the word of memory that an operand address means at the place h
abbrev pub destination : HopConstant → ℕ → Destination
destination h address = record { dmod = h.dmod; sector = data_sector h address; loc = low_bits address }

-- its address, once the banks are known
abbrev pub spot_of : ℕ → Destination → Spot
spot_of banks t = record { pair = bank_of banks t.dmod; sector = t.sector; loc = t.loc }

-- location in bits 10 to 3, sector in bits 14 to 11, the pair of the module in bits 16 and 15, its low bit in bit 17
abbrev pub destination_bits : Destination → ℕ
destination_bits t = t.dmod % 2 * 2 ^ 17 + t.dmod / 2 * 2 ^ 15 + t.sector * 2 ^ 11 + t.loc * 2 ^ 3

-- the word of a request: the kind in bits 2 to 0, a port in bits 10 to 3
abbrev pub word_of_request : Request → ℕ
word_of_request Nothing = 0
word_of_request (StoreA t) = destination_bits t + 1
word_of_request (StoreSaver t) = destination_bits t + 2
word_of_request (PortWrite port) = port * 2 ^ 3 + 3
word_of_request (PortRead port) = port * 2 ^ 3 + 4

-- the destination that a word has in its bits
abbrev pub destination_in : ℕ → Destination
destination_in w =
    record { dmod = 2 * (w / 2 ^ 15 % 4) + w / 2 ^ 17 % 2; sector = w / 2 ^ 11 % 16; loc = w / 2 ^ 3 % 2 ^ 8 }

-- the port that a word has in its bits
abbrev pub port_in : ℕ → ℕ
port_in w = w / 2 ^ 3 % 2 ^ 8

-- what any word requests, by its kind; kinds without a name request nothing
abbrev pub request_of : ℕ → Request
request_of w =
    if w % 8 == 1 then StoreA (destination_in w)
    else (if w % 8 == 2 then StoreSaver (destination_in w)
    else (if w % 8 == 3 then PortWrite (port_in w)
    else (if w % 8 == 4 then PortRead (port_in w) else Nothing)))

-- each number of a destination is in its range
pub record IsDestination (t : Destination) : Type 0 where
  pub dmod : t.dmod < 8
  pub sector : t.sector < 16
  pub loc : t.loc < 2 ^ 8

-- a request whose destination's numbers are in their ranges
abbrev pub IsRequest : Request → Type 0
IsRequest Nothing = Unit {0}
IsRequest (StoreA t) = IsDestination t
IsRequest (StoreSaver t) = IsDestination t
IsRequest (PortWrite port) = port < 2 ^ 8
IsRequest (PortRead port) = port < 2 ^ 8
