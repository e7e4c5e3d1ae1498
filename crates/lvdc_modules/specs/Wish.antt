-- The one exchange with memory or ports that a phase makes, by what is on the bus.
use Rattle.std.specs.Prelude.{◌≡◌, ℕ, true, ◌==◌, if◌then◌else◌}
use Rattle.lvdc_map.specs.Banks.{is_there}
use Rattle.lvdc_map.specs.Hop.{fetch_of}
use Rattle.lvdc_map.specs.Place.{place_of}
use Rattle.lvdc_map.specs.declared.place.Place.{Place}
use Rattle.lvdc_map.specs.declared.place.Place.TheVariants as places
use Rattle.lvdc_isa.specs.Instr.{takes_operand}
use Rattle.lvdc_isa.specs.declared.instr.Instr.{Instr}
use Rattle.lvdc_modules.specs.declared.bus.Bus.{Bus}
use Rattle.lvdc_modules.specs.declared.request.Request.{Request}
use Rattle.lvdc_modules.specs.declared.request.Request.TheVariants as requests
use Rattle.lvdc_modules.specs.declared.seen.Phase.{Phase}
use Rattle.lvdc_modules.specs.declared.seen.Phase.TheVariants.{A, B, C}
use Rattle.lvdc_modules.specs.declared.wanted.Wanted.{Wanted}
use Rattle.lvdc_modules.specs.declared.wanted.Wanted.TheVariants.{Nothing, Fetch, Operand, Store, PortRead, PortWrite}
use Rattle.lvdc_modules.specs.Seen.{phase, hold, instruction, here}
use Rattle.lvdc_modules.specs.Request.{request_of, spot_of}

-- an operand is read where it stands in memory; PQ is on the bus already
abbrev pub operand_wish : Place → Wanted
operand_wish (places.Memory at) = Operand at
operand_wish (places.Saver at) = Operand at
operand_wish places.Pq = Nothing

-- what REQUEST names: a store or a port write takes its word from the bus
abbrev pub request_wish : Request → Bus → ℕ → Wanted
request_wish requests.Nothing b banks = Nothing
request_wish (requests.StoreA t) b banks = Store (spot_of banks t) b.accumulator.a
request_wish (requests.StoreSaver t) b banks = Store (spot_of banks t) b.locator.saver
request_wish (requests.PortWrite port) b banks = PortWrite port b.accumulator.a
request_wish (requests.PortRead port) b banks = PortRead port

-- what an instruction wants as its operand
abbrev pub instruction_wish : Instr → Bus → ℕ → Wanted
instruction_wish i b banks = if takes_operand i.op then operand_wish (place_of banks (here b) i.address) else Nothing

-- A fetches and B reads the operand, where no hold is left; C makes the exchange that REQUEST names, whatever the hold is
abbrev pub wish_in : Phase → Bus → ℕ → Wanted
wish_in A b banks = if hold b == 0 then Fetch (fetch_of banks (here b)) else Nothing
wish_in B b banks = if hold b == 0 then instruction_wish (instruction b) b banks else Nothing
wish_in C b banks = request_wish (request_of b.exchange.request) b banks

-- the exchange of this phase
abbrev pub wish : Bus → ℕ → Wanted
wish b banks = wish_in (phase b) b banks

-- the bank of each address that is wanted is there
abbrev pub IsThereFor : ℕ → Wanted → Type 0
IsThereFor banks (Fetch at) = is_there banks at ≡ true
IsThereFor banks (Operand at) = is_there banks at ≡ true
IsThereFor banks (Store at word) = is_there banks at ≡ true
IsThereFor banks _ = Unit {0}
