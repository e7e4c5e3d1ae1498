-- Worked operands of the assembler: transfers by pair and sector, the last location of a sector, CDS, and constants that are refused.
use Rattle.std.proofs.Common.{◌≡◌, ℕ, false, [], Some, None, Result, Ok, Err, length, refl}
use Rattle.std.specs.Prelude.{pos}
use Rattle.lvdc_isa.specs.declared.op.Op.TheVariants.{Tra, Tnz, Tmi, Cla, Cds}
use Rattle.lvdc_map.specs.Address.{Spot}
use Rattle.lvdc_source.specs.declared.item.Constant.TheVariants.{Dec}
use Rattle.lvdc_source.specs.declared.item.Operand.TheVariants.{Pair}
use Rattle.lvdc_asm.specs.DataPlace.{first_data}
use Rattle.lvdc_asm.specs.Hop.{Plan}
use Rattle.lvdc_asm.specs.Lines.{OperandAddress, operand_address}
use Rattle.lvdc_asm.specs.Locations.{nothing}
use Rattle.lvdc_asm.specs.Operands.{name_address, pair_address, name_word, constant_word}
use Rattle.lvdc_asm.specs.Target.{Target}
use Rattle.lvdc_asm.specs.declared.fault.AsmFault.{AsmFault}
use Rattle.lvdc_asm.specs.declared.fault.AsmFault.TheVariants.{UndefinedName, OutOfRange, OutOfSector}

at : ℕ → ℕ → ℕ → Spot
at pair sector loc = record { pair = pair; sector = sector; loc = loc }

-- a line of code in syllable 1
code : ℕ → ℕ → ℕ → Target
code pair sector loc = record { at = at pair sector loc; syl = Some 1; assumed = first_data }

-- ---- transfers

each_transfer : (name_address 3 Tra (at 2 3 9) first_data 2 (Some (code 2 3 5)) ≡ Ok 0o407) × (name_address 3 Tnz (at 2 3 9) first_data 2 (Some (code 2 3 5)) ≡ Ok 0o407)
    × (name_address 3 Tmi (at 2 3 9) first_data 2 (Some (code 2 3 5)) ≡ Ok 0o407)
unfolding at code
each_transfer = (refl, refl, refl)

to_another_pair : name_address 3 Tra (at 0 0 9) first_data 0 (Some (code 1 0 5)) ≡ Err (OutOfSector 3)
unfolding at code
to_another_pair = refl

to_the_last_location : name_address 3 Tra (at 0 0 9) first_data 5 (Some (code 0 0 250)) ≡ Ok 0o777
unfolding at code
to_the_last_location = refl

a_word_of_another_pair : name_address 3 Cla (at 0 0 9) first_data 0 (Some (record { at = at 1 1 5; syl = None; assumed = first_data })) ≡ Err (OutOfSector 3)
unfolding at
a_word_of_another_pair = refl

-- ---- CDS

the_last_sector : pair_address 3 15 ≡ Some 0o557
the_last_sector = refl

-- of a source without names
plan : Plan
plan = record { names = []; spots = [] }

address_of : Result OperandAddress AsmFault → Result ℕ AsmFault
address_of (Ok operand) = Ok operand.address
address_of (Err fault) = Err fault

-- the address of CDS with this pair and this sector, on line 7
cds : ℕ → ℕ → Result ℕ AsmFault
cds pair sector =
    address_of (operand_address plan 7 Cds (at 0 0 9) first_data (record { locations = []; pool = []; taken = λ slot. false }) (Pair pair sector))

pair_1_sector_2 : cds 1 2 ≡ Ok 0o442
unfolding cds address_of plan at
pair_1_sector_2 = refl

pair_1_sector_16 : cds 1 16 ≡ Err (OutOfRange 7)
unfolding cds address_of plan at
pair_1_sector_16 = refl

-- ---- constants

no_name : name_word 3 None ≡ Err (UndefinedName 3)
no_name = refl

too_large : constant_word plan 3 (Dec (pos 33554432)) ≡ Err (OutOfRange 3)
unfolding plan
too_large = refl

-- ---- four pairs of 16 sectors of 256 locations

all_locations : length nothing ≡ 16384
unfolding nothing
all_locations = refl
