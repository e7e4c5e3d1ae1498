-- Faults of an assembly: what a fault of a layer below is there, and what is told of each.
use Rattle.std.specs.Prelude.{◌≢◌, ℕ, List, codes}
use Rattle.lvdc_source.specs.Faults as source_told
use Rattle.lvdc_source.specs.declared.fault.SourceFault.{SourceFault}
use Rattle.lvdc_source.specs.declared.fault.SourceFault.TheVariants as source
use Rattle.lvdc_place.specs.Faults as place_told
use Rattle.lvdc_place.specs.declared.fault.PlaceFault.{PlaceFault}
use Rattle.lvdc_place.specs.declared.fault.PlaceFault.TheVariants as place
use Rattle.lvdc_asm.specs.declared.fault.AsmFault.{AsmFault}
use Rattle.lvdc_asm.specs.declared.fault.AsmFault.TheVariants.{NoMemory, Source, Place, DuplicateName, UndefinedName, OutOfRange, OutOfSector}

-- ---- faults of the layers below; want of memory is the assembly's own, whoever met it

-- a fault of the grammar
abbrev pub of_source : SourceFault → AsmFault
of_source source.NoMemory = NoMemory
of_source fault = Source fault

-- a fault of placement
abbrev pub of_place : PlaceFault → AsmFault
of_place place.NoMemory = NoMemory
of_place fault = Place fault

-- want of memory isn't told as a fault of a layer below
abbrev pub IsOwn : AsmFault → Type 0
IsOwn (Source fault) = fault ≢ source.NoMemory
IsOwn (Place fault) = fault ≢ place.NoMemory
IsOwn _ = Unit {0}

-- ---- what is told

-- the name of a cause; that of a layer below is told by its own
abbrev pub name_of : AsmFault → List ℕ
name_of NoMemory = codes "NoMemory"
name_of (DuplicateName line) = codes "DuplicateName"
name_of (UndefinedName line) = codes "UndefinedName"
name_of (OutOfRange line) = codes "OutOfRange"
name_of (OutOfSector line) = codes "OutOfSector"
name_of (Source fault) = source_told.name_of fault
name_of (Place fault) = place_told.name_of fault

-- the line that a cause names; the want of memory names none
abbrev pub line_of : AsmFault → ℕ
line_of NoMemory = 0
line_of (DuplicateName line) = line
line_of (UndefinedName line) = line
line_of (OutOfRange line) = line
line_of (OutOfSector line) = line
line_of (Source fault) = source_told.line_of fault
line_of (Place fault) = place_told.line_of fault
