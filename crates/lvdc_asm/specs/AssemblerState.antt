-- What an assembler knows, and what it has assembled so far.
use Rattle.lvdc_place.specs.Slots.{set_of}
use Rattle.lvdc_asm.specs.Hop.{Plan}
use Rattle.lvdc_asm.specs.Pool.{Progress}
use Rattle.lvdc_asm.specs.declared.lines.Assembler.{Assembler}

-- the names and the places that it knows
abbrev pub plan_of : Assembler → Plan
plan_of assembler = record { names = assembler.places.names; spots = assembler.places.layout.spots }

-- what it has assembled so far
abbrev pub progress_of : Assembler → Progress
progress_of assembler = record { locations = assembler.table; pool = assembler.pool; taken = set_of assembler.places.layout.bits }
