-- The assembly of a source, or its first refusal.
use Rattle.std.specs.Prelude.{ℕ, ◌≤◌, List, [], length, Result, Ok, Err}
use Rattle.lvdc_map.specs.Address.{Spot}
use Rattle.lvdc_map.specs.declared.placed.Placed.{Placed}
use Rattle.lvdc_text.specs.Lines.{NumberedLine}
use Rattle.lvdc_source.specs.Items.{AreFew}
use Rattle.lvdc_source.specs.Source.{source_of}
use Rattle.lvdc_source.specs.declared.fault.SourceFault.{SourceFault}
use Rattle.lvdc_source.specs.declared.item.Item.{Item}
use Rattle.lvdc_place.specs.Placement.{Placement, placement}
use Rattle.lvdc_place.specs.Slots.{Slots}
use Rattle.lvdc_place.specs.declared.fault.PlaceFault.{PlaceFault}
use Rattle.lvdc_asm.specs.DataPlace.{first_data}
use Rattle.lvdc_asm.specs.Hop.{Plan}
use Rattle.lvdc_asm.specs.Lines.{lines_after}
use Rattle.lvdc_asm.specs.Locations.{nothing, words_of}
use Rattle.lvdc_asm.specs.Names.{names_in}
use Rattle.lvdc_asm.specs.Pool.{Progress}
use Rattle.lvdc_asm.specs.declared.fault.AsmFault.{AsmFault}
use Rattle.lvdc_asm.specs.declared.fault.AsmFault.TheVariants.{Source, Place}
use Rattle.lvdc_asm.specs.declared.names.Definition.{Definition}
use Rattle.lvdc_asm.specs.declared.pool.Literal.{Literal}

-- an assembled source: its items, its names and where each item stands, the pooled words in the order of their first use,
-- and the words of its image
pub record Assembled : Type 0 where
  pub items : List Item
  pub plan : Plan
  pub pool : List (Literal × Spot)
  pub words : List Placed

-- no more items than this, with names as labels, and no more pooled words than items
pub record IsSmall (assembled : Assembled) (most : ℕ) : Type 0 where
  pub items : AreFew assembled.items most
  pub pool : length assembled.pool ≤ length assembled.items

-- before the first line
abbrev pub start_from : Slots → Progress
start_from taken = record { locations = nothing; pool = []; taken = taken }

-- the assembly, once the lines are done
abbrev pub by_lines : List Item → Plan → Result Progress AsmFault → Result Assembled AsmFault
by_lines items plan (Err fault) = Err fault
by_lines items plan (Ok progress) = Ok (record { items = items; plan = plan; pool = progress.pool; words = words_of progress.locations })

-- the assembly, once the blocks have their places and these slots are taken
abbrev pub by_plan : List Item → Plan → Slots → Result Assembled AsmFault
by_plan items plan taken = by_lines items plan (lines_after plan 0 first_data items (Ok (start_from taken)))

-- the assembly, where the blocks can be placed
abbrev pub by_placement : List Item → List (List ℕ × Definition) → Result Placement PlaceFault → Result Assembled AsmFault
by_placement items names (Err fault) = Err (Place fault)
by_placement items names (Ok placed) = by_plan items (record { names = names; spots = placed.spots }) placed.taken

-- the assembly, once each name is known to be defined once
abbrev pub by_names : List Item → Result (List (List ℕ × Definition)) AsmFault → Result Assembled AsmFault
by_names items (Err fault) = Err fault
by_names items (Ok names) = by_placement items names (placement items)

-- the assembly of items, where a text has them
abbrev pub by_items : Result (List Item) SourceFault → Result Assembled AsmFault
by_items (Err fault) = Err (Source fault)
by_items (Ok items) = by_names items (names_in items)

-- the assembly that these lines mean, or their first refusal
abbrev pub assembly_of : List NumberedLine → Result Assembled AsmFault
assembly_of lines = by_items (source_of lines)
