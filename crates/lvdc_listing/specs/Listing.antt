-- The listing of an assembled source.
use Rattle.std.specs.Prelude.{ℕ, List, ◌++◌, map, zip, flat_map, Option}
use Rattle.std.specs.Map.{values_of}
use Rattle.lvdc_map.specs.Memory.{Memory, memory_of}
use Rattle.lvdc_text.specs.Joined.{text_of}
use Rattle.lvdc_text.specs.Lines.{NumberedLine}
use Rattle.lvdc_source.specs.declared.item.Item.{Item}
use Rattle.lvdc_place.specs.declared.spot.Spot.{Spot as Place}
use Rattle.lvdc_asm.specs.Assembly.{Assembled}
use Rattle.lvdc_listing.specs.Places.{field_text}
use Rattle.lvdc_listing.specs.Rows.{Field, line_rows, pool_row, name_rows}

-- the items of a source, each with the place where it stands
abbrev pub placed_items : Assembled → List (Item × Option Place)
placed_items assembled = zip assembled.items assembled.plan.spots

-- the field of an item
abbrev pub item_field : Memory → Item × Option Place → Field
item_field memory placed = record { line = placed.0.line; text = field_text memory placed.1 placed.0.body }

-- the row of the name that an item defines, where it defines one
abbrev pub item_names : Item × Option Place → List (List ℕ)
item_names placed = name_rows placed.0.label placed.1

-- the lines of a source with what the image holds for each, then the pooled words in the order of their first use, then
-- the names in the order of their definition; each line ends with LF
unfoldable pub listing_text : Assembled → List NumberedLine → List ℕ
listing_text assembled lines =
    text_of (line_rows (map (item_field (memory_of assembled.words)) (placed_items assembled)) lines)
    ++ text_of (map (pool_row (memory_of assembled.words)) (values_of assembled.pool))
    ++ text_of (flat_map item_names (placed_items assembled))
