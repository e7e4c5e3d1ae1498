-- The events of a script that are on memory.
use Rattle.std.specs.Prelude.{List, filter}
use Rattle.lvdc_fault.specs.declared.event.Event.{Event}
use Rattle.lvdc_fault.specs.Script.{is_on_memory}

-- those of a script, in its order
abbrev pub on_memory : List Event → List Event
on_memory script = filter is_on_memory script
