-- The lines of a saved text. Each ends with LF.
use Rattle.std.specs.Prelude.{ℕ, ◌+◌, List, ◌++◌, map, codes, decimal}
use Rattle.lvdc_map.specs.Address.{Spot}
use Rattle.lvdc_map.specs.declared.placed.Placed.{Placed}
use Rattle.lvdc_text.specs.Numbers.{octal_text}
use Rattle.lvdc_twin.specs.declared.held.Held.{Held}
use Rattle.lvdc_fault.specs.declared.event.Event.{Event}
use Rattle.lvdc_fault.specs.declared.event.Event.TheVariants.{Flip, Force, Lag, Deaf, Damage, Stick, Dead}
use Rattle.lvdc_port.specs.declared.requests.Supply.{Supply}
use Rattle.lvdc_plain.specs.declared.records.Unplug.{Unplug}
use Rattle.lvdc_image.specs.Image.{spot_text, simplex_line}
use Rattle.lvdc_lines.specs.Noted.{lines_of, exchange_line, repair_line}
use Rattle.lvdc_save.specs.declared.entry.CopyState.{CopyState}
use Rattle.lvdc_save.specs.declared.entry.Entry.{Entry}
use Rattle.lvdc_save.specs.declared.entry.Entry.TheVariants as says

-- ---- the parts of a line

-- a decimal number after a blank
abbrev pub number_after : ℕ → List ℕ
number_after n = codes " " ++ decimal n

-- a word after a blank, in nine octal digits
abbrev pub word_after : ℕ → List ℕ
word_after w = codes " " ++ octal_text 9 w

-- the bits of a cell after a blank, in ten octal digits
abbrev pub cell_after : ℕ → List ℕ
cell_after cell = codes " " ++ octal_text 10 cell

-- an address after a blank
abbrev pub spot_after : Spot → List ℕ
spot_after at = codes " " ++ spot_text at

-- ---- the copies and the memory

-- a copy: its module and its number, in how many steps it differed, and its latches
abbrev pub copy_line : CopyState → List ℕ
copy_line c =
    codes "COPY" ++ number_after c.number ++ number_after c.copy ++ number_after c.count ++ lines_of word_after c.latches ++ codes "\n"

-- the twins selected, by pair
abbrev pub select_line : List ℕ → List ℕ
select_line twins = codes "SELECT" ++ lines_of number_after twins ++ codes "\n"

-- a stored cell: its twin, its place and its bits
abbrev pub cell_line : Held → List ℕ
cell_line h = codes "CELL" ++ number_after h.twin ++ spot_after h.at ++ cell_after h.cell ++ codes "\n"

-- an intended word and its address
abbrev pub word_line : Placed → List ℕ
word_line p = codes "WORD" ++ spot_after p.at ++ word_after p.word ++ codes "\n"

-- ---- the devices

-- a word that the device at a port holds
abbrev pub state_line : Supply → List ℕ
state_line s = codes "STATE " ++ octal_text 3 s.port ++ word_after s.word ++ codes "\n"

-- the device at a port is taken away before a time
abbrev pub unplug_line : Unplug → List ℕ
unplug_line u = codes "UNPLUG " ++ octal_text 3 u.port ++ number_after u.time ++ codes "\n"

-- ---- the script and the orders

-- the copy of a module, and the steps from the first to the last
abbrev pub acts_on : ℕ → ℕ → ℕ → ℕ → List ℕ
acts_on number copy first last = number_after number ++ number_after copy ++ number_after first ++ number_after last

-- an event in the form of a deck's fault line
abbrev pub fault_line : Event → List ℕ
fault_line (Flip number copy first last index mask) =
    codes "FLIP" ++ acts_on number copy first last ++ number_after index ++ word_after mask ++ codes "\n"
fault_line (Force number copy first last index mask value) =
    codes "FORCE" ++ acts_on number copy first last ++ number_after index ++ word_after mask ++ word_after value ++ codes "\n"
fault_line (Lag number copy first last) = codes "LAG" ++ acts_on number copy first last ++ codes "\n"
fault_line (Deaf number copy first last) = codes "DEAF" ++ acts_on number copy first last ++ codes "\n"
fault_line (Damage twin at step mask) =
    codes "DAMAGE" ++ number_after twin ++ spot_after at ++ number_after step ++ cell_after mask ++ codes "\n"
fault_line (Stick twin at first last mask value) =
    codes "STICK" ++ number_after twin ++ spot_after at ++ number_after first ++ number_after last ++ cell_after mask ++ cell_after value
    ++ codes "\n"
fault_line (Dead twin pair first last) =
    codes "DEAD" ++ number_after twin ++ number_after pair ++ number_after first ++ number_after last ++ codes "\n"

-- an order of latching: a letter for each copy
abbrev pub order_line : List ℕ → List ℕ
order_line order = map (λ copy. 65 + copy) order ++ codes "\n"

-- ---- all of them

-- the line that says an entry
abbrev pub entry_line : Entry → List ℕ
entry_line says.Title = codes "LVDC SAVE 1\n"
entry_line (says.Steps steps) = codes "STEPS" ++ number_after steps ++ codes "\n"
entry_line (says.Count count) = codes "COUNT" ++ number_after count ++ codes "\n"
entry_line (says.Simplex banks) = simplex_line banks ++ codes "\n"
entry_line (says.Copy copy) = copy_line copy
entry_line (says.Select twins) = select_line twins
entry_line (says.Cell held) = cell_line held
entry_line (says.Word placed) = word_line placed
entry_line (says.Exchange exchange) = exchange_line exchange
entry_line (says.Repair repair) = repair_line repair
entry_line (says.State supply) = state_line supply
entry_line (says.Unplug unplug) = unplug_line unplug
entry_line (says.Fault event) = fault_line event
entry_line (says.Order order) = order_line order
entry_line says.End = codes "END\n"
