-- What a line of a saved text says, by its tokens. A line says an entry where it is the line of that entry, byte for byte.
use Rattle.std.specs.Prelude.{ℕ, ◌+◌, ◌*◌, ◌^◌, Bool, true, false, ◌==◌, List, [], ◌∷◌, ◌++◌, codes, if◌then◌else◌}
use Rattle.std.specs.List.{list_any}
use Rattle.std.specs.Str.{bytes_eq}
use Rattle.std.specs.declared.option.Option.{Option}
use Rattle.std.specs.declared.option.Option.TheVariants.{None, Some}
use Rattle.lvdc_map.specs.Address.{Spot}
use Rattle.lvdc_text.specs.Lines.{token_texts_of}
use Rattle.lvdc_text.specs.Numbers.{word_in}
use Rattle.lvdc_fault.specs.declared.event.Event.{Event}
use Rattle.lvdc_lines.specs.Fields.{decimal_in, octal_in, place_in}
use Rattle.lvdc_lines.specs.Lines.{fault_in, order_in}
use Rattle.lvdc_fault.specs.Events.{TIMES}
use Rattle.lvdc_save.specs.declared.entry.Entry.{Entry}
use Rattle.lvdc_save.specs.declared.entry.Entry.TheVariants as says
use Rattle.lvdc_save.specs.Lines.{entry_line}

-- ---- fields

-- a number of steps made: up to three for each time
abbrev pub steps_in : List ℕ → Option ℕ
steps_in token = decimal_in 0 (3 * TIMES + 1) token

-- a number of times
abbrev pub times_in : List ℕ → Option ℕ
times_in token = decimal_in 0 (TIMES + 1) token

-- a port
abbrev pub port_in : List ℕ → Option ℕ
port_in token = octal_in (2 ^ 8) 3 token

-- a twin: 0 or 1
abbrev pub twin_in : List ℕ → Option ℕ
twin_in token = decimal_in 0 2 token

-- the bits of a cell
abbrev pub cell_in : List ℕ → Option ℕ
cell_in token = octal_in (2 ^ 28) 10 token

-- the address of these numbers
abbrev pub spot_by : Option ℕ → Option ℕ → Option ℕ → Option Spot
spot_by (Some pair) (Some sector) (Some loc) = Some (record { pair = pair; sector = sector; loc = loc })
spot_by _ _ _ = None

-- a bank, a sector and a location
abbrev pub spot_in : List ℕ → List ℕ → List ℕ → Option Spot
spot_in pair sector loc = spot_by (octal_in 8 1 pair) (octal_in 16 2 sector) (octal_in 256 3 loc)

-- a word before others, where all were found
abbrev pub words_with : Option ℕ → Option (List ℕ) → Option (List ℕ)
words_with (Some w) (Some ws) = Some (w ∷ ws)
words_with _ _ = None

-- the words of the tokens, where each token is one
abbrev pub words_in : List (List ℕ) → Option (List ℕ)
words_in [] = Some []
words_in (token ∷ tokens) = words_with (word_in token) (words_in tokens)

-- ---- the lines before the lists

-- LVDC SAVE 1
abbrev pub title_in : List (List ℕ) → Option Entry
title_in (save ∷ one ∷ []) = Some says.Title
title_in _ = None

-- the entry of the steps, where they were found
abbrev pub steps_of : Option ℕ → Option Entry
steps_of (Some steps) = Some (says.Steps steps)
steps_of None = None

-- STEPS s
abbrev pub steps_line_in : List (List ℕ) → Option Entry
steps_line_in (steps ∷ []) = steps_of (steps_in steps)
steps_line_in _ = None

-- the entry of the count, where it was found
abbrev pub count_of : Option ℕ → Option Entry
count_of (Some count) = Some (says.Count count)
count_of None = None

-- COUNT n
abbrev pub count_line_in : List (List ℕ) → Option Entry
count_line_in (count ∷ []) = count_of (times_in count)
count_line_in _ = None

-- a bit for the pair that one of the tokens names
abbrev pub pair_bit : ℕ → List (List ℕ) → ℕ
pair_bit pair tokens = if list_any (λ token. bytes_eq token ((48 + pair) ∷ [])) tokens then 2 ^ pair else 0

-- the pairs that the tokens name
abbrev pub pairs_in : List (List ℕ) → ℕ
pairs_in tokens = pair_bit 0 tokens + pair_bit 1 tokens + pair_bit 2 tokens + pair_bit 3 tokens

-- SIMPLEX and one pair or more
abbrev pub simplex_line_in : List (List ℕ) → Option Entry
simplex_line_in tokens = if pairs_in tokens == 0 then None else Some (says.Simplex (pairs_in tokens))

-- the entry of a copy, where all its fields were found
abbrev pub copy_of : Option ℕ → Option ℕ → Option ℕ → Option (List ℕ) → Option Entry
copy_of (Some number) (Some copy) (Some count) (Some latches) =
    Some (says.Copy (record { number = number; copy = copy; count = count; latches = latches }))
copy_of _ _ _ _ = None

-- COPY m c n and the latches
abbrev pub copy_line_in : List (List ℕ) → Option Entry
copy_line_in (m ∷ c ∷ n ∷ latches) = copy_of (decimal_in 1 8 m) (decimal_in 1 4 c) (steps_in n) (words_in latches)
copy_line_in _ = None

-- the entry of the four twins, where all were found
abbrev pub select_of : Option ℕ → Option ℕ → Option ℕ → Option ℕ → Option Entry
select_of (Some a) (Some b) (Some c) (Some d) = Some (says.Select (a ∷ b ∷ c ∷ d ∷ []))
select_of _ _ _ _ = None

-- SELECT and the four twins
abbrev pub select_line_in : List (List ℕ) → Option Entry
select_line_in (a ∷ b ∷ c ∷ d ∷ []) = select_of (twin_in a) (twin_in b) (twin_in c) (twin_in d)
select_line_in _ = None

-- ---- the lines of lists

-- the entry of a stored cell, where all its fields were found
abbrev pub cell_of : Option ℕ → Option Spot → Option ℕ → Option Entry
cell_of (Some twin) (Some at) (Some cell) = Some (says.Cell (record { twin = twin; at = at; cell = cell }))
cell_of _ _ _ = None

-- CELL w p ss lll cccccccccc
abbrev pub cell_line_in : List (List ℕ) → Option Entry
cell_line_in (w ∷ p ∷ s ∷ loc ∷ cell ∷ []) = cell_of (twin_in w) (place_in p s loc) (cell_in cell)
cell_line_in _ = None

-- the entry of a word and its address, where both were found
abbrev pub word_of : Option Spot → Option ℕ → Option Entry
word_of (Some at) (Some word) = Some (says.Word (record { at = at; word = word }))
word_of _ _ = None

-- WORD p ss lll wwwwwwwww
abbrev pub word_line_in : List (List ℕ) → Option Entry
word_line_in (p ∷ s ∷ loc ∷ word ∷ []) = word_of (spot_in p s loc) (word_in word)
word_line_in _ = None

-- the entry of a port exchange, where all its fields were found
abbrev pub exchange_of : Bool → Option ℕ → Option ℕ → Option ℕ → Option Entry
exchange_of reading (Some time) (Some port) (Some word) =
    Some (says.Exchange (record { time = time; port = port; reading = reading; word = word }))
exchange_of _ _ _ _ = None

-- IN t port word, or OUT t port word
abbrev pub exchange_line_in : Bool → List (List ℕ) → Option Entry
exchange_line_in reading (time ∷ port ∷ word ∷ []) = exchange_of reading (times_in time) (port_in port) (word_in word)
exchange_line_in reading _ = None

-- the entry of a repair, where all its fields were found
abbrev pub repair_of : Option Bool → Option ℕ → Option Spot → Option ℕ → Option Entry
repair_of (Some switched) (Some step) (Some at) (Some twin) =
    Some (says.Repair (record { step = step; at = at; twin = twin; switched = switched }))
repair_of _ _ _ _ = None

-- whether SWITCH stands at the end
abbrev pub switch_in : List (List ℕ) → Option Bool
switch_in [] = Some false
switch_in (switch ∷ []) = Some true
switch_in _ = None

-- REPAIR t p ss lll w, and SWITCH where the selection switched
abbrev pub repair_line_in : List (List ℕ) → Option Entry
repair_line_in (t ∷ p ∷ s ∷ loc ∷ w ∷ rest) = repair_of (switch_in rest) (steps_in t) (spot_in p s loc) (twin_in w)
repair_line_in _ = None

-- the entry of a word that a device holds, where both fields were found
abbrev pub state_of : Option ℕ → Option ℕ → Option Entry
state_of (Some port) (Some word) = Some (says.State (record { port = port; word = word }))
state_of _ _ = None

-- STATE port word
abbrev pub state_line_in : List (List ℕ) → Option Entry
state_line_in (port ∷ word ∷ []) = state_of (port_in port) (word_in word)
state_line_in _ = None

-- the entry of a device that is taken away, where both fields were found
abbrev pub unplug_of : Option ℕ → Option ℕ → Option Entry
unplug_of (Some port) (Some time) = Some (says.Unplug (record { port = port; time = time }))
unplug_of _ _ = None

-- UNPLUG port time
abbrev pub unplug_line_in : List (List ℕ) → Option Entry
unplug_line_in (port ∷ time ∷ []) = unplug_of (port_in port) (times_in time)
unplug_line_in _ = None

-- a fault line, or else an order line
abbrev pub script_of : Option Event → Option (List ℕ) → Option Entry
script_of (Some event) order = Some (says.Fault event)
script_of None (Some order) = Some (says.Order order)
script_of None None = None

-- END
abbrev pub end_in : List (List ℕ) → Option Entry
end_in [] = Some says.End
end_in _ = None

-- ---- any line

-- by the words of the lists
abbrev pub list_line_in : List ℕ → List (List ℕ) → Option Entry
list_line_in word fields =
    if bytes_eq word (codes "CELL") then cell_line_in fields
    else (if bytes_eq word (codes "WORD") then word_line_in fields
    else (if bytes_eq word (codes "IN") then exchange_line_in true fields
    else (if bytes_eq word (codes "OUT") then exchange_line_in false fields
    else (if bytes_eq word (codes "REPAIR") then repair_line_in fields
    else (if bytes_eq word (codes "STATE") then state_line_in fields
    else (if bytes_eq word (codes "UNPLUG") then unplug_line_in fields
    else script_of (fault_in (word ∷ fields)) (order_in (word ∷ fields))))))))

-- by the words before the lists, and the last one
abbrev pub head_line_in : List ℕ → List (List ℕ) → Option Entry
head_line_in word fields =
    if bytes_eq word (codes "COPY") then copy_line_in fields
    else (if bytes_eq word (codes "LVDC") then title_in fields
    else (if bytes_eq word (codes "STEPS") then steps_line_in fields
    else (if bytes_eq word (codes "COUNT") then count_line_in fields
    else (if bytes_eq word (codes "SIMPLEX") then simplex_line_in fields
    else (if bytes_eq word (codes "SELECT") then select_line_in fields
    else (if bytes_eq word (codes "END") then end_in fields
    else list_line_in word fields))))))

-- by the first token
abbrev pub entry_in : List (List ℕ) → Option Entry
entry_in [] = None
entry_in (word ∷ fields) = head_line_in word fields

-- the entry, where the text is its line
abbrev pub spelled : List ℕ → Option Entry → Option Entry
spelled text (Some entry) = if bytes_eq (entry_line entry) (text ++ codes "\n") then Some entry else None
spelled text None = None

-- what a line says
abbrev pub entry_of : List ℕ → Option Entry
entry_of text = spelled text (entry_in (token_texts_of text))
