-- The sections of a deck after its program, line by line.
use Rattle.std.specs.Prelude.{◌≡◌, ◌≢◌, ℕ, ◌+◌, ◌^◌, ◌-◌, nat_lt, nat_le, Bool, true, false, ◌&&◌, ◌==◌, List, [], ◌∷◌, ◌++◌, map, length, codes, if◌then◌else◌, Result, Ok, Err}
use Rattle.std.specs.List.{list_any}
use Rattle.std.specs.Str.{bytes_eq}
use Rattle.std.specs.declared.option.Option.{Option}
use Rattle.std.specs.declared.option.Option.TheVariants.{None, Some}
use Rattle.lvdc_map.specs.Hop.{hop_of}
use Rattle.lvdc_text.specs.Lines.{token_texts_of, is_long, is_comment}
use Rattle.lvdc_text.specs.Numbers.{number_of, plain_number_of, below, word_in}
use Rattle.lvdc_port.specs.Device.{Device}
use Rattle.lvdc_port.specs.Supplies.{kind_at}
use Rattle.lvdc_port.specs.declared.device.Kind.{Kind}
use Rattle.lvdc_port.specs.declared.device.Kind.TheVariants.{Tape}
use Rattle.lvdc_port.specs.declared.requests.Supply.{Supply}
use Rattle.lvdc_plain.specs.declared.records.Unplug.{Unplug}
use Rattle.lvdc_fault.specs.declared.event.Event.{Event}
use Rattle.lvdc_lines.specs.Lines.{fault_in, order_in}
use Rattle.lvdc_source.specs.Names.{is_name}
use Rattle.lvdc_fault.specs.declared.TheConstants.{MOST_TIMES, MOST_EVENTS}
use Rattle.lvdc_orders.specs.declared.orders.TheConstants.{MOST_ORDERS}
use Rattle.lvdc_deck.specs.declared.entry.EntryPoint.{EntryPoint}
use Rattle.lvdc_deck.specs.declared.entry.EntryPoint.TheVariants.{Constant, Name}
use Rattle.lvdc_deck.specs.declared.fault.DeckFault.{DeckFault}
use Rattle.lvdc_deck.specs.declared.fault.DeckFault.TheVariants.{NoMemory as WantsMemory, BadSection, BadLine, NoDevice, TooManyEvents, CountTooLarge}
use Rattle.lvdc_deck.specs.declared.section.ProgramKind.{ProgramKind}
use Rattle.lvdc_deck.specs.declared.section.ProgramKind.TheVariants.{Image, Source}
use Rattle.lvdc_deck.specs.declared.section.Section.{Section}
use Rattle.lvdc_deck.specs.declared.section.Section.TheVariants.{Program, Start, Simplex, Ports, Faults, Order, Run, Debug}

-- what the sections have said so far, after a program of this kind: the section in force, the entry point of START, SIMPLEX's
-- pairs as a bit each, the words for tapes and the unplug lines in their order, the events of FAULTS, the orders of ORDER, RUN's count
-- and its line, and the first line that opens PORTS, FAULTS or DEBUG
pub record Sections : Type 0 where
  pub kind : ProgramKind
  pub section : Section
  pub start : Option EntryPoint
  pub simplex : ℕ
  pub supplies : List Supply
  pub unplugs : List Unplug
  pub script : List Event
  pub orders : List (List ℕ)
  pub count : Option ℕ
  pub run_line : ℕ
  pub other_line : Option ℕ

-- before any section
abbrev pub nothing_said : ProgramKind → Sections
nothing_said kind =
    record {
      kind = kind;
      section = Program;
      start = None;
      simplex = 0;
      supplies = [];
      unplugs = [];
      script = [];
      orders = [];
      count = None;
      run_line = 0;
      other_line = None;
    }

-- ---- section words

-- the sections in their order
abbrev pub rank : Section → ℕ
rank Program = 0
rank Start = 1
rank Simplex = 2
rank Ports = 3
rank Faults = 4
rank Order = 5
rank Run = 6
rank Debug = 7

-- the section that a first word opens
abbrev pub section_of : List ℕ → Option Section
section_of word =
    if bytes_eq word (codes "START") then Some Start
    else (if bytes_eq word (codes "SIMPLEX") then Some Simplex
    else (if bytes_eq word (codes "PORTS") then Some Ports
    else (if bytes_eq word (codes "FAULTS") then Some Faults
    else (if bytes_eq word (codes "ORDER") then Some Order
    else (if bytes_eq word (codes "RUN") then Some Run
    else (if bytes_eq word (codes "DEBUG") then Some Debug else None))))))

-- the last section, in which every line is a command
abbrev pub is_debug : Section → Bool
is_debug Debug = true
is_debug section = false

-- ---- numbers of lines

-- a port: one to three octal digits up to 377
abbrev pub port_in : List ℕ → Option ℕ
port_in token = below (2 ^ 8) (number_of 8 3 token)

-- an instruction time: a decimal number up to the greatest count, without a needless zero
abbrev pub time_in : List ℕ → Option ℕ
time_in token = below (MOST_TIMES + 1) (plain_number_of 7 token)

-- a word before others, where all were found
abbrev pub words_with : Option ℕ → Option (List ℕ) → Option (List ℕ)
words_with (Some w) (Some ws) = Some (w ∷ ws)
words_with (Some w) None = None
words_with None ws = None

-- the words of the tokens, where each token is one
abbrev pub words_in : List (List ℕ) → Option (List ℕ)
words_in [] = Some []
words_in (token ∷ tokens) = words_with (word_in token) (words_in tokens)

-- ---- the forms of sections

-- the entry point that a token after START names: a constant or, after SOURCE, a name
abbrev pub entry_by : ProgramKind → ℕ → List ℕ → Option ℕ → Option EntryPoint
entry_by kind number token (Some w) = Some (Constant (hop_of w))
entry_by Source number token None = if is_name token then Some (Name number token) else None
entry_by Image number token None = None

-- what a token of START means: a HOP constant, or behind a source a name
abbrev pub entry_in : ProgramKind → ℕ → List ℕ → Option EntryPoint
entry_in kind number token = entry_by kind number token (word_in token)

-- START's entry point, where it has its form
abbrev pub with_start : Sections → ℕ → Option EntryPoint → Result Sections DeckFault
with_start s number None = Err (BadLine number)
with_start s number (Some entry) = Ok (record s { section = Start; start = Some entry })

-- START and an entry point
abbrev pub start_line : Sections → ℕ → List (List ℕ) → Result Sections DeckFault
start_line s number (token ∷ []) = with_start s number (entry_in s.kind number token)
start_line s number tokens = Err (BadLine number)

-- a pair before later ones, where all were found
abbrev pub pairs_with : ℕ → Option ℕ → Option ℕ
pairs_with pair (Some pairs) = Some (2 ^ pair + pairs)
pairs_with pair None = None

-- pairs from this one on, one digit each and rising, as a bit each
abbrev pub pairs_from : ℕ → List (List ℕ) → Option ℕ
pairs_from least [] = Some 0
pairs_from least ((digit ∷ []) ∷ tokens) =
    if nat_le (48 + least) digit && nat_lt digit 52 then pairs_with (digit - 48) (pairs_from (digit - 47) tokens) else None
pairs_from least (token ∷ tokens) = None

-- SIMPLEX's pairs, where they have their form
abbrev pub with_simplex : Sections → ℕ → Option ℕ → Result Sections DeckFault
with_simplex s number None = Err (BadLine number)
with_simplex s number (Some pairs) = Ok (record s { section = Simplex; simplex = pairs })

-- SIMPLEX and one pair or more
abbrev pub simplex_line : Sections → ℕ → List (List ℕ) → Result Sections DeckFault
simplex_line s number [] = Err (BadLine number)
simplex_line s number (token ∷ tokens) = with_simplex s number (pairs_from 0 (token ∷ tokens))

-- the first of the lines that open PORTS, FAULTS and DEBUG, of those so far and this one
abbrev pub first_other : Option ℕ → ℕ → Option ℕ
first_other None number = Some number
first_other (Some first) number = Some first

-- PORTS, FAULTS or DEBUG begins on this line
abbrev pub begun : Section → Sections → ℕ → Sections
begun section s number = record s { section = section; other_line = first_other s.other_line number }

-- PORTS alone
abbrev pub ports_line : Sections → ℕ → List (List ℕ) → Result Sections DeckFault
ports_line s number [] = Ok (begun Ports s number)
ports_line s number tokens = Err (BadLine number)

-- FAULTS alone
abbrev pub faults_line : Sections → ℕ → List (List ℕ) → Result Sections DeckFault
faults_line s number [] = Ok (begun Faults s number)
faults_line s number tokens = Err (BadLine number)

-- ORDER alone
abbrev pub order_line : Sections → ℕ → List (List ℕ) → Result Sections DeckFault
order_line s number [] = Ok (record s { section = Order })
order_line s number tokens = Err (BadLine number)

-- RUN's count, where it has its form, up to the greatest
abbrev pub with_count : Sections → ℕ → Option ℕ → Result Sections DeckFault
with_count s number None = Err (BadLine number)
with_count s number (Some n) =
    if nat_lt MOST_TIMES n then Err (CountTooLarge number) else Ok (record s { section = Run; count = Some n; run_line = number })

-- RUN and a count of one to nine digits
abbrev pub run_line : Sections → ℕ → List (List ℕ) → Result Sections DeckFault
run_line s number (token ∷ []) = with_count s number (number_of 10 9 token)
run_line s number tokens = Err (BadLine number)

-- DEBUG alone
abbrev pub debug_line : Sections → ℕ → List (List ℕ) → Result Sections DeckFault
debug_line s number [] = Ok (begun Debug s number)
debug_line s number tokens = Err (BadLine number)

-- a section word in its place; the program has no word here
abbrev pub opens : Section → Sections → ℕ → List (List ℕ) → Result Sections DeckFault
opens Start s number tokens = start_line s number tokens
opens Simplex s number tokens = simplex_line s number tokens
opens Ports s number tokens = ports_line s number tokens
opens Faults s number tokens = faults_line s number tokens
opens Order s number tokens = order_line s number tokens
opens Run s number tokens = run_line s number tokens
opens Debug s number tokens = debug_line s number tokens
opens Program s number tokens = Err (BadLine number)

-- ---- lines of PORTS

-- an earlier line unplugs this port
abbrev pub is_unplugged : Sections → ℕ → Bool
is_unplugged s port = list_any (λ line. line.port == port) s.unplugs

-- the kind of the device at this port, where there is one that no earlier line unplugs
abbrev pub kind_left : List Device → Sections → ℕ → Option Kind
kind_left devices s port = if is_unplugged s port then None else kind_at (λ device. device) port devices

-- these words, each for the tape at this port
abbrev pub supply_of : ℕ → List ℕ → List Supply
supply_of port words = map (λ w. record { port = port; word = w }) words

-- the words are kept where the device is a tape
abbrev pub tape_at : Option Kind → Sections → ℕ → ℕ → List ℕ → Result Sections DeckFault
tape_at (Some Tape) s number port words = Ok (record s { supplies = s.supplies ++ supply_of port words })
tape_at kind s number port words = Err (NoDevice number)

-- TAPE's port and words, where they have their form, which comes before the device
abbrev pub with_tape : List Device → Sections → ℕ → Option ℕ → Option (List ℕ) → Result Sections DeckFault
with_tape devices s number (Some port) (Some words) = tape_at (kind_left devices s port) s number port words
with_tape devices s number port words = Err (BadLine number)

-- TAPE, a port and one word or more
abbrev pub tape_line : List Device → Sections → ℕ → List (List ℕ) → Result Sections DeckFault
tape_line devices s number (port ∷ token ∷ tokens) = with_tape devices s number (port_in port) (words_in (token ∷ tokens))
tape_line devices s number tokens = Err (BadLine number)

-- the line is kept where there is a device
abbrev pub unplug_at : Option Kind → Sections → ℕ → ℕ → ℕ → Result Sections DeckFault
unplug_at (Some kind) s number port time = Ok (record s { unplugs = s.unplugs ++ record { port = port; time = time } ∷ [] })
unplug_at None s number port time = Err (NoDevice number)

-- UNPLUG's port and time, where they have their form
abbrev pub with_unplug : List Device → Sections → ℕ → Option ℕ → Option ℕ → Result Sections DeckFault
with_unplug devices s number (Some port) (Some time) = unplug_at (kind_left devices s port) s number port time
with_unplug devices s number port time = Err (BadLine number)

-- UNPLUG, a port and a time
abbrev pub unplug_line : List Device → Sections → ℕ → List (List ℕ) → Result Sections DeckFault
unplug_line devices s number (port ∷ time ∷ []) = with_unplug devices s number (port_in port) (time_in time)
unplug_line devices s number tokens = Err (BadLine number)

-- a line of PORTS
abbrev pub port_line : List Device → Sections → ℕ → List ℕ → List (List ℕ) → Result Sections DeckFault
port_line devices s number first tokens =
    if bytes_eq first (codes "TAPE") then tape_line devices s number tokens
    else (if bytes_eq first (codes "UNPLUG") then unplug_line devices s number tokens else Err (BadLine number))

-- ---- lines of FAULTS and ORDER

-- an event, where the line has its form and isn't one too many
abbrev pub with_event : Sections → ℕ → Option Event → Result Sections DeckFault
with_event s number None = Err (BadLine number)
with_event s number (Some event) =
    if nat_lt (length s.script) MOST_EVENTS then Ok (record s { script = s.script ++ event ∷ [] }) else Err (TooManyEvents number)

-- an order, where the line has its form; one too many is a line out of form
abbrev pub with_order : Sections → ℕ → Option (List ℕ) → Result Sections DeckFault
with_order s number None = Err (BadLine number)
with_order s number (Some order) =
    if nat_lt (length s.orders) MOST_ORDERS then Ok (record s { orders = s.orders ++ order ∷ [] }) else Err (BadLine number)

-- ---- one line

-- a line whose first word is no section's belongs to PORTS, FAULTS or ORDER, where that is in force
abbrev pub belongs : List Device → Section → Sections → ℕ → List ℕ → List (List ℕ) → Result Sections DeckFault
belongs devices Ports s number first tokens = port_line devices s number first tokens
belongs devices Faults s number first tokens = with_event s number (fault_in (first ∷ tokens))
belongs devices Order s number first tokens = with_order s number (order_in (first ∷ tokens))
belongs devices section s number first tokens = Err (BadSection number)

-- a section word stands in its place where it comes after the section in force
abbrev pub in_order : Section → Sections → ℕ → List (List ℕ) → Result Sections DeckFault
in_order section s number tokens = if nat_lt (rank s.section) (rank section) then opens section s number tokens else Err (BadSection number)

-- a line by the section that its first word opens
abbrev pub by_word : List Device → Option Section → Sections → ℕ → List ℕ → List (List ℕ) → Result Sections DeckFault
by_word devices None s number first tokens = belongs devices s.section s number first tokens
by_word devices (Some section) s number first tokens = in_order section s number tokens

-- a line by its tokens
abbrev pub by_tokens : List Device → Sections → ℕ → List (List ℕ) → Result Sections DeckFault
by_tokens devices s number [] = Ok s
by_tokens devices s number (first ∷ tokens) = by_word devices (section_of first) s number first tokens

-- what a line with this number, which is no command, makes of the sections before it
abbrev pub after_line : List Device → Sections → ℕ → List ℕ → Result Sections DeckFault
after_line devices s number text =
    if is_long text then Err (BadLine number)
    else (if is_comment text then Ok s else by_tokens devices s number (token_texts_of text))

-- a call made these sections, or was refused by this fault, unless memory ran out
abbrev pub Makes : {T : Type 0} → Result T DeckFault → Sections → Result Sections DeckFault → Type 0
Makes (Ok done) new due = due ≡ Ok new
Makes (Err fault) new due = fault ≢ WantsMemory → due ≡ Err fault
