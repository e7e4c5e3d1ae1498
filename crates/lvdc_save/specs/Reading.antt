-- The saved state that a text means, or its first refusal: what its lines say, one after the other.
use Rattle.std.specs.Prelude.{◌≡◌, ◌≢◌, ℕ, ◌+◌, ◌-◌, ◌*◌, ◌/◌, ◌%◌, ◌^◌, ◌<◌, Bool, true, false, not, nat_lt, nat_le, ◌==◌, ◌&&◌, List, [], ◌∷◌, ◌++◌, length, slice_index, if◌then◌else◌, Result, Ok, Err}
use Rattle.std.specs.List.{list_any}
use Rattle.std.specs.declared.option.Option.{Option}
use Rattle.std.specs.declared.option.Option.TheVariants.{None, Some}
use Rattle.lvdc_word.specs.Cell.{code_of}
use Rattle.lvdc_map.specs.Address.{number_of}
use Rattle.lvdc_map.specs.Banks.{is_there}
use Rattle.lvdc_map.specs.declared.placed.Placed.{Placed}
use Rattle.lvdc_text.specs.Lines.{NumberedLine, lines_of, numbered}
use Rattle.lvdc_twin.specs.Store.{slot_of}
use Rattle.lvdc_twin.specs.declared.held.Held.{Held}
use Rattle.lvdc_vote.specs.Bits.{majority}
use Rattle.lvdc_vote.specs.Numbers.{latches_of}
use Rattle.lvdc_fault.specs.declared.event.Event.{Event}
use Rattle.lvdc_port.specs.Device.{Device}
use Rattle.lvdc_port.specs.Supplies.{kind_at}
use Rattle.lvdc_port.specs.declared.device.Kind.{Kind}
use Rattle.lvdc_port.specs.declared.device.Kind.TheVariants.{Tape, Latch, Ticker, Recorder}
use Rattle.lvdc_port.specs.declared.requests.Supply.{Supply}
use Rattle.lvdc_plain.specs.declared.records.Exchange.{Exchange}
use Rattle.lvdc_plain.specs.declared.records.Unplug.{Unplug}
use Rattle.lvdc_model.specs.declared.repair.Repair.{Repair}
use Rattle.lvdc_fault.specs.Events.{EVENTS}
use Rattle.lvdc_orders.specs.Orders.{COPIES, ORDERS}
use Rattle.lvdc_save.specs.declared.entry.CopyState.{CopyState}
use Rattle.lvdc_save.specs.declared.entry.Entry.{Entry}
use Rattle.lvdc_save.specs.declared.entry.Entry.TheVariants as says
use Rattle.lvdc_save.specs.declared.mark.Mark.{Mark}
use Rattle.lvdc_save.specs.declared.section.Section.{Section}
use Rattle.lvdc_save.specs.declared.section.Section.TheVariants as section
use Rattle.lvdc_save.specs.declared.fault.SaveFault.{SaveFault}
use Rattle.lvdc_save.specs.declared.fault.SaveFault.TheVariants.{NoMemory as WantsMemory, BadSave, NoDevice}
use Rattle.lvdc_save.specs.declared.saved.Saved.{Saved}
use Rattle.lvdc_save.specs.Saved.{module_at, copy_at}
use Rattle.lvdc_save.specs.Entries.{entry_of}

-- what the lines so far have said: the section of the last one, the least place that another line of that section may have,
-- and of each port with STATE lines the first of them
pub record Progress : Type 0 where
  pub section : Section
  pub least : ℕ
  pub steps : ℕ
  pub count : ℕ
  pub banks : ℕ
  pub latches : List ℕ
  pub differed : List ℕ
  pub selected : List ℕ
  pub cells : List Held
  pub words : List Placed
  pub log : List Exchange
  pub repairs : List Repair
  pub states : List Supply
  pub marks : List Mark
  pub unplugs : List Unplug
  pub script : List Event
  pub orders : List (List ℕ)

-- before the first line
abbrev pub nothing_said : Progress
nothing_said =
    record {
      section = section.Nothing;
      least = 0;
      steps = 0;
      count = 0;
      banks = 0;
      latches = [];
      differed = [];
      selected = [];
      cells = [];
      words = [];
      log = [];
      repairs = [];
      states = [];
      marks = [];
      unplugs = [];
      script = [];
      orders = [];
    }

-- ---- the order of the sections

-- the sections in their order
abbrev pub rank : Section → ℕ
rank section.Nothing = 0
rank section.Title = 1
rank section.Steps = 2
rank section.Count = 3
rank section.Simplex = 4
rank section.Copies = 5
rank section.Select = 6
rank section.Cells = 7
rank section.Words = 8
rank section.Log = 9
rank section.Repairs = 10
rank section.States = 11
rank section.Unplugs = 12
rank section.Faults = 13
rank section.Orders = 14
rank section.End = 15

-- the section of an entry
abbrev pub section_of : Entry → Section
section_of says.Title = section.Title
section_of (says.Steps steps) = section.Steps
section_of (says.Count count) = section.Count
section_of (says.Simplex banks) = section.Simplex
section_of (says.Copy copy) = section.Copies
section_of (says.Select twins) = section.Select
section_of (says.Cell held) = section.Cells
section_of (says.Word placed) = section.Words
section_of (says.Exchange exchange) = section.Log
section_of (says.Repair repair) = section.Repairs
section_of (says.State supply) = section.States
section_of (says.Unplug unplug) = section.Unplugs
section_of (says.Fault event) = section.Faults
section_of (says.Order order) = section.Orders
section_of says.End = section.End

-- the first section that may stand just before a line of this one: SIMPLEX may be left out, and so may each list but the orders
abbrev pub earliest : Section → ℕ
earliest section.Nothing = 16
earliest section.Title = 0
earliest section.Steps = 1
earliest section.Count = 2
earliest section.Simplex = 3
earliest section.Copies = 3
earliest section.Select = 5
earliest section.End = 14
earliest list = 6

-- the last section that may stand just before a line of this one: the section itself, where it has several lines
abbrev pub latest : Section → ℕ
latest section.Nothing = 0
latest section.Title = 0
latest section.Steps = 1
latest section.Count = 2
latest section.Simplex = 3
latest section.Select = 5
latest section.End = 14
latest list = rank list

-- a line of one section may follow one of another
abbrev pub follows : Section → Section → Bool
follows next last = nat_le (earliest next) (rank last) && nat_le (rank last) (latest next)

-- ---- the order of the lines of a section

-- the place of an entry among those of its section
abbrev pub place_of : Entry → ℕ
place_of (says.Cell held) = slot_of held.twin held.at
place_of (says.Word placed) = number_of placed.at
place_of (says.Exchange exchange) = exchange.time
place_of (says.Repair repair) = repair.step
place_of (says.State supply) = supply.port
place_of _ = 0

-- a device that holds one word alone has one line
abbrev pub holds_one : Option Kind → Bool
holds_one (Some Latch) = true
holds_one _ = false

-- the least place that may follow an entry in its section: times may stand still, and so may the ports of lists of words
abbrev pub least_after : List Device → Entry → ℕ
least_after devices (says.Cell held) = slot_of held.twin held.at + 1
least_after devices (says.Word placed) = number_of placed.at + 1
least_after devices (says.Exchange exchange) = exchange.time
least_after devices (says.Repair repair) = repair.step + 1
least_after devices (says.State supply) =
    if holds_one (kind_at (λ device. device) supply.port devices) then supply.port + 1 else supply.port
least_after devices _ = 0

-- the place after that of a repair is a number of 64 bits
abbrev pub HasNext : Entry → Type 0
HasNext (says.Repair repair) = repair.step < 2 ^ 64 - 1
HasNext entry = Unit {0}

-- the least place that an entry of this section may have
abbrev pub least_in : Section → Progress → ℕ
least_in next r = if rank next == rank r.section then r.least else 0

-- ---- what an entry must be in what was said before

-- a latch, or 0 where its line is still to come
abbrev pub latch_at : List ℕ → ℕ → ℕ
latch_at latches index = slice_index latches index

-- by vote a time begins, and nothing has stopped: PHASE and STOP are 0 modulo 4, as far as the latches have come
abbrev pub is_at_rest : List ℕ → Bool
is_at_rest latches =
    majority (latch_at latches 0) (latch_at latches 2) (latch_at latches 4) % 4 == 0
    && majority (latch_at latches 39) (latch_at latches 41) (latch_at latches 43) % 4 == 0

-- it is the copy whose turn it is, with all its latches, and differed in no more steps than were made
abbrev pub is_next_copy : Progress → CopyState → Bool
is_next_copy r c =
    nat_lt (length r.differed) COPIES && c.number == module_at (length r.differed) && c.copy == copy_at (length r.differed)
    && length c.latches == latches_of c.number && nat_le c.count r.steps && is_at_rest (r.latches ++ c.latches)

-- the numbers of an entry go with those before it
abbrev pub agrees : Progress → Entry → Bool
agrees r (says.Steps steps) = steps % 3 == 0
agrees r (says.Count count) = nat_le r.steps (3 * count)
agrees r (says.Copy copy) = is_next_copy r copy
agrees r (says.Select twins) = length r.differed == COPIES
agrees r (says.Cell held) = not (held.cell == code_of 0)
agrees r (says.Word placed) = not (placed.word == 0) && is_there r.banks placed.at
agrees r (says.Exchange exchange) = nat_lt exchange.time (r.steps / 3)
agrees r (says.Repair repair) = nat_lt repair.step r.steps && is_there r.banks repair.at
agrees r (says.Fault event) = nat_lt (length r.script) EVENTS
agrees r (says.Order order) = nat_lt (length r.orders) ORDERS
agrees r _ = true

-- an entry may stand here
abbrev pub fits : Progress → Entry → Bool
fits r entry = follows (section_of entry) r.section && nat_le (least_in (section_of entry) r) (place_of entry) && agrees r entry

-- ---- the devices that it names

-- an earlier line unplugs this port
abbrev pub is_unplugged : Progress → ℕ → Bool
is_unplugged r port = list_any (λ line. line.port == port) r.unplugs

-- the line of the first of these marks that is of this port
abbrev pub line_in : List Mark → ℕ → Option ℕ
line_in [] port = None
line_in (mark ∷ marks) port = if mark.port == port then Some mark.line else line_in marks port

-- a STATE line needs a device that holds words
abbrev pub without_words : ℕ → Option Kind → Option ℕ
without_words number None = Some number
without_words number (Some Ticker) = Some number
without_words number (Some Tape) = None
without_words number (Some Latch) = None
without_words number (Some Recorder) = None

-- an UNPLUG line needs a device; and where it was done before the state, that device has no STATE line
abbrev pub without_device : ℕ → Progress → Unplug → Option Kind → Option ℕ
without_device number r unplug None = Some number
without_device number r unplug (Some kind) =
    if is_unplugged r unplug.port then Some number
    else (if nat_lt unplug.time (r.steps / 3) then line_in r.marks unplug.port else None)

-- the line that names a device which isn't there for this entry, which stands on the line of this number
abbrev pub lacking : List Device → ℕ → Progress → Entry → Option ℕ
lacking devices number r (says.State supply) = without_words number (kind_at (λ device. device) supply.port devices)
lacking devices number r (says.Unplug unplug) = without_device number r unplug (kind_at (λ device. device) unplug.port devices)
lacking devices number r _ = None

-- ---- one line after the other

-- a mark for the first STATE line of a port
abbrev pub marks_with : ℕ → Progress → Supply → List Mark
marks_with number r supply = r.marks ++ (if list_any (λ mark. mark.port == supply.port) r.marks then [] else record { port = supply.port; line = number } ∷ [])

-- what an entry adds
abbrev pub adds : ℕ → Progress → Entry → Progress
adds number r says.Title = r
adds number r (says.Steps steps) = record r { steps = steps }
adds number r (says.Count count) = record r { count = count }
adds number r (says.Simplex banks) = record r { banks = banks }
adds number r (says.Copy copy) = record r { latches = r.latches ++ copy.latches; differed = r.differed ++ copy.count ∷ [] }
adds number r (says.Select twins) = record r { selected = twins }
adds number r (says.Cell held) = record r { cells = r.cells ++ held ∷ [] }
adds number r (says.Word placed) = record r { words = r.words ++ placed ∷ [] }
adds number r (says.Exchange exchange) = record r { log = r.log ++ exchange ∷ [] }
adds number r (says.Repair repair) = record r { repairs = r.repairs ++ repair ∷ [] }
adds number r (says.State supply) = record r { states = r.states ++ supply ∷ []; marks = marks_with number r supply }
adds number r (says.Unplug unplug) = record r { unplugs = r.unplugs ++ unplug ∷ [] }
adds number r (says.Fault event) = record r { script = r.script ++ event ∷ [] }
adds number r (says.Order order) = record r { orders = r.orders ++ order ∷ [] }
adds number r says.End = r

-- the section of the entry is now the last, and the next place in it goes by the entry
abbrev pub moved_on : List Device → Progress → Entry → Progress
moved_on devices r entry = record r { section = section_of entry; least = least_after devices entry }

-- an entry that fits, by the line that lacks a device for it
abbrev pub by_lack : List Device → ℕ → Progress → Entry → Option ℕ → Result Progress SaveFault
by_lack devices number r entry (Some line) = Err (NoDevice line)
by_lack devices number r entry None = Ok (moved_on devices (adds number r entry) entry)

-- an entry on the line of this number
abbrev pub after_entry : List Device → ℕ → Progress → Entry → Result Progress SaveFault
after_entry devices number r entry =
    if fits r entry then by_lack devices number r entry (lacking devices number r entry) else Err (BadSave number)

-- what a line says, if anything
abbrev pub by_entry : List Device → ℕ → Progress → Option Entry → Result Progress SaveFault
by_entry devices number r (Some entry) = after_entry devices number r entry
by_entry devices number r None = Err (BadSave number)

-- one line
abbrev pub after_line : List Device → Progress → NumberedLine → Result Progress SaveFault
after_line devices r line = by_entry devices line.number r (entry_of line.text)

-- ---- the whole

-- goes on with what was read, or stays refused
abbrev pub and_then : {A B : Type 0} → Result A SaveFault → (A → Result B SaveFault) → Result B SaveFault
and_then (Ok a) f = f a
and_then (Err fault) f = Err fault

-- what was said after so many lines; a refusal keeps
unfoldable pub told_from : List Device → Progress → List NumberedLine → Result Progress SaveFault
told_from devices r [] = Ok r
told_from devices r (line ∷ lines) = and_then (after_line devices r line) (λ s. told_from devices s lines)

-- what was said after these entries, each on a line of its own, the first on the line of this number; a refusal keeps
unfoldable pub told_entries : List Device → ℕ → Progress → List Entry → Result Progress SaveFault
told_entries devices number r [] = Ok r
told_entries devices number r (e ∷ es) = and_then (after_entry devices number r e) (λ s. told_entries devices (number + 1) s es)

-- the saved state that all lines together say
abbrev pub saved_in : Progress → Saved
saved_in r =
    record {
      snapshot = record {
        steps = r.steps;
        latches = r.latches;
        differed = r.differed;
        selected = r.selected;
        cells = r.cells;
        words = r.words;
        log = r.log;
        repairs = r.repairs;
        banks = r.banks;
      };
      count = r.count;
      states = r.states;
      unplugs = r.unplugs;
      script = r.script;
      orders = r.orders;
    }

-- the last line must be END; where it is missing, that is named at one more than the last line
abbrev pub whole_of : ℕ → Progress → Result Saved SaveFault
whole_of next r = if rank r.section == 15 then Ok (saved_in r) else Err (BadSave next)

-- the saved state that these lines mean over these devices, or their first refusal
abbrev pub saved_from : List Device → List NumberedLine → Result Saved SaveFault
saved_from devices lines = and_then (told_from devices nothing_said lines) (whole_of (length lines + 1))

-- the saved state that the bytes mean over these devices, or their first refusal
abbrev pub saved_of : List Device → List ℕ → Result Saved SaveFault
saved_of devices bytes = saved_from devices (numbered bytes (lines_of bytes))

-- a call made this, or was refused by this fault, unless memory ran out
abbrev pub Makes : {T : Type 0} → Result T SaveFault → Progress → Result Progress SaveFault → Type 0
Makes (Ok done) new due = due ≡ Ok new
Makes (Err fault) new due = fault ≢ WantsMemory → due ≡ Err fault
