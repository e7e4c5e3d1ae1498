-- Worked lines of a saved text: their order, their limits, what they must be in what was said before, and what they add.
use Rattle.std.proofs.Common.{◌≡◌, ℕ, List, [], ◌∷◌, ◌++◌, Bool, false, true, Some, Result, Ok, Err, map, replicate, length, slice_index, is_some, is_ok, refl}
use Rattle.std.specs.Prelude.{codes}
use Rattle.std.specs.Fmt.{digits}
use Rattle.lvdc_map.specs.Address.{Spot}
use Rattle.lvdc_port.specs.Device.{Device}
use Rattle.lvdc_port.specs.declared.device.Kind.TheVariants.{Tape, Latch, Recorder}
use Rattle.lvdc_text.specs.Lines.{tokens_from}
use Rattle.lvdc_text.specs.Numbers.{octal_text, word_in}
use Rattle.lvdc_lines.specs.Noted.{lines_of}
use Rattle.lvdc_vote.specs.Bits.{majority}
use Rattle.lvdc_fault.specs.declared.event.Event.TheVariants.{Lag}
use Rattle.lvdc_fault.specs.declared.event.Event.{Event}
use Rattle.lvdc_save.specs.declared.fault.SaveFault.{SaveFault}
use Rattle.lvdc_save.specs.declared.mark.Mark.{Mark}
use Rattle.lvdc_save.specs.Entries.{entry_of}
use Rattle.lvdc_save.specs.Reading.{Progress, nothing_said, section_of, follows, is_at_rest, is_next_copy, agrees, told_entries, whole_of}
use Rattle.lvdc_save.specs.Saved.{entries_of}
use Rattle.lvdc_save.specs.declared.entry.CopyState.{CopyState}
use Rattle.lvdc_save.specs.declared.entry.Entry.{Entry}
use Rattle.lvdc_save.specs.declared.entry.Entry.TheVariants as says
use Rattle.lvdc_save.specs.declared.fault.SaveFault.TheVariants.{NoDevice}
use Rattle.lvdc_save.specs.declared.saved.Saved.{Saved}
use Rattle.lvdc_save.specs.declared.section.Section.{Section}
use Rattle.lvdc_save.specs.declared.section.Section.TheVariants as section

-- ---- the order of the sections

-- which lines may stand just before a line of this section: none, those of Title, Steps, Count, Simplex, Copies, Select, the six lists
-- from Cells to Unplugs, Faults, Orders and End
before : Section → List Bool
before next =
    map (follows next)
    (section.Nothing ∷ section.Title ∷ section.Steps ∷ section.Count ∷ section.Simplex ∷ section.Copies ∷ section.Select
    ∷ section.Cells ∷ section.Words ∷ section.Log ∷ section.Repairs ∷ section.States ∷ section.Unplugs ∷ section.Faults
    ∷ section.Orders ∷ section.End ∷ [])

-- so many sections that may not stand there, so many that may, and those behind them
run_of : ℕ → ℕ → ℕ → List Bool
run_of none some rest = replicate none false ++ replicate some true ++ replicate rest false

before_the_copies : (before section.Title ≡ run_of 0 1 15) × (before section.Steps ≡ run_of 1 1 14) × (before section.Count ≡ run_of 2 1 13)
    × (before section.Simplex ≡ run_of 3 1 12) × (before section.Copies ≡ run_of 3 3 10) × (before section.Select ≡ run_of 5 1 10)
unfolding before run_of
before_the_copies = (refl, refl, refl, refl, refl, refl)

before_the_lists : (before section.Cells ≡ run_of 6 2 8) × (before section.Words ≡ run_of 6 3 7) × (before section.Log ≡ run_of 6 4 6)
    × (before section.Repairs ≡ run_of 6 5 5) × (before section.States ≡ run_of 6 6 4) × (before section.Unplugs ≡ run_of 6 7 3)
    × (before section.Faults ≡ run_of 6 8 2) × (before section.Orders ≡ run_of 6 9 1) × (before section.End ≡ run_of 14 1 1)
unfolding before run_of
before_the_lists = (refl, refl, refl, refl, refl, refl, refl, refl, refl)

-- ---- the limits of fields

-- may a line stand in a saved text?
is_line : List ℕ → Bool
is_line text = is_some (entry_of text)

modules_of_a_copy : (is_line (codes "COPY 0 1 0 000000000 000000000") ≡ false) × (is_line (codes "COPY 7 1 0 000000000 000000000") ≡ true)
    × (is_line (codes "COPY 8 1 0 000000000 000000000") ≡ false)
unfolding is_line lines_of tokens_from word_in octal_text digits
modules_of_a_copy = (refl, refl, refl)

copies_of_a_module : (is_line (codes "COPY 3 0 0 000000000") ≡ false) × (is_line (codes "COPY 3 3 0 000000000") ≡ true)
    × (is_line (codes "COPY 3 4 0 000000000") ≡ false)
unfolding is_line lines_of tokens_from word_in octal_text digits
copies_of_a_module = (refl, refl, refl)

steps_of_a_copy : (is_line (codes "COPY 3 1 3000000 000000000") ≡ true) × (is_line (codes "COPY 3 1 3000001 000000000") ≡ false)
unfolding is_line lines_of tokens_from word_in octal_text digits
steps_of_a_copy = (refl, refl)

twins_selected : entry_of (codes "SELECT 0 1 0 0") ≡ Some (says.Select (0 ∷ 1 ∷ 0 ∷ 0 ∷ []))
unfolding lines_of tokens_from word_in octal_text digits
twins_selected = refl

twins_below_two : (is_line (codes "SELECT 2 0 0 0") ≡ false) × (is_line (codes "SELECT 0 2 0 0") ≡ false) × (is_line (codes "SELECT 0 0 2 0") ≡ false)
    × (is_line (codes "SELECT 0 0 0 2") ≡ false) × (is_line (codes "SELECT 0 0 0 1") ≡ true)
unfolding is_line lines_of tokens_from word_in octal_text digits
twins_below_two = (refl, refl, refl, refl, refl)

places_of_words : (is_line (codes "WORD 7 17 377 000000001") ≡ true) × (is_line (codes "WORD 8 17 377 000000001") ≡ false)
    × (is_line (codes "WORD 7 20 377 000000001") ≡ false) × (is_line (codes "WORD 7 17 400 000000001") ≡ false)
unfolding is_line lines_of tokens_from word_in octal_text digits
places_of_words = (refl, refl, refl, refl)

repairs : (is_line (codes "REPAIR 3000000 0 00 000 1") ≡ true) × (is_line (codes "REPAIR 3000001 0 00 000 1") ≡ false)
    × (is_line (codes "REPAIR 5 0 00 000 2") ≡ false)
unfolding is_line lines_of tokens_from word_in octal_text digits
repairs = (refl, refl, refl)

-- ---- a time begins and nothing has stopped: PHASE is the first latch of module 1, STOP the first of module 7

-- the 45 latches with these PHASE and STOP, and 3 in all others of the two modules
latches : List ℕ → List ℕ → List ℕ
latches phases stops =
    slice_index phases 0 ∷ 3 ∷ slice_index phases 1 ∷ 3 ∷ slice_index phases 2 ∷ replicate 34 3
    ++ slice_index stops 0 ∷ 3 ∷ slice_index stops 1 ∷ 3 ∷ slice_index stops 2 ∷ 3 ∷ []

-- three copies that differ in all bits, so that the vote has none
no_bit : List ℕ
no_bit = 1 ∷ 2 ∷ 4 ∷ []

rest_by_vote : is_at_rest (latches no_bit no_bit) ≡ true
unfolding latches no_bit majority
rest_by_vote = refl

rest_at_four : (is_at_rest (latches (4 ∷ 4 ∷ 4 ∷ []) no_bit) ≡ true) × (is_at_rest (latches no_bit (4 ∷ 4 ∷ 4 ∷ [])) ≡ true)
unfolding latches no_bit majority
rest_at_four = (refl, refl)

no_rest : (is_at_rest (latches (1 ∷ 1 ∷ 0 ∷ []) no_bit) ≡ false) × (is_at_rest (latches no_bit (0 ∷ 1 ∷ 1 ∷ [])) ≡ false)
unfolding latches no_bit majority
no_rest = (refl, refl)

-- ---- whose turn it is among the copies

-- after so many copies with these latches in all, of a machine that made three steps
after_copies : ℕ → List ℕ → Progress
after_copies copies given = record nothing_said { section = section.Copies; steps = 3; count = 9; differed = replicate copies 0; latches = given }

-- a copy of this module and number that differed in so many steps
copy : ℕ → ℕ → ℕ → List ℕ → CopyState
copy number which count given = record { number = number; copy = which; count = count; latches = given }

turns : (is_next_copy (after_copies 5 (replicate 10 0)) (copy 2 3 0 (0 ∷ 0 ∷ [])) ≡ true)
    × (is_next_copy (after_copies 5 (replicate 10 0)) (copy 3 3 0 (0 ∷ [])) ≡ false)
    × (is_next_copy (after_copies 5 (replicate 10 0)) (copy 2 1 0 (0 ∷ 0 ∷ [])) ≡ false)
    × (is_next_copy (after_copies 5 (replicate 10 0)) (copy 2 3 0 (0 ∷ [])) ≡ false)
unfolding after_copies copy majority
turns = (refl, refl, refl, refl)

steps_that_differed : (is_next_copy (after_copies 5 (replicate 10 0)) (copy 2 3 3 (0 ∷ 0 ∷ [])) ≡ true)
    × (is_next_copy (after_copies 5 (replicate 10 0)) (copy 2 3 4 (0 ∷ 0 ∷ [])) ≡ false)
unfolding after_copies copy majority
steps_that_differed = (refl, refl)

no_copy_after_the_last : is_next_copy (after_copies 21 (replicate 45 0)) (copy 8 1 0 []) ≡ false
unfolding after_copies copy majority
no_copy_after_the_last = refl

-- two copies of module 1 at phase 1 are outvoted by nothing; the latches of one copy go behind those before it
copies_at_rest : (is_next_copy (after_copies 2 (1 ∷ 0 ∷ 0 ∷ 0 ∷ [])) (copy 1 3 0 (1 ∷ 0 ∷ [])) ≡ false)
    × (is_next_copy (after_copies 2 (1 ∷ 0 ∷ 1 ∷ 0 ∷ [])) (copy 1 3 0 (0 ∷ 0 ∷ [])) ≡ false)
    × (is_next_copy (after_copies 3 (1 ∷ 0 ∷ 0 ∷ 0 ∷ 0 ∷ 0 ∷ [])) (copy 2 1 0 (1 ∷ 0 ∷ [])) ≡ true)
    × (is_next_copy (after_copies 5 (0 ∷ 1 ∷ 0 ∷ 1 ∷ 0 ∷ 1 ∷ 0 ∷ 0 ∷ 0 ∷ 0 ∷ [])) (copy 2 3 0 (1 ∷ 1 ∷ [])) ≡ true)
unfolding after_copies copy majority
copies_at_rest = (refl, refl, refl, refl)

-- ---- what an entry must be in what was said before

-- before so many steps were named, with a count and simplex pairs
made : ℕ → ℕ → ℕ → Progress
made steps count banks = record nothing_said { steps = steps; count = count; banks = banks }

at : ℕ → ℕ → Spot
at pair loc = record { pair = pair; sector = 0; loc = loc }

-- bank 4 isn't there without a SIMPLEX line
no_simplex_pair : agrees nothing_said (says.Word (record { at = at 4 0; word = 1 })) ≡ false
unfolding at
no_simplex_pair = refl

steps_in_whole_times : (agrees nothing_said (says.Steps 0) ≡ true) × (agrees nothing_said (says.Steps 1) ≡ false)
    × (agrees nothing_said (says.Steps 6) ≡ true) × (agrees nothing_said (says.Steps 7) ≡ false)
steps_in_whole_times = (refl, refl, refl, refl)

steps_within_the_count : (agrees (made 6 0 0) (says.Count 2) ≡ true) × (agrees (made 6 0 0) (says.Count 1) ≡ false)
    × (agrees (made 12 0 0) (says.Count 3) ≡ false) × (agrees (made 12 0 0) (says.Count 4) ≡ true)
unfolding made
steps_within_the_count = (refl, refl, refl, refl)

all_copies_before_select : (agrees (after_copies 20 []) (says.Select no_bit) ≡ false) × (agrees (after_copies 21 []) (says.Select no_bit) ≡ true)
unfolding after_copies no_bit
all_copies_before_select = (refl, refl)

-- the code of 0 has a parity bit in each half and stands nowhere
no_code_of_zero : (agrees nothing_said (says.Cell (record { twin = 0; at = at 0 0; cell = 0o1000020000 })) ≡ false)
    × (agrees nothing_said (says.Cell (record { twin = 0; at = at 0 0; cell = 0 })) ≡ true)
unfolding at
no_code_of_zero = (refl, refl)

-- pair 1 is simplex: bank 5 is there, and bank 4 isn't
banks_of_words : (agrees (made 3 9 2) (says.Word (record { at = at 5 0; word = 1 })) ≡ true)
    × (agrees (made 3 9 2) (says.Word (record { at = at 4 0; word = 1 })) ≡ false)
    × (agrees (made 3 9 2) (says.Word (record { at = at 5 0; word = 0 })) ≡ false)
unfolding made at
banks_of_words = (refl, refl, refl)

-- 12 steps are four times, 0 to 3
times_of_the_log : (agrees (made 12 40 0) (says.Exchange (record { time = 3; port = 9; reading = true; word = 1 })) ≡ true)
    × (agrees (made 12 40 0) (says.Exchange (record { time = 4; port = 0; reading = true; word = 1 })) ≡ false)
    × (agrees (made 12 40 0) (says.Exchange (record { time = 5; port = 0; reading = true; word = 1 })) ≡ false)
unfolding made
times_of_the_log = (refl, refl, refl)

steps_of_repairs : (agrees (made 3 9 2) (says.Repair (record { step = 2; at = at 5 0; twin = 0; switched = false })) ≡ true)
    × (agrees (made 3 9 2) (says.Repair (record { step = 3; at = at 5 0; twin = 0; switched = false })) ≡ false)
    × (agrees (made 3 9 2) (says.Repair (record { step = 2; at = at 4 0; twin = 0; switched = false })) ≡ false)
unfolding made at
steps_of_repairs = (refl, refl, refl)

orders_of_a_deck : (agrees (record nothing_said { orders = replicate 15 [] }) (says.Order []) ≡ true)
    × (agrees (record nothing_said { orders = replicate 16 [] }) (says.Order []) ≡ false)
orders_of_a_deck = (refl, refl)

-- the copies of modules 1 and 2 lag
some_event : Event
some_event = Lag 1 2 3 4

other_event : Event
other_event = Lag 2 1 4 5

-- at most 65,536 events
events_of_a_deck : (r : Progress) → length r.script ≡ 65535 → agrees r (says.Fault some_event) ≡ true
unfolding some_event
events_of_a_deck r few = rw few refl

one_event_too_many : (r : Progress) → length r.script ≡ 65536 → agrees r (says.Fault some_event) ≡ false
unfolding some_event
one_event_too_many r many = rw many refl

-- ---- the order of the lines of a section

-- a tape, a latch and a recorder
devices : List Device
devices =
    record { port = 0; kind = Tape; state = [] } ∷ record { port = 0o14; kind = Latch; state = 0 ∷ [] }
    ∷ record { port = 0o15; kind = Recorder; state = [] } ∷ []

-- what these entries say behind SELECT, where 12 steps were made
behind_select : List Entry → Result Progress SaveFault
behind_select entries = told_entries devices 26 (record nothing_said { section = section.Select; steps = 12; count = 40 }) entries

-- are they all taken?
takes : List Entry → Bool
takes entries = is_ok (behind_select entries)

-- ---- entries, by what changes in them

cell : ℕ → ℕ → ℕ → Entry
cell twin loc bits = says.Cell (record { twin = twin; at = at 0 loc; cell = bits })

word : ℕ → Entry
word loc = says.Word (record { at = at 0 loc; word = 1 })

exchange : ℕ → ℕ → Entry
exchange time port = says.Exchange (record { time = time; port = port; reading = false; word = 1 })

repair : ℕ → ℕ → Entry
repair step twin = says.Repair (record { step = step; at = at 0 0; twin = twin; switched = false })

state : ℕ → ℕ → Entry
state port holds = says.State (record { port = port; word = holds })

unplug : ℕ → ℕ → Entry
unplug port time = says.Unplug (record { port = port; time = time })

-- cells rise by twin and place, words by place
rising_cells : (takes (cell 0 5 1 ∷ cell 0 6 1 ∷ []) ≡ true) × (takes (cell 0 5 1 ∷ cell 0 5 1 ∷ []) ≡ false) × (takes (cell 0 6 1 ∷ cell 0 5 9 ∷ []) ≡ false)
    × (takes (cell 0 5 1 ∷ cell 1 0 1 ∷ []) ≡ true) × (takes (cell 1 0 1 ∷ cell 0 5 1 ∷ []) ≡ false)
unfolding takes behind_select devices cell at told_entries
rising_cells = (refl, refl, refl, refl, refl)

rising_words : (takes (word 5 ∷ word 6 ∷ []) ≡ true) × (takes (word 5 ∷ word 5 ∷ []) ≡ false) × (takes (word 5 ∷ word 3 ∷ []) ≡ false)
unfolding takes behind_select devices word at told_entries
rising_words = (refl, refl, refl)

-- times of the log never fall, steps of repairs rise
times_stand_still : (takes (exchange 2 5 ∷ exchange 2 1 ∷ []) ≡ true) × (takes (exchange 3 1 ∷ exchange 2 9 ∷ []) ≡ false)
unfolding takes behind_select devices exchange told_entries
times_stand_still = (refl, refl)

rising_repairs : (takes (repair 5 1 ∷ repair 6 0 ∷ []) ≡ true) × (takes (repair 5 0 ∷ repair 5 1 ∷ []) ≡ false) × (takes (repair 5 0 ∷ repair 4 1 ∷ []) ≡ false)
    × (takes (repair 5 0 ∷ repair 2 1 ∷ []) ≡ false)
unfolding takes behind_select devices repair at told_entries
rising_repairs = (refl, refl, refl, refl)

-- a tape and a recorder may hold several words, a latch one; ports rise
words_of_devices : (takes (state 0 5 ∷ state 0 3 ∷ state 0o14 1 ∷ state 0o15 2 ∷ state 0o15 1 ∷ []) ≡ true)
    × (takes (state 0o14 1 ∷ state 0o14 2 ∷ []) ≡ false) × (takes (state 0o14 1 ∷ state 0 20 ∷ []) ≡ false)
unfolding takes behind_select devices state told_entries
words_of_devices = (refl, refl, refl)

-- ---- devices that are taken away: of 12 steps, four times are made

-- what was marked, where all was taken
marks_of : Result Progress SaveFault → Result (List Mark) SaveFault
marks_of (Ok r) = Ok r.marks
marks_of (Err fault) = Err fault

-- the first line of a port's words is marked
marks : marks_of (behind_select (state 0 5 ∷ state 0 3 ∷ state 0o14 1 ∷ [])) ≡ Ok (record { port = 0; line = 26 } ∷ record { port = 0o14; line = 28 } ∷ [])
unfolding marks_of behind_select devices state told_entries
marks = refl

held_by_none : (marks_of (behind_select (state 0 5 ∷ state 0 3 ∷ state 0o14 1 ∷ unplug 0o14 3 ∷ [])) ≡ Err (NoDevice 28))
    × (marks_of (behind_select (state 0 5 ∷ state 0 3 ∷ state 0o14 1 ∷ unplug 0 0 ∷ [])) ≡ Err (NoDevice 26))
unfolding marks_of behind_select devices state unplug told_entries
held_by_none = (refl, refl)

taken_away_later : (takes (state 0 5 ∷ unplug 0 4 ∷ []) ≡ true) × (takes (state 0 5 ∷ unplug 0 5 ∷ []) ≡ true) × (takes (state 0 5 ∷ unplug 0o14 3 ∷ []) ≡ true)
unfolding takes behind_select devices state unplug told_entries
taken_away_later = (refl, refl, refl)

-- ---- a whole text: pair 1 is simplex, and each list has two lines

everything : Saved
everything =
    record {
      snapshot = record {
        steps = 12;
        latches = replicate 45 0;
        differed = 1 ∷ 2 ∷ replicate 19 0;
        selected = 1 ∷ 0 ∷ 0 ∷ 1 ∷ [];
        cells = record { twin = 0; at = at 0 5; cell = 1 } ∷ record { twin = 1; at = at 0 5; cell = 2 } ∷ [];
        words = record { at = at 0 5; word = 3 } ∷ record { at = at 5 0; word = 4 } ∷ [];
        log = record { time = 2; port = 0o15; reading = false; word = 6 } ∷ record { time = 3; port = 0; reading = true; word = 5 } ∷ [];
        repairs = record { step = 4; at = at 0 5; twin = 1; switched = false } ∷ record { step = 7; at = at 5 0; twin = 1; switched = true } ∷ [];
        banks = 2;
      };
      count = 40;
      states = record { port = 0; word = 7 } ∷ record { port = 0; word = 6 } ∷ [];
      unplugs = record { port = 0o14; time = 9 } ∷ record { port = 0; time = 8 } ∷ [];
      script = some_event ∷ other_event ∷ [];
      orders = (1 ∷ []) ∷ (2 ∷ []) ∷ [];
    }

-- the saved state of what was said
read : Result Progress SaveFault → Result Saved SaveFault
read (Ok r) = whole_of 99 r
read (Err fault) = Err fault

sections : map section_of (entries_of everything)
    ≡ section.Title ∷ section.Steps ∷ section.Count ∷ section.Simplex ∷ replicate 21 section.Copies ++ section.Select
    ∷ section.Cells ∷ section.Cells ∷ section.Words ∷ section.Words ∷ section.Log ∷ section.Log ∷ section.Repairs ∷ section.Repairs
    ∷ section.States ∷ section.States ∷ section.Unplugs ∷ section.Unplugs ∷ section.Faults ∷ section.Faults ∷ section.Orders ∷ section.Orders
    ∷ section.End ∷ []
unfolding everything at some_event other_event
sections = refl

-- what was printed is read again
read_again : read (told_entries devices 1 nothing_said (entries_of everything)) ≡ Ok everything
unfolding read everything at some_event other_event devices told_entries majority
read_again = refl
